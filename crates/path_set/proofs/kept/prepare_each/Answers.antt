use Rattle.std.proofs.Common.{◌∙◌, sym, subst, arith}
use Rattle.path_set.specs.Entries.{AreKept}
use Rattle.path_set.proofs.TurnLemmas.{turn-there, turn-at}
use Rattle.path_set.proofs.PrepareLemmas.{gathering-first, gathering-over, gathering-takes, gathering-wider, gathering-rooms, gathering-next, gathering-end, gathering-room}
use Rattle.path_set.proofs.kept.prepare_each.Goals as goal

pub loop-turn-init : goal.loop-turn-init
loop-turn-init c = gathering-first _ _ _ _ c.requires.sorted

pub place_of_kept-place-requires-clause-sorted : goal.place_of_kept-place-requires-clause-sorted
place_of_kept-place-requires-clause-sorted c = subst AreKept (sym c.as_slice.ensures.value) c.loop-turn.invariant.kept

pub place_of_kept-place-requires-clause-there : goal.place_of_kept-place-requires-clause-there
place_of_kept-place-requires-clause-there c =
    let is = gathering-over _ _ _ _ _ _ _ _ c.loop-turn.invariant c.requires.numbers in
    rw c.as_slice.ensures.value (turn-there _ _ _ _ is _ (omega arith) _)

pub prepare-requires-clause-old : goal.prepare-requires-clause-old
prepare-requires-clause-old c =
    let is = gathering-over _ _ _ _ _ _ _ _ c.loop-turn.invariant c.requires.numbers in
    let here = turn-at _ _ _ _ is _ (omega arith) _ _ _ _ c.as_slice.ensures.value c.place_of_kept-place.ensures c.index_mut.ensures.value in
    gathering-takes _ _ _ _ _ _ _ c.loop-turn.invariant _ _ _ here _ c.requires.old

pub prepare-requires-clause-new : goal.prepare-requires-clause-new
prepare-requires-clause-new c =
    let is = gathering-over _ _ _ _ _ _ _ _ c.loop-turn.invariant c.requires.numbers in
    let here = turn-at _ _ _ _ is _ (omega arith) _ _ _ _ c.as_slice.ensures.value c.place_of_kept-place.ensures c.index_mut.ensures.value in
    gathering-takes _ _ _ _ _ _ _ c.loop-turn.invariant _ _ _ here _ c.requires.new

pub loop-turn-preserved : goal.loop-turn-preserved
loop-turn-preserved c =
    let is = gathering-over _ _ _ _ _ _ _ _ c.loop-turn.invariant c.requires.numbers in
    let here = turn-at _ _ _ _ is _ (omega arith) _ _ _ _ c.as_slice.ensures.value c.place_of_kept-place.ensures c.index_mut.ensures.value in
    gathering-next _ _ _ _ _ _ _ c.loop-turn.invariant _ _ _ here _ _ c.prepare.ensures.same c.in_ok-prepare.ensures.moves c.in_ok-prepare.ensures.room

pub returns-in_err-prepare-clause-sorted : goal.returns-in_err-prepare-clause-sorted
returns-in_err-prepare-clause-sorted c =
    let is = gathering-over _ _ _ _ _ _ _ _ c.loop-turn.invariant c.requires.numbers in
    let here = turn-at _ _ _ _ is _ (omega arith) _ _ _ _ c.as_slice.ensures.value c.place_of_kept-place.ensures c.index_mut.ensures.value in
    (gathering-wider _ _ _ _ _ _ _ c.loop-turn.invariant _ _ _ here _ c.prepare.ensures.same).kept_after

pub returns-in_err-prepare-clause-paths : goal.returns-in_err-prepare-clause-paths
returns-in_err-prepare-clause-paths c =
    let is = gathering-over _ _ _ _ _ _ _ _ c.loop-turn.invariant c.requires.numbers in
    let here = turn-at _ _ _ _ is _ (omega arith) _ _ _ _ c.as_slice.ensures.value c.place_of_kept-place.ensures c.index_mut.ensures.value in
    (gathering-wider _ _ _ _ _ _ _ c.loop-turn.invariant _ _ _ here _ c.prepare.ensures.same).same ∙ c.loop-turn.invariant.same

pub returns-in_err-prepare-clause-rooms : goal.returns-in_err-prepare-clause-rooms
returns-in_err-prepare-clause-rooms c =
    let is = gathering-over _ _ _ _ _ _ _ _ c.loop-turn.invariant c.requires.numbers in
    let here = turn-at _ _ _ _ is _ (omega arith) _ _ _ _ c.as_slice.ensures.value c.place_of_kept-place.ensures c.index_mut.ensures.value in
    gathering-rooms _ _ _ _ _ _ _ c.loop-turn.invariant _ _ _ here _ c.prepare.ensures.same

pub returns-clause-sorted : goal.returns-clause-sorted
returns-clause-sorted c = c.loop-turn.invariant.kept

pub returns-clause-moves : goal.returns-clause-moves
returns-clause-moves c = gathering-end _ _ _ _ _ _ _ _ c.loop-turn.invariant c.requires.numbers (omega arith)

pub returns-clause-room : goal.returns-clause-room
returns-clause-room c = gathering-room _ _ _ _ _ _ _ _ c.loop-turn.invariant c.requires.numbers (omega arith)

pub returns-clause-paths : goal.returns-clause-paths
returns-clause-paths c = c.loop-turn.invariant.same

pub returns-clause-rooms : goal.returns-clause-rooms
returns-clause-rooms c = c.loop-turn.invariant.rooms
