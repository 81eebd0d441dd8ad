use Rattle.std.proofs.Common.{arith}
use Rattle.path_set.proofs.IndexLemmas.{over-numbers}
use Rattle.path_set.proofs.TurnLemmas.{are-over, turn-there, turn-at, making-all}
use Rattle.path_set.proofs.RebuildLemmas.{making-first, making-next, making-can}
use Rattle.path_set.proofs.set.PathSet.prepare_rebuild.Goals as goal

pub paths_of_member-over-requires : goal.paths_of_member-over-requires
paths_of_member-over-requires c = rw c.deref.ensures.value c.self.invariant.1.ordered

pub loop-turn-init : goal.loop-turn-init
loop-turn-init c = making-first _ _ _ _ _ c.new-rebuilt.ensures

pub place_of_kept-place-requires-clause-there : goal.place_of_kept-place-requires-clause-there
place_of_kept-place-requires-clause-there c =
    let numbers = over-numbers _ _ _ _ _ _ c.self.view_is c.self.invariant.1 c.deref.ensures.value c.paths_of_member-over.ensures in
    let is = are-over _ _ _ _ c.self.invariant.0 c.self.view_is numbers in
    rw c.deref-in-loop-turn.ensures.value (turn-there _ _ _ _ is _ (omega arith) _)

pub add_rebuilt-requires-clause-can : goal.add_rebuilt-requires-clause-can
add_rebuilt-requires-clause-can c =
    let numbers = over-numbers _ _ _ _ _ _ c.self.view_is c.self.invariant.1 c.deref.ensures.value c.paths_of_member-over.ensures in
    let is = are-over _ _ _ _ c.self.invariant.0 c.self.view_is numbers in
    let here = turn-at _ _ _ _ is _ (omega arith) _ _ _ _ c.deref-in-loop-turn.ensures.value c.place_of_kept-place.ensures c.index-kept.ensures in
    making-can _ _ _ _ _ _ c.self.view_is here.low c.index-kept.ensures c.requires.can here.is

pub loop-turn-preserved : goal.loop-turn-preserved
loop-turn-preserved c =
    let numbers = over-numbers _ _ _ _ _ _ c.self.view_is c.self.invariant.1 c.deref.ensures.value c.paths_of_member-over.ensures in
    let is = are-over _ _ _ _ c.self.invariant.0 c.self.view_is numbers in
    let here = turn-at _ _ _ _ is _ (omega arith) _ _ _ _ c.deref-in-loop-turn.ensures.value c.place_of_kept-place.ensures c.index-kept.ensures in
    making-next _ _ _ _ _ _ _ _ c.loop-turn.invariant here.split c.in_ok-add_rebuilt.ensures

pub returns : goal.returns
returns c =
    let numbers = over-numbers _ _ _ _ _ _ c.self.view_is c.self.invariant.1 c.deref.ensures.value c.paths_of_member-over.ensures in
    making-all _ _ _ _ _ _ _ c.loop-turn.invariant numbers (omega arith)
