use Rattle.std.proofs.Common.{◌∙◌, sym, arith}
use Rattle.path_set.proofs.IndexLemmas.{over-numbers}
use Rattle.path_set.proofs.TurnLemmas.{are-over, turn-there, turn-at, looking-first, looking-next, looking-found, looking-end}
use Rattle.path_set.proofs.set.PathSet.unique_over.Goals as goal

pub paths_of_member-over-requires : goal.paths_of_member-over-requires
paths_of_member-over-requires c = rw c.deref.ensures.value c.self.invariant.1.ordered

pub loop-turn-init : goal.loop-turn-init
loop-turn-init c = looking-first _ _ _

pub place_of_kept-place-requires-clause-there : goal.place_of_kept-place-requires-clause-there
place_of_kept-place-requires-clause-there c =
    let numbers = over-numbers _ _ _ _ _ _ c.self.view_is c.self.invariant.1 c.deref.ensures.value c.paths_of_member-over.ensures in
    let is = are-over _ _ _ _ c.self.invariant.0 c.self.view_is numbers in
    rw c.deref-in-loop-turn.ensures.value (turn-there _ _ _ _ is _ (omega arith) _)

pub loop-turn-preserved : goal.loop-turn-preserved
loop-turn-preserved c =
    let numbers = over-numbers _ _ _ _ _ _ c.self.view_is c.self.invariant.1 c.deref.ensures.value c.paths_of_member-over.ensures in
    let is = are-over _ _ _ _ c.self.invariant.0 c.self.view_is numbers in
    let here = turn-at _ _ _ _ is _ (omega arith) _ _ _ _ c.deref-in-loop-turn.ensures.value c.place_of_kept-place.ensures c.index.ensures in
    looking-next _ _ _ _ _ _ _ _ c.loop-turn.invariant here (sym c.is_unique_above.ensures ∙ c.if-is_unique_above.false)

pub returns-then-is_unique_above : goal.returns-then-is_unique_above
returns-then-is_unique_above c =
    let numbers = over-numbers _ _ _ _ _ _ c.self.view_is c.self.invariant.1 c.deref.ensures.value c.paths_of_member-over.ensures in
    let is = are-over _ _ _ _ c.self.invariant.0 c.self.view_is numbers in
    let here = turn-at _ _ _ _ is _ (omega arith) _ _ _ _ c.deref-in-loop-turn.ensures.value c.place_of_kept-place.ensures c.index.ensures in
    looking-found _ _ _ _ _ _ _ _ c.loop-turn.invariant here (sym c.is_unique_above.ensures ∙ c.if-is_unique_above.true)

pub returns : goal.returns
returns c =
    let numbers = over-numbers _ _ _ _ _ _ c.self.view_is c.self.invariant.1 c.deref.ensures.value c.paths_of_member-over.ensures in
    let is = are-over _ _ _ _ c.self.invariant.0 c.self.view_is numbers in
    looking-end _ _ _ _ _ c.loop-turn.invariant numbers (omega arith)
