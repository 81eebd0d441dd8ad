use Rattle.std.proofs.Common.{◌≡◌, ◌<◌, length, rules}
use Rattle.path_set.proofs.IndexLemmas.{over-numbers}
use Rattle.path_set.proofs.TurnLemmas.{first-none, first-some}
use Rattle.path_set.proofs.set.PathSet.first_over.Goals as goal

pub paths_of_member-over-requires : goal.paths_of_member-over-requires
paths_of_member-over-requires c = rw c.deref.ensures.value c.self.invariant.1.ordered

pub returns-then-is_empty : goal.returns-then-is_empty
returns-then-is_empty c =
    let numbers = over-numbers _ _ _ _ _ _ c.self.view_is c.self.invariant.1 c.deref.ensures.value c.paths_of_member-over.ensures in
    let none : length c.paths_of_member-over.result.now ≡ 0 = search rules in
    first-none c.args.member _ c.args.self.now.paths numbers none

pub returns : goal.returns
returns c =
    let numbers = over-numbers _ _ _ _ _ _ c.self.view_is c.self.invariant.1 c.deref.ensures.value c.paths_of_member-over.ensures in
    let some : 0 < length c.paths_of_member-over.result.now = search rules in
    first-some c.args.member _ c.args.self.now.paths _ numbers some
