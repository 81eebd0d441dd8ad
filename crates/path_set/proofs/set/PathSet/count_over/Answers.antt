use Rattle.std.proofs.Common.{◌∙◌, ℕ, List, length, sym, ap}
use Rattle.std.proofs.lemmas.List.{length-map}
use Rattle.member_slots.specs.Members.{Numbered}
use Rattle.path_set.specs.declared.by_member.PathOver.{PathOver}
use Rattle.path_set.specs.KeptPaths.{KeptPath}
use Rattle.path_set.specs.MemberSteps.{paths_over}
use Rattle.path_set.proofs.IndexLemmas.{over-numbers}
use Rattle.path_set.proofs.set.PathSet.count_over.Goals as goal

pub paths_of_member-over-requires : goal.paths_of_member-over-requires
paths_of_member-over-requires c = rw c.deref.ensures.value c.self.invariant.1.ordered

pub returns : goal.returns
returns c =
    let numbers = over-numbers _ _ _ _ _ _ c.self.view_is c.self.invariant.1 c.deref.ensures.value c.paths_of_member-over.ensures in
    sym (length-map c.paths_of_member-over.result.now (λ (path : PathOver). path.id))
    ∙ ap (λ (ids : List ℕ). length ids) numbers
    ∙ length-map (paths_over c.args.member c.args.self.now.paths) (λ (path : Numbered KeptPath). path.number)
