-- The list is in order, so the answers of the closure rise along it.
use Rattle.std.proofs.Common.{rules}
use Rattle.std.proofs.lemmas.Fn.{always_returns_same}
use Rattle.path_set.specs.declared.by_member.PathOver.{PathOver}
use Rattle.path_set.specs.ByMember.{path_cmp}
use Rattle.path_set.proofs.OverLemmas.{placed}
use Rattle.path_set.proofs.by_member.place_of_path.Goals as goal

pub returns : goal.returns
returns c =
    let facts = c.binary_search_by.ensures in
    let by_path = facts.position (λ (other : PathOver). path_cmp other c.args.path) (always_returns_same _ _ _ (λ a r f k. search rules)) in
    placed c.args.path c.args.paths.now c.binary_search_by.result c.requires facts.bound by_path
