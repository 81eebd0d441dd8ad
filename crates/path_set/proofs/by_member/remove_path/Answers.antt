use Rattle.std.proofs.Common.{◌≡◌, ◌==◌, ◌∙◌, ap, sym, subst, not, filter, rules}
use Rattle.std.proofs.lemmas.Fn.{filter_same}
use Rattle.path_set.specs.declared.by_member.PathOver.{PathOver}
use Rattle.path_set.specs.ByMember.{AreByMember, numbers_of}
use Rattle.path_set.proofs.OverLemmas.{removed-ordered, removed-numbers}
use Rattle.path_set.proofs.by_member.remove_path.Goals as goal

pub returns-clause-ordered : goal.returns-clause-ordered
returns-clause-ordered c =
    let kept : c.retain.new.self.items ≡ filter (λ (path : PathOver). not (path.id == c.args.id)) c.args.paths.now.items =
    filter_same _ (λ (path : PathOver). not (path.id == c.args.id)) _ (λ x b f k. search rules) _ _ c.retain.ensures.filtered in
    subst AreByMember (sym kept) (removed-ordered c.args.id c.args.paths.now.items c.requires)

pub returns-clause-removed : goal.returns-clause-removed
returns-clause-removed c member =
    let kept : c.retain.new.self.items ≡ filter (λ (path : PathOver). not (path.id == c.args.id)) c.args.paths.now.items =
    filter_same _ (λ (path : PathOver). not (path.id == c.args.id)) _ (λ x b f k. search rules) _ _ c.retain.ensures.filtered in
    ap (numbers_of member) kept ∙ removed-numbers c.args.id c.args.paths.now.items member
