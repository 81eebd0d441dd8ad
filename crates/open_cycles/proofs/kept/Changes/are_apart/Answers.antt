use Rattle.std.proofs.Common.{◌≡◌, ◌∙◌, List, true, sym, ap, subst}
use Rattle.journal_model.specs.Acts.{is_same_number}
use Rattle.journal_model.specs.Rollback.{MemberChange}
use Rattle.open_cycles.specs.Kept.{are_alone}
use Rattle.open_cycles.proofs.ReadLemmas.{is_free, apart-first}
use Rattle.open_cycles.proofs.kept.Changes.are_apart.Goals as goal

pub returns-in-None : goal.returns-in-None
returns-in-None c =
    let alone : are_alone c.args.self.now ≡ true = subst (λ (xs : List MemberChange). are_alone xs ≡ true) c.self.view_is c.self.invariant.3 in
    ap (is_free c.args.cycle) c.in-None.ensures ∙ sym (apart-first (c.args.member, c.args.place) c.args.cycle c.args.self.now alone)

pub returns-in-Some : goal.returns-in-Some
returns-in-Some c =
    let alone : are_alone c.args.self.now ≡ true = subst (λ (xs : List MemberChange). are_alone xs ≡ true) c.self.view_is c.self.invariant.3 in
    c.is_same_cycle.ensures ∙ ap (λ (d : MemberChange). is_same_number d.change.cycle c.args.cycle) c.first.view_is ∙ ap (is_free c.args.cycle) c.in-Some.ensures
    ∙ sym (apart-first (c.args.member, c.args.place) c.args.cycle c.args.self.now alone)
