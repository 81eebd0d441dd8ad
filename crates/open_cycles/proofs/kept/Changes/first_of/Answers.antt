use Rattle.std.proofs.Common.{◌≡◌, ◌∙◌, List, Bool, true, false, cond, Option, Some, None, sym, ap, subst, rules}
use Rattle.journal_model.specs.Replay.{is_in, before_of}
use Rattle.journal_model.specs.Rollback.{MemberChange}
use Rattle.open_cycles.specs.Kept.{are_alone}
use Rattle.open_cycles.proofs.ReadLemmas.{before_in, before-first}
use Rattle.open_cycles.proofs.kept.Changes.first_of.Goals as goal

pub returns-in-None : goal.returns-in-None
returns-in-None c =
    let alone : are_alone c.args.self.now ≡ true = subst (λ (xs : List MemberChange). are_alone xs ≡ true) c.self.view_is c.self.invariant.3 in
    ap (λ (o : Option MemberChange). before_in c.args.cycle o None) c.in-None.ensures ∙ sym (before-first (c.args.member, c.args.place) c.args.cycle c.args.self.now None alone)

pub returns-then-is_of : goal.returns-then-is_of
returns-then-is_of c =
    let alone : are_alone c.args.self.now ≡ true = subst (λ (xs : List MemberChange). are_alone xs ≡ true) c.self.view_is c.self.invariant.3 in
    let own : is_in c.args.cycle c.in-Some.first.now.change ≡ true = search rules in
    sym (ap (λ (b : Bool). cond b (Some (before_of c.in-Some.first.now.change)) None) own)
    ∙ ap (λ (o : Option MemberChange). before_in c.args.cycle o None) c.in-Some.ensures ∙ sym (before-first (c.args.member, c.args.place) c.args.cycle c.args.self.now None alone)

pub returns-else-is_of : goal.returns-else-is_of
returns-else-is_of c =
    let alone : are_alone c.args.self.now ≡ true = subst (λ (xs : List MemberChange). are_alone xs ≡ true) c.self.view_is c.self.invariant.3 in
    let other : is_in c.args.cycle c.in-Some.first.now.change ≡ false = search rules in
    sym (ap (λ (b : Bool). cond b (Some (before_of c.in-Some.first.now.change)) None) other)
    ∙ ap (λ (o : Option MemberChange). before_in c.args.cycle o None) c.in-Some.ensures ∙ sym (before-first (c.args.member, c.args.place) c.args.cycle c.args.self.now None alone)
