use Rattle.std.proofs.Common.{◌≡◌, ℕ, refl, sym, ap, ◌∙◌, subst, Ok, true, Option}
use Rattle.std.specs.Option.{is_none}
use Rattle.entry_codec.specs.declared.kinds.Images.{Images}
use Rattle.library_steps.specs.Refusals.{FoundMember}
use Rattle.library_steps.specs.Ranges.{end_named, range_between}
use Rattle.library_steps.specs.State.{memory_of}
use Rattle.library_steps.specs.Uses.{unused, user_of}
use Rattle.range_requests.proofs.FoundLemmas.{is-journaled, named-goes}
use Rattle.range_requests.proofs.found.range_named.Goals as goal

pub returns-clause-found : goal.returns-clause-found
returns-clause-found c = λ read known.
    let s = c.args.contents.now.state in
    let m = memory_of s in
    let it : FoundMember = record { file = c.in_ok-file.field-0.file.now; status = c.in_ok-file.field-0.status } in
    let number = c.number-member.ensures in
    let first = c.in-Some.first in
    let last = c.in-Some-end_named.last in (
      range_between it.status first last read m,
      named-goes s read c.args.args.now c.args.first c.args.last it first last c.in_ok-may_deposit.ensures.allowed c.in_ok-file.ensures.found
          (subst (λ (n : ℕ). unused (user_of n m) ≡ Ok true) number c.in_ok-unused.ensures)
          (ap (λ (images : Option Images). is_none images) (sym c.images.ensures) ∙ is-journaled c.images.result c.is_none.result c.is_none.ensures c.if-is_none.false)
          (c.in-Some.ensures read known ∙ ap (λ (n : ℕ). end_named c.args.first n read m) number)
          (c.in-Some-end_named.ensures read known ∙ ap (λ (n : ℕ). end_named c.args.last n read m) number)
          c.in_ok-are_there.ensures.allowed c.in_ok-are_kept.ensures.allowed,
      record { status = it.status; number = sym number; same = refl },
    )
