use Rattle.std.proofs.Common.{ℕ, ◌+◌, ◌-◌, ◌==◌, cond, Option, Some, unwrap_or, refl, sym, ap, ◌∙◌, subst, arith}
use Rattle.std.specs.Option.{option_copied}
use Rattle.member_slots.specs.declared.slot.Slot.TheVariants.{Deleted}
use Rattle.given_changes.proofs.StoodLemmas.{IsStanding, latest-more, standing-more}
use Rattle.range_requests.proofs.TellLemmas.{telling-more}
use Rattle.range_requests.proofs.tells.tell_changes.Goals as goal

pub loop-index-preserved : goal.loop-index-preserved
loop-index-preserved c =
    let l = c.loop-index in
    let given = c.args.given.now in
    let slots = c.args.member.now.state.slots in
    let teller = c.args.teller.now in
    let g = c.index-given-index.result in
    let below = c.loop-index-test.true in
    let standing = l.invariant.standing in
    record {
      within = omega (arith, below);
      standing = subst (λ (n : ℕ). IsStanding given slots (l.index + 1) n) (sym c.max-count.ensures) (standing-more given slots l.index l.count g below c.index-given-index.is standing);
      latest = λ place. c.in_ok-_earlier.ensures.updates.0 place ∙ ap (λ (o : Option ℕ). cond (g.rrn - 1 == place) (Some l.index) o) (l.invariant.latest place)
          ∙ sym (latest-more given slots l.index l.count g below c.index-given-index.is standing place);
      telling =
          telling-more given slots l.index l.count g below c.index-given-index.is standing teller.author teller.cycle teller.member (unwrap_or (option_copied c.stood-old.result) Deleted) (g.rrn - 1 == l.count) l.drafts.items
          c.tell_change.new.drafts.items _ c.stood-old.ensures refl c.in_ok-tell_change.ensures l.invariant.telling;
    }
