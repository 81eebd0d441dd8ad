use Rattle.std.proofs.Common.{ℕ, ◌+◌, subst, sym}
use Rattle.given_changes.proofs.StoodLemmas.{IsStanding, standing-more}
use Rattle.given_changes.proofs.standing.slots_after.Goals as goal

pub loop-g-preserved : goal.loop-g-preserved
loop-g-preserved c =
    let l = c.loop-g in
    subst (λ (n : ℕ). IsStanding c.args.given.now c.args.member.now.state.slots (l.g-index + 1) n) (sym c.max-count.ensures)
    (standing-more c.args.given.now c.args.member.now.state.slots l.g-index l.count c.g-item.result c.loop-g-test.true c.g-item.is l.invariant)
