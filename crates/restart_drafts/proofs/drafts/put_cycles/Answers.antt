use Rattle.std.proofs.Common.{refl, arith}
use Rattle.restart_drafts.proofs.Drafting.{cycle-next, cycles-done}
use Rattle.restart_drafts.proofs.drafts.put_cycles.Goals as goal

pub loop-cycle-init : goal.loop-cycle-init
loop-cycle-init c = refl

pub loop-cycle-preserved : goal.loop-cycle-preserved
loop-cycle-preserved c =
    cycle-next c.args.by.now.job c.args.by.now.moment c.args.cycles.now c.loop-cycle.cycle-index _ _ c.args.those.now.undos _ c.loop-cycle.drafts.items c.put_rollback.new.drafts.items _ c.loop-cycle-test.true refl
    c.changes.ensures c.in_ok-put_rollback.ensures c.loop-cycle.invariant

pub returns : goal.returns
returns c = cycles-done c.args.by.now.job c.args.by.now.moment c.args.cycles.now c.loop-cycle.cycle-index c.args.those.now.undos c.loop-cycle.drafts.items _ (omega (arith, c.loop-cycle-test.false)) c.loop-cycle.invariant
