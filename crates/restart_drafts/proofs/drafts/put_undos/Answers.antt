use Rattle.std.proofs.Common.{◌≡◌, ◌+◌, ◌-◌, ◌<◌, length, refl, arith}
use Rattle.restart_drafts.proofs.Drafting.{undo-all, undo-next, undo-none}
use Rattle.restart_drafts.proofs.drafts.put_undos.Goals as goal

pub loop-left-init : goal.loop-left-init
loop-left-init c = (omega arith, undo-all c.args.by.now.job c.args.by.now.moment c.args.cycle c.args.changes.now (length c.args.changes.now) c.args.drafts.now.items refl)

pub loop-left-preserved : goal.loop-left-preserved
loop-left-preserved c =
    let i = c.loop-left.left - 1 in
    let next : c.loop-left.left ≡ i + 1 = omega arith in
    let below : i < length c.args.changes.now = omega (arith, c.loop-left.invariant.0) in (
      omega (arith, c.loop-left.invariant.0),
      undo-next c.args.by.now.job c.args.by.now.moment c.args.cycle c.args.changes.now c.loop-left.left i c.index-changes-left.result c.loop-left.drafts.items c.put_undo.new.drafts.items _ next below c.index-changes-left.is
          c.in_ok-put_undo.ensures c.loop-left.invariant.1,
    )

pub returns : goal.returns
returns c = undo-none c.args.by.now.job c.args.by.now.moment c.args.cycle c.args.changes.now c.loop-left.left c.loop-left.drafts.items _ (omega (arith, c.loop-left-test.false)) c.loop-left.invariant.1
