use Rattle.std.proofs.Common.{◌≡◌, ◌+◌, ◌-◌, ◌<◌, length, arith}
use Rattle.std.proofs.lemmas.Result.{err_from_is_err_and}
use Rattle.range_images.proofs.WayLemmas.{undone-more, undone-faults}
use Rattle.range_images.proofs.walks.undone.Goals as goal

pub loop-left-preserved : goal.loop-left-preserved
loop-left-preserved c =
    let next : c.loop-left.left ≡ c.loop-left.left - 1 + 1 = omega arith in
    let below : c.loop-left.left - 1 < length c.args.changes.now = omega arith in (
      omega arith,
      undone-more c.args.member.now.state.slots c.args.changes.now c.loop-left.left (c.loop-left.left - 1) c.index-changes-left.result c.loop-left.overlay
          c.undo.new.self next below c.index-changes-left.is c.loop-left.invariant.1 c.in_ok-undo.ensures.done,
    )

pub returns-in_err-undo-clause-fault : goal.returns-in_err-undo-clause-fault
returns-in_err-undo-clause-fault c =
    let next : c.loop-left.left ≡ c.loop-left.left - 1 + 1 = omega arith in
    let below : c.loop-left.left - 1 < length c.args.changes.now = omega arith in
    let p = err_from_is_err_and c.from_residual.result c.from_residual.ensures.1 in
    rw (p.1, p.2)
    (undone-faults c.args.member.now.state.slots c.args.changes.now c.loop-left.left (c.loop-left.left - 1) c.index-changes-left.result c.loop-left.overlay
    c.in_err-undo.field-0.0 next below c.index-changes-left.is c.loop-left.invariant.1 c.in_err-undo.ensures.fault)
