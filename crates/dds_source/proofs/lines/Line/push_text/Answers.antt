use Rattle.std.proofs.Common.{◌≤◌, length, arith}
use Rattle.dds_source.proofs.ContinuationLemmas.{placed_more}
use Rattle.dds_source.proofs.lines.Line.push_text.Goals as goal

pub loop-i-preserved : goal.loop-i-preserved
loop-i-preserved c =
    let within : c.text_end-i-end.result ≤ length c.args.self.now.keywords = omega arith in
    rw c.in_ok-push.ensures.items
    (placed_more c.args.self.now.number 45 c.loop-i.i c.text_end-i-end.result c.args.self.now.keywords c.loop-i.text.items _ (omega arith) within c.loop-i.invariant)
