use Rattle.std.proofs.Common.{◌∙◌, sym, arith}
use Rattle.dds_logical.proofs.AheadLemmas.{ahead-step, ahead-found}
use Rattle.dds_logical.proofs.format_lines.count_ahead.Goals as goal

pub loop-line-preserved : goal.loop-line-preserved
loop-line-preserved c = (
  omega (arith, c.loop-line.invariant.0),
  ahead-step c.args.lines.now c.loop-line.line-index c.line-item.result c.loop-line.count _ c.loop-line-test.true c.line-item.is (sym c.is_record.ensures ∙ c.if-is_record.false) c.loop-line.invariant.1,
)

pub returns-then-is_record : goal.returns-then-is_record
returns-then-is_record c =
    ahead-found c.args.lines.now c.loop-line.line-index c.line-item.result c.loop-line.count _ c.loop-line-test.true c.line-item.is (sym c.is_record.ensures ∙ c.if-is_record.true) c.loop-line.invariant.1
