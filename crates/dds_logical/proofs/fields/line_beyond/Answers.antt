use Rattle.std.proofs.Common.{◌∙◌, sym}
use Rattle.dds_logical.proofs.BeyondLemmas.{beyond-found}
use Rattle.dds_logical.proofs.LineLemmas.{beyond-step}
use Rattle.dds_logical.proofs.fields.line_beyond.Goals as goal

pub loop-line-preserved : goal.loop-line-preserved
loop-line-preserved c =
    beyond-step c.args.kind c.args.lines.now c.loop-line.line-index c.line-item.result c.loop-line.left _ _ c.loop-line-test.true c.line-item.is
    (sym c.is_beyond.ensures ∙ c.if-is_beyond.false) c.left_behind-left.ensures c.loop-line.invariant

pub returns-then-is_beyond : goal.returns-then-is_beyond
returns-then-is_beyond c =
    beyond-found c.args.kind c.args.lines.now c.loop-line.line-index c.line-item.result c.loop-line.left _ c.loop-line-test.true c.line-item.is
    (sym c.is_beyond.ensures ∙ c.if-is_beyond.true) c.loop-line.invariant
