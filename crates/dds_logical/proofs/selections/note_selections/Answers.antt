use Rattle.std.proofs.Common.{arith}
use Rattle.dds_logical.specs.declared.format_lines.LineKind.TheVariants as line_kinds
use Rattle.dds_logical.specs.Selections.{field_to_test, selection_lines_faults}
use Rattle.dds_logical.specs.Judged.{lines_of}
use Rattle.dds_logical.specs.Tested.{selection_at}
use Rattle.dds_logical.proofs.TestedLemmas.{selection_more}
use Rattle.dds_logical.proofs.LoopLemmas.{noted-split}
use Rattle.dds_logical.proofs.selections.note_selections.Goals as goal

pub loop-rest-preserved : goal.loop-rest-preserved
loop-rest-preserved c =
    noted-split c.loop-rest.first.fault c.note_selection.new.first.fault _ (selection_at (field_to_test c.args.named.now c.args.base.now))
    (λ ss. selection_lines_faults (field_to_test c.args.named.now c.args.base.now) (lines_of line_kinds.Selection ss)) (selection_more (field_to_test c.args.named.now c.args.base.now))
    c.loop-rest.rest.now c.split_at.result.0.now c.split_at.result.1.now c.index-here-0.result
    (omega (arith, c.split_at.ensures.back_len)) c.split_at.ensures.front c.split_at.ensures.back c.index-here-0.is c.in_ok-note_selection.ensures c.loop-rest.invariant
