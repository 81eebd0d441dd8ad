use Rattle.std.proofs.Common.{◌≡◌, drop, map}
use Rattle.dds_physical.specs.Faults.{first_after}
use Rattle.dds_logical.specs.FormatLines.{lines_ahead}
use Rattle.dds_logical.specs.LineOrder.{out_of_order}
use Rattle.dds_logical.proofs.line_order.note_ahead.Given as goal

abbrev pub invariant-loop-line : goal.invariant-loop-line
invariant-loop-line l = first_after l.first.fault (map out_of_order (drop l.line-index (lines_ahead l.specifications))) ≡ first_after l.fn.first.fault (map out_of_order (lines_ahead l.specifications))
