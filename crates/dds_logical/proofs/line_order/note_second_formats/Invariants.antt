use Rattle.std.proofs.Common.{◌≡◌, drop, false}
use Rattle.dds_physical.specs.Faults.{first_after}
use Rattle.dds_logical.specs.FormatLines.{formats_in}
use Rattle.dds_logical.specs.Judged.{second_formats}
use Rattle.dds_logical.proofs.line_order.note_second_formats.Given as goal

abbrev pub invariant-loop-line : goal.invariant-loop-line
invariant-loop-line l = first_after l.first.fault (second_formats l.is_there (formats_in (drop l.line-index l.specifications))) ≡ first_after l.fn.first.fault (second_formats false (formats_in l.specifications))
