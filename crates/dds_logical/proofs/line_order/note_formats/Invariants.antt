use Rattle.std.proofs.Common.{◌≡◌, length, flat_map}
use Rattle.dds_physical.specs.Faults.{first_after}
use Rattle.dds_logical.specs.FormatLines.{formats_in}
use Rattle.dds_logical.specs.Judged.{order_faults_of}
use Rattle.dds_logical.proofs.line_order.note_formats.Given as goal

abbrev pub invariant-loop-rest : goal.invariant-loop-rest
invariant-loop-rest l = first_after l.first.fault (flat_map (order_faults_of l.is_join) (formats_in l.rest)) ≡ first_after l.fn.first.fault (flat_map (order_faults_of l.is_join) (formats_in l.specifications))

abbrev pub decreases-loop-rest : goal.decreases-loop-rest
decreases-loop-rest l = length l.rest
