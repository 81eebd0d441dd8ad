use Rattle.std.proofs.Common.{◌≡◌, length}
use Rattle.dds_logical.specs.FormatLines.{formats_in}
use Rattle.dds_logical.specs.LineOrder.{later_of}
use Rattle.dds_logical.specs.Logical.{most_parts}
use Rattle.dds_logical.proofs.format_views.most_parts.Given as goal

abbrev pub invariant-loop-rest : goal.invariant-loop-rest
invariant-loop-rest l = later_of l.most (most_parts (formats_in l.rest)) ≡ most_parts (formats_in l.specifications)

abbrev pub decreases-loop-rest : goal.decreases-loop-rest
decreases-loop-rest l = length l.rest
