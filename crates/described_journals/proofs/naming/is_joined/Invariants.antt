use Rattle.std.proofs.Common.{◌≡◌, length}
use Rattle.std.specs.List.{list_any}
use Rattle.std.specs.Str.{bytes_eq}
use Rattle.dds_logical.specs.FormatLines.{formats_in}
use Rattle.described_journals.specs.Named.{first_joined}
use Rattle.described_journals.proofs.naming.is_joined.Given as goal

abbrev pub invariant-loop-rest : goal.invariant-loop-rest
invariant-loop-rest l = list_any (bytes_eq l.name) (first_joined (formats_in l.rest)) ≡ list_any (bytes_eq l.name) (first_joined (formats_in l.specifications))

abbrev pub decreases-loop-rest : goal.decreases-loop-rest
decreases-loop-rest l = length l.rest
