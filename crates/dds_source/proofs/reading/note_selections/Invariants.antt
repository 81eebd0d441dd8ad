use Rattle.std.proofs.Common.{◌≡◌, drop}
use Rattle.std.specs.List.{flat_map}
use Rattle.dds_source.specs.Faults.{first_after}
use Rattle.dds_source.specs.Reading.{selection_faults}
use Rattle.dds_source.proofs.reading.note_selections.Given as goal

abbrev pub invariant-loop-specification : goal.invariant-loop-specification
invariant-loop-specification l = first_after l.first.fault (flat_map selection_faults (drop l.specification-index l.specifications)) ≡ first_after l.fn.first.fault (flat_map selection_faults l.specifications)
