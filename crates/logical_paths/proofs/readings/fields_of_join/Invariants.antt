use Rattle.std.proofs.Common.{◌≡◌, ◌++◌, drop}
use Rattle.logical_paths.specs.Steps.{fields_of_join}
use Rattle.logical_paths.proofs.readings.fields_of_join.Given as goal

abbrev pub invariant-loop-field : goal.invariant-loop-field
invariant-loop-field l = l.copies ++ fields_of_join (drop l.field-index l.fields) ≡ fields_of_join l.fields
