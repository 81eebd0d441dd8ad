use Rattle.std.proofs.Common.{◌≡◌, ◌++◌, drop}
use Rattle.logical_paths.specs.Steps.{shown_in_join}
use Rattle.logical_paths.proofs.key_fields.shown_in_join.Given as goal

abbrev pub invariant-loop-field : goal.invariant-loop-field
invariant-loop-field l = l.shown ++ shown_in_join (drop l.field-index l.fields) ≡ shown_in_join l.fields
