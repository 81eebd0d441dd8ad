use Rattle.std.proofs.Common.{◌≡◌, ◌++◌, drop}
use Rattle.logical_paths.specs.Steps.{shown_of}
use Rattle.logical_paths.proofs.key_fields.shown_of.Given as goal

abbrev pub invariant-loop-field : goal.invariant-loop-field
invariant-loop-field l = l.shown ++ shown_of (drop l.field-index l.fields) ≡ shown_of l.fields
