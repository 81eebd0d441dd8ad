use Rattle.std.proofs.Common.{◌≡◌, ◌++◌, drop}
use Rattle.file_model.specs.FilePaths.{key_fields}
use Rattle.logical_paths.proofs.key_fields.key_fields.Given as goal

abbrev pub invariant-loop-part : goal.invariant-loop-part
invariant-loop-part l = l.shown ++ key_fields l.fields (drop l.part-index l.parts) ≡ key_fields l.fields l.parts
