use Rattle.std.proofs.Common.{◌≡◌, length}
use Rattle.file_model.specs.FilePaths.{field_from}
use Rattle.logical_paths.proofs.key_fields.field_from.Given as goal

abbrev pub invariant-loop-rest : goal.invariant-loop-rest
invariant-loop-rest l = field_from l.left 0 l.rest ≡ field_from l.at 0 l.fields

abbrev pub decreases-loop-rest : goal.decreases-loop-rest
decreases-loop-rest l = length l.rest
