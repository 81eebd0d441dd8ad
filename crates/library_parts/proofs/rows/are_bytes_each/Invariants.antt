use Rattle.std.proofs.Common.{take}
use Rattle.std.specs.Prelude.{All}
use Rattle.access_path.specs.KeyFields.{AreBytes}
use Rattle.library_parts.proofs.rows.are_bytes_each.Given as goal

abbrev pub invariant-loop-file : goal.invariant-loop-file
invariant-loop-file l = All (λ file. AreBytes file.default) (take l.file-index l.files)
