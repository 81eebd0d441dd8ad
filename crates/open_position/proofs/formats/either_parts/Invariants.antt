use Rattle.std.proofs.Common.{◌≡◌, ◌++◌, drop}
use Rattle.file_model.specs.KeyOrder.{either_parts}
use Rattle.open_position.proofs.formats.either_parts.Given as goal

abbrev pub invariant-loop-place : goal.invariant-loop-place
invariant-loop-place l = l.made ++ either_parts (drop l.place l.parts) (drop l.place l.others) ≡ either_parts l.parts l.others
