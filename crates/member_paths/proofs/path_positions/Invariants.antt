use Rattle.std.proofs.Common.{◌≡◌, ◌++◌, drop}
use Rattle.file_model.specs.FilePaths.{key_parts}
use Rattle.member_paths.proofs.path_positions.Given as goal

abbrev pub invariant-loop-part : goal.invariant-loop-part
invariant-loop-part l = l.parts ++ key_parts l.at (drop l.part-index l.own) ≡ key_parts 0 l.own
