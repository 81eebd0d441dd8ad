use Rattle.std.proofs.Common.{◌≡◌, map, take}
use Rattle.join_position.proofs.matches.none_of.Given as goal

abbrev pub invariant-loop-file : goal.invariant-loop-file
invariant-loop-file l = map (λ m. m.part) l.matches.items ≡ map (λ file. file.sequence) (take l.file-index l.files)
