use Rattle.std.proofs.Common.{◌≡◌, ◌++◌, drop, map}
use Rattle.open_position.proofs.formats.keys_of.Given as goal

abbrev pub invariant-loop-format : goal.invariant-loop-format
invariant-loop-format l = l.keys.items ++ map (λ format. format.key) (drop l.format-index l.formats) ≡ map (λ format. format.key) l.formats
