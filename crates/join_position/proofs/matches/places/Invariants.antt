use Rattle.std.proofs.Common.{◌≡◌, map, take}
use Rattle.std.specs.Prelude.{All}
use Rattle.join_position.specs.Kept.{IsThere, value_kept, value_placed}
use Rattle.join_position.proofs.matches.places.Given as goal

abbrev pub invariant-loop-kept : goal.invariant-loop-kept
invariant-loop-kept l =
    (map value_placed l.places.items ≡ map value_kept (take l.kept-index l.matches)) × All (λ m. IsThere m.part m.bytes m.number) (take l.kept-index l.matches)
