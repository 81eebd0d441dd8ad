use Rattle.std.proofs.Common.{◌≡◌, ◌++◌, drop, map}
use Rattle.library_parts.proofs.reading.sequences_of.Given as goal

abbrev pub invariant-loop-joined : goal.invariant-loop-joined
invariant-loop-joined l = map (λ file. file.sequence) l.made.items ++ map (λ joined. joined.sequence) (drop l.joined-index l.files) ≡ map (λ joined. joined.sequence) l.files
