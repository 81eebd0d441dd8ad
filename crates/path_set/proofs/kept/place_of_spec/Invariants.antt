use Rattle.std.proofs.Common.{ℕ, ◌<◌, ◌≢◌, get_or}
use Rattle.path_set.specs.declared.kept.Kept.{Kept}
use Rattle.path_set.proofs.kept.place_of_spec.Given as goal

abbrev pub invariant-loop-place : goal.invariant-loop-place
invariant-loop-place l = (k : ℕ) (d : Kept) → k < l.place → (get_or l.kept k d).by ≢ l.spec
