-- The disk of a store that says of its areas nothing: only its count of faults is told.
use Rattle.std.specs.Prelude.{ℕ, []}
use Rattle.store_model.specs.Disk.{Disk}

-- a disk of which nothing is known but how many faults there were
abbrev pub untold : ℕ → Disk
untold faults = record {
  seen = λ area. [];
  moment = 0;
  since = λ moment areas. ⊥;
  faults = faults;
  wider = λ t u areas earlier left. left;
}
