-- A call on a disk that tells nothing does what a call may do as long as the count of faults doesn't fall.
use Rattle.std.specs.Prelude.{ℕ, ◌≤◌, List, refl}
use Rattle.std.proofs.Common.{arith}
use Rattle.store_model.specs.Disk.{Later, Does, Stays}
use Rattle.folder_store.specs.Untold.{untold}

pub untold_later : (old new : ℕ) → old ≤ new → Later (untold old) (untold new)
untold_later old new rises = record {
  moment = omega arith;
  faults = rises;
  parts = λ t areas le left. absurd left;
  keeps = λ t areas le left. absurd left;
}

pub untold_stays : (old new : ℕ) → old ≤ new → Stays (untold old) (untold new)
untold_stays old new rises = record {
  later = untold_later old new rises;
  seen = λ area. refl;
  images = λ areas left. absurd left;
}

pub untold_does : (area : ℕ) (step : List ℕ → List ℕ → Type 0) (old new : ℕ) → old ≤ new → Does area step (untold old) (untold new)
untold_does area step old new rises = record {
  later = untold_later old new rises;
  others = λ other apart. refl;
  images = λ areas left. absurd left;
}
