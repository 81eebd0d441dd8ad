-- What calls on receivers leave of the areas before the first receiver's, one call after another: for crates that hold chains.
use Rattle.std.proofs.Common.{◌≡◌, ◌≢◌, inl, inr, ℕ, ◌<◌, ◌≤◌, List, refl, sym, ◌∙◌, arith}
use Rattle.store_model.specs.Disk.{Disk, Does, IsDurable, Leaves, Stays}
use Rattle.store_model.proofs.Runs.{later_trans}
use Rattle.receiver_chain.specs.declared.numbers.TheConstants.{FIRST_RECEIVER}
use Rattle.receiver_chain.specs.Receivers.{IsCutOf, area_of}
use Rattle.receiver_chain.specs.Others.{LeavesRoots}
use Rattle.receiver_chain.proofs.Switches.{stays_here}

-- ---- one call

pub roots_stay : (old new : Disk) → Stays old new → LeavesRoots old new
roots_stay old new stays = record {
  later = stays.later;
  seen = λ area before. stays.seen area;
  images = λ areas left. (areas, stays.images areas left, λ area before. refl);
}

pub roots_here : (disk : Disk) → LeavesRoots disk disk
roots_here disk = roots_stay disk disk (stays_here disk)

-- it works in the area of a receiver
pub roots_does : (area : ℕ) (step : List ℕ → List ℕ → Type 0) (old new : Disk) → area_of FIRST_RECEIVER ≤ area → Does area step old new → LeavesRoots old new
roots_does area step old new above does = record {
  later = does.later;
  seen = λ other before. does.others other (λ same. omega (arith, same, above, before));
  images = λ areas left.
      let from = does.images areas left in
      (from.0, from.1, λ other before. from.2.others other (λ same. omega (arith, same, above, before)));
}

-- receivers are given up
pub roots_cut : (old new : Disk) (first next : ℕ) → FIRST_RECEIVER ≤ first → Leaves old new (IsCutOf old first next)
    → ((area : ℕ) → ((number : ℕ) → first ≤ number → number < next → area ≢ area_of number) → new.seen area ≡ old.seen area) → LeavesRoots old new
roots_cut old new first next least leaves others = record {
  later = leaves.later;
  seen = λ area before. others area (λ number from upto same. omega (arith, same, least, from, before));
  images = λ areas left.
      let cut = leaves.images areas left in
      (cut.0, cut.1, λ area before. cut.2.others area (λ number from upto same. omega (arith, same, least, from, before)));
}

-- ---- one after another

pub roots_then : (a b c : Disk) → LeavesRoots a b → LeavesRoots b c → LeavesRoots a c
roots_then a b c first second = record {
  later = later_trans a b c first.later second.later;
  seen = λ area before. second.seen area before ∙ first.seen area before;
  images = λ areas left. elim (second.later.parts a.moment areas first.later.moment left) [
    | inl early ↦ first.images areas early
    | inr late ↦
        let mid = second.images areas late in
        let from = first.images mid.0 (b.wider a.moment b.moment mid.0 first.later.moment mid.1) in
        (from.0, from.1, λ area before. mid.2 area before ∙ from.2 area before)
  ];
}

-- ---- an area before the first receiver's that is durable

module _ (area : ℕ) (old new : Disk) (before : area < area_of FIRST_RECEIVER) (durable : IsDurable area old) (leaves : LeavesRoots old new) where
  -- a stop at any moment leaves it as it was read before
  pub roots_moments : Leaves old new (λ areas. areas area ≡ old.seen area)
  roots_moments = record {
    later = leaves.later;
    images = λ areas left. let from = leaves.images areas left in from.2 area before ∙ durable from.0 from.1;
  }

  -- and it stays so
  pub roots_durable : IsDurable area new
  roots_durable areas may =
      let from = leaves.images areas (new.wider old.moment new.moment areas leaves.later.moment may) in
      from.2 area before ∙ durable from.0 from.1 ∙ sym (leaves.seen area before)
