-- What do calls on receivers leave of the areas before the first receiver's? Roots and saved states stand there. Our own.
use Rattle.std.specs.Prelude.{ℕ, ◌≡◌, ◌<◌}
use Rattle.store_model.specs.Disk.{Areas, Disk, Later, May}
use Rattle.receiver_chain.specs.declared.numbers.TheConstants.{FIRST_RECEIVER}
use Rattle.receiver_chain.specs.Receivers.{area_of}

-- the areas before the first receiver's are as they were
abbrev pub AreRootsSame : Areas → Areas → Type 0
AreRootsSame old new = (area : ℕ) → area < area_of FIRST_RECEIVER → new area ≡ old area

-- a call that works in the areas of receivers: a stop within it leaves of those before what a stop before it could
pub record LeavesRoots (old new : Disk) : Type 0 where
  pub later : Later old new
  pub seen : AreRootsSame old.seen new.seen
  pub images : (areas : Areas) → new.since old.moment areas → (before : Areas) × May old before × AreRootsSame before areas
