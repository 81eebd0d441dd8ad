-- What a stop may leave on a disk of many areas, and what a call on it does. A model of our own: the disk that
-- IBM i's single-level storage stands on is not described in its manuals.
use Rattle.std.specs.Prelude.{◌≡◌, ◌≢◌, ◌⊎◌, ℕ, ◌+◌, ◌≤◌, min, max, List, ◌++◌, length, take, drop}

-- the bytes of each area; one that was never written has none
abbrev pub Areas : Type 0
Areas = ℕ → List ℕ

-- what a read gives, the moment, what a stop may have left at some moment since a given one, and the count of faults
pub record Disk : Type 1 where
  pub seen : Areas
  pub moment : ℕ
  pub since : ℕ → Areas → Type 0
  pub faults : ℕ
  pub wider : (t u : ℕ) (c : Areas) → t ≤ u → since u c → since t c

-- a stop now may leave these areas
abbrev pub May : Disk → Areas → Type 0
May disk c = disk.since disk.moment c

-- a stop now leaves of this area what a read gives
abbrev pub IsDurable : ℕ → Disk → Type 0
IsDurable area disk = (c : Areas) → May disk c → c area ≡ disk.seen area

-- old with these bytes at this place, longer where they reach past its end
abbrev pub written : ℕ → List ℕ → List ℕ → List ℕ
written at bytes old = take at old ++ bytes ++ drop (at + length bytes) old

-- a write of n bytes at a place, torn: any bytes in the range and past the old end, the others stay
pub record Torn (at n : ℕ) (old new : List ℕ) : Type 0 where
  pub before : take (min at (length old)) new ≡ take (min at (length old)) old
  pub after : drop (at + n) new ≡ drop (at + n) old
  pub no_shorter : length old ≤ length new
  pub no_longer : length new ≤ max (length old) (at + n)

-- a cut to a length, done in part: some length between
pub record Cut (n : ℕ) (old new : List ℕ) : Type 0 where
  pub no_shorter : min n (length old) ≤ length new
  pub front : take (length new) old ≡ new

-- a step in one area, the others stay
pub record Only (area : ℕ) (step : List ℕ → List ℕ → Type 0) (old new : Areas) : Type 0 where
  pub here : step (old area) (new area)
  pub others : (other : ℕ) → other ≢ area → new other ≡ old other

-- Time goes on: what a stop may have left since an earlier moment is what it was, and what it may have left since old.
pub record Later (old new : Disk) : Type 0 where
  pub moment : old.moment ≤ new.moment
  pub faults : old.faults ≤ new.faults
  pub parts : (t : ℕ) (c : Areas) → t ≤ old.moment → new.since t c → old.since t c ⊎ new.since old.moment c
  pub keeps : (t : ℕ) (c : Areas) → t ≤ old.moment → old.since t c → new.since t c

-- a call that works on one area: a stop within it leaves what a stop before it could, after the step
pub record Does (area : ℕ) (step : List ℕ → List ℕ → Type 0) (old new : Disk) : Type 0 where
  pub later : Later old new
  pub others : (other : ℕ) → other ≢ area → new.seen other ≡ old.seen other
  pub images : (c : Areas) → new.since old.moment c → (d : Areas) × May old d × Only area step d c

-- a call that changes no area: a stop within it leaves what a stop before it could
pub record Stays (old new : Disk) : Type 0 where
  pub later : Later old new
  pub seen : (area : ℕ) → new.seen area ≡ old.seen area
  pub images : (c : Areas) → new.since old.moment c → May old c

-- a call of any steps in any areas: a stop within it leaves areas that are allowed
pub record Leaves (old new : Disk) (allowed : Areas → Type 0) : Type 0 where
  pub later : Later old new
  pub images : (c : Areas) → new.since old.moment c → allowed c
