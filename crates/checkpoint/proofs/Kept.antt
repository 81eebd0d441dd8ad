-- What keeps roots held, and a state kept: for crates that hold roots.
use Rattle.std.proofs.Common.{◌≡◌, ◌≢◌, inl, inr, ℕ, ◌≤◌, List, [], ◌∷◌, ◌++◌, refl, sym, ◌∙◌, subst, arith}
use Rattle.std.proofs.Math.Logic.{∥∥₁_map}
use Rattle.store_model.specs.Disk.{Areas, Disk, Does, IsDurable, May, Stays}
use Rattle.store_model.proofs.Runs.{later_trans, now}
use Rattle.entry_codec.specs.declared.entries.Entry.{Entry}
use Rattle.gated_log.specs.Blocks.{Spells}
use Rattle.gated_log.specs.Log.{LogState, Settled}
use Rattle.gated_log.proofs.Kept.{settled_apart, settled_same, settled_stays}
use Rattle.checkpoint.specs.declared.layout.TheConstants.{ROOT_AREA, VERSION}
use Rattle.checkpoint.specs.declared.root.Root.{Root}
use Rattle.checkpoint.specs.declared.root.TheConstants.{LAST_STATE_AREA}
use Rattle.checkpoint.specs.Roots.{AreRoots, root_blocks}
use Rattle.checkpoint.specs.States.{IsSaved, IsStateIn}
use Rattle.checkpoint.specs.Holding.{HasMoreRoom, Holds, IsBlank, IsHeld, IsKept, LeavesReceivers, RootsState}

-- ---- roots

-- a call that changes no area
pub holds_stays : (roots : RootsState) (earlier : List Root) (old new : Disk) → Stays old new → Holds roots earlier old → Holds roots earlier new
holds_stays roots earlier old new stays holds = record {
  area = holds.area;
  each = holds.each;
  is_root = holds.is_root;
  settled = settled_stays roots.log (root_blocks (earlier ++ roots.last ∷ [])) old new stays holds.settled;
}

-- a call on another area
pub holds_apart : (roots : RootsState) (earlier : List Root) (area : ℕ) (step : List ℕ → List ℕ → Type 0) (old new : Disk) → Does area step old new → area ≢ ROOT_AREA → Holds roots earlier old → Holds roots earlier new
holds_apart roots earlier area step old new does apart holds = record {
  area = holds.area;
  each = holds.each;
  is_root = holds.is_root;
  settled = settled_apart roots.log (root_blocks (earlier ++ roots.last ∷ [])) area step old new does (λ same. apart (sym same ∙ holds.area)) holds.settled;
}

-- roots that differ in their room alone
pub holds_same : (old new : RootsState) (earlier : List Root) (disk : Disk) → HasMoreRoom old new → Holds old earlier disk → Holds new earlier disk
holds_same old new earlier disk same holds =
    subst (λ (r : Root). Holds (record { log = new.log; last = r }) earlier disk) (sym same.last)
    (record {
      area = same.area ∙ holds.area;
      each = holds.each;
      is_root = holds.is_root;
      settled = settled_same old.log new.log (root_blocks (earlier ++ old.last ∷ [])) disk same.area same.first same.version same.lengths holds.settled;
    })

pub more_same : (roots : RootsState) → HasMoreRoom roots roots
more_same roots = record { area = refl; first = refl; version = refl; lengths = refl; room = omega arith; last = refl }

-- the same of some roots
pub is_held_stays : (roots : RootsState) (old new : Disk) → Stays old new → IsHeld roots old → IsHeld roots new
is_held_stays roots old new stays some = ∥∥₁_map some (λ has. (has.0, holds_stays roots has.0 old new stays has.1))

pub is_held_apart : (roots : RootsState) (area : ℕ) (step : List ℕ → List ℕ → Type 0) (old new : Disk) → Does area step old new → area ≢ ROOT_AREA → IsHeld roots old → IsHeld roots new
is_held_apart roots area step old new does apart some = ∥∥₁_map some (λ has. (has.0, holds_apart roots has.0 area step old new does apart has.1))

pub is_held_same : (old new : RootsState) (disk : Disk) → HasMoreRoom old new → IsHeld old disk → IsHeld new disk
is_held_same old new disk same some = ∥∥₁_map some (λ has. (has.0, holds_same old new has.0 disk same has.1))

-- an area that has no first sequence
pub plain : (area first version : ℕ) (blocks : List (List ℕ)) (bytes : List ℕ) → area ≤ 2 → Spells area first version blocks bytes → Spells area 0 VERSION blocks bytes
plain area first version blocks bytes le spells =
    subst (λ (v : ℕ). Spells area 0 v blocks bytes) spells.may_begin.one_version (subst (λ (f : ℕ). Spells area f version blocks bytes) (spells.may_begin.none le) spells)

-- the log of no block of an area that was just formatted
pub made_settled : (log : LogState) (area : ℕ) (disk : Disk) → IsBlank area log → Spells area 0 VERSION [] (disk.seen area) → IsDurable area disk → Settled log [] disk
made_settled log area disk blank spells durable = record {
  spells = subst (λ (a : ℕ). Spells a log.first log.version [] (disk.seen a)) (sym blank.area)
      (subst (λ (f : ℕ). Spells area f log.version [] (disk.seen area)) (sym blank.first) (subst (λ (v : ℕ). Spells area 0 v [] (disk.seen area)) (sym blank.version) spells));
  lengths = blank.lengths;
  durable = subst (λ (a : ℕ). IsDurable a disk) (sym blank.area) durable;
}

-- a log of an area without a first sequence, as it is read
pub settled_plain : (log : LogState) (area : ℕ) (blocks : List (List ℕ)) (disk : Disk) → area ≤ 2 → log.area ≡ area → Settled log blocks disk → Spells area 0 VERSION blocks (disk.seen area)
settled_plain log area blocks disk le here settled = plain area log.first log.version blocks (disk.seen area) le (subst (λ (a : ℕ). Spells a log.first log.version blocks (disk.seen a)) here settled.spells)

-- they are those of area 0
pub held_roots : (roots : RootsState) (earlier : List Root) (disk : Disk) → Holds roots earlier disk → AreRoots earlier roots.last (disk.seen ROOT_AREA)
held_roots roots earlier disk holds = record {
  each = holds.each;
  is_root = holds.is_root;
  spells = settled_plain roots.log ROOT_AREA (root_blocks (earlier ++ roots.last ∷ [])) disk (omega arith) holds.area holds.settled;
}

pub held_durable : (roots : RootsState) (earlier : List Root) (disk : Disk) → Holds roots earlier disk → IsDurable ROOT_AREA disk
held_durable roots earlier disk holds = subst (λ (a : ℕ). IsDurable a disk) holds.area holds.settled.durable

-- a stop leaves them
pub left_roots : (roots : RootsState) (earlier : List Root) (disk : Disk) (areas : Areas) → Holds roots earlier disk → May disk areas → AreRoots earlier roots.last (areas ROOT_AREA)
left_roots roots earlier disk areas holds may = subst (λ (l : List ℕ). AreRoots earlier roots.last l) (sym (held_durable roots earlier disk holds areas may)) (held_roots roots earlier disk holds)

-- ---- a state

-- areas that have the same bytes where the root names some
pub saved_same : (root : Root) (state : List Entry) (old new : Areas) → (root.area ≢ 0 → new root.area ≡ old root.area) → IsSaved root state old → IsSaved root state new
saved_same root state old new same (inl none) = inl none
saved_same root state old new same (inr (some, is)) = inr (some, subst (λ (l : List ℕ). IsStateIn root.area root.length state l) (sym (same some)) is)

-- a root that names the same state
pub saved_by : (root other : Root) (state : List Entry) (areas : Areas) → other.area ≡ root.area → other.length ≡ root.length → IsSaved root state areas → IsSaved other state areas
saved_by root other state areas area size (inl none) = inl (area ∙ none.0, none.1)
saved_by root other state areas area size (inr (some, is)) =
    inr (λ none. some (sym area ∙ none), subst (λ (a : ℕ). IsStateIn a other.length state (areas a)) (sym area) (subst (λ (n : ℕ). IsStateIn root.area n state (areas root.area)) (sym size) is))

pub kept_by : (root other : Root) (state : List Entry) (disk : Disk) → other.area ≡ root.area → other.length ≡ root.length → IsKept root state disk → IsKept other state disk
kept_by root other state disk area size kept = record {
  seen = saved_by root other state disk.seen area size kept.seen;
  left = λ areas may. saved_by root other state areas area size (kept.left areas may);
}

-- a call that changes no area
pub kept_stays : (root : Root) (state : List Entry) (old new : Disk) → Stays old new → IsKept root state old → IsKept root state new
kept_stays root state old new stays kept = record {
  seen = saved_same root state old.seen new.seen (λ some. stays.seen root.area) kept.seen;
  left = λ areas may. kept.left areas (stays.images areas (new.wider old.moment new.moment areas stays.later.moment may));
}

-- a call on another area than the root names
pub kept_apart : (root : Root) (state : List Entry) (area : ℕ) (step : List ℕ → List ℕ → Type 0) (old new : Disk) → Does area step old new → (root.area ≢ 0 → root.area ≢ area) → IsKept root state old → IsKept root state new
kept_apart root state area step old new does apart kept = record {
  seen = saved_same root state old.seen new.seen (λ some. does.others root.area (apart some)) kept.seen;
  left = λ areas may.
      let from = now area step old new does areas may in
      saved_same root state from.0 areas (λ some. from.2.others root.area (apart some)) (kept.left from.0 from.1);
}

-- a log of its own area that a stop leaves
pub kept_durable : (root : Root) (state : List Entry) (disk : Disk) → root.area ≢ 0 → IsStateIn root.area root.length state (disk.seen root.area) → IsDurable root.area disk → IsKept root state disk
kept_durable root state disk some is durable = record {
  seen = inr (some, is);
  left = λ areas may. inr (some, subst (λ (l : List ℕ). IsStateIn root.area root.length state l) (sym (durable areas may)) is);
}

-- where no state is
pub kept_none : (root : Root) (state : List Entry) (disk : Disk) → root.area ≡ 0 → state ≡ [] → IsKept root state disk
kept_none root state disk none is = record { seen = inl (none, is); left = λ areas may. inl (none, is) }

-- ---- the areas of receivers

pub receivers_stays : (old new : Disk) → Stays old new → LeavesReceivers old new
receivers_stays old new stays = record {
  later = stays.later;
  seen = λ area above. stays.seen area;
  images = λ areas left. (areas, stays.images areas left, λ area above. refl);
}

pub receivers_does : (area : ℕ) (step : List ℕ → List ℕ → Type 0) (old new : Disk) → area ≤ LAST_STATE_AREA → Does area step old new → LeavesReceivers old new
receivers_does area step old new below does = record {
  later = does.later;
  seen = λ other above. does.others other (λ same. omega (arith, same, above, below));
  images = λ areas left.
      let from = does.images areas left in
      (from.0, from.1, λ other above. from.2.others other (λ same. omega (arith, same, above, below)));
}

pub receivers_then : (a b c : Disk) → LeavesReceivers a b → LeavesReceivers b c → LeavesReceivers a c
receivers_then a b c first second = record {
  later = later_trans a b c first.later second.later;
  seen = λ area above. second.seen area above ∙ first.seen area above;
  images = λ areas left. elim (second.later.parts a.moment areas first.later.moment left) [
    | inl before ↦ first.images areas before
    | inr after ↦
        let mid = second.images areas after in
        let from = first.images mid.0 (b.wider a.moment b.moment mid.0 first.later.moment mid.1) in
        (from.0, from.1, λ area above. mid.2 area above ∙ from.2 area above)
  ];
}
