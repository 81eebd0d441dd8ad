-- How calls on a disk follow one another: for crates whose calls are made of a store's calls.
use Rattle.std.proofs.Common.{◌≢◌, ◌⊎◌, inl, inr, ⊎_elim, ℕ, ◌≤◌, List, ◌∙◌, refl, sym, arith}
use Rattle.store_model.specs.Disk.{Areas, Disk, May, IsDurable, Only, Later, Does, Stays, Leaves}

abbrev Step : Type 1
Step = List ℕ → List ℕ → Type 0

pub later_trans : (a b c : Disk) → Later a b → Later b c → Later a c
later_trans a b c first second = record {
  moment = omega (arith, first.moment, second.moment);
  faults = omega (arith, first.faults, second.faults);
  parts = λ t areas le left. elim (second.parts t areas (omega (arith, le, first.moment)) left) [
    | inl before ↦ ⊎_elim (λ early. inl early) (λ late. inr (second.keeps a.moment areas first.moment late)) (first.parts t areas le before)
    | inr after ↦ inr (c.wider a.moment b.moment areas first.moment after)
  ];
  keeps = λ t areas le left. second.keeps t areas (omega (arith, le, first.moment)) (first.keeps t areas le left);
}

pub stays_trans : (a b c : Disk) → Stays a b → Stays b c → Stays a c
stays_trans a b c first second = record {
  later = later_trans a b c first.later second.later;
  seen = λ area. second.seen area ∙ first.seen area;
  images = λ areas left. elim (second.later.parts a.moment areas first.later.moment left) [
    | inl before ↦ first.images areas before
    | inr after ↦ first.images areas (b.wider a.moment b.moment areas first.later.moment (second.images areas after))
  ];
}

-- an area that is durable stays so where nothing is changed
pub stays_durable : (area : ℕ) (a b : Disk) → Stays a b → IsDurable area a → IsDurable area b
stays_durable area a b stays durable areas may = durable areas (stays.images areas (b.wider a.moment b.moment areas stays.later.moment may)) ∙ sym (stays.seen area)

module _ (area : ℕ) (P : Step) (a b : Disk) (does : Does area P a b) where
  -- what a stop may leave after the call
  pub now : (areas : Areas) → May b areas → (d : Areas) × May a d × Only area P d areas
  now areas may = does.images areas (b.wider a.moment b.moment areas does.later.moment may)

  -- the same with a step that allows more, over the content that a stop may leave before
  pub weaken : (W : List ℕ → Type 0) (R : Step) → ((d : Areas) → May a d → W (d area)) → ((old new : List ℕ) → W old → P old new → R old new) → Does area R a b
  weaken W R before more = record {
    later = does.later;
    others = does.others;
    images = λ areas left. let from = does.images areas left in (from.0, from.1, record { here = more (from.0 area) (areas area) (before from.0 from.1) from.2.here; others = from.2.others });
  }

  -- nothing is changed after it
  pub then_stays : (c : Disk) → Stays b c → Does area P a c
  then_stays c stays = record {
    later = later_trans a b c does.later stays.later;
    others = λ other apart. stays.seen other ∙ does.others other apart;
    images = λ areas left. elim (stays.later.parts a.moment areas does.later.moment left) [
      | inl before ↦ does.images areas before
      | inr after ↦ now areas (stays.images areas after)
    ];
  }

  -- one call more on the area, where W is known of what a stop may leave between the two
  pub then_does : (Q : Step) (c : Disk) (W : List ℕ → Type 0) (R : Step) → Does area Q b c → ((d : Areas) → May b d → W (d area))
      → ((old new : List ℕ) → P old new → R old new) → ((old mid new : List ℕ) → P old mid → W mid → Q mid new → R old new) → Does area R a c
  then_does Q c W R next between early late = record {
    later = later_trans a b c does.later next.later;
    others = λ other apart. next.others other apart ∙ does.others other apart;
    images = λ areas left. elim (next.later.parts a.moment areas does.later.moment left) [
      | inl before ↦ let from = does.images areas before in (from.0, from.1, record { here = early (from.0 area) (areas area) from.2.here; others = from.2.others })
      | inr after ↦
          let mid = next.images areas after in
          let from = now mid.0 mid.1 in (
            from.0,
            from.1,
            record {
              here = late (from.0 area) (mid.0 area) (areas area) from.2.here (between mid.0 mid.1) mid.2.here;
              others = λ other apart. mid.2.others other apart ∙ from.2.others other apart;
            },
          )
    ];
  }

  -- another area that is durable stays so
  pub durable_apart : (other : ℕ) → other ≢ area → IsDurable other a → IsDurable other b
  durable_apart other apart durable areas may = let from = now areas may in from.2.others other apart ∙ durable from.0 from.1 ∙ sym (does.others other apart)

-- a call that changes nothing, as one on an area
pub stays_does : (area : ℕ) (P : Step) (a b : Disk) → ((bytes : List ℕ) → P bytes bytes) → Stays a b → Does area P a b
stays_does area P a b same stays = record { later = stays.later; others = λ other apart. stays.seen other; images = λ areas left. (areas, stays.images areas left, record { here = same (areas area); others = λ other apart. refl }) }

-- what is left by a call of any steps: that a call changes nothing, or works on one area
pub leaves_stays : (a b : Disk) (P : Areas → Type 0) → Stays a b → ((c : Areas) → May a c → P c) → Leaves a b P
leaves_stays a b P stays before = record { later = stays.later; images = λ c left. before c (stays.images c left) }

pub leaves_does : (area : ℕ) (step : Step) (a b : Disk) (P : Areas → Type 0) → Does area step a b → ((d c : Areas) → May a d → Only area step d c → P c) → Leaves a b P
leaves_does area step a b P does after = record { later = does.later; images = λ c left. let from = does.images c left in after from.0 c from.1 from.2 }

-- two calls after another leave what each of them does
pub leaves_then : (a b c : Disk) (P : Areas → Type 0) → Leaves a b P → Leaves b c P → Leaves a c P
leaves_then a b c P first second = record {
  later = later_trans a b c first.later second.later;
  images = λ areas left. elim (second.later.parts a.moment areas first.later.moment left) [
    | inl before ↦ first.images areas before
    | inr after ↦ second.images areas after
  ];
}

-- more may be allowed
pub leaves_less : (a b : Disk) (P Q : Areas → Type 0) → Leaves a b P → ((c : Areas) → P c → Q c) → Leaves a b Q
leaves_less a b P Q leaves more = record { later = leaves.later; images = λ c left. more c (leaves.images c left) }

-- what may have been left since an earlier moment, and what may be left after the call
pub leaves_since : (a b : Disk) (P : Areas → Type 0) → Leaves a b P → (t : ℕ) (c : Areas) → t ≤ a.moment → b.since t c → a.since t c ⊎ P c
leaves_since a b P leaves t c earlier left = elim (leaves.later.parts t c earlier left) [
  | inl before ↦ inl before
  | inr after ↦ inr (leaves.images c after)
]

pub leaves_now : (a b : Disk) (P : Areas → Type 0) → Leaves a b P → (c : Areas) → May b c → P c
leaves_now a b P leaves c may = leaves.images c (b.wider a.moment b.moment c leaves.later.moment may)
