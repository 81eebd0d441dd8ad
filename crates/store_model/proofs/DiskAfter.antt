-- What one change more does to a disk, and what no change does.
use Rattle.std.proofs.Common.{◌≡◌, ◌⊎◌, inl, inr, ℕ, ◌+◌, ◌≤◌, List, [], ◌∷◌, ◌++◌, length, take, Vec, refl, sym, ◌∙◌, ap, subst, arith, length-append}
use Rattle.std.proofs.lemmas.List.{take_all, take-append-le}
use Rattle.std.proofs.lemmas.Bool.{cases_lt}
use Rattle.std.specs.declared.alloc.Global.{Global}
use Rattle.store_model.specs.Disk.{Areas, May, Later, Does, Stays, Torn, Cut, IsDurable, written}
use Rattle.store_model.specs.Past.{blank, changed, MayAfter, seen_after, MayAfterAll, MayLeave, disk_after}
use Rattle.store_model.specs.Steps.{torn_not, cut_not, put_here, put_others}
use Rattle.store_model.specs.declared.past.Change.{Change}
use Rattle.store_model.specs.declared.past.Change.TheVariants.{Wrote, Shortened, Synced}
use Rattle.store_model.proofs.Pushed.{seen_after-push}

pub leaves_push : (seen : Areas) (may : Areas → Type 0) (changes : List Change) (change : Change) (c : Areas) → MayAfterAll seen may (changes ++ change ∷ []) c → MayAfter change (seen_after seen changes) (MayAfterAll seen may changes) c
leaves_push seen may [] change c left = left
leaves_push seen may (first ∷ changes) change c left = leaves_push (changed first seen) (MayAfter first seen may) changes change c left

module _ (changes : List Change) (old_faults new_faults : ℕ) (never_falls : old_faults ≤ new_faults) where
  pub later_still : Later (disk_after changes old_faults) (disk_after changes new_faults)
  later_still = record { moment = omega arith; faults = never_falls; parts = λ t c le left. inl left; keeps = λ t c le left. left }

  pub stays_still : Stays (disk_after changes old_faults) (disk_after changes new_faults)
  stays_still = record { later = later_still; seen = λ area. refl; images = λ c left. left }

  pub torn_still : (area at n : ℕ) → Does area (Torn at n) (disk_after changes old_faults) (disk_after changes new_faults)
  torn_still area at n = record { later = later_still; others = λ other apart. refl; images = λ c left. (c, left, record { here = torn_not at n (c area); others = λ other apart. refl }) }

  pub cut_still : (area n : ℕ) → Does area (Cut n) (disk_after changes old_faults) (disk_after changes new_faults)
  cut_still area n = record { later = later_still; others = λ other apart. refl; images = λ c left. (c, left, record { here = cut_not n (c area); others = λ other apart. refl }) }

  -- what a stop may leave now, as a claim on all the changes
  now : (c : Areas) → MayLeave changes c → May (disk_after changes old_faults) c
  now c left = (length changes, omega arith, subst (λ (l : List Change). MayLeave l c) (sym (take_all (length changes) changes (omega arith))) left)

  module _ (change : Change) where
    early : (k : ℕ) → k ≤ length changes → take k (changes ++ change ∷ []) ≡ take k changes
    early k le = take-append-le k changes (change ∷ []) le

    late : (k : ℕ) → length changes + 1 ≤ k → take k (changes ++ change ∷ []) ≡ changes ++ change ∷ []
    late k le = take_all k (changes ++ change ∷ []) (omega (arith, length-append changes (change ∷ [])))

    later_push : Later (disk_after changes old_faults) (disk_after (changes ++ change ∷ []) new_faults)
    later_push = record {
      moment = omega (arith, length-append changes (change ∷ []));
      faults = never_falls;
      parts = λ t c le left. elim (cases_lt (length changes) left.0) [
        | inl after ↦ inr (left.0, omega arith, left.2)
        | inr before ↦ inl (left.0, left.1, subst (λ (l : List Change). MayLeave l c) (early left.0 before) left.2)
      ];
      keeps = λ t c le left. elim (cases_lt (length changes) left.0) [
        | inl after ↦
            let all : take left.0 changes ≡ take (length changes) (changes ++ change ∷ []) = take_all left.0 changes (omega arith) ∙ sym (early (length changes) (omega arith) ∙ take_all (length changes) changes (omega arith)) in
            (length changes, le, subst (λ (l : List Change). MayLeave l c) all left.2)
        | inr before ↦ (left.0, left.1, subst (λ (l : List Change). MayLeave l c) (sym (early left.0 before)) left.2)
      ];
    }

    -- what a stop from the change on may leave
    since_push : (c : Areas) → (disk_after (changes ++ change ∷ []) new_faults).since (length changes) c → May (disk_after changes old_faults) c ⊎ MayAfter change (seen_after blank changes) (MayLeave changes) c
    since_push c left = elim (cases_lt (length changes) left.0) [
      | inl after ↦ inr (leaves_push blank _ changes change c (subst (λ (l : List Change). MayLeave l c) (late left.0 (omega arith)) left.2))
      | inr before ↦ inl (left.0, left.1, subst (λ (l : List Change). MayLeave l c) (early left.0 before) left.2)
    ]

  module _ (pushed : List Change) (area : ℕ) where
    pub torn_push : (at : ℕ) (bytes : Vec ℕ Global) → pushed ≡ changes ++ Wrote area at bytes ∷ [] → Does area (Torn at (length bytes.items)) (disk_after changes old_faults) (disk_after pushed new_faults)
    torn_push at bytes push =
        subst (λ (l : List Change). Does area (Torn at (length bytes.items)) (disk_after changes old_faults) (disk_after l new_faults)) (sym push) (record {
          later = later_push (Wrote area at bytes);
          others = λ other apart. ap (λ (f : Areas). f other) (seen_after-push blank changes (Wrote area at bytes)) ∙ put_others area _ (seen_after blank changes) other apart;
          images = λ c left. elim (since_push (Wrote area at bytes) c left) [
            | inl still ↦ (c, still, record { here = torn_not at (length bytes.items) (c area); others = λ other apart. refl })
            | inr torn ↦ (torn.0, now torn.0 torn.1, torn.2)
          ];
        })

    pub cut_push : (n : ℕ) → pushed ≡ changes ++ Shortened area n ∷ [] → Does area (Cut n) (disk_after changes old_faults) (disk_after pushed new_faults)
    cut_push n push =
        subst (λ (l : List Change). Does area (Cut n) (disk_after changes old_faults) (disk_after l new_faults)) (sym push) (record {
          later = later_push (Shortened area n);
          others = λ other apart. ap (λ (f : Areas). f other) (seen_after-push blank changes (Shortened area n)) ∙ put_others area _ (seen_after blank changes) other apart;
          images = λ c left. elim (since_push (Shortened area n) c left) [
            | inl still ↦ (c, still, record { here = cut_not n (c area); others = λ other apart. refl })
            | inr torn ↦ (torn.0, now torn.0 torn.1, torn.2)
          ];
        })

    pub sync_push : pushed ≡ changes ++ Synced area ∷ [] → Stays (disk_after changes old_faults) (disk_after pushed new_faults)
    sync_push push =
        subst (λ (l : List Change). Stays (disk_after changes old_faults) (disk_after l new_faults)) (sym push) (record {
          later = later_push (Synced area);
          seen = λ other. ap (λ (f : Areas). f other) (seen_after-push blank changes (Synced area));
          images = λ c left. elim (since_push (Synced area) c left) [
            | inl still ↦ still
            | inr synced ↦ now c synced.0
          ];
        })

    pub sync_durable : pushed ≡ changes ++ Synced area ∷ [] → IsDurable area (disk_after pushed new_faults)
    sync_durable push =
        subst (λ (l : List Change). IsDurable area (disk_after l new_faults)) (sym push)
        (λ c left.
        let whole = subst (λ (l : List Change). MayLeave l c) (late (Synced area) left.0 (omega (arith, left.1, length-append changes (Synced area ∷ [])))) left.2 in
        (leaves_push blank _ changes (Synced area) c whole).1 ∙ sym (ap (λ (f : Areas). f area) (seen_after-push blank changes (Synced area))))

-- what a read of the area itself gives after the change
module _ (changes pushed : List Change) (area : ℕ) where
  pub wrote_seen : (at : ℕ) (bytes : Vec ℕ Global) → pushed ≡ changes ++ Wrote area at bytes ∷ [] → seen_after blank pushed area ≡ written at bytes.items (seen_after blank changes area)
  wrote_seen at bytes push =
      ap (λ (l : List Change). seen_after blank l area) push ∙ ap (λ (f : Areas). f area) (seen_after-push blank changes (Wrote area at bytes)) ∙ put_here area _ (seen_after blank changes)

  pub shortened_seen : (n : ℕ) → pushed ≡ changes ++ Shortened area n ∷ [] → seen_after blank pushed area ≡ take n (seen_after blank changes area)
  shortened_seen n push =
      ap (λ (l : List Change). seen_after blank l area) push ∙ ap (λ (f : Areas). f area) (seen_after-push blank changes (Shortened area n)) ∙ put_here area _ (seen_after blank changes)
