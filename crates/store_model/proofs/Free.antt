-- An area of which a stop may leave these bytes, whatever it leaves of the others: how a change moves that on.
use Rattle.std.proofs.Common.{◌≡◌, ◌≢◌, inl, inr, ℕ, zero, suc, ◌<◌, ◌≤◌, List, [], ◌∷◌, ◌++◌, length, Vec, refl, sym, ◌∙◌, ap, subst, arith, ◌<◌}
use Rattle.std.proofs.lemmas.Bool.{cases_eq, cases_lt}
use Rattle.std.specs.declared.alloc.Global.{Global}
use Rattle.store_model.specs.Disk.{Areas, Only, Torn, Cut}
use Rattle.store_model.specs.Past.{blank, changed, MayAfter, seen_after, MayAfterAll, MayLeave}
use Rattle.store_model.specs.Replayed.{put, IsFree}
use Rattle.store_model.specs.Steps.{put_here, put_others}
use Rattle.store_model.specs.declared.past.Change.{Change}
use Rattle.store_model.specs.declared.past.Change.TheVariants.{Wrote, Shortened, Synced}
use Rattle.store_model.proofs.Pushed.{same_areas}
use Rattle.store_model.proofs.DiskAfter.{leaves_push}

push_leaves : (seen : Areas) (may : Areas → Type 0) (changes : List Change) (change : Change) (c : Areas) → MayAfter change (seen_after seen changes) (MayAfterAll seen may changes) c → MayAfterAll seen may (changes ++ change ∷ []) c
push_leaves seen may [] change c left = left
push_leaves seen may (first ∷ changes) change c left = push_leaves (changed first seen) (MayAfter first seen may) changes change c left

-- a step in an area goes on where that area is put in its place
only_here : (area : ℕ) (P : List ℕ → List ℕ → Type 0) (x y : List ℕ) (old new : Areas) → P x y → Only area P old new → Only area P (put area x old) (put area y new)
only_here area P x y old new step only = record {
  here = subst (λ (l : List ℕ). P l (put area y new area)) (sym (put_here area x old)) (subst (λ (l : List ℕ). P x l) (sym (put_here area y new)) step);
  others = λ other apart. put_others area y new other apart ∙ only.others other apart ∙ sym (put_others area x old other apart);
}

-- or another one
only_there : (area a : ℕ) (P : List ℕ → List ℕ → Type 0) (x : List ℕ) (old new : Areas) → area ≢ a → Only area P old new → Only area P (put a x old) (put a x new)
only_there area a P x old new apart only = record {
  here = subst (λ (l : List ℕ). P l (put a x new area)) (sym (put_others a x old area apart)) (subst (λ (l : List ℕ). P (old area) l) (sym (put_others a x new area apart)) only.here);
  others = λ other away. elim (cases_eq other a) [
    | inl same ↦ ap (λ (n : ℕ). put a x new n) same ∙ put_here a x new ∙ sym (put_here a x old) ∙ ap (λ (n : ℕ). put a x old n) (sym same)
    | inr far ↦ put_others a x new other far ∙ only.others other away ∙ sym (put_others a x old other far)
  ];
}

module _ (changes : List Change) where
  pub free_wrote : (area at : ℕ) (bytes : Vec ℕ Global) (x y : List ℕ) → IsFree changes area x → Torn at (length bytes.items) x y → IsFree (changes ++ Wrote area at bytes ∷ []) area y
  free_wrote area at bytes x y free torn c may =
      let from = leaves_push blank _ changes (Wrote area at bytes) c may in
      push_leaves blank _ changes (Wrote area at bytes) (put area y c) (put area x from.0, free from.0 from.1, only_here area (Torn at (length bytes.items)) x y from.0 c torn from.2)

  pub free_wrote_other : (area a at : ℕ) (bytes : Vec ℕ Global) (x : List ℕ) → area ≢ a → IsFree changes a x → IsFree (changes ++ Wrote area at bytes ∷ []) a x
  free_wrote_other area a at bytes x apart free c may =
      let from = leaves_push blank _ changes (Wrote area at bytes) c may in
      push_leaves blank _ changes (Wrote area at bytes) (put a x c) (put a x from.0, free from.0 from.1, only_there area a (Torn at (length bytes.items)) x from.0 c apart from.2)

  pub free_shortened : (area n : ℕ) (x y : List ℕ) → IsFree changes area x → Cut n x y → IsFree (changes ++ Shortened area n ∷ []) area y
  free_shortened area n x y free cut c may =
      let from = leaves_push blank _ changes (Shortened area n) c may in
      push_leaves blank _ changes (Shortened area n) (put area y c) (put area x from.0, free from.0 from.1, only_here area (Cut n) x y from.0 c cut from.2)

  pub free_shortened_other : (area a n : ℕ) (x : List ℕ) → area ≢ a → IsFree changes a x → IsFree (changes ++ Shortened area n ∷ []) a x
  free_shortened_other area a n x apart free c may =
      let from = leaves_push blank _ changes (Shortened area n) c may in
      push_leaves blank _ changes (Shortened area n) (put a x c) (put a x from.0, free from.0 from.1, only_there area a (Cut n) x from.0 c apart from.2)

  pub free_synced : (area : ℕ) (x : List ℕ) → IsFree changes area x → x ≡ seen_after blank changes area → IsFree (changes ++ Synced area ∷ []) area x
  free_synced area x free is c may =
      let from = leaves_push blank _ changes (Synced area) c may in
      push_leaves blank _ changes (Synced area) (put area x c) (free c from.0, put_here area x c ∙ is)

  pub free_synced_other : (area a : ℕ) (x : List ℕ) → area ≢ a → IsFree changes a x → IsFree (changes ++ Synced area ∷ []) a x
  free_synced_other area a x apart free c may =
      let from = leaves_push blank _ changes (Synced area) c may in
      push_leaves blank _ changes (Synced area) (put a x c) (free c from.0, put_others a x c area apart ∙ from.1)

  -- areas of which each is free to be there may be there all together
  module _ (images : Areas) (count : ℕ) (free : (area : ℕ) → area < count → IsFree changes area (images area)) (start : Areas) (may : MayLeave changes start) where
    upto : ℕ → Areas
    upto zero = start
    upto (suc n) = put n (images n) (upto n)

    upto_may : (n : ℕ) → n ≤ count → MayLeave changes (upto n)
    unfolding upto
    upto_may zero le = may
    upto_may (suc n) le = free n (omega arith) (upto n) (upto_may n (omega arith))

    upto_below : (n area : ℕ) → area < n → upto n area ≡ images area
    unfolding upto
    upto_below zero area below = absurd (omega arith)
    upto_below (suc n) area below = elim (cases_eq area n) [
      | inl same ↦ ap (λ (k : ℕ). put n (images n) (upto n) k) same ∙ put_here n (images n) (upto n) ∙ ap images (sym same)
      | inr apart ↦ put_others n (images n) (upto n) area apart ∙ upto_below n area (omega arith)
    ]

    upto_above : (n area : ℕ) → n ≤ area → upto n area ≡ start area
    unfolding upto
    upto_above zero area above = refl
    upto_above (suc n) area above = put_others n (images n) (upto n) area (omega arith) ∙ upto_above n area (omega arith)

    pub all_free : ((area : ℕ) → count ≤ area → images area ≡ start area) → MayLeave changes images
    all_free same =
        subst (λ (c : Areas). MayLeave changes c) (same_areas (upto count) images (λ area. elim (cases_lt area count) [
          | inl below ↦ upto_below count area below
          | inr above ↦ upto_above count area above ∙ sym (same area above)
        ])) (upto_may count (omega arith))
