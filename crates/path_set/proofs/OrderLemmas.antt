-- The paths stay in order, and each once, when one of them changes, comes or goes.
use Rattle.std.proofs.Common.{ℕ, zero, suc, ◌+◌, ◌-◌, ◌<◌, ◌≤◌, ◌≡◌, ◌≢◌, List, [], ◌∷◌, length, map, set, get_or, sym, ap, ◌∙◌, subst, arith}
use Rattle.std.specs.List.{insert, All}
use Rattle.std.proofs.lemmas.List.{get_or-map, length-map, length-set, get_or-set_same, get_or-set_other}
use Rattle.std.proofs.lemmas.List.Elements.{All-set, All-map}
use Rattle.std.proofs.lemmas.List.Edits.{length-insert, get_or-insert_below, get_or-insert_at, get_or-insert_above}
use Rattle.path_set.specs.declared.kept.Kept.{Kept}
use Rattle.path_set.specs.declared.kept.TheConstants.{MOST_PATHS}
use Rattle.member_slots.specs.Members.{Numbered}
use Rattle.path_set.specs.KeptPaths.{KeptPath, AreShared}
use Rattle.path_set.specs.Entries.{AreKept, IsKept, IsGap, IsFirstFree, numbered, path_of}

-- ---- another path of the same number and specification at its place

module _ (paths : List Kept) (place : ℕ) (new : Kept) (within : place < length paths) where
  -- what is the same of the new one is the same at each place
  same-set : {A : Type 0} (part : Kept → A) → ((d : Kept) → part new ≡ part (get_or paths place d)) → (k : ℕ) (d : Kept) → part (get_or (set paths place new) k d) ≡ part (get_or paths k d)
  same-set part same k d =
      grind (
        arith,
        ap part (get_or-set_same paths place new d within),
        λ (other : k ≢ place). ap part (get_or-set_other paths place k new d other),
        same d,
        λ (at : k ≡ place). ap (λ i. part (get_or (set paths place new) i d)) at,
        λ (at : k ≡ place). ap (λ i. part (get_or paths i d)) at,
      )

  pub AreKept-set : ((d : Kept) → new.id ≡ (get_or paths place d).id) → ((d : Kept) → new.by ≡ (get_or paths place d).by) → IsKept new → AreKept paths → AreKept (set paths place new)
  AreKept-set same_id same_by is h = record {
    ascend = λ i j d lt low.
        let j_low : j < length paths = omega (arith, length-set paths place new) in
        let first = same-set (λ kept. kept.id) same_id i d in
        let second = same-set (λ kept. kept.id) same_id j d in
        let below = h.ascend i j d lt j_low in
        omega (arith, first, second, below);
    once = λ i j d lt low equal.
        let j_low : j < length paths = omega (arith, length-set paths place new) in
        h.once i j d lt j_low (sym (same-set (λ kept. kept.by) same_by i d) ∙ equal ∙ same-set (λ kept. kept.by) same_by j d);
    each = All-set IsKept paths place new is h.each;
    few = rw length-set h.few;
  }

-- ---- a path more

-- a path in the gap for its number
pub AreKept-insert : (paths : List Kept) (number place : ℕ) (new : Kept) → AreKept paths → IsGap paths number place → new.id ≡ number → All (λ kept. kept.by ≢ new.by) paths → IsKept new
    → length paths < MOST_PATHS → AreKept (insert paths place new)
AreKept-insert paths number place new h gap same absent is few =
    let longer = length-insert paths place new gap.in_range in
    let below : (k : ℕ) (d : Kept) → k < place → get_or (insert paths place new) k d ≡ get_or paths k d = λ k d lt. get_or-insert_below paths place new d k lt gap.in_range in
    let here : (k : ℕ) (d : Kept) → k ≡ place → get_or (insert paths place new) k d ≡ new = λ k d at. rw at (get_or-insert_at paths place new d gap.in_range) in
    let above : (k : ℕ) (d : Kept) → place < k → get_or (insert paths place new) k d ≡ get_or paths (k - 1) d =
    λ k d lt. subst (λ q. get_or (insert paths place new) q d ≡ get_or paths (k - 1) d) {x = k - 1 + 1} (omega arith) (get_or-insert_above paths place new d (k - 1) (omega arith) gap.in_range) in
    record {
      ascend = λ i j d lt within.
          grind (arith, below i d, here i d, above i d, below j d, here j d, above j d, h.ascend i j d, h.ascend i (j - 1) d, h.ascend (i - 1) (j - 1) d, gap.before i d, gap.after (j - 1) d);
      once = λ i j d lt within.
          grind (arith, below i d, here i d, above i d, below j d, here j d, above j d, h.once i j d, h.once i (j - 1) d, h.once (i - 1) (j - 1) d, absent i d, absent (j - 1) d);
      each = λ k d within. grind (arith, below k d, here k d, above k d, h.each k d, h.each (k - 1) d);
      few = omega (arith, longer);
    }

-- ---- the first free number

-- numbers are at least their places, where those before are
ids-high : (paths : List Kept) → AreKept paths → (k : ℕ) (d : Kept) → k < length paths → k ≤ (get_or paths k d).id
ids-high paths h zero d low = omega arith
ids-high paths h (suc k) d low =
    let before : k ≤ (get_or paths k d).id = ids-high paths h k d (omega arith) in
    let step : (get_or paths k d).id < (get_or paths (suc k) d).id = h.ascend k (suc k) d (omega arith) low in
    omega arith

-- it is the number of no path, and the place is the gap for it
pub IsGap-free : (paths : List Kept) (place : ℕ) → AreKept paths → IsFirstFree paths place → IsGap paths place place
IsGap-free paths place h free = record {
  in_range = free.in_range;
  before = λ k d lt. let e = free.before k d lt in omega (arith, e);
  after = λ k d le within.
      let high : place ≤ (get_or paths place d).id = ids-high paths h place d (omega arith) in
      let other : (get_or paths place d).id ≢ place = free.here (omega arith) d in
      grind (arith, h.ascend place k d, λ (same : place ≡ k). ap (λ i. (get_or paths i d).id) same);
}

-- ---- what the paths are seen as

pub AreShared-paths : (paths : List Kept) → AreKept paths → AreShared (map (numbered path_of) paths)
AreShared-paths paths h = record {
  ascend = λ i j d lt within.
      let j_low : j < length paths = omega (arith, length-map paths (numbered path_of)) in
      pair i j d lt j_low (λ a b. a.number < b.number) (λ e. h.ascend i j e lt j_low);
  once = λ i j d lt within.
      let j_low : j < length paths = omega (arith, length-map paths (numbered path_of)) in
      pair i j d lt j_low (λ a b. a.item.spec ≢ b.item.spec) (λ e. h.once i j e lt j_low);
  attached = All-map (λ (path : Numbered KeptPath). 1 ≤ path.item.files) (numbered path_of) paths (λ k d within. (h.each k d within).attached);
}
  where
    pair : (i j : ℕ) (d : Numbered KeptPath) → i < j → j < length paths → (R : Numbered KeptPath → Numbered KeptPath → Type 0)
        → ((e : Kept) → R (numbered path_of (get_or paths i e)) (numbered path_of (get_or paths j e)))
        → R (get_or (map (numbered path_of) paths) i d) (get_or (map (numbered path_of) paths) j d)
    pair i j d lt within R holds = by paths within holds
      where
        by : (xs : List Kept) → j < length xs → ((e : Kept) → R (numbered path_of (get_or xs i e)) (numbered path_of (get_or xs j e)))
            → R (get_or (map (numbered path_of) xs) i d) (get_or (map (numbered path_of) xs) j d)
        by [] low holds = absurd (omega arith)
        by (x ∷ xs) low holds =
            subst (λ a. R a (get_or (map (numbered path_of) (x ∷ xs)) j d)) (sym (get_or-map (numbered path_of) (x ∷ xs) i x d (omega arith)))
            (subst (λ b. R (numbered path_of (get_or (x ∷ xs) i x)) b) (sym (get_or-map (numbered path_of) (x ∷ xs) j x d low)) (holds x))
