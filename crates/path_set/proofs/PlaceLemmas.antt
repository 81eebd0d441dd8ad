-- What the place of a number in the list of paths says of what they are seen as.
use Rattle.std.proofs.Common.{ℕ, zero, suc, ◌<◌, ◌≡◌, List, [], ◌∷◌, length, map, set, get_or, Some, None, arith, refl}
use Rattle.std.specs.List.{insert, remove}
use Rattle.std.proofs.lemmas.Bool.Decides.{nat_tests}
use Rattle.path_set.specs.declared.kept.Kept.{Kept}
use Rattle.member_slots.specs.Members.{item_at, with_item, put_item, without_item}
use Rattle.path_set.specs.Entries.{numbered, IsPlace, IsGap}

-- a place after the first path is a place of the paths after it
pub IsPlace-tail : (kept : Kept) (paths : List Kept) (number place : ℕ) → IsPlace (kept ∷ paths) number (suc place) → IsPlace paths number place
IsPlace-tail kept paths number place h = record {
  in_range = omega (arith, h.in_range);
  here = λ d. h.here d;
  before = λ k d lt. h.before (suc k) d (omega arith);
  after = λ k d lt within. h.after (suc k) d (omega arith) (omega arith);
}

-- a gap after the first path is a gap of the paths after it
IsGap-tail : (kept : Kept) (paths : List Kept) (number place : ℕ) → IsGap (kept ∷ paths) number (suc place) → IsGap paths number place
IsGap-tail kept paths number place h = record {
  in_range = omega (arith, h.in_range);
  before = λ k d lt. h.before (suc k) d (omega arith);
  after = λ k d le within. h.after (suc k) d (omega arith) (omega arith);
}

-- no path is left out where all have other numbers
module _ {A : Type 0} (part : Kept → A) (number : ℕ) where
  without_item-above : (paths : List Kept) → ((k : ℕ) (d : Kept) → k < length paths → number < (get_or paths k d).id) → without_item number (map (numbered part) paths) ≡ map (numbered part) paths
  without_item-above [] above = refl
  without_item-above (kept ∷ paths) above =
      grind (arith, nat_tests, above zero kept (omega arith), without_item-above paths (λ k d within. above (suc k) d (omega arith)))

-- at the place of the number
module _ {A : Type 0} (part : Kept → A) (number : ℕ) where
  -- its path is found
  pub item_at-place : (paths : List Kept) (place : ℕ) → IsPlace paths number place → (d : Kept) → item_at number (map (numbered part) paths) ≡ Some (part (get_or paths place d))
  item_at-place [] place h d = absurd (omega (arith, h.in_range))
  item_at-place (kept ∷ paths) zero h d = grind (arith, nat_tests, h.here d)
  item_at-place (kept ∷ paths) (suc place) h d =
      grind (arith, nat_tests, h.before zero d, item_at-place paths place (IsPlace-tail kept paths number place h) d)

  -- another path there is another item
  pub with_item-place : (paths : List Kept) (place : ℕ) (new : Kept) → IsPlace paths number place → new.id ≡ number →
      with_item number (part new) (map (numbered part) paths) ≡ map (numbered part) (set paths place new)
  with_item-place [] place new h same = absurd (omega (arith, h.in_range))
  with_item-place (kept ∷ paths) zero new h same = grind (arith, nat_tests, h.here kept)
  with_item-place (kept ∷ paths) (suc place) new h same =
      grind (arith, nat_tests, h.before zero kept, with_item-place paths place new (IsPlace-tail kept paths number place h) same)

  -- without the path the item is gone
  pub without_item-place : (paths : List Kept) (place : ℕ) → IsPlace paths number place →
      without_item number (map (numbered part) paths) ≡ map (numbered part) (remove paths place)
  without_item-place [] place h = absurd (omega (arith, h.in_range))
  without_item-place (kept ∷ paths) zero h =
      grind (arith, nat_tests, h.here kept, without_item-above part number paths (λ k d within. h.after (suc k) d (omega arith) (omega arith)))
  without_item-place (kept ∷ paths) (suc place) h =
      grind (arith, nat_tests, h.before zero kept, without_item-place paths place (IsPlace-tail kept paths number place h))

-- at the gap for the number
module _ {A : Type 0} (part : Kept → A) (number : ℕ) where
  -- nothing is found
  pub item_at-gap : (paths : List Kept) (place : ℕ) → IsGap paths number place → item_at number (map (numbered part) paths) ≡ None
  item_at-gap [] place h = refl
  item_at-gap (kept ∷ paths) zero h =
      grind (
        arith,
        nat_tests,
        h.after zero kept (omega arith) (omega arith),
        item_at-gap paths zero (record {
          in_range = omega arith;
          before = λ k d lt. absurd (omega arith);
          after = λ k d le within. h.after (suc k) d (omega arith) (omega arith);
        }),
      )
  item_at-gap (kept ∷ paths) (suc place) h =
      grind (arith, nat_tests, h.before zero kept, item_at-gap paths place (IsGap-tail kept paths number place h))

  -- a new path there is the item put in order
  pub put_item-gap : (paths : List Kept) (place : ℕ) (new : Kept) → IsGap paths number place → new.id ≡ number →
      put_item number (part new) (map (numbered part) paths) ≡ map (numbered part) (insert paths place new)
  put_item-gap [] place new h same = grind (arith, nat_tests, h.in_range)
  put_item-gap (kept ∷ paths) zero new h same = grind (arith, nat_tests, h.after zero kept (omega arith) (omega arith))
  put_item-gap (kept ∷ paths) (suc place) new h same =
      grind (arith, nat_tests, h.before zero kept, put_item-gap paths place new (IsGap-tail kept paths number place h) same)
