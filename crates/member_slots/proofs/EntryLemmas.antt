-- What the place of a number in the list of entries says of the members.
use Rattle.std.proofs.Common.{ℕ, zero, suc, ◌<◌, ◌≡◌, List, [], ◌∷◌, length, map, set, get_or, Some, None, arith, refl}
use Rattle.std.specs.List.{insert, remove}
use Rattle.std.proofs.lemmas.Bool.Decides.{nat_tests}
use Rattle.member_slots.specs.declared.members.Entry.{Entry}
use Rattle.member_slots.specs.Members.{item_at, with_item, put_item, without_item}
use Rattle.member_slots.specs.Entries.{numbered, IsPlace, IsGap}

-- a place behind the first entry is a place of the entries behind it
IsPlace-tail : (entry : Entry) (entries : List Entry) (number place : ℕ) → IsPlace (entry ∷ entries) number (suc place) → IsPlace entries number place
IsPlace-tail entry entries number place h = record {
  in_range = omega (arith, h.in_range);
  here = λ d. h.here d;
  before = λ k d lt. h.before (suc k) d (omega arith);
  behind = λ k d lt within. h.behind (suc k) d (omega arith) (omega arith);
}

-- a gap behind the first entry is a gap of the entries behind it
IsGap-tail : (entry : Entry) (entries : List Entry) (number place : ℕ) → IsGap (entry ∷ entries) number (suc place) → IsGap entries number place
IsGap-tail entry entries number place h = record {
  in_range = omega (arith, h.in_range);
  before = λ k d lt. h.before (suc k) d (omega arith);
  behind = λ k d le within. h.behind (suc k) d (omega arith) (omega arith);
}

-- no entry is left out where all have other numbers
module _ {A : Type 0} (part : Entry → A) (number : ℕ) where
  without_item-above : (entries : List Entry) → ((k : ℕ) (d : Entry) → k < length entries → number < (get_or entries k d).number) → without_item number (map (numbered part) entries) ≡ map (numbered part) entries
  without_item-above [] above = refl
  without_item-above (entry ∷ entries) above =
      grind (arith, nat_tests, above zero entry (omega arith), without_item-above entries (λ k d within. above (suc k) d (omega arith)))

-- at the place of the number
module _ {A : Type 0} (part : Entry → A) (number : ℕ) where
  -- its entry is found
  pub item_at-place : (entries : List Entry) (place : ℕ) → IsPlace entries number place → (d : Entry) → item_at number (map (numbered part) entries) ≡ Some (part (get_or entries place d))
  item_at-place [] place h d = absurd (omega (arith, h.in_range))
  item_at-place (entry ∷ entries) zero h d = grind (arith, nat_tests, h.here d)
  item_at-place (entry ∷ entries) (suc place) h d =
      grind (arith, nat_tests, h.before zero d, item_at-place entries place (IsPlace-tail entry entries number place h) d)

  -- another entry there is another item
  pub with_item-place : (entries : List Entry) (place : ℕ) (new : Entry) → IsPlace entries number place → new.number ≡ number →
      with_item number (part new) (map (numbered part) entries) ≡ map (numbered part) (set entries place new)
  with_item-place [] place new h same = absurd (omega (arith, h.in_range))
  with_item-place (entry ∷ entries) zero new h same = grind (arith, nat_tests, h.here entry)
  with_item-place (entry ∷ entries) (suc place) new h same =
      grind (arith, nat_tests, h.before zero entry, with_item-place entries place new (IsPlace-tail entry entries number place h) same)

  -- and the item put in place of the one that is there
  pub put_item-place : (entries : List Entry) (place : ℕ) (new : Entry) → IsPlace entries number place → new.number ≡ number →
      put_item number (part new) (map (numbered part) entries) ≡ map (numbered part) (set entries place new)
  put_item-place [] place new h same = absurd (omega (arith, h.in_range))
  put_item-place (entry ∷ entries) zero new h same = grind (arith, nat_tests, h.here entry)
  put_item-place (entry ∷ entries) (suc place) new h same =
      grind (arith, nat_tests, h.before zero entry, put_item-place entries place new (IsPlace-tail entry entries number place h) same)

  -- without the entry the item is gone
  pub without_item-place : (entries : List Entry) (place : ℕ) → IsPlace entries number place →
      without_item number (map (numbered part) entries) ≡ map (numbered part) (remove entries place)
  without_item-place [] place h = absurd (omega (arith, h.in_range))
  without_item-place (entry ∷ entries) zero h =
      grind (arith, nat_tests, h.here entry, without_item-above part number entries (λ k d within. h.behind (suc k) d (omega arith) (omega arith)))
  without_item-place (entry ∷ entries) (suc place) h =
      grind (arith, nat_tests, h.before zero entry, without_item-place entries place (IsPlace-tail entry entries number place h))

-- at the gap for the number
module _ {A : Type 0} (part : Entry → A) (number : ℕ) where
  -- nothing is found
  pub item_at-gap : (entries : List Entry) (place : ℕ) → IsGap entries number place → item_at number (map (numbered part) entries) ≡ None
  item_at-gap [] place h = refl
  item_at-gap (entry ∷ entries) zero h =
      grind (
        arith,
        nat_tests,
        h.behind zero entry (omega arith) (omega arith),
        item_at-gap entries zero (record {
          in_range = omega arith;
          before = λ k d lt. absurd (omega arith);
          behind = λ k d le within. h.behind (suc k) d (omega arith) (omega arith);
        }),
      )
  item_at-gap (entry ∷ entries) (suc place) h =
      grind (arith, nat_tests, h.before zero entry, item_at-gap entries place (IsGap-tail entry entries number place h))

  -- nothing is left out
  pub without_item-gap : (entries : List Entry) (place : ℕ) → IsGap entries number place → without_item number (map (numbered part) entries) ≡ map (numbered part) entries
  without_item-gap [] place h = refl
  without_item-gap (entry ∷ entries) zero h = without_item-above part number (entry ∷ entries) (λ k d within. h.behind k d (omega arith) within)
  without_item-gap (entry ∷ entries) (suc place) h =
      grind (arith, nat_tests, h.before zero entry, without_item-gap entries place (IsGap-tail entry entries number place h))

  -- a new entry there is the item put in order
  pub put_item-gap : (entries : List Entry) (place : ℕ) (new : Entry) → IsGap entries number place → new.number ≡ number →
      put_item number (part new) (map (numbered part) entries) ≡ map (numbered part) (insert entries place new)
  put_item-gap [] place new h same = grind (arith, nat_tests, h.in_range)
  put_item-gap (entry ∷ entries) zero new h same = grind (arith, nat_tests, h.behind zero entry (omega arith) (omega arith))
  put_item-gap (entry ∷ entries) (suc place) new h same =
      grind (arith, nat_tests, h.before zero entry, put_item-gap entries place new (IsGap-tail entry entries number place h) same)
