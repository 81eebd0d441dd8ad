-- What a binary search among the entries finds.
use Rattle.std.proofs.Common.{ℕ, ◌≤◌, ◌≡◌, List, length, map, get_or, Result, Ok, Err, IfOk, IfErr, IsOk, IsSome, sym, ap, arith}
use Rattle.std.specs.List.Sorted.{IsSearchInRange, IsBinarySearchResult, IsNonDecreasingBy}
use Rattle.std.specs.Ordering.{nat_cmp, ordering_index}
use Rattle.std.proofs.lemmas.Cmp.{ranked}
use Rattle.std.proofs.lemmas.Bool.Decides.{nat_tests}
use Rattle.member_slots.specs.declared.members.Entry.{Entry}
use Rattle.member_slots.specs.Members.{item_at}
use Rattle.member_slots.specs.Entries.{AreEntries, IsPlace, IsGap, numbered, state_of}
use Rattle.member_slots.proofs.EntryLemmas.{item_at-gap}

module _ (entries : List Entry) (h : AreEntries entries) (number : ℕ) where
  -- the comparisons with the number rise along the entries, as a binary search asks
  comparisons_rise : IsNonDecreasingBy (λ (entry : Entry). ordering_index (nat_cmp entry.number number)) entries
  comparisons_rise i j d le within =
      let rise : (get_or entries i d).number ≤ (get_or entries j d).number = grind (arith, h.rising i j d, λ (same : i ≡ j). ap (λ k. (get_or entries k d).number) same) in
      grind (arith, nat_tests)

  -- the search ends at the place of the number, or at the gap for it
  pub searched : (r : Result ℕ ℕ) → IsSearchInRange r (length entries) → IsBinarySearchResult (λ (entry : Entry). nat_cmp entry.number number) entries r →
      record { found : IfOk r (IsPlace entries number); absent : IfErr r (IsGap entries number) }
  searched (Ok at) in_range equal = record {
    found = record {
      in_range = in_range;
      here = λ d. ranked _ number _ (sym (equal d));
      before = λ k d lt. grind (arith, h.rising k at d, ranked _ number _ (sym (equal d)));
      behind = λ k d lt within. grind (arith, h.rising at k d, ranked _ number _ (sym (equal d)));
    };
    absent = tt;
  }
  searched (Err at) in_range parted = record {
    found = tt;
    absent = record {
      in_range = in_range;
      before = λ k d lt. ranked _ number _ (sym ((parted comparisons_rise).0 k d (omega arith) lt));
      behind = λ k d le within. ranked _ number _ (sym ((parted comparisons_rise).1 k d le within));
    };
  }

-- where a member has the number, the search ends at a place
pub found_where_there : (entries : List Entry) (number : ℕ) (r : Result ℕ ℕ) → IfErr r (IsGap entries number) → IsSome (item_at number (map (numbered state_of) entries)) → IsOk r
found_where_there entries number (Ok place) absent there = grind arith
found_where_there entries number (Err place) absent there = grind (arith, item_at-gap state_of number entries place absent)
