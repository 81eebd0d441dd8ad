-- What a binary search among the paths finds.
use Rattle.std.proofs.Common.{ℕ, ◌≤◌, ◌≡◌, List, length, map, get_or, Result, Ok, Err, IfOk, IfErr, IsOk, IsSome, sym, ap, arith}
use Rattle.std.specs.List.Sorted.{IsSearchInRange, IsBinarySearchResult, IsNonDecreasingBy}
use Rattle.std.specs.Ordering.{nat_cmp, ordering_index}
use Rattle.std.proofs.lemmas.Cmp.{ranked}
use Rattle.std.proofs.lemmas.Bool.Decides.{nat_tests}
use Rattle.path_set.specs.declared.kept.Kept.{Kept}
use Rattle.member_slots.specs.Members.{item_at}
use Rattle.path_set.specs.Entries.{AreKept, IsPlace, IsGap, numbered, path_of}
use Rattle.path_set.proofs.PlaceLemmas.{item_at-gap}

module _ (paths : List Kept) (h : AreKept paths) (number : ℕ) where
  -- the comparisons with the number rise along the paths, as a binary search asks
  comparisons_rise : IsNonDecreasingBy (λ (kept : Kept). ordering_index (nat_cmp kept.id number)) paths
  comparisons_rise i j d le within =
      let rise : (get_or paths i d).id ≤ (get_or paths j d).id = grind (arith, h.ascend i j d, λ (same : i ≡ j). ap (λ k. (get_or paths k d).id) same) in
      grind (arith, nat_tests)

  -- the search ends at the place of the number, or at the gap for it
  pub searched : (r : Result ℕ ℕ) → IsSearchInRange r (length paths) → IsBinarySearchResult (λ (kept : Kept). nat_cmp kept.id number) paths r →
      record { found : IfOk r (IsPlace paths number); absent : IfErr r (IsGap paths number) }
  searched (Ok at) in_range equal = record {
    found = record {
      in_range = in_range;
      here = λ d. ranked _ number _ (sym (equal d));
      before = λ k d lt. grind (arith, h.ascend k at d, ranked _ number _ (sym (equal d)));
      after = λ k d lt within. grind (arith, h.ascend at k d, ranked _ number _ (sym (equal d)));
    };
    absent = tt;
  }
  searched (Err at) in_range parted = record {
    found = tt;
    absent = record {
      in_range = in_range;
      before = λ k d lt. ranked _ number _ (sym ((parted comparisons_rise).0 k d (omega arith) lt));
      after = λ k d le within. ranked _ number _ (sym ((parted comparisons_rise).1 k d le within));
    };
  }

-- where a path has the number, the search ends at a place
pub found_where_there : (paths : List Kept) (number : ℕ) (r : Result ℕ ℕ) → IfErr r (IsGap paths number) → IsSome (item_at number (map (numbered path_of) paths)) → IsOk r
found_where_there paths number (Ok place) absent there = grind arith
found_where_there paths number (Err place) absent there = grind (arith, item_at-gap path_of number paths place absent)
