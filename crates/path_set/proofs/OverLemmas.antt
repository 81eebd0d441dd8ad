-- The paths over members stand in order: what a search among them finds, and what one more or one fewer makes of their numbers.
use Rattle.std.proofs.Common.{ℕ, zero, suc, ◌+◌, ◌-◌, ◌<◌, ◌≤◌, ◌≡◌, ◌==◌, ◌⊎◌, inl, inr, Bool, true, false, cond, ◌||◌, not, ltb, leb, List, [], ◌∷◌, length, filter, take, drop, get_or, insert, Result, Ok, Err, IfOk, IfErr, refl, sym, ap, ◌∙◌, subst, arith}
use Rattle.std.proofs.Common.{eqb-true, ltb-true, ltb-false, leb-true, leb-false}
use Rattle.std.specs.declared.cmp.Ordering.{Ordering}
use Rattle.std.specs.declared.cmp.Ordering.TheVariants.{Less, Equal, Greater}
use Rattle.std.specs.Cmp.{IsTotalOrder}
use Rattle.std.specs.Ordering.{nat_cmp, ordering_then}
use Rattle.std.specs.List.{HoldsAt, list_any}
use Rattle.std.specs.List.Sorted.{IsStrictlySortedBy, IsNonDecreasingBy, IsPartitionPoint, IsBinarySearchResult, IsSearchInRange}
use Rattle.std.proofs.lemmas.Bool.{cond-true, cond-false}
use Rattle.std.proofs.lemmas.Bool.Decides.{nat_tests}
use Rattle.std.proofs.lemmas.Cmp.{ranked, on_total, then_total, nat_cmp_total}
use Rattle.std.proofs.lemmas.Map.Lookups.{CmpEqualImpliesEq, exact_unsigned, exact_pairs}
use Rattle.std.proofs.lemmas.Map.Keys.{Less-from_sorted}
use Rattle.std.proofs.lemmas.List.Kept.{IsStrictlySortedBy-filter}
use Rattle.key_pages.proofs.OrderLemmas.{rises, insert_at, sorted_insert}
use Rattle.file_model.specs.declared.paths.PathFormat.{PathFormat}
use Rattle.file_model.specs.declared.paths.PathSpec.{PathSpec}
use Rattle.path_set.specs.declared.by_member.PathOver.{PathOver}
use Rattle.path_set.specs.MemberSteps.{is_over}
use Rattle.path_set.specs.ByMember.{path_cmp, AreByMember, IsGapFor, numbers_of, with_number, without_number}
use Rattle.path_set.proofs.NumberLemmas.{with-twice, numbers-put, numbers-there, numbers-kept}

-- ---- their order

path_total : IsTotalOrder path_cmp
path_total = then_total (on_total (λ (path : PathOver). path.member) nat_cmp_total) (on_total (λ (path : PathOver). path.id) nat_cmp_total)

path_exact : CmpEqualImpliesEq path_cmp
path_exact a b same =
    ap (λ (pair : ℕ × ℕ). record { member = pair.0; id = pair.1 }) (exact_pairs nat_cmp nat_cmp exact_unsigned exact_unsigned (a.member, a.id) (b.member, b.id) same)

less-member : (a b : PathOver) → path_cmp a b ≡ Less → a.member ≤ b.member
less-member a b less = by (nat_cmp a.member b.member) refl less
  where
    by : (o : Ordering) → o ≡ nat_cmp a.member b.member → ordering_then o (nat_cmp a.id b.id) ≡ Less → a.member ≤ b.member
    by Less is less = let lt : a.member < b.member = ranked a.member b.member Less is in omega (arith, lt)
    by Equal is less = let same : a.member ≡ b.member = ranked a.member b.member Equal is in omega (arith, same)
    by Greater is less = absurd (let e : ◌≡◌ {A = Ordering} Greater Less = less in cc)

less-id : (a b : PathOver) → a.member ≡ b.member → path_cmp a b ≡ Less → a.id < b.id
less-id a b same less = by (nat_cmp a.member b.member) refl less
  where
    by : (o : Ordering) → o ≡ nat_cmp a.member b.member → ordering_then o (nat_cmp a.id b.id) ≡ Less → a.id < b.id
    by Less is less = absurd (let lt : a.member < b.member = ranked a.member b.member Less is in omega (arith, lt, same))
    by Equal is less = ranked a.id b.id Less (sym less)
    by Greater is less = absurd (let e : ◌≡◌ {A = Ordering} Greater Less = less in cc)

greater-id : (a b : PathOver) → a.member ≡ b.member → path_cmp a b ≡ Greater → b.id < a.id
greater-id a b same greater = by (nat_cmp a.member b.member) refl greater
  where
    by : (o : Ordering) → o ≡ nat_cmp a.member b.member → ordering_then o (nat_cmp a.id b.id) ≡ Greater → b.id < a.id
    by Less is greater = absurd (let e : ◌≡◌ {A = Ordering} Less Greater = greater in cc)
    by Equal is greater = ranked a.id b.id Greater (sym greater)
    by Greater is greater = absurd (let gt : b.member < a.member = ranked a.member b.member Greater is in omega (arith, gt, same))

pub none-ordered : AreByMember []
unfolding IsStrictlySortedBy
none-ordered = tt

-- ---- those over a member

pub members-rise : (paths : List PathOver) → AreByMember paths → IsNonDecreasingBy (λ (path : PathOver). path.member) paths
members-rise paths sorted i j d le low = by (below i j)
  where
    below : (a b : ℕ) → (a < b) ⊎ (b ≤ a)
    below a b = grind arith

    by : (i < j) ⊎ (j ≤ i) → (get_or paths i d).member ≤ (get_or paths j d).member
    by (inl lt) = less-member (get_or paths i d) (get_or paths j d) (Less-from_sorted path_cmp paths i j d sorted lt low)
    by (inr ge) = let same : i ≡ j = omega (arith, le, ge) in omega (arith, ap (λ (k : ℕ). (get_or paths k d).member) same)

-- those with lesser members, those of the member, and those with greater ones
between : (member : ℕ) (paths : List PathOver) (low count : ℕ) → ((k : ℕ) (d : PathOver) → k < low → (get_or paths k d).member < member)
    → ((k : ℕ) (d : PathOver) → low ≤ k → k < low + count → (get_or paths k d).member ≡ member)
    → ((k : ℕ) (d : PathOver) → low + count ≤ k → k < length paths → member < (get_or paths k d).member) → low + count ≤ length paths
    → take count (drop low paths) ≡ filter (λ (path : PathOver). path.member == member) paths
between member [] zero zero below here above within = refl
between member [] zero (suc count) below here above within = absurd (omega (arith, within))
between member [] (suc low) count below here above within = absurd (omega (arith, within))
between member (x ∷ paths) zero zero below here above within =
    between member paths zero zero (λ k d lt. absurd (omega (arith, lt))) (λ k d from upto. absurd (omega (arith, from, upto))) (λ k d from upto. above (suc k) d (omega arith) (omega (arith, upto))) (omega arith)
    ∙ sym (cond-false (x.member == member) (x ∷ filter (λ (path : PathOver). path.member == member) paths) (filter (λ (path : PathOver). path.member == member) paths)
    (let lt = above zero x (omega arith) (omega arith) in let e : (x.member == member) ≡ false = grind (arith, nat_tests) in e))
between member (x ∷ paths) zero (suc count) below here above within =
    ap (λ (w : List PathOver). x ∷ w) (between member paths zero count (λ k d lt. absurd (omega (arith, lt))) (λ k d from upto. here (suc k) d (omega arith) (omega (arith, upto)))
    (λ k d from upto. above (suc k) d (omega (arith, from)) (omega (arith, upto))) (omega (arith, within)))
    ∙ sym (cond-true (x.member == member) (x ∷ filter (λ (path : PathOver). path.member == member) paths) (filter (λ (path : PathOver). path.member == member) paths)
    (let same = here zero x (omega arith) (omega arith) in let e : (x.member == member) ≡ true = grind (arith, nat_tests) in e))
between member (x ∷ paths) (suc low) count below here above within =
    between member paths low count (λ k d lt. below (suc k) d (omega (arith, lt))) (λ k d from upto. here (suc k) d (omega (arith, from)) (omega (arith, upto)))
    (λ k d from upto. above (suc k) d (omega (arith, from)) (omega (arith, upto))) (omega (arith, within))
    ∙ sym (cond-false (x.member == member) (x ∷ filter (λ (path : PathOver). path.member == member) paths) (filter (λ (path : PathOver). path.member == member) paths)
    (let lt = below zero x (omega arith) in let e : (x.member == member) ≡ false = grind (arith, nat_tests) in e))

module _ (member : ℕ) (paths : List PathOver) (low high : ℕ) (first : IsPartitionPoint (λ (path : PathOver). ltb path.member member ≡ true) (λ (path : PathOver). ltb path.member member ≡ false) paths low)
    (last : IsPartitionPoint (λ (path : PathOver). leb path.member member ≡ true) (λ (path : PathOver). leb path.member member ≡ false) paths high) (low_within : low ≤ length paths) (high_within : high ≤ length paths) where
  pub in-order : low ≤ high
  in-order = by (below high low)
    where
      below : (a b : ℕ) → (a < b) ⊎ (b ≤ a)
      below a b = grind arith

      some : (all : List PathOver) → 0 < length all → PathOver
      some [] low = absurd (omega (arith, low))
      some (x ∷ all) low = x

      by : (high < low) ⊎ (low ≤ high) → low ≤ high
      by (inr le) = le
      by (inl lt) =
          let d = some paths (omega (arith, lt, low_within)) in
          let small : (get_or paths high d).member < member = ltb-true (get_or paths high d).member member (first.0 high d (omega arith) lt) in
          let great : member < (get_or paths high d).member = leb-false (get_or paths high d).member member (last.1 high d (omega arith) (omega (arith, lt, low_within))) in
          absurd (omega (arith, small, great))

  pub those-between : take (high - low) (drop low paths) ≡ filter (λ (path : PathOver). path.member == member) paths
  those-between =
      let ordered = in-order in
      between member paths low (high - low) (λ k d lt. ltb-true (get_or paths k d).member member (first.0 k d (omega arith) lt))
      (λ k d from upto.
      let most = leb-true (get_or paths k d).member member (last.0 k d (omega arith) (omega (arith, upto, ordered))) in
      let least = ltb-false (get_or paths k d).member member (first.1 k d from (omega (arith, upto, ordered, high_within))) in
      omega (arith, most, least))
      (λ k d from upto. leb-false (get_or paths k d).member member (last.1 k d (omega (arith, from, ordered)) upto)) (omega (arith, ordered, high_within))

-- ---- where one is, and what it makes of the numbers

pub placed : (path : PathOver) (paths : List PathOver) (r : Result ℕ ℕ) → AreByMember paths → IsSearchInRange r (length paths) → IsBinarySearchResult (λ (other : PathOver). path_cmp other path) paths r
    → record { within : IfOk r (λ place. place < length paths); found : IfOk r (HoldsAt (λ (other : PathOver). other ≡ path) paths); absent : IfErr r (IsGapFor path paths) }
placed path paths (Ok at) sorted in_range equal = record { within = in_range; found = λ d. path_exact (get_or paths at d) path (equal d); absent = tt }
placed path paths (Err at) sorted in_range parted = record {
  within = tt;
  found = tt;
  absent = record { in_range = in_range; parted = parted (rises path_cmp path_total path paths sorted) };
}

same-member : (a b member : ℕ) → (a == member) ≡ true → (b == member) ≡ true → a ≡ b
same-member a b member first second = eqb-true a member first ∙ sym (eqb-true b member second)

pub put-there : (path : PathOver) (paths : List PathOver) (place : ℕ) → AreByMember paths → place < length paths → HoldsAt (λ (other : PathOver). other ≡ path) paths place
    → (member : ℕ) → numbers_of member paths ≡ cond (path.member == member) (with_number path.id (numbers_of member paths)) (numbers_of member paths)
put-there path paths place sorted low here member =
    numbers-there (λ (other : PathOver). other.id) (λ (other : PathOver). other.member == member) path paths place low here
    (λ own k d lt is. less-id (get_or paths k d) path (same-member (get_or paths k d).member path.member member is own)
    (subst (λ (other : PathOver). path_cmp (get_or paths k d) other ≡ Less) (here d) (Less-from_sorted path_cmp paths k place d sorted lt low)))

pub put-gap : (path : PathOver) (paths : List PathOver) (place : ℕ) → IsGapFor path paths place
    → (member : ℕ) → numbers_of member (insert paths place path) ≡ cond (path.member == member) (with_number path.id (numbers_of member paths)) (numbers_of member paths)
put-gap path paths place gap member =
    numbers-put (λ (other : PathOver). other.id) (λ (other : PathOver). other.member == member) path paths place
    (λ own k d lt low is. less-id (get_or paths k d) path (same-member (get_or paths k d).member path.member member is own) (gap.parted.0 k d (omega arith) lt))
    (λ own k d le low is. greater-id (get_or paths k d) path (same-member (get_or paths k d).member path.member member is own) (gap.parted.1 k d le low))

pub put-ordered : (path : PathOver) (paths : List PathOver) (place : ℕ) → AreByMember paths → IsGapFor path paths place → AreByMember (insert paths place path)
put-ordered path paths place sorted gap = subst AreByMember (insert_at path_cmp path_total path paths place gap.parted) (sorted_insert path_cmp path_total path paths sorted)

pub removed-ordered : (id : ℕ) (paths : List PathOver) → AreByMember paths → AreByMember (filter (λ (path : PathOver). not (path.id == id)) paths)
removed-ordered id paths sorted = IsStrictlySortedBy-filter path_cmp (λ (path : PathOver). not (path.id == id)) paths sorted

pub removed-numbers : (id : ℕ) (paths : List PathOver) (member : ℕ) → numbers_of member (filter (λ (path : PathOver). not (path.id == id)) paths) ≡ without_number id (numbers_of member paths)
removed-numbers id paths member = numbers-kept (λ (path : PathOver). path.id) (λ (path : PathOver). path.member == member) (λ k. not (k == id)) paths

-- ---- a path is put where the members of its formats are

abbrev pub with_each : (member n : ℕ) → List PathFormat → List ℕ → List ℕ
with_each member n [] ks = ks
with_each member n (format ∷ formats) ks = with_each member n formats (cond (format.member == member) (with_number n ks) ks)

each-is : (member n : ℕ) (formats : List PathFormat) (ks : List ℕ) → with_each member n formats ks ≡ cond (list_any (λ (format : PathFormat). format.member == member) formats) (with_number n ks) ks
each-is member n [] ks = refl
each-is member n (format ∷ formats) ks = by (format.member == member) (each-is member n formats ks) (each-is member n formats (with_number n ks))
  where
    once : (b : Bool) → cond b (with_number n (with_number n ks)) (with_number n ks) ≡ with_number n ks
    once true = with-twice n ks
    once false = refl

    by : (b : Bool) → with_each member n formats ks ≡ cond (list_any (λ (f : PathFormat). f.member == member) formats) (with_number n ks) ks
        → with_each member n formats (with_number n ks) ≡ cond (list_any (λ (f : PathFormat). f.member == member) formats) (with_number n (with_number n ks)) (with_number n ks)
        → with_each member n formats (cond b (with_number n ks) ks) ≡ cond (b || list_any (λ (f : PathFormat). f.member == member) formats) (with_number n ks) ks
    by true rest again = again ∙ once (list_any (λ (f : PathFormat). f.member == member) formats)
    by false rest again = rest

-- those of the formats at this place and after it are still to be put
pub record IsAdding (n : ℕ) (formats : List PathFormat) (start : List PathOver) (place : ℕ) (now : List PathOver) (used room : ℕ) : Type 0 where
  pub ordered : AreByMember now
  pub numbers : (member : ℕ) → with_each member n (drop place formats) (numbers_of member now) ≡ with_each member n formats (numbers_of member start)
  pub left : used + length formats ≤ room + place

pub adding-first : (n : ℕ) (formats : List PathFormat) (start now : List PathOver) (used room : ℕ) → now ≡ start → AreByMember start → used + length formats ≤ room
    → IsAdding n formats start 0 now used room
adding-first n formats start now used room same sorted left = record {
  ordered = subst AreByMember (sym same) sorted;
  numbers = λ member. ap (λ (w : List PathOver). with_each member n formats (numbers_of member w)) same;
  left = omega (arith, left);
}

drop-first : (xs : List PathFormat) (i : ℕ) (d : PathFormat) → i < length xs → drop i xs ≡ get_or xs i d ∷ drop (i + 1) xs
drop-first [] i d low = absurd (omega arith)
drop-first (x ∷ xs) zero d low = refl
drop-first (x ∷ xs) (suc i) d low = drop-first xs i d (omega arith) ∙ ap (λ (n : ℕ). get_or xs i d ∷ drop n (x ∷ xs)) (let e : suc (i + 1) ≡ suc i + 1 = omega arith in e)

drop-all : (xs : List PathFormat) (i : ℕ) → length xs ≤ i → drop i xs ≡ []
drop-all [] zero high = refl
drop-all [] (suc i) high = refl
drop-all (x ∷ xs) zero high = absurd (omega arith)
drop-all (x ∷ xs) (suc i) high = drop-all xs i (omega arith)

pub adding-next : (n : ℕ) (formats : List PathFormat) (start : List PathOver) (place : ℕ) (now next : List PathOver) (used room used_next room_next : ℕ) (d : PathFormat)
    → IsAdding n formats start place now used room → place < length formats → AreByMember next
    → ((member : ℕ) → numbers_of member next ≡ cond ((get_or formats place d).member == member) (with_number n (numbers_of member now)) (numbers_of member now))
    → room ≤ room_next → used_next ≤ used + 1 → IsAdding n formats start (place + 1) next used_next room_next
adding-next n formats start place now next used room used_next room_next d adding low sorted step more one = record {
  ordered = sorted;
  numbers = λ member.
      ap (λ (ks : List ℕ). with_each member n (drop (place + 1) formats) ks) (step member)
      ∙ ap (λ (w : List PathFormat). with_each member n w (numbers_of member now)) (sym (drop-first formats place d low))
      ∙ adding.numbers member;
  left = let left = adding.left in omega (arith, left, more, one);
}

pub adding-end : (n : ℕ) (formats : List PathFormat) (start : List PathOver) (place : ℕ) (now : List PathOver) (used room : ℕ) (spec : PathSpec) → IsAdding n formats start place now used room
    → length formats ≤ place → formats ≡ spec.formats
    → (member : ℕ) → numbers_of member now ≡ cond (is_over member spec) (with_number n (numbers_of member start)) (numbers_of member start)
adding-end n formats start place now used room spec adding high same member =
    ap (λ (w : List PathFormat). with_each member n w (numbers_of member now)) (sym (drop-all formats place high))
    ∙ adding.numbers member
    ∙ each-is member n formats (numbers_of member start)
    ∙ ap (λ (w : List PathFormat). cond (list_any (λ (format : PathFormat). format.member == member) w) (with_number n (numbers_of member start)) (numbers_of member start)) same
