-- Locks on shelves: what a shelf has of all locks, and what becomes of all where one shelf gains or loses a lock.
use Rattle.std.proofs.Common.{◌≡◌, ℕ, ◌+◌, ◌<◌, ◌≤◌, ◌%◌, ◌==◌, Bool, true, false, not, cond, Option, Some, None, List, [], ◌∷◌, ◌++◌, length, get_or, set, replicate, refl, sym, ap, ◌∙◌, zero, suc, arith, subst, append-nil}
use Rattle.std.specs.List.{filter, AllByRecursion}
use Rattle.std.specs.List.Sorted.{IsStrictlySortedBy}
use Rattle.std.specs.Ordering.{is_eq, nat_cmp}
use Rattle.std.specs.declared.cmp.Ordering.{Ordering}
use Rattle.std.specs.declared.cmp.Ordering.TheVariants.{Less, Equal, Greater}
use Rattle.std.proofs.lemmas.Bool.Decides.{nat_tests}
use Rattle.std.proofs.lemmas.List.{length-set}
use Rattle.std.proofs.lemmas.List.Elements.{filter-append}
use Rattle.std.proofs.lemmas.List.Kept.{IsStrictlySortedBy-filter}
use Rattle.std.proofs.lemmas.Nat.{mod_below}
use Rattle.lock_table.specs.declared.lock.Lock.{Lock}
use Rattle.lock_table.specs.declared.part.Part.{Part}
use Rattle.lock_table.specs.declared.part.Part.TheVariants.{OfJob, Reaching, InMember, OnRecord}
use Rattle.lock_table.specs.Lock.{is_boundary_in, lock_cmp}
use Rattle.lock_table.specs.Table.{in_order, least_job, with_lock, without_lock}
use Rattle.lock_table.specs.Index.{is_part, lesser}
use Rattle.lock_table.specs.Shelves.{all_on, belongs, least_on, part_job, shelf_at, AreShelved, AreShelvedFrom, IsShelfOf, IsShelved}
use Rattle.lock_table.proofs.ByRecord.{eq_is, least-ordered, least-two_lists}
use Rattle.lock_table.proofs.Counts.{length-filter-not}
use Rattle.lock_table.proofs.InOrder.{IsStrictlySortedBy-in_order, IsStrictlySortedBy-with_item, each-filter, each-with_item, filter-all, filter-in_order, filter-with_item, fold-with_item, in_order-sorted, with_item-swap, with_item-twice}
use Rattle.lock_table.proofs.Kept.{filter-swap, filter-wider, length-filter-≤}
use Rattle.lock_table.proofs.Locks.{lock_cmp-same, lock_cmp-total, nat_cmp_equal, then_equal}
use Rattle.lock_table.proofs.Sides.{each_map, filter-out}

-- ---- a lock belongs on one shelf
same_place : (n p : ℕ) → n ≡ p → (n == p) ≡ true
same_place n p h = grind (arith, nat_tests)

on_earlier : (n p q : ℕ) → q < p → (n == p) ≡ true → (n == q) ≡ false
on_earlier n p q l h = grind (arith, nat_tests)

on_later : (n p q : ℕ) → p < q → (n == p) ≡ true → (n == q) ≡ false
on_later n p q l h = grind (arith, nat_tests)

module _ (count : ℕ) where
  not_earlier : (place other : ℕ) → other < place → (shelf : List Lock) → AllByRecursion (λ l. belongs count place l ≡ true) shelf → AllByRecursion (λ l. belongs count other l ≡ false) shelf
  not_earlier place other less shelf h = each_map (λ l. belongs count place l ≡ true) (λ l. belongs count other l ≡ false) (λ (l : Lock) e. on_earlier (l.job % count) place other less e) shelf h

  not_later : (place other : ℕ) → place < other → (shelf : List Lock) → AllByRecursion (λ l. belongs count place l ≡ true) shelf → AllByRecursion (λ l. belongs count other l ≡ false) shelf
  not_later place other less shelf h = each_map (λ l. belongs count place l ≡ true) (λ l. belongs count other l ≡ false) (λ (l : Lock) e. on_later (l.job % count) place other less e) shelf h

  -- ---- what a shelf has of all locks
  none_from : (place from : ℕ) (shelves : List (List Lock)) → place < from → AreShelvedFrom count from shelves → filter (belongs count place) (all_on shelves) ≡ []
  none_from place from [] less h = refl
  none_from place from (shelf ∷ shelves) less h =
      filter-append (belongs count place) shelf (all_on shelves)
      ∙ ap (λ xs. xs ++ filter (belongs count place) (all_on shelves)) (filter-out (belongs count place) shelf (not_earlier from place less shelf h.0.here))
      ∙ none_from place (from + 1) shelves (omega arith) h.1

  shelf-is : (shelves : List (List Lock)) (from k : ℕ) → AreShelvedFrom count from shelves → k < length shelves → filter (belongs count (from + k)) (all_on shelves) ≡ get_or shelves k []
  shelf-is [] from k h within = absurd (omega arith)
  shelf-is (shelf ∷ shelves) from zero h within =
      let same : from ≡ from + 0 = omega arith in
      subst (λ p. filter (belongs count p) (shelf ++ all_on shelves) ≡ shelf) same
      (filter-append (belongs count from) shelf (all_on shelves)
      ∙ ap (λ xs. xs ++ filter (belongs count from) (all_on shelves)) (filter-all (belongs count from) shelf h.0.here)
      ∙ ap (λ ys. shelf ++ ys) (none_from from (from + 1) shelves (omega arith) h.1)
      ∙ append-nil shelf)
  shelf-is (shelf ∷ shelves) from (suc k) h within =
      let same : (from + 1) + k ≡ from + suc k = omega arith in
      subst (λ p. filter (belongs count p) (shelf ++ all_on shelves) ≡ get_or shelves k []) same
      (filter-append (belongs count ((from + 1) + k)) shelf (all_on shelves)
      ∙ ap (λ xs. xs ++ filter (belongs count ((from + 1) + k)) (all_on shelves)) (filter-out (belongs count ((from + 1) + k)) shelf (not_later from ((from + 1) + k) (omega arith) shelf h.0.here))
      ∙ shelf-is shelves (from + 1) k h.1 (omega arith))

  pub shelf-sorted : (shelves : List (List Lock)) (from k : ℕ) → AreShelvedFrom count from shelves → k < length shelves → IsStrictlySortedBy lock_cmp (get_or shelves k [])
  shelf-sorted [] from k h within = absurd (omega arith)
  shelf-sorted (shelf ∷ shelves) from zero h within = h.0.ordered
  shelf-sorted (shelf ∷ shelves) from (suc k) h within = shelf-sorted shelves (from + 1) k h.1 (omega arith)

  -- ---- a shelf with one lock more
  put-shelved : (lock : Lock) (shelves : List (List Lock)) (from k : ℕ) → AreShelvedFrom count from shelves → k < length shelves → belongs count (from + k) lock ≡ true → AreShelvedFrom count from (set shelves k (with_lock lock (get_or shelves k [])))
  put-shelved lock [] from k h within b = absurd (omega arith)
  put-shelved lock (shelf ∷ shelves) from zero h within b =
      let same : from + 0 ≡ from = omega arith in (
        record {
          ordered = IsStrictlySortedBy-with_item lock_cmp-total lock shelf h.0.ordered;
          here = each-with_item lock_cmp-total (λ l. belongs count from l ≡ true) lock shelf (subst (λ p. belongs count p lock ≡ true) same b) h.0.here;
        },
        h.1,
      )
  put-shelved lock (shelf ∷ shelves) from (suc k) h within b =
      let same : from + suc k ≡ (from + 1) + k = omega arith in (h.0, put-shelved lock shelves (from + 1) k h.1 (omega arith) (subst (λ p. belongs count p lock ≡ true) same b))

  -- ---- a shelf without a lock
  stays : (lock : Lock) (place : ℕ) → belongs count place lock ≡ false → (shelf : List Lock) → AllByRecursion (λ l. belongs count place l ≡ true) shelf → AllByRecursion (λ l. not (is_eq (lock_cmp l lock)) ≡ true) shelf
  stays lock place out shelf h =
      each_map (λ l. belongs count place l ≡ true) (λ l. not (is_eq (lock_cmp l lock)) ≡ true)
      (λ (l : Lock) e.
      elim (lock_cmp l lock) as (λ r. lock_cmp l lock ≡ r → not (is_eq r) ≡ true) [
        | Less ↦ λ k. refl
        | Equal ↦ λ k. absurd (let two : belongs count place lock ≡ true = subst (λ (z : Lock). belongs count place z ≡ true) (lock_cmp-same l lock k) e in cc)
        | Greater ↦ λ k. refl
      ] refl)
      shelf h

  all_stay : (lock : Lock) (place from : ℕ) (shelves : List (List Lock)) → place < from → belongs count place lock ≡ true → AreShelvedFrom count from shelves → without_lock lock (all_on shelves) ≡ all_on shelves
  all_stay lock place from [] less b h = refl
  all_stay lock place from (shelf ∷ shelves) less b h =
      filter-append (λ l. not (is_eq (lock_cmp l lock))) shelf (all_on shelves)
      ∙ ap (λ xs. xs ++ without_lock lock (all_on shelves)) (filter-all (λ l. not (is_eq (lock_cmp l lock))) shelf (stays lock from (on_later (lock.job % count) place from less b) shelf h.0.here))
      ∙ ap (λ ys. shelf ++ ys) (all_stay lock place (from + 1) shelves (omega arith) b h.1)

  take-all : (lock : Lock) (shelves : List (List Lock)) (from k : ℕ) → AreShelvedFrom count from shelves → k < length shelves → belongs count (from + k) lock ≡ true → all_on (set shelves k (without_lock lock (get_or shelves k []))) ≡ without_lock lock (all_on shelves)
  take-all lock [] from k h within b = absurd (omega arith)
  take-all lock (shelf ∷ shelves) from zero h within b =
      let same : from + 0 ≡ from = omega arith in
      ap (λ ys. without_lock lock shelf ++ ys) (sym (all_stay lock from (from + 1) shelves (omega arith) (subst (λ p. belongs count p lock ≡ true) same b) h.1))
      ∙ sym (filter-append (λ l. not (is_eq (lock_cmp l lock))) shelf (all_on shelves))
  take-all lock (shelf ∷ shelves) from (suc k) h within b =
      let same : from + suc k ≡ (from + 1) + k = omega arith in
      ap (λ ys. shelf ++ ys) (take-all lock shelves (from + 1) k h.1 (omega arith) (subst (λ p. belongs count p lock ≡ true) same b))
      ∙ ap (λ xs. xs ++ without_lock lock (all_on shelves)) (sym (filter-all (λ l. not (is_eq (lock_cmp l lock))) shelf (stays lock from (on_earlier (lock.job % count) (from + suc k) from (omega arith) b) shelf h.0.here)))
      ∙ sym (filter-append (λ l. not (is_eq (lock_cmp l lock))) shelf (all_on shelves))

  take-shelved : (lock : Lock) (shelves : List (List Lock)) (from k : ℕ) → AreShelvedFrom count from shelves → k < length shelves → AreShelvedFrom count from (set shelves k (without_lock lock (get_or shelves k [])))
  take-shelved lock [] from k h within = absurd (omega arith)
  take-shelved lock (shelf ∷ shelves) from zero h within = (
    record {
      ordered = IsStrictlySortedBy-filter lock_cmp (λ l. not (is_eq (lock_cmp l lock))) shelf h.0.ordered;
      here = each-filter (λ l. belongs count from l ≡ true) (λ l. not (is_eq (lock_cmp l lock))) shelf h.0.here;
    },
    h.1,
  )
  take-shelved lock (shelf ∷ shelves) from (suc k) h within = (h.0, take-shelved lock shelves (from + 1) k h.1 (omega arith))

-- ---- all locks in order, with one more on a shelf
order-front : (lock : Lock) (front xs ys : List Lock) → in_order lock_cmp xs ≡ with_lock lock (in_order lock_cmp ys) → in_order lock_cmp (front ++ xs) ≡ with_lock lock (in_order lock_cmp (front ++ ys))
order-front lock [] xs ys h = h
order-front lock (l ∷ front) xs ys h = ap (with_lock l) (order-front lock front xs ys h) ∙ with_item-swap lock_cmp-total lock_cmp-same l lock (in_order lock_cmp (front ++ ys))

order-shelf : (lock : Lock) (shelf rest : List Lock) → in_order lock_cmp (with_lock lock shelf ++ rest) ≡ with_lock lock (in_order lock_cmp (shelf ++ rest))
order-shelf lock shelf rest =
    fold-with_item lock_cmp-total lock_cmp-same (λ xs. in_order lock_cmp (xs ++ rest)) (λ l. with_lock l) (λ l ls. refl)
    (λ l. with_item-twice lock_cmp-total l)
    (λ a b. with_item-swap lock_cmp-total lock_cmp-same a b)
    lock shelf

put-all : (lock : Lock) (shelves : List (List Lock)) (k : ℕ) → k < length shelves → in_order lock_cmp (all_on (set shelves k (with_lock lock (get_or shelves k [])))) ≡ with_lock lock (in_order lock_cmp (all_on shelves))
put-all lock [] k within = absurd (omega arith)
put-all lock (shelf ∷ shelves) zero within = order-shelf lock shelf (all_on shelves)
put-all lock (shelf ∷ shelves) (suc k) within = order-front lock shelf (all_on (set shelves k (with_lock lock (get_or shelves k [])))) (all_on shelves) (put-all lock shelves k (omega arith))

-- ---- the shelf of a lock
module _ (shelves : List (List Lock)) (h : AreShelved shelves) where
  pub place-within : (job : ℕ) → job % length shelves < length shelves
  place-within job = mod_below job (length shelves) (omega (arith, h.some))

  own_place : (job : ℕ) → (job % length shelves == (0 + job % length shelves)) ≡ true
  own_place job = same_place (job % length shelves) (0 + job % length shelves) (omega arith)

  pub place-sorted : (job : ℕ) → IsStrictlySortedBy lock_cmp (shelf_at shelves (job % length shelves))
  place-sorted job = shelf-sorted (length shelves) shelves 0 (job % length shelves) h.each (place-within job)

  pub shelf-of : (job : ℕ) → IsShelfOf job (shelf_at shelves (job % length shelves)) (in_order lock_cmp (all_on shelves))
  shelf-of job =
      let same : 0 + job % length shelves ≡ job % length shelves = omega arith in
      let all : filter (belongs (length shelves) (job % length shelves)) (all_on shelves) ≡ shelf_at shelves (job % length shelves) = subst (λ p. filter (belongs (length shelves) p) (all_on shelves) ≡ shelf_at shelves (job % length shelves)) same (shelf-is (length shelves) shelves 0 (job % length shelves) h.each (place-within job)) in
      record {
        count = length shelves;
        ordered = IsStrictlySortedBy-in_order lock_cmp-total (all_on shelves);
        is =
            sym
            (filter-in_order lock_cmp-total lock_cmp-same (belongs (length shelves) (job % length shelves)) (all_on shelves)
            ∙ ap (in_order lock_cmp) all
            ∙ in_order-sorted lock_cmp-total (shelf_at shelves (job % length shelves)) (place-sorted job));
      }

  pub put-locks : (lock : Lock) → in_order lock_cmp (all_on (set shelves (lock.job % length shelves) (with_lock lock (shelf_at shelves (lock.job % length shelves))))) ≡ with_lock lock (in_order lock_cmp (all_on shelves))
  put-locks lock = put-all lock shelves (lock.job % length shelves) (place-within lock.job)

  pub take-locks : (lock : Lock) → in_order lock_cmp (all_on (set shelves (lock.job % length shelves) (without_lock lock (shelf_at shelves (lock.job % length shelves))))) ≡ without_lock lock (in_order lock_cmp (all_on shelves))
  take-locks lock =
      ap (in_order lock_cmp) (take-all (length shelves) lock shelves 0 (lock.job % length shelves) h.each (place-within lock.job) (own_place lock.job))
      ∙ sym (filter-in_order lock_cmp-total lock_cmp-same (λ l. not (is_eq (lock_cmp l lock))) (all_on shelves))

  resized : (shelf : List Lock) (place : ℕ) → AreShelvedFrom (length shelves) 0 (set shelves place shelf) → AreShelved (set shelves place shelf)
  resized shelf place each = record {
    each = subst (λ n. AreShelvedFrom n 0 (set shelves place shelf)) (sym (length-set shelves place shelf)) each;
    some = subst (λ n. 1 ≤ n) (sym (length-set shelves place shelf)) h.some;
  }

  pub put-keeps : (lock : Lock) → AreShelved (set shelves (lock.job % length shelves) (with_lock lock (shelf_at shelves (lock.job % length shelves))))
  put-keeps lock = resized (with_lock lock (shelf_at shelves (lock.job % length shelves))) (lock.job % length shelves) (put-shelved (length shelves) lock shelves 0 (lock.job % length shelves) h.each (place-within lock.job) (own_place lock.job))

  pub take-keeps : (lock : Lock) → AreShelved (set shelves (lock.job % length shelves) (without_lock lock (shelf_at shelves (lock.job % length shelves))))
  take-keeps lock = resized (without_lock lock (shelf_at shelves (lock.job % length shelves))) (lock.job % length shelves) (take-shelved (length shelves) lock shelves 0 (lock.job % length shelves) h.each (place-within lock.job))

-- ---- empty shelves
nothing_on : (n : ℕ) → all_on (replicate n []) ≡ []
nothing_on zero = refl
nothing_on (suc n) = nothing_on n

nothing_shelved : (count n from : ℕ) → AreShelvedFrom count from (replicate n [])
unfolding IsStrictlySortedBy
nothing_shelved count zero from = tt
nothing_shelved count (suc n) from = (record { ordered = tt; here = tt }, nothing_shelved count n (from + 1))

-- shelves more, where there was one alone and it is empty
module _ (first : List Lock) (more later : List (List Lock)) (count : ℕ) (bare : first ∷ more ≡ [] ∷ []) (is : later ≡ replicate count []) where
  none : first ≡ []
  none = ap (λ (xss : List (List Lock)). get_or xss 0 []) bare

  pub spread-locks : all_on (first ∷ later) ≡ all_on (first ∷ more)
  spread-locks = ap (λ xs. xs ++ all_on later) none ∙ ap all_on is ∙ nothing_on count ∙ sym (ap all_on bare)

  pub spread-keeps : AreShelved (first ∷ later)
  spread-keeps =
      subst (λ (xs : List Lock). AreShelved (xs ∷ later)) (sym none)
      (subst (λ (xss : List (List Lock)). AreShelved ([] ∷ xss)) (sym is)
      (record { each = nothing_shelved (length ([] ∷ replicate count [])) (suc count) 0; some = omega arith }))

pub new-shelved : (shelves : List (List Lock)) → shelves ≡ [] ∷ [] → AreShelved shelves
new-shelved shelves is = subst AreShelved (sym is) (record { each = nothing_shelved 1 1 0; some = omega arith })

-- ---- what is asked of a shelf is asked of all locks
job_is : (part : Part) (lock : Lock) → is_part part lock ≡ true → lock.job ≡ part_job part
job_is (OfJob job) lock h = nat_cmp_equal lock.job job (eq_is _ h)
job_is (Reaching job reach) lock h = nat_cmp_equal lock.job job (then_equal (nat_cmp lock.job job) _ (eq_is _ h)).0
job_is (InMember job reach member) lock h = nat_cmp_equal lock.job job (then_equal (nat_cmp lock.job job) _ (eq_is _ h)).0
job_is (OnRecord job reach at) lock h = nat_cmp_equal lock.job job (then_equal (nat_cmp lock.job job) _ (eq_is _ h)).0

own : (count job : ℕ) (lock : Lock) → lock.job ≡ job → belongs count (job % count) lock ≡ true
own count job lock h = same_place (lock.job % count) (job % count) (ap (λ n. n % count) h)

module _ {job : ℕ} {shelf held : List Lock} (h : IsShelfOf job shelf held) where
  abbrev near : Lock → Bool
  near = belongs h.count (job % h.count)

  pub shelf-ordered : IsStrictlySortedBy lock_cmp shelf
  shelf-ordered = subst (IsStrictlySortedBy lock_cmp) (sym h.is) (IsStrictlySortedBy-filter lock_cmp (belongs h.count (job % h.count)) held h.ordered)

  pub shelf-few : length shelf ≤ length held
  shelf-few = subst (λ (xs : List Lock). length xs ≤ length held) (sym h.is) (length-filter-≤ (belongs h.count (job % h.count)) held)

  pub shelf-part : (part : Part) → part_job part ≡ job → filter (is_part part) shelf ≡ filter (is_part part) held
  shelf-part part same =
      ap (filter (is_part part)) h.is
      ∙ filter-wider (is_part part) (belongs h.count (job % h.count)) (λ l e. own h.count job l (job_is part l e ∙ same)) held

  module _ (lock : Lock) (same : lock.job ≡ job) where
    it_is_near : belongs h.count (job % h.count) lock ≡ true
    it_is_near = own h.count job lock same

    near-with : filter near (with_lock lock held) ≡ with_lock lock shelf
    near-with =
        filter-with_item lock_cmp-total lock_cmp-same near lock held h.ordered
        ∙ ap (λ b. cond b (with_lock lock (filter near held)) (filter near held)) it_is_near
        ∙ ap (with_lock lock) (sym h.is)

    far-with : filter (λ l. not (near l)) (with_lock lock held) ≡ filter (λ l. not (near l)) held
    far-with =
        filter-with_item lock_cmp-total lock_cmp-same (λ l. not (near l)) lock held h.ordered
        ∙ ap (λ b. cond (not b) (with_lock lock (filter (λ l. not (near l)) held)) (filter (λ l. not (near l)) held)) it_is_near

    pub shelf-with : length (with_lock lock held) + length shelf ≡ length held + length (with_lock lock shelf)
    shelf-with =
        let one : length (filter near (with_lock lock held)) + length (filter (λ l. not (near l)) (with_lock lock held)) ≡ length (with_lock lock held) = length-filter-not near (with_lock lock held) in
        let two : length (filter near held) + length (filter (λ l. not (near l)) held) ≡ length held = length-filter-not near held in
        let three : length (filter near (with_lock lock held)) ≡ length (with_lock lock shelf) = ap length near-with in
        let four : length (filter (λ l. not (near l)) (with_lock lock held)) ≡ length (filter (λ l. not (near l)) held) = ap length far-with in
        let five : length (filter near held) ≡ length shelf = ap length (sym h.is) in
        omega arith

    near-without : filter near (without_lock lock held) ≡ without_lock lock shelf
    near-without = filter-swap near (λ l. not (is_eq (lock_cmp l lock))) held ∙ ap (without_lock lock) (sym h.is)

    other : (l : Lock) → not (near l) ≡ true → not (is_eq (lock_cmp l lock)) ≡ true
    other l e =
        elim (lock_cmp l lock) as (λ r. lock_cmp l lock ≡ r → not (is_eq r) ≡ true) [
          | Less ↦ λ k. refl
          | Equal ↦ λ k. absurd (let both : not (near l) ≡ false = ap not (subst (λ (z : Lock). near z ≡ true) (sym (lock_cmp-same l lock k)) it_is_near) in cc)
          | Greater ↦ λ k. refl
        ] refl

    far-without : filter (λ l. not (near l)) (without_lock lock held) ≡ filter (λ l. not (near l)) held
    far-without = filter-wider (λ l. not (near l)) (λ l. not (is_eq (lock_cmp l lock))) other held

    pub shelf-without : length (without_lock lock held) + length shelf ≡ length held + length (without_lock lock shelf)
    shelf-without =
        let one : length (filter near (without_lock lock held)) + length (filter (λ l. not (near l)) (without_lock lock held)) ≡ length (without_lock lock held) = length-filter-not near (without_lock lock held) in
        let two : length (filter near held) + length (filter (λ l. not (near l)) held) ≡ length held = length-filter-not near held in
        let three : length (filter near (without_lock lock held)) ≡ length (without_lock lock shelf) = ap length near-without in
        let four : length (filter (λ l. not (near l)) (without_lock lock held)) ≡ length (filter (λ l. not (near l)) held) = ap length far-without in
        let five : length (filter near held) ≡ length shelf = ap length (sym h.is) in
        omega arith

-- ---- the least job, shelf after shelf
pub least-in_all : (t : Lock → Bool) (locks : List Lock) → least_job (filter t locks) ≡ least_job (filter t (in_order lock_cmp locks))
least-in_all t locks = sym (ap least_job (filter-in_order lock_cmp-total lock_cmp-same t locks) ∙ least-ordered (filter t locks))

pub least-on_all : (t : Lock → Bool) (shelves : List (List Lock)) → least_on t shelves ≡ least_job (filter t (all_on shelves))
least-on_all t [] = refl
least-on_all t (shelf ∷ shelves) =
    ap (lesser (least_job (filter t shelf))) (least-on_all t shelves)
    ∙ sym (ap least_job (filter-append t shelf (all_on shelves)) ∙ least-two_lists (filter t shelf) (filter t (all_on shelves)))

pub rest-sorted : (first : List Lock) (more : List (List Lock)) → AreShelved (first ∷ more) → (place : ℕ) → place < length more → IsStrictlySortedBy lock_cmp (shelf_at more place)
rest-sorted first more h place within = shelf-sorted (length (first ∷ more)) more (0 + 1) place h.each.1 within
