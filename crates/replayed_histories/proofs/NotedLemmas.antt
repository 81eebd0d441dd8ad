-- A commit cycle begins behind all others, and one has a change more.
use Rattle.std.proofs.Common.{◌≡◌, ℕ, ◌+◌, ◌<◌, ◌≤◌, ◌==◌, ◌||◌, zero, suc, slice_get, Bool, true, false, cond, IfSome, Option, Some, None, List, [], ◌∷◌, ◌++◌, refl, sym, ap, ◌∙◌, subst, arith}
use Rattle.std.specs.List.{AllByRecursion}
use Rattle.std.proofs.lemmas.Bool.Decides.{nat_tests}
use Rattle.logical_laws.proofs.ListLemmas.{each-weaker}
use Rattle.journal_model.specs.Replay.{is_in, is_other}
use Rattle.journal_model.specs.Replayable.{is_one_of}
use Rattle.journal_model.specs.Rollback.{MemberChange}
use Rattle.library_steps.specs.State.{CycleState, JobState, job_changed}
use Rattle.library_steps.specs.SlotChange.{noted, with_cycle}
use Rattle.replayed_histories.specs.Shown.{AreDifferent, IsRising, cycle_numbers, with_number}
use Rattle.replayed_histories.specs.Replayed.{BeganBefore, CyclesStand, HasItsChanges, IsOfOneOf, changes_in}
use Rattle.replayed_histories.proofs.CycleLemmas.{all-at, all-changed, holds-one, is-one}
use Rattle.replayed_histories.proofs.ListLemmas.{all-append}
use Rattle.replayed_histories.proofs.StandsLemmas.{later}

-- ---- tests

or-other : (a b : Bool) → (a || b) ≡ (b || a)
or-other true true = refl
or-other true false = refl
or-other false true = refl
or-other false false = refl

or-apart : (a b c : Bool) → (a || (b || c)) ≡ ((a || b) || c)
or-apart true b c = refl
or-apart false b c = refl

or-right : (a b : Bool) → b ≡ true → (a || b) ≡ true
or-right true b h = refl
or-right false b h = h

pub one_of-append : (n m : ℕ) (xs : List ℕ) → is_one_of (xs ++ n ∷ []) m ≡ (is_one_of xs m || (n == m))
one_of-append n m [] = or-other (n == m) false
one_of-append n m (x ∷ xs) = ap (λ (b : Bool). (x == m) || b) (one_of-append n m xs) ∙ or-apart (x == m) (is_one_of xs m) (n == m)

one-self : (n : ℕ) → (n == n) ≡ true
one-self n = grind (arith, nat_tests)

-- what holds of each number that is one of them
each-one : (P : ℕ → Type 0) (numbers : List ℕ) → ((m : ℕ) → is_one_of numbers m ≡ true → P m) → AllByRecursion P numbers
each-one P [] each = tt
each-one P (x ∷ xs) each =
    (each x (ap (λ (b : Bool). b || is_one_of xs x) (one-self x)), each-one P xs (λ m one. each m (or-right (x == m) (is_one_of xs m) one)))

rising-append : (n : ℕ) (xs : List ℕ) → IsRising xs → AllByRecursion (λ m. m < n) xs → IsRising (xs ++ n ∷ [])
rising-append n [] rising less = (tt, tt)
rising-append n (x ∷ xs) rising less = (all-append (λ later. x < later) xs (n ∷ []) rising.0 (less.0, tt), rising-append n xs rising.1 less.1)

-- ---- a commit cycle begins

abbrev pub begun_job : ℕ → JobState → JobState
begun_job n job = record job { cycle = Some (record { sequence = n; undos = [] }) }

module _ (n : ℕ) (job : JobState) (none : job.cycle ≡ None) where
  number-none : (j : JobState) (numbers : List ℕ) → j ≡ job → with_number j.cycle numbers ≡ numbers
  number-none j numbers e = ap (λ (o : Option CycleState). with_number o numbers) (ap (λ (x : JobState). x.cycle) e ∙ none)

  begun-one : (m place : ℕ) (jobs : List JobState) → slice_get jobs place ≡ Some job
      → is_one_of (cycle_numbers (job_changed place (begun_job n) jobs)) m ≡ (is_one_of (cycle_numbers jobs) m || (n == m))
  begun-one m place [] there = absurd cc
  begun-one m zero (j ∷ jobs) there =
      let e : j ≡ job = cc in
      or-other (n == m) (is_one_of (cycle_numbers jobs) m)
      ∙ ap (λ (numbers : List ℕ). is_one_of numbers m || (n == m)) (sym (number-none j (cycle_numbers jobs) e))
  begun-one m (suc place) (j ∷ jobs) there = by j.cycle (begun-one m place jobs there) where
    by : (o : Option CycleState) → is_one_of (cycle_numbers (job_changed place (begun_job n) jobs)) m ≡ (is_one_of (cycle_numbers jobs) m || (n == m))
        → is_one_of (with_number o (cycle_numbers (job_changed place (begun_job n) jobs))) m ≡ (is_one_of (with_number o (cycle_numbers jobs)) m || (n == m))
    by None rest = rest
    by (Some c) rest = ap (λ (b : Bool). (c.sequence == m) || b) rest ∙ or-apart (c.sequence == m) (is_one_of (cycle_numbers jobs) m) (n == m)

  begun-all : (P : ℕ → Type 0) (place : ℕ) (jobs : List JobState) → slice_get jobs place ≡ Some job → P n → AllByRecursion P (cycle_numbers jobs)
      → AllByRecursion P (cycle_numbers (job_changed place (begun_job n) jobs))
  begun-all P place [] there its all = absurd cc
  begun-all P zero (j ∷ jobs) there its all =
      let e : j ≡ job = cc in (its, subst (AllByRecursion P) (number-none j (cycle_numbers jobs) e) all)
  begun-all P (suc place) (j ∷ jobs) there its all = by j.cycle all (λ rest. begun-all P place jobs there its rest) where
    by : (o : Option CycleState) → AllByRecursion P (with_number o (cycle_numbers jobs))
        → (AllByRecursion P (cycle_numbers jobs) → AllByRecursion P (cycle_numbers (job_changed place (begun_job n) jobs)))
        → AllByRecursion P (with_number o (cycle_numbers (job_changed place (begun_job n) jobs)))
    by None all more = more all
    by (Some c) all more = (all.0, more all.1)

  other-turned : (m : ℕ) → is_other n m ≡ true → is_other m n ≡ true
  other-turned m h = grind (arith, nat_tests, h)

  begun-apart : (place : ℕ) (jobs : List JobState) → slice_get jobs place ≡ Some job → AreDifferent (cycle_numbers jobs) → AllByRecursion (λ m. is_other n m ≡ true) (cycle_numbers jobs)
      → AreDifferent (cycle_numbers (job_changed place (begun_job n) jobs))
  begun-apart place [] there apart fresh = absurd cc
  begun-apart zero (j ∷ jobs) there apart fresh =
      let e : j ≡ job = cc in (
        subst (AllByRecursion (λ m. is_other n m ≡ true)) (number-none j (cycle_numbers jobs) e) fresh,
        subst AreDifferent (number-none j (cycle_numbers jobs) e) apart,
      )
  begun-apart (suc place) (j ∷ jobs) there apart fresh = by j.cycle apart fresh (λ a f. begun-apart place jobs there a f) where
    by : (o : Option CycleState) → AreDifferent (with_number o (cycle_numbers jobs)) → AllByRecursion (λ m. is_other n m ≡ true) (with_number o (cycle_numbers jobs))
        → (AreDifferent (cycle_numbers jobs) → AllByRecursion (λ m. is_other n m ≡ true) (cycle_numbers jobs) → AreDifferent (cycle_numbers (job_changed place (begun_job n) jobs)))
        → AreDifferent (with_number o (cycle_numbers (job_changed place (begun_job n) jobs)))
    by None apart fresh more = more apart fresh
    by (Some c) apart fresh more =
        (begun-all (λ m. is_other c.sequence m ≡ true) place jobs there (other-turned c.sequence fresh.0) apart.0, more apart.1 fresh.1)

-- no change is of a commit cycle that hasn't begun
fresh-none : (n : ℕ) (cycles : List ℕ) (undos : List MemberChange) → AllByRecursion (λ (c : MemberChange). IsOfOneOf cycles c.change.cycle) undos
    → ((m : ℕ) → is_one_of cycles m ≡ true → is_other n m ≡ true) → changes_in n undos ≡ []
fresh-none n cycles [] owned fresh = refl
fresh-none n cycles (c ∷ undos) owned fresh =
    ap (λ (b : Bool). cond b (c ∷ changes_in n undos) (changes_in n undos)) (out c.change.cycle refl owned.0) ∙ fresh-none n cycles undos owned.1 fresh
  where
    other : (k : ℕ) → is_other n k ≡ true → (k == n) ≡ false
    other k h = grind (arith, nat_tests, h)

    out : (o : Option ℕ) → c.change.cycle ≡ o → IsOfOneOf cycles o → is_in n c.change ≡ false
    out None is of = absurd of
    out (Some k) is of = ap (λ (o : Option ℕ). is_in n (record c.change { cycle = o })) is ∙ other k (fresh k of)

owned-more : (n : ℕ) (cycles : List ℕ) (o : Option ℕ) → IsOfOneOf cycles o → IsOfOneOf (cycles ++ n ∷ []) o
owned-more n cycles None of = of
owned-more n cycles (Some k) of = one_of-append n k cycles ∙ ap (λ (b : Bool). b || (n == k)) of

pub cycle-begins : (next place : ℕ) (cycles : List ℕ) (undos : List MemberChange) (jobs : List JobState) (job : JobState) → CyclesStand next cycles undos jobs
    → slice_get jobs place ≡ Some job → job.cycle ≡ None → 1 ≤ next → CyclesStand (next + 1) (cycles ++ next ∷ []) undos (job_changed place (begun_job next) jobs)
cycle-begins next place cycles undos jobs job stand there none first = record {
  same = λ m.
      one_of-append next m cycles ∙ ap (λ (b : Bool). b || (next == m)) (stand.same m) ∙ sym (begun-one next job none m place jobs there);
  rising = rising-append next cycles stand.rising (each-weaker (BeganBefore next) (λ m. m < next) (λ m began. began.1) cycles stand.begun);
  apart = begun-apart next job none place jobs there stand.apart
      (each-one (λ m. is_other next m ≡ true) (cycle_numbers jobs) (λ m one. fresh m (stand.same m ∙ one)));
  begun = all-append (BeganBefore (next + 1)) cycles (next ∷ []) (later next cycles stand.begun) ((first, omega arith), tt);
  changes = all-changed (HasItsChanges undos) (begun_job next) job place jobs there (fresh-none next cycles undos stand.owned fresh) stand.changes;
  owned = each-weaker (λ (c : MemberChange). IsOfOneOf cycles c.change.cycle) (λ (c : MemberChange). IsOfOneOf (cycles ++ next ∷ []) c.change.cycle)
      (λ c of. owned-more next cycles c.change.cycle of) undos stand.owned;
} where
  differs : (m : ℕ) → m < next → is_other next m ≡ true
  differs m less = grind (arith, nat_tests, less)

  fresh : (m : ℕ) → is_one_of cycles m ≡ true → is_other next m ≡ true
  fresh m one = differs m (holds-one (BeganBefore next) m cycles one stand.begun).1

-- ---- a change more

-- the jobs whose commit cycle isn't this one
module _ (job : JobState) (cycle : CycleState) (has : job.cycle ≡ Some cycle) (P Q : JobState → Type 0)
    (each : (j : JobState) → IfSome j.cycle (λ (c : CycleState). is_other cycle.sequence c.sequence ≡ true) → P j → Q j) where
  split : (o : Option CycleState) (numbers : List ℕ) → AllByRecursion (λ m. is_other cycle.sequence m ≡ true) (with_number o numbers)
      → IfSome o (λ (c : CycleState). is_other cycle.sequence c.sequence ≡ true) × AllByRecursion (λ m. is_other cycle.sequence m ≡ true) numbers
  split None numbers all = (tt, all)
  split (Some c) numbers all = (all.0, all.1)

  others : (rest : List JobState) → AllByRecursion (λ m. is_other cycle.sequence m ≡ true) (cycle_numbers rest) → AllByRecursion P rest → AllByRecursion Q rest
  others [] other all = tt
  others (j ∷ rest) other all = let parts = split j.cycle (cycle_numbers rest) other in (each j parts.0 all.0, others rest parts.1 all.1)

  turned : (n m : ℕ) → is_other n m ≡ true → is_other m n ≡ true
  turned n m h = grind (arith, nat_tests, h)

  front : (o : Option CycleState) (numbers : List ℕ) → AreDifferent (with_number o numbers) → ((R : ℕ → Type 0) → AllByRecursion R numbers → R cycle.sequence)
      → IfSome o (λ (c : CycleState). is_other cycle.sequence c.sequence ≡ true)
  front None numbers apart at = tt
  front (Some c) numbers apart at = turned c.sequence cycle.sequence (at (λ (other : ℕ). is_other c.sequence other ≡ true) apart.0)

  back : (o : Option CycleState) (numbers : List ℕ) → AreDifferent (with_number o numbers) → AreDifferent numbers
  back None numbers apart = apart
  back (Some c) numbers apart = apart.1

  all-others : (change : JobState → JobState) (place : ℕ) (jobs : List JobState) → slice_get jobs place ≡ Some job → AreDifferent (cycle_numbers jobs) → Q (change job)
      → AllByRecursion P jobs → AllByRecursion Q (job_changed place change jobs)
  all-others change place [] there apart its all = tt
  all-others change zero (j ∷ rest) there apart its all =
      let e : j ≡ job = cc in
      let own : AreDifferent (with_number (Some cycle) (cycle_numbers rest)) =
      subst (λ (o : Option CycleState). AreDifferent (with_number o (cycle_numbers rest))) (ap (λ (x : JobState). x.cycle) e ∙ has) apart in
      (subst (λ (x : JobState). Q (change x)) (sym e) its, others rest own.0 all.1)
  all-others change (suc place) (j ∷ rest) there apart its all = (
    each j (front j.cycle (cycle_numbers rest) apart (λ R. all-at (λ (x : JobState). record x { cycle = None }) job refl cycle has R place rest there)) all.0,
    all-others change place rest there (back j.cycle (cycle_numbers rest) apart) its all.1,
  )

module _ (job : JobState) (cycle : CycleState) (has : job.cycle ≡ Some cycle) (c : MemberChange) where
  noted-numbers : (place : ℕ) (jobs : List JobState) → slice_get jobs place ≡ Some job → cycle_numbers (job_changed place (with_cycle (noted c cycle)) jobs) ≡ cycle_numbers jobs
  noted-numbers place [] there = refl
  noted-numbers zero (j ∷ jobs) there =
      let e : j ≡ job = cc in ap (λ (o : Option CycleState). with_number o (cycle_numbers jobs)) (sym (ap (λ (x : JobState). x.cycle) e ∙ has))
  noted-numbers (suc place) (j ∷ jobs) there = ap (with_number j.cycle) (noted-numbers place jobs there)

  module _ (of : c.change.cycle ≡ Some cycle.sequence) (undos : List MemberChange) where
    its-in : (k : ℕ) → is_in k c.change ≡ (cycle.sequence == k)
    its-in k = ap (λ (o : Option ℕ). is_in k (record c.change { cycle = o })) of

    in-its : is_in cycle.sequence c.change ≡ true
    in-its = its-in cycle.sequence ∙ one-self cycle.sequence

    other : (k : ℕ) → is_other cycle.sequence k ≡ true → (cycle.sequence == k) ≡ false
    other k h = grind (arith, nat_tests, h)

    on-others : (o : Option CycleState) → IfSome o (λ (d : CycleState). is_other cycle.sequence d.sequence ≡ true) → IfSome o (λ (d : CycleState). changes_in d.sequence undos ≡ d.undos)
        → IfSome o (λ (d : CycleState). changes_in d.sequence (c ∷ undos) ≡ d.undos)
    on-others None differs had = tt
    on-others (Some d) differs had =
        ap (λ (b : Bool). cond b (c ∷ changes_in d.sequence undos) (changes_in d.sequence undos)) (its-in d.sequence ∙ other d.sequence differs) ∙ had

    pub cycle-noted : (next place : ℕ) (cycles : List ℕ) (jobs : List JobState) → CyclesStand next cycles undos jobs → slice_get jobs place ≡ Some job
        → CyclesStand next cycles (c ∷ undos) (job_changed place (with_cycle (noted c cycle)) jobs)
    cycle-noted next place cycles jobs stand there = record {
      same = λ m. stand.same m ∙ ap (λ (numbers : List ℕ). is_one_of numbers m) (sym (noted-numbers place jobs there));
      rising = stand.rising;
      apart = subst AreDifferent (sym (noted-numbers place jobs there)) stand.apart;
      begun = stand.begun;
      changes = all-others job cycle has (HasItsChanges undos) (HasItsChanges (c ∷ undos)) (λ j differs had. on-others j.cycle differs had) (with_cycle (noted c cycle)) place jobs there
          stand.apart its stand.changes;
      owned = (subst (IsOfOneOf cycles) (sym of) (is-one (λ (x : JobState). record x { cycle = None }) job refl next place cycles undos jobs there stand cycle has), stand.owned);
    } where
      had-at : (at : ℕ) (all : List JobState) → slice_get all at ≡ Some job → AllByRecursion (HasItsChanges undos) all → HasItsChanges undos job
      had-at at [] found have = absurd cc
      had-at zero (j ∷ rest) found have = let e : j ≡ job = cc in subst (HasItsChanges undos) e have.0
      had-at (suc at) (j ∷ rest) found have = had-at at rest found have.1

      had : changes_in cycle.sequence undos ≡ cycle.undos
      had = subst (λ (o : Option CycleState). IfSome o (λ (d : CycleState). changes_in d.sequence undos ≡ d.undos)) has (had-at place jobs there stand.changes)

      its : changes_in cycle.sequence (c ∷ undos) ≡ c ∷ cycle.undos
      its = ap (λ (b : Bool). cond b (c ∷ changes_in cycle.sequence undos) (changes_in cycle.sequence undos)) in-its ∙ ap (λ (t : List MemberChange). c ∷ t) had

-- ---- more entries

pub cycles-more : (next more : ℕ) (cycles : List ℕ) (undos : List MemberChange) (jobs : List JobState) → next ≤ more → CyclesStand next cycles undos jobs → CyclesStand more cycles undos jobs
cycles-more next more cycles undos jobs le stand = record {
  same = stand.same;
  rising = stand.rising;
  apart = stand.apart;
  begun = each-weaker (BeganBefore next) (BeganBefore more) (λ n began. let less : n < next = began.1 in (began.0, omega (arith, le, less))) cycles stand.begun;
  changes = stand.changes;
  owned = stand.owned;
}
