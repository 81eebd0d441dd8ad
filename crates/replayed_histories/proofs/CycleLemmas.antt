-- A commit cycle that ends, and the others that stay.
use Rattle.std.proofs.Common.{◌≡◌, ℕ, ◌<◌, ◌==◌, ◌&&◌, ◌||◌, not, zero, suc, slice_get, Bool, true, false, cond, IfSome, Option, Some, None, List, [], ◌∷◌, refl, sym, ap, ◌∙◌, subst, arith}
use Rattle.std.specs.List.{AllByRecursion, filter}
use Rattle.std.proofs.lemmas.Bool.{eqb-true}
use Rattle.std.proofs.lemmas.Bool.Decides.{nat_tests}
use Rattle.journal_model.specs.Acts.{is_number}
use Rattle.journal_model.specs.Replay.{is_in, is_not_in, is_other}
use Rattle.journal_model.specs.Replayable.{is_one_of}
use Rattle.journal_model.specs.Rollback.{MemberChange}
use Rattle.library_steps.specs.State.{CycleState, JobState, job_changed}
use Rattle.replayed_histories.specs.Shown.{AreDifferent, IsRising, cycle_numbers, with_number}
use Rattle.replayed_histories.specs.Replayed.{BeganBefore, CyclesStand, HasItsChanges, IsOfOneOf, changes_in}

-- ---- numbers without one

other-same : (n : ℕ) → is_other n n ≡ false
other-same n = grind (arith, nat_tests)

other-sym : (n m : ℕ) → is_other n m ≡ true → is_other m n ≡ true
other-sym n m h = grind (arith, nat_tests, h)

filter-different : (n : ℕ) (numbers : List ℕ) → AllByRecursion (λ other. is_other n other ≡ true) numbers → filter (is_other n) numbers ≡ numbers
filter-different n [] all = refl
filter-different n (x ∷ xs) all =
    ap (λ (b : Bool). cond b (x ∷ filter (is_other n) xs) (filter (is_other n) xs)) all.0 ∙ ap (λ (t : List ℕ). x ∷ t) (filter-different n xs all.1)

all-filter : (P : ℕ → Type 0) (test : ℕ → Bool) (xs : List ℕ) → AllByRecursion P xs → AllByRecursion P (filter test xs)
all-filter P test [] all = tt
all-filter P test (x ∷ xs) all =
    elim (test x) as (λ b. AllByRecursion P (cond b (x ∷ filter test xs) (filter test xs))) [ true ↦ (all.0, all-filter P test xs all.1) | false ↦ all-filter P test xs all.1 ]

rising-filter : (test : ℕ → Bool) (xs : List ℕ) → IsRising xs → IsRising (filter test xs)
rising-filter test [] rising = tt
rising-filter test (x ∷ xs) rising = elim (test x) as (λ b. IsRising (cond b (x ∷ filter test xs) (filter test xs))) [
  | true ↦ (all-filter (λ later. x < later) test xs rising.0, rising-filter test xs rising.1)
  | false ↦ rising-filter test xs rising.1
]

different-filter : (test : ℕ → Bool) (xs : List ℕ) → AreDifferent xs → AreDifferent (filter test xs)
different-filter test [] different = tt
different-filter test (x ∷ xs) different = elim (test x) as (λ b. AreDifferent (cond b (x ∷ filter test xs) (filter test xs))) [
  | true ↦ (all-filter (λ other. is_other x other ≡ true) test xs different.0, different-filter test xs different.1)
  | false ↦ different-filter test xs different.1
]

one_of-step : (n m x : ℕ) (xs : List ℕ) (b c : Bool) → (c ≡ true → b ≡ is_other n m) → (x == m) ≡ c → is_one_of (filter (is_other n) xs) m ≡ (is_other n m && is_one_of xs m)
    → is_one_of (cond b (x ∷ filter (is_other n) xs) (filter (is_other n) xs)) m ≡ (is_other n m && (c || is_one_of xs m))
one_of-step n m x xs true true same is rest = ap (λ (c : Bool). c || is_one_of (filter (is_other n) xs) m) is ∙ ap (λ (o : Bool). o && true) (same refl)
one_of-step n m x xs true false same is rest = ap (λ (c : Bool). c || is_one_of (filter (is_other n) xs) m) is ∙ rest
one_of-step n m x xs false true same is rest =
    rest ∙ ap (λ (o : Bool). o && is_one_of xs m) (sym (same refl)) ∙ ap (λ (o : Bool). o && true) (same refl)
one_of-step n m x xs false false same is rest = rest

one_of-filter : (n m : ℕ) (xs : List ℕ) → is_one_of (filter (is_other n) xs) m ≡ (is_other n m && is_one_of xs m)
one_of-filter n m [] = elim (is_other n m) as (λ b. false ≡ (b && false)) [ true ↦ refl | false ↦ refl ]
one_of-filter n m (x ∷ xs) =
    one_of-step n m x xs (is_other n x) (x == m) (λ e. ap (is_other n) (eqb-true x m e)) refl (one_of-filter n m xs)

-- ---- the jobs

module _ (change : JobState → JobState) (job : JobState) (after : (change job).cycle ≡ None) where
  -- the job has no commit cycle
  pub none-gone : (place : ℕ) (jobs : List JobState) → slice_get jobs place ≡ Some job → job.cycle ≡ None → cycle_numbers (job_changed place change jobs) ≡ cycle_numbers jobs
  none-gone place [] there none = refl
  none-gone zero (j ∷ jobs) there none =
      let e : j ≡ job = cc in
      ap (λ (o : Option CycleState). with_number o (cycle_numbers jobs)) (ap (λ (x : JobState). (change x).cycle) e ∙ after ∙ sym none ∙ ap (λ (x : JobState). x.cycle) (sym e))
  none-gone (suc place) (j ∷ jobs) there none = ap (with_number j.cycle) (none-gone place jobs there none)

  module _ (cycle : CycleState) (has : job.cycle ≡ Some cycle) where
    tail : (P : ℕ → Type 0) (o : Option CycleState) (numbers : List ℕ) → AllByRecursion P (with_number o numbers) → AllByRecursion P numbers
    tail P None numbers all = all
    tail P (Some c) numbers all = all.1

    pub all-at : (P : ℕ → Type 0) (place : ℕ) (jobs : List JobState) → slice_get jobs place ≡ Some job → AllByRecursion P (cycle_numbers jobs) → P cycle.sequence
    all-at P place [] there all = absurd cc
    all-at P zero (j ∷ jobs) there all =
        let e : j ≡ job = cc in
        let its : AllByRecursion P (with_number (Some cycle) (cycle_numbers jobs)) =
        subst (λ (o : Option CycleState). AllByRecursion P (with_number o (cycle_numbers jobs))) (ap (λ (x : JobState). x.cycle) e ∙ has) all in
        its.0
    all-at P (suc place) (j ∷ jobs) there all = all-at P place jobs there (tail P j.cycle (cycle_numbers jobs) all)

    different-tail : (o : Option CycleState) (numbers : List ℕ) → AreDifferent (with_number o numbers) → AreDifferent numbers
    different-tail None numbers all = all
    different-tail (Some c) numbers all = all.1

    pub one-gone : (place : ℕ) (jobs : List JobState) → slice_get jobs place ≡ Some job → AreDifferent (cycle_numbers jobs)
        → cycle_numbers (job_changed place change jobs) ≡ filter (is_other cycle.sequence) (cycle_numbers jobs)
    one-gone place [] there different = refl
    one-gone zero (j ∷ jobs) there different =
        let e : j ≡ job = cc in
        let its : j.cycle ≡ Some cycle = ap (λ (x : JobState). x.cycle) e ∙ has in
        let apart : AreDifferent (with_number (Some cycle) (cycle_numbers jobs)) = subst (λ (o : Option CycleState). AreDifferent (with_number o (cycle_numbers jobs))) its different in
        ap (λ (o : Option CycleState). with_number o (cycle_numbers jobs)) (ap (λ (x : JobState). (change x).cycle) e ∙ after)
        ∙ sym (filter-different cycle.sequence (cycle_numbers jobs) apart.0)
        ∙ sym (ap (λ (b : Bool). cond b (cycle.sequence ∷ filter (is_other cycle.sequence) (cycle_numbers jobs)) (filter (is_other cycle.sequence) (cycle_numbers jobs)))
        (other-same cycle.sequence))
        ∙ sym (ap (λ (o : Option CycleState). filter (is_other cycle.sequence) (with_number o (cycle_numbers jobs))) its)
    one-gone (suc place) (j ∷ jobs) there different =
        by j.cycle different (one-gone place jobs there (different-tail j.cycle (cycle_numbers jobs) different)) (λ P. all-at P place jobs there)
      where
        by : (o : Option CycleState) → AreDifferent (with_number o (cycle_numbers jobs))
            → cycle_numbers (job_changed place change jobs) ≡ filter (is_other cycle.sequence) (cycle_numbers jobs)
            → ((P : ℕ → Type 0) → AllByRecursion P (cycle_numbers jobs) → P cycle.sequence)
            → with_number o (cycle_numbers (job_changed place change jobs)) ≡ filter (is_other cycle.sequence) (with_number o (cycle_numbers jobs))
        by None apart rest at = rest
        by (Some c) apart rest at =
            ap (λ (t : List ℕ). c.sequence ∷ t) rest
            ∙ sym (ap (λ (b : Bool). cond b (c.sequence ∷ filter (is_other cycle.sequence) (cycle_numbers jobs)) (filter (is_other cycle.sequence) (cycle_numbers jobs)))
            (other-sym c.sequence cycle.sequence (at (λ (other : ℕ). is_other c.sequence other ≡ true) apart.0)))

-- ---- the changes

-- what holds of each job holds of each after a change of one
pub all-changed : (P : JobState → Type 0) (change : JobState → JobState) (job : JobState) (place : ℕ) (jobs : List JobState) → slice_get jobs place ≡ Some job → P (change job)
    → AllByRecursion P jobs → AllByRecursion P (job_changed place change jobs)
all-changed P change job place [] there its all = tt
all-changed P change job zero (j ∷ jobs) there its all = let e : j ≡ job = cc in (subst (λ (x : JobState). P (change x)) (sym e) its, all.1)
all-changed P change job (suc place) (j ∷ jobs) there its all = (all.0, all-changed P change job place jobs there its all.1)

pub no-changes : (undos : List MemberChange) (o : Option CycleState) → o ≡ None → IfSome o (λ (cycle : CycleState). changes_in cycle.sequence undos ≡ cycle.undos)
no-changes undos None none = tt
no-changes undos (Some cycle) none = absurd cc

abbrev pub without : (cycle : ℕ) → List MemberChange → List MemberChange
without cycle undos = filter (λ (c : MemberChange). is_not_in cycle c.change) undos

-- a change of one commit cycle is of no other
pub in-other : (n m : ℕ) (cycle : Option ℕ) → is_other n m ≡ true → is_number cycle m ≡ true → not (is_number cycle n) ≡ true
in-other n m None other is = absurd cc
in-other n m (Some k) other is = let e : k ≡ m = eqb-true k m is in subst (λ (x : ℕ). not (x == n) ≡ true) (sym e) other

pub changes-left : (n m : ℕ) → is_other n m ≡ true → (undos : List MemberChange) → changes_in m (without n undos) ≡ changes_in m undos
changes-left n m other [] = refl
changes-left n m other (c ∷ undos) = by (is_not_in n c.change) (is_in m c.change) (λ is. in-other n m c.change.cycle other is) refl (changes-left n m other undos) where
  by : (out its : Bool) → (its ≡ true → out ≡ true) → is_in m c.change ≡ its → changes_in m (without n undos) ≡ changes_in m undos
      → changes_in m (cond out (c ∷ without n undos) (without n undos)) ≡ cond its (c ∷ changes_in m undos) (changes_in m undos)
  by true true fits is rest = ap (λ (b : Bool). cond b (c ∷ changes_in m (without n undos)) (changes_in m (without n undos))) is ∙ ap (λ (t : List MemberChange). c ∷ t) rest
  by true false fits is rest = ap (λ (b : Bool). cond b (c ∷ changes_in m (without n undos)) (changes_in m (without n undos))) is ∙ rest
  by false true fits is rest = absurd (let e = fits refl in cc)
  by false false fits is rest = rest

pub owned-left : (n : ℕ) (cycles : List ℕ) (undos : List MemberChange) → AllByRecursion (λ (c : MemberChange). IsOfOneOf cycles c.change.cycle) undos
    → AllByRecursion (λ (c : MemberChange). IsOfOneOf (filter (is_other n) cycles) c.change.cycle) (without n undos)
owned-left n cycles [] all = tt
owned-left n cycles (c ∷ undos) all = by (is_not_in n c.change) refl (owned-left n cycles undos all.1) where
  its : (cycle : Option ℕ) → not (is_number cycle n) ≡ true → IsOfOneOf cycles cycle → IsOfOneOf (filter (is_other n) cycles) cycle
  its None out of = of
  its (Some k) out of = one_of-filter n k cycles ∙ ap (λ (b : Bool). is_other n k && b) of ∙ ap (λ (b : Bool). b && true) out

  by : (out : Bool) → is_not_in n c.change ≡ out → AllByRecursion (λ (d : MemberChange). IsOfOneOf (filter (is_other n) cycles) d.change.cycle) (without n undos)
      → AllByRecursion (λ (d : MemberChange). IsOfOneOf (filter (is_other n) cycles) d.change.cycle) (cond out (c ∷ without n undos) (without n undos))
  by true out rest = (its c.change.cycle out all.0, rest)
  by false out rest = rest

pub holds-one : (P : ℕ → Type 0) (n : ℕ) (xs : List ℕ) → is_one_of xs n ≡ true → AllByRecursion P xs → P n
holds-one P n [] one all = absurd cc
holds-one P n (x ∷ xs) one all = by (x == n) refl one (λ more. holds-one P n xs more all.1) where
  by : (b : Bool) → (x == n) ≡ b → (b || is_one_of xs n) ≡ true → (is_one_of xs n ≡ true → P n) → P n
  by true is one rest = subst P (eqb-true x n is) all.0
  by false is one rest = rest one

-- ---- one commit cycle ends

module _ (change : JobState → JobState) (job : JobState) (after : (change job).cycle ≡ None) (next place : ℕ) (cycles : List ℕ) (undos : List MemberChange) (jobs : List JobState)
    (there : slice_get jobs place ≡ Some job) (stand : CyclesStand next cycles undos jobs) where
  pub none-ends : job.cycle ≡ None → CyclesStand next cycles undos (job_changed place change jobs)
  none-ends none = record {
    same = λ n. stand.same n ∙ ap (λ (numbers : List ℕ). is_one_of numbers n) (sym (none-gone change job after place jobs there none));
    rising = stand.rising;
    apart = subst AreDifferent (sym (none-gone change job after place jobs there none)) stand.apart;
    begun = stand.begun;
    changes = all-changed (HasItsChanges undos) change job place jobs there (no-changes undos (change job).cycle after) stand.changes;
    owned = stand.owned;
  }

  module _ (cycle : CycleState) (has : job.cycle ≡ Some cycle) where
    gone : cycle_numbers (job_changed place change jobs) ≡ filter (is_other cycle.sequence) (cycle_numbers jobs)
    gone = one-gone change job after cycle has place jobs there stand.apart

    -- it is one of those of the journal
    pub is-one : is_one_of cycles cycle.sequence ≡ true
    is-one = stand.same cycle.sequence ∙ all-at change job after cycle has (λ n. is_one_of (cycle_numbers jobs) n ≡ true) place jobs there (all-ones (cycle_numbers jobs)) where
      more-ones : (x : ℕ) (xs ys : List ℕ) → AllByRecursion (λ n. is_one_of xs n ≡ true) ys → AllByRecursion (λ n. is_one_of (x ∷ xs) n ≡ true) ys
      more-ones x xs [] all = tt
      more-ones x xs (y ∷ ys) all =
          (elim (x == y) as (λ b. (b || is_one_of xs y) ≡ true) [ true ↦ refl | false ↦ all.0 ], more-ones x xs ys all.1)

      all-ones : (xs : List ℕ) → AllByRecursion (λ n. is_one_of xs n ≡ true) xs
      all-ones [] = tt
      all-ones (x ∷ xs) = (grind (arith, nat_tests), more-ones x xs xs (all-ones xs))

    pub one-ends : CyclesStand next (filter (is_other cycle.sequence) cycles) (without cycle.sequence undos) (job_changed place change jobs)
    one-ends = record {
      same = λ m.
          one_of-filter cycle.sequence m cycles ∙ ap (λ (b : Bool). is_other cycle.sequence m && b) (stand.same m)
          ∙ sym (one_of-filter cycle.sequence m (cycle_numbers jobs)) ∙ ap (λ (numbers : List ℕ). is_one_of numbers m) (sym gone);
      rising = rising-filter (is_other cycle.sequence) cycles stand.rising;
      apart = subst AreDifferent (sym gone) (different-filter (is_other cycle.sequence) (cycle_numbers jobs) stand.apart);
      begun = all-filter (BeganBefore next) (is_other cycle.sequence) cycles stand.begun;
      changes = changes-after place jobs there stand.apart stand.changes;
      owned = owned-left cycle.sequence cycles undos stand.owned;
    } where
      one : (o : Option CycleState) → AllByRecursion (λ m. is_other cycle.sequence m ≡ true) (with_number o []) → IfSome o (λ (c : CycleState). changes_in c.sequence undos ≡ c.undos)
          → IfSome o (λ (c : CycleState). changes_in c.sequence (without cycle.sequence undos) ≡ c.undos)
      one None other has = tt
      one (Some c) other has = changes-left cycle.sequence c.sequence other.0 undos ∙ has

      split : (o : Option CycleState) (P : ℕ → Type 0) (numbers : List ℕ) → AllByRecursion P (with_number o numbers) → AllByRecursion P (with_number o []) × AllByRecursion P numbers
      split None P numbers all = (tt, all)
      split (Some c) P numbers all = ((all.0, tt), all.1)

      others : (rest : List JobState) → AllByRecursion (λ m. is_other cycle.sequence m ≡ true) (cycle_numbers rest) → AllByRecursion (HasItsChanges undos) rest
          → AllByRecursion (HasItsChanges (without cycle.sequence undos)) rest
      others [] other all = tt
      others (j ∷ rest) other all =
          let parts = split j.cycle (λ m. is_other cycle.sequence m ≡ true) (cycle_numbers rest) other in
          (one j.cycle parts.0 all.0, others rest parts.1 all.1)

      front : (o : Option CycleState) (numbers : List ℕ) → AreDifferent (with_number o numbers)
          → ((P : ℕ → Type 0) → AllByRecursion P numbers → P cycle.sequence) → AllByRecursion (λ m. is_other cycle.sequence m ≡ true) (with_number o [])
      front None numbers apart at = tt
      front (Some c) numbers apart at = (other-sym c.sequence cycle.sequence (at (λ (other : ℕ). is_other c.sequence other ≡ true) apart.0), tt)

      back : (o : Option CycleState) (numbers : List ℕ) → AreDifferent (with_number o numbers) → AreDifferent numbers
      back None numbers apart = apart
      back (Some c) numbers apart = apart.1

      changes-after : (at : ℕ) (all : List JobState) → slice_get all at ≡ Some job → AreDifferent (cycle_numbers all) → AllByRecursion (HasItsChanges undos) all
          → AllByRecursion (HasItsChanges (without cycle.sequence undos)) (job_changed at change all)
      changes-after at [] found apart have = tt
      changes-after zero (j ∷ rest) found apart have =
          let e : j ≡ job = cc in
          let its : AreDifferent (with_number (Some cycle) (cycle_numbers rest)) =
          subst (λ (o : Option CycleState). AreDifferent (with_number o (cycle_numbers rest))) (ap (λ (x : JobState). x.cycle) e ∙ has) apart in (
            no-changes (without cycle.sequence undos) (change j).cycle (ap (λ (x : JobState). (change x).cycle) e ∙ after),
            others rest its.0 have.1,
          )
      changes-after (suc at) (j ∷ rest) found apart have = (
        one j.cycle (front j.cycle (cycle_numbers rest) apart (λ P. all-at change job after cycle has P at rest found)) have.0,
        changes-after at rest found (back j.cycle (cycle_numbers rest) apart) have.1,
      )
