-- What open commit cycles have changed of a record that a job may change now, its own has.
use Rattle.std.proofs.Common.{◌≡◌, ◌≢◌, ◌⊎◌, inl, inr, ℕ, ◌+◌, ◌-◌, ◌==◌, ◌||◌, zero, suc, slice_get, Bool, true, false, cond, IfSome, Option, Some, None, List, [], ◌∷◌, refl, sym, ap, ◌∙◌, subst, arith}
use Rattle.std.specs.List.{AllByRecursion}
use Rattle.std.proofs.lemmas.Bool.{cases_eq, eqb-true}
use Rattle.std.proofs.lemmas.Bool.Decides.{nat_tests}
use Rattle.lock_table.specs.declared.lock.RecordId.{RecordId}
use Rattle.lock_table.specs.Table.{HoldsChange}
use Rattle.journal_model.specs.Acts.{Change}
use Rattle.journal_model.specs.Replay.{is_in}
use Rattle.journal_model.specs.Replayable.{is_one_of}
use Rattle.journal_model.specs.Rollback.{MemberChange, of_member}
use Rattle.library_steps.specs.State.{CycleState, JobState, State, job_of, memory_of}
use Rattle.library_steps.specs.SlotChange.{NewSlot, cycle_number}
use Rattle.library_steps.specs.Uses as jobs_uses
use Rattle.joint_state.specs.Sound.{IsSound}
use Rattle.sound_histories.proofs.JobLemmas.{IsAsking}
use Rattle.sound_histories.proofs.PutLemmas.{IsNotOf, MayPut}
use Rattle.replayed_histories.specs.Shown.{cycle_numbers, with_number}
use Rattle.replayed_histories.specs.Replayed.{CyclesStand, HasItsChanges, IsOfOneOf, changes_in}

module _ (member rrn : ℕ) (own : Option ℕ) where
  -- the commit cycle hasn't changed the record, or is the one of the change
  abbrev pub IsSparedBy : (sequence : ℕ) → List MemberChange → Type 0
  IsSparedBy sequence undos = AllByRecursion (IsNotOf member rrn) undos ⊎ (own ≡ Some sequence)

  abbrev pub IsSpared : JobState → Type 0
  IsSpared job = IfSome job.cycle (λ (cycle : CycleState). IsSparedBy cycle.sequence cycle.undos)

  -- so it is of each that the jobs have open
  spared-one : (undos : List MemberChange) (jobs : List JobState) → AllByRecursion (HasItsChanges undos) jobs → AllByRecursion IsSpared jobs → (k : ℕ)
      → is_one_of (cycle_numbers jobs) k ≡ true → IsSparedBy k (changes_in k undos)
  spared-one undos [] have spared k one = absurd cc
  spared-one undos (job ∷ jobs) have spared k one = by job.cycle have.0 spared.0 one (λ rest. spared-one undos jobs have.1 spared.1 k rest) where
    at : (sequence : ℕ) (b : Bool) → (sequence == k) ≡ b → IsSparedBy sequence (changes_in sequence undos) → (b || is_one_of (cycle_numbers jobs) k) ≡ true
        → (is_one_of (cycle_numbers jobs) k ≡ true → IsSparedBy k (changes_in k undos)) → IsSparedBy k (changes_in k undos)
    at sequence true is here one more = subst (λ (n : ℕ). IsSparedBy n (changes_in n undos)) (eqb-true sequence k is) here
    at sequence false is here one more = more one

    by : (o : Option CycleState) → IfSome o (λ (cycle : CycleState). changes_in cycle.sequence undos ≡ cycle.undos)
        → IfSome o (λ (cycle : CycleState). IsSparedBy cycle.sequence cycle.undos) → is_one_of (with_number o (cycle_numbers jobs)) k ≡ true
        → (is_one_of (cycle_numbers jobs) k ≡ true → IsSparedBy k (changes_in k undos)) → IsSparedBy k (changes_in k undos)
    by None has spared one more = more one
    by (Some cycle) has spared one more = at cycle.sequence (cycle.sequence == k) refl (subst (IsSparedBy cycle.sequence) (sym has) spared) one more

  abbrev pub IsOfOwn : ℕ → Change → Type 0
  IsOfOwn place c = c.place ≡ place → c.cycle ≡ own

  same-number : (k : ℕ) → (k == k) ≡ true
  same-number k = grind (arith, nat_tests)

  pub all-own : (place : ℕ) → place + 1 ≡ rrn → (cycles : List ℕ) (undos : List MemberChange) → AllByRecursion (λ (c : MemberChange). IsOfOneOf cycles c.change.cycle) undos
      → ((k : ℕ) → is_one_of cycles k ≡ true → IsSparedBy k (changes_in k undos)) → AllByRecursion (IsOfOwn place) (of_member member undos)
  all-own place at cycles [] owned spared = tt
  all-own place at cycles (c ∷ undos) owned spared =
      by (c.member == member) refl (all-own place at cycles undos owned.1 (λ k one. behind k (is_in k c.change) (spared k one)))
    where
      behind : (k : ℕ) (b : Bool) → IsSparedBy k (cond b (c ∷ changes_in k undos) (changes_in k undos)) → IsSparedBy k (changes_in k undos)
      behind k true (inl none) = inl none.1
      behind k true (inr its) = inr its
      behind k false (inl none) = inl none
      behind k false (inr its) = inr its

      out : (k : ℕ) → c.change.cycle ≡ Some k → (c.member == member) ≡ true → c.change.place ≡ place → IsSparedBy k (changes_in k (c ∷ undos)) → own ≡ Some k
      out k has is there (inr its) = its
      out k has is there (inl none) =
          let its : is_in k c.change ≡ true = ap (λ (o : Option ℕ). is_in k (record c.change { cycle = o })) has ∙ same-number k in
          let all : AllByRecursion (IsNotOf member rrn) (c ∷ changes_in k undos) =
          subst (λ (b : Bool). AllByRecursion (IsNotOf member rrn) (cond b (c ∷ changes_in k undos) (changes_in k undos))) its none in
          absurd (all.0 (eqb-true c.member member is) (ap (λ (n : ℕ). n + 1) there ∙ at))

      of : (o : Option ℕ) → c.change.cycle ≡ o → IsOfOneOf cycles o → (c.member == member) ≡ true → c.change.place ≡ place → c.change.cycle ≡ own
      of None has one is there = absurd one
      of (Some k) has one is there = has ∙ sym (out k has is there (spared k one))

      by : (b : Bool) → (c.member == member) ≡ b → AllByRecursion (IsOfOwn place) (of_member member undos)
          → AllByRecursion (IsOfOwn place) (cond b (c.change ∷ of_member member undos) (of_member member undos))
      by true is rest = (of c.change.cycle refl owned.0 is, rest)
      by false is rest = rest

-- ---- the jobs

module _ (s : State) (sound : IsSound s) (job : ℕ) (asks : IsAsking s job) (new : NewSlot) (may : MayPut s job new) where
  abbrev mine : JobState
  mine = job_of job (memory_of s)

  abbrev pub own_cycle : Option ℕ
  own_cycle = cycle_number new.opened.commit (memory_of s) mine

  not-of : (number : ℕ) (undos : List MemberChange) → number ≢ job
      → AllByRecursion (λ (undo : MemberChange). HoldsChange number (record { member = undo.member; rrn = undo.change.place + 1 }) s.locks) undos
      → AllByRecursion (IsNotOf new.opened.member new.rrn) undos
  not-of number [] differs all = tt
  not-of number (undo ∷ undos) differs all = (
    λ same place. may.alone number differs (subst (λ (at : RecordId). HoldsChange number at s.locks) (λ i. record { member = same i; rrn = place i }) all.0),
    not-of number undos differs all.1,
  )

  -- the job's own commit cycle
  its-own : (cycle : CycleState) → mine.cycle ≡ Some cycle → (commit : Bool) → new.opened.commit ≡ commit
      → IsSparedBy new.opened.member new.rrn (cycle_number commit (memory_of s) mine) cycle.sequence cycle.undos
  its-own cycle has true on = inr (ap (λ (o : Option CycleState). cycle_number true (memory_of s) (record mine { cycle = o })) has)
  its-own cycle has false off = inl (subst (λ (o : Option CycleState). AllByRecursion (IsNotOf new.opened.member new.rrn) (jobs_uses.changes_in o)) has (may.own off))

  spared-at : (place : ℕ) (j : JobState) → slice_get s.jobs place ≡ Some j → IsSpared new.opened.member new.rrn own_cycle j
  spared-at place j there = by j.cycle refl where
    by : (o : Option CycleState) → j.cycle ≡ o → IfSome o (λ (cycle : CycleState). IsSparedBy new.opened.member new.rrn own_cycle cycle.sequence cycle.undos)
    by None has = tt
    by (Some cycle) has = elim (cases_eq (place + 1) job) [
      | inl same ↦ (
          let first = asks.first in
          let at : place ≡ job - 1 = omega (arith, same) in
          let found : slice_get s.jobs place ≡ Some mine = ap (slice_get s.jobs) at ∙ asks.there in
          let both : ◌≡◌ {A = Option JobState} (Some j) (Some mine) = sym there ∙ found in
          let e : j ≡ mine = cc in
          its-own cycle (ap (λ (x : JobState). x.cycle) (sym e) ∙ has) new.opened.commit refl)
      | inr differs ↦ inl (not-of (place + 1) cycle.undos differs
          (subst (λ (o : Option CycleState). AllByRecursion (λ (undo : MemberChange). HoldsChange (place + 1) (record { member = undo.member; rrn = undo.change.place + 1 }) s.locks)
          (jobs_uses.changes_in o)) has (sound.joint.jobs place j there).locked))
    ]

  each-indexed : (P : JobState → Type 0) (jobs : List JobState) → ((place : ℕ) (j : JobState) → slice_get jobs place ≡ Some j → P j) → AllByRecursion P jobs
  each-indexed P [] each = tt
  each-indexed P (j ∷ jobs) each = (each zero j refl, each-indexed P jobs (λ place x at. each (suc place) x at))

  pub alone-there : (next : ℕ) (cycles : List ℕ) (undos : List MemberChange) → CyclesStand next cycles undos s.jobs
      → AllByRecursion (IsOfOwn new.opened.member new.rrn own_cycle (new.rrn - 1)) (of_member new.opened.member undos)
  alone-there next cycles undos stand =
      let counted = may.counted in
      let at : new.rrn - 1 + 1 ≡ new.rrn = omega (arith, counted) in
      all-own new.opened.member new.rrn own_cycle (new.rrn - 1) at cycles undos stand.owned
      (λ k one. spared-one new.opened.member new.rrn own_cycle undos s.jobs stand.changes (each-indexed (IsSpared new.opened.member new.rrn own_cycle) s.jobs spared-at) k
      (sym (stand.same k) ∙ one))
