-- A member that no job uses: no commit cycle that the journal leaves open has changed it.
use Rattle.std.proofs.Common.{◌≡◌, ℕ, ◌+◌, ◌==◌, ◌||◌, Bool, true, false, cond, IfSome, Option, Some, None, List, [], ◌∷◌, refl, sym, ap, ◌∙◌, subst, arith}
use Rattle.std.specs.List.{AllByRecursion, list_any}
use Rattle.std.proofs.lemmas.Bool.{eqb-true}
use Rattle.std.proofs.lemmas.Bool.Decides.{nat_tests}
use Rattle.lock_table.specs.declared.lock.Lock.{Lock}
use Rattle.journal_model.specs.Replay.{is_in}
use Rattle.journal_model.specs.Replayable.{is_one_of}
use Rattle.journal_model.specs.Rollback.{MemberChange, of_member}
use Rattle.lawful_states.proofs.BackLemmas.{unused-unchanged}
use Rattle.library_steps.specs.State.{CycleState, JobState, State, memory_of}
use Rattle.library_steps.specs.Uses.{first_job, has_changed, user_of, uses}
use Rattle.library_steps.specs.Uses as jobs_uses
use Rattle.replayed_histories.specs.Shown.{cycle_numbers, with_number}
use Rattle.replayed_histories.specs.Replayed.{HasItsChanges, IsOfOneOf, IsReplayed, changes_in}

-- no job has changed it
none-changed : (member : ℕ) (locks : List Lock) (number : ℕ) (jobs : List JobState) → first_job (uses member locks) number jobs ≡ None
    → AllByRecursion (λ (job : JobState). has_changed member job ≡ false) jobs
none-changed member locks number [] none = tt
none-changed member locks number (job ∷ jobs) none = by (uses member locks number job) refl none (λ rest. none-changed member locks (number + 1) jobs rest) where
  by : (b : Bool) → uses member locks number job ≡ b → cond b (Some number) (first_job (uses member locks) (number + 1) jobs) ≡ None
      → (first_job (uses member locks) (number + 1) jobs ≡ None → AllByRecursion (λ (other : JobState). has_changed member other ≡ false) jobs)
      → AllByRecursion (λ (other : JobState). has_changed member other ≡ false) (job ∷ jobs)
  by true is h more = absurd cc
  by false is h more = (unused-unchanged member number locks job is, more h)

module _ (member : ℕ) where
  abbrev is_of : MemberChange → Bool
  is_of c = c.member == member

  -- no commit cycle of a job has
  unchanged : (undos : List MemberChange) (jobs : List JobState) → AllByRecursion (HasItsChanges undos) jobs → AllByRecursion (λ (job : JobState). has_changed member job ≡ false) jobs
      → (k : ℕ) → is_one_of (cycle_numbers jobs) k ≡ true → list_any is_of (changes_in k undos) ≡ false
  unchanged undos [] have none k one = absurd cc
  unchanged undos (job ∷ jobs) have none k one = by job.cycle have.0 none.0 one (λ rest. unchanged undos jobs have.1 none.1 k rest) where
    at : (sequence : ℕ) (b : Bool) → (sequence == k) ≡ b → list_any is_of (changes_in sequence undos) ≡ false → (b || is_one_of (cycle_numbers jobs) k) ≡ true
        → (is_one_of (cycle_numbers jobs) k ≡ true → list_any is_of (changes_in k undos) ≡ false) → list_any is_of (changes_in k undos) ≡ false
    at sequence true is here one more = subst (λ (n : ℕ). list_any is_of (changes_in n undos) ≡ false) (eqb-true sequence k is) here
    at sequence false is here one more = more one

    by : (o : Option CycleState) → IfSome o (λ (cycle : CycleState). changes_in cycle.sequence undos ≡ cycle.undos) → list_any is_of (jobs_uses.changes_in o) ≡ false
        → is_one_of (with_number o (cycle_numbers jobs)) k ≡ true
        → (is_one_of (cycle_numbers jobs) k ≡ true → list_any is_of (changes_in k undos) ≡ false) → list_any is_of (changes_in k undos) ≡ false
    by None has free one more = more one
    by (Some cycle) has free one more = at cycle.sequence (cycle.sequence == k) refl (ap (list_any is_of) has ∙ free) one more

  same-number : (k : ℕ) → (k == k) ≡ true
  same-number k = grind (arith, nat_tests)

  -- so the journal tells of none
  all-free : (cycles : List ℕ) (undos : List MemberChange) → AllByRecursion (λ (c : MemberChange). IsOfOneOf cycles c.change.cycle) undos
      → ((k : ℕ) → is_one_of cycles k ≡ true → list_any is_of (changes_in k undos) ≡ false) → of_member member undos ≡ []
  all-free cycles [] owned none = refl
  all-free cycles (c ∷ undos) owned none =
      at (c.member == member) refl (all-free cycles undos owned.1 (λ k one. rest k (is_in k c.change) (none k one)))
    where
      rest : (k : ℕ) (b : Bool) → list_any is_of (cond b (c ∷ changes_in k undos) (changes_in k undos)) ≡ false → list_any is_of (changes_in k undos) ≡ false
      rest k true h = second (c.member == member) (list_any is_of (changes_in k undos)) h where
        second : (a b : Bool) → (a || b) ≡ false → b ≡ false
        second true b h = absurd cc
        second false b h = h
      rest k false h = h

      never : (cycle : Option ℕ) → c.change.cycle ≡ cycle → IsOfOneOf cycles cycle → (c.member == member) ≡ true → ⊥
      never None has of is = absurd of
      never (Some k) has of is =
          let its : is_in k c.change ≡ true = ap (λ (o : Option ℕ). is_in k (record c.change { cycle = o })) has ∙ same-number k in
          let here : list_any is_of (c ∷ changes_in k undos) ≡ false =
          sym (ap (λ (b : Bool). list_any is_of (cond b (c ∷ changes_in k undos) (changes_in k undos))) its) ∙ none k of
          in
          let first : (c.member == member || list_any is_of (changes_in k undos)) ≡ true = ap (λ (b : Bool). b || list_any is_of (changes_in k undos)) is in
          absurd (let both : ◌≡◌ {A = Bool} true false = sym first ∙ here in cc)

      at : (b : Bool) → (c.member == member) ≡ b → of_member member undos ≡ [] → cond b (c.change ∷ of_member member undos) (of_member member undos) ≡ []
      at true is free = absurd (never c.change.cycle refl owned.0 is)
      at false is free = free

-- no open commit cycle has changed a member that no job uses
pub unused-free : (s : State) (r : IsReplayed s) (member : ℕ) → user_of member (memory_of s) ≡ None → of_member member r.left.undos ≡ []
unused-free s r member none =
    all-free member r.left.cycles r.left.undos r.stands.cycles_are.owned
    (λ k one. unchanged member r.left.undos s.jobs r.stands.cycles_are.changes (none-changed member s.locks 1 s.jobs none) k (sym (r.stands.cycles_are.same k) ∙ one))
