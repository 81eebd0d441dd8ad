-- Whose lock on a record excludes those of others, and which change locks a call leaves.
use Rattle.std.proofs.Common.{◌≡◌, ◌≢◌, ◌∙◌, ℕ, ◌≤◌, ◌==◌, ◌&&◌, ◌||◌, Bool, true, false, not, List, [], ◌∷◌, length, Option, Some, None, refl, sym, subst, arith}
use Rattle.std.specs.List.{All, AllByRecursion, list_any}
use Rattle.std.specs.Option.{option_and_then}
use Rattle.std.proofs.lemmas.Bool.{and_parts, eqb-true}
use Rattle.std.proofs.lemmas.Bool.Decides.{nat_tests}
use Rattle.std.proofs.lemmas.List.Elements.{All-head, All-tail}
use Rattle.commit_level.specs.declared.Level.{Level}
use Rattle.commit_level.specs.declared.Level.TheVariants as levels
use Rattle.member_slots.specs.Members.{member_of}
use Rattle.lock_table.specs.declared.lock.Lock.{Lock}
use Rattle.lock_table.specs.declared.lock.LockKind.{LockKind}
use Rattle.lock_table.specs.declared.lock.Holder.{Holder}
use Rattle.lock_table.specs.declared.lock.RecordId.{RecordId}
use Rattle.lock_table.specs.declared.lock.Reach.TheVariants.{Boundary}
use Rattle.lock_table.specs.declared.levels.Call.{Call}
use Rattle.lock_table.specs.declared.levels.Call.TheVariants.{InputRead, UpdateRead, Update, Delete, Write, WriteAt, Unlock, Position, Close, Commit, Rollback, EndCommitment, EndJob}
use Rattle.lock_table.specs.Lock.{Clashes, is_by, is_change_lock, is_of_group, is_of_group_on, is_on, is_open, is_update, update_kind}
use Rattle.lock_table.specs.Table.{AreCompatible, HoldsChange, blocker}
use Rattle.lock_table.specs.Levels.{asked, gained, locks_after, released}
use Rattle.lock_table.proofs.Found.{alone-from_blocker}
use Rattle.lock_table.proofs.LawLemmas.{HoldsChange-call, HoldsChange-changed}
use Rattle.library_steps.specs.State.{Memory, OpenState}
use Rattle.library_steps.specs.Locking.{holder_of, record_of}
use Rattle.joint_state.specs.Calls.{IsOfOpen}
use Rattle.joint_state.specs.Locks.{LockStands}
use Rattle.joint_state.specs.CurrentRecords.{keeps_record}

-- ---- one that passes a test

chosen : {X : Type 0} (P : X → Type 0) (Q : Type 0) (test : X → Bool) (xs : List X) → list_any test xs ≡ true → All P xs → ((x : X) → test x ≡ true → P x → Q) → Q
chosen P Q test [] some all each = absurd cc
chosen P Q test (x ∷ xs) some all each =
    elim (test x) as (λ b. test x ≡ b → (b || list_any test xs) ≡ true → Q) [
      | true ↦ λ e h. each x e (All-head P x xs all)
      | false ↦ λ e h. chosen P Q test xs h (All-tail P x xs all) each
    ] refl some

chosen_of : {X : Type 0} (P : X → Type 0) (Q : Type 0) (test : X → Bool) (xs : List X) → list_any test xs ≡ true → AllByRecursion P xs → ((x : X) → test x ≡ true → P x → Q) → Q
chosen_of P Q test [] some all each = absurd cc
chosen_of P Q test (x ∷ xs) some all each =
    elim (test x) as (λ b. test x ≡ b → (b || list_any test xs) ≡ true → Q) [
      | true ↦ λ e h. each x e all.0
      | false ↦ λ e h. chosen_of P Q test xs h all.1 each
    ] refl some

-- ---- the lock of a change

record IsOnRecord (at : RecordId) (lock : Lock) : Type 0 where
  member : lock.at.member ≡ at.member
  rrn : lock.at.rrn ≡ at.rrn

on_record : (at : RecordId) (lock : Lock) → is_on at lock ≡ true → IsOnRecord at lock
on_record at lock on =
    let parts = and_parts (lock.at.member == at.member) (lock.at.rrn == at.rrn) on in
    record { member = eqb-true lock.at.member at.member parts.0; rrn = eqb-true lock.at.rrn at.rrn parts.1 }

record IsOfChange (job : ℕ) (at : RecordId) (lock : Lock) : Type 0 where
  on : is_on at lock ≡ true
  by : lock.job ≡ job
  update : is_update lock.kind ≡ true

of_change : (job : ℕ) (at : RecordId) (lock : Lock) → is_change_lock job at lock ≡ true → IsOfChange job at lock
of_change job at lock is =
    let outer = and_parts (is_of_group_on job at lock) (is_update lock.kind) is in
    let inner = and_parts (is_on at lock) (is_of_group job lock) outer.0 in
    let group = and_parts (not (is_open lock.reach)) (is_by job lock) inner.1 in
    record { on = inner.0; by = eqb-true lock.job job group.1; update = outer.1 }

one_record : (m n x r s y : ℕ) → m ≡ x → n ≡ x → r ≡ y → s ≡ y → ((m == n) && (r == s)) ≡ true
one_record m n x r s y first second third fourth = grind (arith, nat_tests)

clash : (on : Bool) (j k : ℕ) (u v : Bool) → on ≡ true → j ≢ k → u ≡ true → (on && (not (j == k) && (u || v))) ≡ true
clash on j k u v is differ update = grind (arith, nat_tests)

-- what clashes with no lock on its record excludes each change of others
alone : (mine : Lock) (at : RecordId) (other : ℕ) (held : List Lock) → is_on at mine ≡ true → All (λ lock. Clashes mine lock → ⊥) held → other ≢ mine.job → HoldsChange other at held → ⊥
alone mine at other held on free differ holds =
    chosen (λ lock. Clashes mine lock → ⊥) ⊥ (is_change_lock other at) held holds free
    (λ lock test spared.
    let its = of_change other at lock test in
    let there = on_record at lock its.on in
    let here = on_record at mine on in
    let by : lock.job ≡ other = its.by in
    spared
    (clash (is_on mine.at lock) lock.job mine.job (is_update lock.kind) (is_update mine.kind)
    (one_record lock.at.member mine.at.member at.member lock.at.rrn mine.at.rrn at.rrn there.member here.member there.rrn here.rrn) (λ same. differ (sym by ∙ same)) its.update))

-- no two jobs have changed one record
pub two_holders : (held : List Lock) (one other : ℕ) (at : RecordId) → AreCompatible held → other ≢ one → HoldsChange one at held → HoldsChange other at held → ⊥
two_holders held one other at compatible differ first second =
    chosen (λ mine. All (λ lock. Clashes mine lock → ⊥) held) ⊥ (is_change_lock one at) held first compatible
    (λ mine test free.
    let its = of_change one at mine test in
    let by : mine.job ≡ one = its.by in
    alone mine at other held its.on free (λ same. differ (same ∙ by)) second)

-- nor one that another job has locked for update
pub current_alone : (held : List Lock) (commit : Bool) (job : ℕ) (opened : OpenState) (rrn other : ℕ) → AreCompatible held → other ≢ job
    → list_any (keeps_record commit (holder_of job opened) (record_of opened rrn)) held ≡ true → HoldsChange other (record_of opened rrn) held → ⊥
current_alone held commit job opened rrn other compatible differ keeps second =
    chosen (λ mine. All (λ lock. Clashes mine lock → ⊥) held) ⊥ (keeps_record commit (holder_of job opened) (record_of opened rrn)) held keeps compatible
    (λ mine test free.
    let at = record_of opened rrn in
    let reach = and_parts (((is_on at mine && is_by job mine) && (mine.opened == opened.number)) && is_update mine.kind) (commit || is_open mine.reach) test in
    let kind = and_parts ((is_on at mine && is_by job mine) && (mine.opened == opened.number)) (is_update mine.kind) reach.0 in
    let through = and_parts (is_on at mine && is_by job mine) (mine.opened == opened.number) kind.0 in
    let on = and_parts (is_on at mine) (is_by job mine) through.0 in
    let by : mine.job ≡ job = eqb-true mine.job job on.1 in
    alone mine at other held on.0 free (λ same. differ (same ∙ by)) second)

-- nor one on which another job may have such a lock
pub unblocked_alone : (held : List Lock) (job other : ℕ) (at : RecordId) → blocker job at update_kind held ≡ None → other ≢ job → HoldsChange other at held → ⊥
unblocked_alone held job other at none differ second =
    let mine : Lock = record { job = job; reach = Boundary; at = at; opened = 0; kind = update_kind } in
    alone mine at other held (one_record at.member at.member at.member at.rrn at.rrn at.rrn refl refl refl refl) (alone-from_blocker mine held none) differ second

-- a changed record is at a place of its member
pub record HasPlace (m : Memory) (at : RecordId) : Type 0 where
  pub counted : 1 ≤ at.rrn
  pub there : at.rrn ≤ length (member_of at.member m.members).slots

pub held_place : (m : Memory) (held : List Lock) (job : ℕ) (at : RecordId) → AllByRecursion (LockStands m) held → HoldsChange job at held → HasPlace m at
held_place m held job at stand holds =
    chosen_of (LockStands m) (HasPlace m at) (is_change_lock job at) held holds stand
    (λ lock test stands.
    let its = of_change job at lock test in
    let here = on_record at lock its.on in
    record {
      counted = subst (λ n. 1 ≤ n) here.rrn stands.counted;
      there = subst (λ n. at.rrn ≤ length (member_of n m.members).slots) here.member (subst (λ n. n ≤ length (member_of lock.at.member m.members).slots) here.rrn stands.there);
    })

-- ---- calls

-- WRITE at a number asks for an update lock
pub asked_write : (level : Option Level) (found : LockKind → Option ℕ) → option_and_then (λ wanted. found wanted.kind) (asked WriteAt level) ≡ None → found update_kind ≡ None
asked_write None found none = none
asked_write (Some levels.Chg) found none = none
asked_write (Some levels.Cs) found none = none
asked_write (Some levels.All) found none = none

-- a change of a record
abbrev pub IsChange : Call → Type 0
IsChange InputRead = ⊥
IsChange UpdateRead = ⊥
IsChange Update = Unit {0}
IsChange Delete = Unit {0}
IsChange Write = Unit {0}
IsChange WriteAt = Unit {0}
IsChange Unlock = ⊥
IsChange Position = ⊥
IsChange Close = ⊥
IsChange Commit = ⊥
IsChange Rollback = ⊥
IsChange EndCommitment = ⊥
IsChange EndJob = ⊥

-- under commitment it has its lock
gains : (call : Call) (level : Level) → IsChange call → gained call (Some level) ≡ Some (record { kind = update_kind; reach = Boundary })
gains Update levels.Chg is = refl
gains Update levels.Cs is = refl
gains Update levels.All is = refl
gains Delete levels.Chg is = refl
gains Delete levels.Cs is = refl
gains Delete levels.All is = refl
gains Write levels.Chg is = refl
gains Write levels.Cs is = refl
gains Write levels.All is = refl
gains WriteAt levels.Chg is = refl
gains WriteAt levels.Cs is = refl
gains WriteAt levels.All is = refl
gains InputRead level is = absurd is
gains UpdateRead level is = absurd is
gains Unlock level is = absurd is
gains Position level is = absurd is
gains Close level is = absurd is
gains Commit level is = absurd is
gains Rollback level is = absurd is
gains EndCommitment level is = absurd is
gains EndJob level is = absurd is

pub change-locks : (call : Call) (level : Option Level) (holder : Holder) (at : RecordId) (is_committed : ℕ → Bool) (held : List Lock) → IsChange call → (level ≡ None → ⊥)
    → HoldsChange holder.job at (locks_after call level holder at is_committed held)
change-locks call None holder at is_committed held is under = absurd (under refl)
change-locks call (Some level) holder at is_committed held is under = HoldsChange-changed holder at is_committed call (Some level) held (gains call level is)

pub change-open : (call : Call) → IsChange call → IsOfOpen call
change-open Update is = tt
change-open Delete is = tt
change-open Write is = tt
change-open WriteAt is = tt
change-open InputRead is = absurd is
change-open UpdateRead is = absurd is
change-open Unlock is = absurd is
change-open Position is = absurd is
change-open Close is = absurd is
change-open Commit is = absurd is
change-open Rollback is = absurd is
change-open EndCommitment is = absurd is
change-open EndJob is = absurd is

-- a call through an open spares what is kept to the boundary
spared : (call : Call) (level : Option Level) → IsOfOpen call → (released call level).boundary_locks ≡ false
spared InputRead None of = refl
spared InputRead (Some levels.Chg) of = refl
spared InputRead (Some levels.Cs) of = refl
spared InputRead (Some levels.All) of = refl
spared UpdateRead None of = refl
spared UpdateRead (Some levels.Chg) of = refl
spared UpdateRead (Some levels.Cs) of = refl
spared UpdateRead (Some levels.All) of = refl
spared Update None of = refl
spared Update (Some levels.Chg) of = refl
spared Update (Some levels.Cs) of = refl
spared Update (Some levels.All) of = refl
spared Delete None of = refl
spared Delete (Some levels.Chg) of = refl
spared Delete (Some levels.Cs) of = refl
spared Delete (Some levels.All) of = refl
spared Write None of = refl
spared Write (Some levels.Chg) of = refl
spared Write (Some levels.Cs) of = refl
spared Write (Some levels.All) of = refl
spared WriteAt None of = refl
spared WriteAt (Some levels.Chg) of = refl
spared WriteAt (Some levels.Cs) of = refl
spared WriteAt (Some levels.All) of = refl
spared Unlock None of = refl
spared Unlock (Some levels.Chg) of = refl
spared Unlock (Some levels.Cs) of = refl
spared Unlock (Some levels.All) of = refl
spared Position None of = refl
spared Position (Some levels.Chg) of = refl
spared Position (Some levels.Cs) of = refl
spared Position (Some levels.All) of = refl
spared Close None of = refl
spared Close (Some levels.Chg) of = refl
spared Close (Some levels.Cs) of = refl
spared Close (Some levels.All) of = refl
spared Commit level of = absurd of
spared Rollback level of = absurd of
spared EndCommitment level of = absurd of
spared EndJob level of = absurd of

pub open-keeps : (call : Call) (level : Option Level) (holder : Holder) (at : RecordId) (is_committed : ℕ → Bool) (job : ℕ) (changed : RecordId) (held : List Lock) → IsOfOpen call
    → HoldsChange job changed held → HoldsChange job changed (locks_after call level holder at is_committed held)
open-keeps call level holder at is_committed job changed held of holds = HoldsChange-call holder at is_committed job changed call level held (spared call level of) holds
