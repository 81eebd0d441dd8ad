-- What calls leave of the locks: how many, and of which jobs.
use Rattle.std.proofs.Common.{◌≡◌, ℕ, ◌-◌, ◌<◌, ◌≤◌, ◌==◌, if◌then◌else◌, IsTrue, Bool, true, false, not, cond, nat_lt, IfSome, filter, length, List, [], ◌∷◌, Option, Some, None, slice_get, All, refl, sym, ◌∙◌, ap, arith, zero, suc}
use Rattle.std.specs.Ordering.{is_eq, match_ordering}
use Rattle.std.specs.declared.cmp.Ordering.{Ordering}
use Rattle.std.specs.declared.cmp.Ordering.TheVariants.{Less, Equal, Greater}
use Rattle.std.proofs.lemmas.Bool.Decides.{nat_tests}
use Rattle.std.proofs.lemmas.List.Elements.{All-nil, All-cons, All-head, All-tail, All-filter}
use Rattle.commit_level.specs.declared.Level.{Level}
use Rattle.commit_level.specs.declared.Level.TheVariants as levels
use Rattle.library_steps.below.lock_table.specs.declared.lock.Lock.{Lock}
use Rattle.library_steps.below.lock_table.specs.declared.lock.LockKind.{LockKind}
use Rattle.library_steps.below.lock_table.specs.declared.lock.Holder.{Holder}
use Rattle.library_steps.below.lock_table.specs.declared.lock.RecordId.{RecordId}
use Rattle.library_steps.below.lock_table.specs.declared.lock.Reach.{Reach}
use Rattle.library_steps.below.lock_table.specs.declared.lock.Reach.TheVariants.{Open, Boundary}
use Rattle.library_steps.below.lock_table.specs.declared.levels.Call.{Call}
use Rattle.library_steps.below.lock_table.specs.declared.levels.Call.TheVariants.{InputRead, UpdateRead, Update, Delete, Write, WriteAt, Unlock, Position, Close, Commit, Rollback, EndCommitment, EndJob}
use Rattle.library_steps.below.lock_table.specs.declared.levels.Wanted.{Wanted}
use Rattle.library_steps.below.lock_table.specs.declared.levels.OpenLocks.{OpenLocks}
use Rattle.library_steps.below.lock_table.specs.declared.levels.OpenLocks.TheVariants.{Stay, OfOpen, OfRecord, OfCommitted, OfJob}
use Rattle.library_steps.specs.Lock.{blocks, lock_by, lock_cmp, is_of_open, is_of_record, is_of_opens, is_of_job, is_of_group, update_kind}
use Rattle.library_steps.specs.Table.{with_item, without_lock, with_lock_by, freed, blocker, least_job}
use Rattle.library_steps.specs.Levels.{asked, gained, released, without_open_locks, without_boundary_locks, with_wanted, locks_after}
use Rattle.lawful_states.specs.Jobs.{HasBegun}
use Rattle.library_steps.specs.State.{JobState, job_at}
use Rattle.library_steps.specs.History.{is_running}
use Rattle.lawful_states.specs.Calls.{IsRead, IsWrite, IsOfOpen, AreOfOpen}

-- ---- how many are left

pub length-filter : {X : Type 0} (test : X → Bool) (xs : List X) → length (filter test xs) ≤ length xs
length-filter test [] = omega arith
length-filter test (x ∷ xs) =
    let rest = length-filter test xs in
    elim (test x) as (λ b. length (cond b (x ∷ filter test xs) (filter test xs)) ≤ suc (length xs)) [
      | true ↦ omega (arith, rest)
      | false ↦ omega (arith, rest)
    ]

-- two counts that are not too many
pub few-alike : (count fewer most : ℕ) → fewer ≤ count → count ≤ most → nat_lt most count ≡ nat_lt most fewer
few-alike count fewer most less few = grind (arith, nat_tests)

module _ (holder : Holder) (at : RecordId) (is_committed : ℕ → Bool) (held : List Lock) where
  -- a read gives up the older lock of its open
  read-freed : (call : Call) (level : Option Level) → IsRead call
      → without_open_locks (released call level).open_locks holder at is_committed (without_boundary_locks (released call level).boundary_locks holder.job held) ≡ freed (is_of_open holder) held
  read-freed InputRead None is = refl
  read-freed InputRead (Some levels.Chg) is = refl
  read-freed InputRead (Some levels.Cs) is = refl
  read-freed InputRead (Some levels.All) is = refl
  read-freed UpdateRead None is = refl
  read-freed UpdateRead (Some levels.Chg) is = refl
  read-freed UpdateRead (Some levels.Cs) is = refl
  read-freed UpdateRead (Some levels.All) is = refl
  read-freed Update level is = absurd is
  read-freed Delete level is = absurd is
  read-freed Write level is = absurd is
  read-freed WriteAt level is = absurd is
  read-freed Unlock level is = absurd is
  read-freed Position level is = absurd is
  read-freed Close level is = absurd is
  read-freed Commit level is = absurd is
  read-freed Rollback level is = absurd is
  read-freed EndCommitment level is = absurd is
  read-freed EndJob level is = absurd is

  pub read-left : (call : Call) (level : Option Level) (wanted : Option Wanted) → IsRead call → wanted ≡ asked call level
      → locks_after call level holder at is_committed held ≡ with_wanted wanted holder at (freed (is_of_open holder) held)
  read-left InputRead level wanted is same = rw (same, read-freed InputRead level tt) refl
  read-left UpdateRead level wanted is same = rw (same, read-freed UpdateRead level tt) refl
  read-left Update level wanted is same = absurd is
  read-left Delete level wanted is same = absurd is
  read-left Write level wanted is same = absurd is
  read-left WriteAt level wanted is same = absurd is
  read-left Unlock level wanted is same = absurd is
  read-left Position level wanted is same = absurd is
  read-left Close level wanted is same = absurd is
  read-left Commit level wanted is same = absurd is
  read-left Rollback level wanted is same = absurd is
  read-left EndCommitment level wanted is same = absurd is
  read-left EndJob level wanted is same = absurd is

  -- a WRITE under commitment keeps a lock to the boundary
  pub write-left : (call : Call) (level : Level) → IsWrite call → locks_after call (Some level) holder at is_committed held ≡ with_lock_by holder at update_kind Boundary held
  write-left Write levels.Chg is = refl
  write-left Write levels.Cs is = refl
  write-left Write levels.All is = refl
  write-left WriteAt levels.Chg is = refl
  write-left WriteAt levels.Cs is = refl
  write-left WriteAt levels.All is = refl
  write-left InputRead level is = absurd is
  write-left UpdateRead level is = absurd is
  write-left Update level is = absurd is
  write-left Delete level is = absurd is
  write-left Unlock level is = absurd is
  write-left Position level is = absurd is
  write-left Close level is = absurd is
  write-left Commit level is = absurd is
  write-left Rollback level is = absurd is
  write-left EndCommitment level is = absurd is
  write-left EndJob level is = absurd is

  -- without commitment a WRITE leaves no more than there are
  pub write-none : (call : Call) → IsWrite call → length (locks_after call None holder at is_committed held) ≤ length held
  write-none Write is = omega arith
  write-none WriteAt is = length-filter (λ lock. not (is_of_record holder.job at lock)) held
  write-none InputRead is = absurd is
  write-none UpdateRead is = absurd is
  write-none Update is = absurd is
  write-none Delete is = absurd is
  write-none Unlock is = absurd is
  write-none Position is = absurd is
  write-none Close is = absurd is
  write-none Commit is = absurd is
  write-none Rollback is = absurd is
  write-none EndCommitment is = absurd is
  write-none EndJob is = absurd is

-- ---- of which jobs they are

pub running-within : (jobs : List JobState) (place : ℕ) → IsTrue (is_running (slice_get jobs place)) → place < length jobs
running-within [] place h = absurd cc
running-within (job ∷ jobs) zero h = omega arith
running-within (job ∷ jobs) (suc place) h = omega (arith, running-within jobs place h)

pub running-HasBegun : (jobs : List JobState) (number : ℕ) → IsTrue (is_running (job_at number jobs)) → HasBegun (length jobs) number
running-HasBegun jobs number running =
    elim (number == 0) as (λ b. (number == 0) ≡ b → IsTrue (is_running (if b then None else slice_get jobs (number - 1))) → HasBegun (length jobs) number) [
      | true ↦ λ e h. absurd cc
      | false ↦ λ e h. let first : 1 ≤ number = grind (arith, nat_tests, e) in let last = running-within jobs (number - 1) h in record { first = first; last = omega arith }
    ] refl running

All-with_item : {X : Type 0} (R : X → X → Ordering) (P : X → Type 0) (x : X) (xs : List X) → P x → All P xs → All P (with_item R x xs)
All-with_item R P x [] px h = All-cons P x [] px (All-nil P)
All-with_item R P x (y ∷ ys) px h =
    elim (R x y) as (λ r. All P (match_ordering r (x ∷ y ∷ ys) (y ∷ ys) (y ∷ with_item R x ys))) [
      | Less ↦ All-cons P x (y ∷ ys) px h
      | Equal ↦ h
      | Greater ↦ All-cons P y (with_item R x ys) (All-head P y ys h) (All-with_item R P x ys px (All-tail P y ys h))
    ]

module _ (count : ℕ) (holder : Holder) (at : RecordId) (is_committed : ℕ → Bool) (begun : HasBegun count holder.job) where
  abbrev IsOfJob : Lock → Type 0
  IsOfJob lock = HasBegun count lock.job

  All-freed : (gone : Lock → Bool) (held : List Lock) → All IsOfJob held → All IsOfJob (freed gone held)
  All-freed gone held all = All-filter (λ lock. not (gone lock)) IsOfJob held all

  All-with_lock_by : (kind : LockKind) (reach : Reach) (held : List Lock) → All IsOfJob held → All IsOfJob (with_lock_by holder at kind reach held)
  All-with_lock_by kind Open held all = All-with_item lock_cmp IsOfJob (lock_by holder at kind Open) held begun all
  All-with_lock_by kind Boundary held all =
      All-with_item lock_cmp IsOfJob (lock_by holder at kind Boundary) (without_lock (lock_by holder at kind Open) held) begun
      (All-filter (λ lock. not (is_eq (lock_cmp lock (lock_by holder at kind Open)))) IsOfJob held all)

  All-with_wanted : (wanted : Option Wanted) (held : List Lock) → All IsOfJob held → All IsOfJob (with_wanted wanted holder at held)
  All-with_wanted None held all = all
  All-with_wanted (Some wanted) held all = All-with_lock_by wanted.kind wanted.reach held all

  All-without_open : (which : OpenLocks) (held : List Lock) → All IsOfJob held → All IsOfJob (without_open_locks which holder at is_committed held)
  All-without_open Stay held all = all
  All-without_open OfOpen held all = All-freed (is_of_open holder) held all
  All-without_open OfRecord held all = All-freed (is_of_record holder.job at) held all
  All-without_open OfCommitted held all = All-freed (is_of_opens holder.job is_committed) held all
  All-without_open OfJob held all = All-freed (is_of_job holder.job) held all

  All-without_boundary : (gone : Bool) (held : List Lock) → All IsOfJob held → All IsOfJob (without_boundary_locks gone holder.job held)
  All-without_boundary false held all = all
  All-without_boundary true held all = All-freed (is_of_group holder.job) held all

  pub All-locks_after : (call : Call) (level : Option Level) (held : List Lock) → All IsOfJob held → All IsOfJob (locks_after call level holder at is_committed held)
  All-locks_after call level held all =
      let gone = released call level in
      All-with_wanted (gained call level) (without_open_locks gone.open_locks holder at is_committed (without_boundary_locks gone.boundary_locks holder.job held))
      (All-without_open gone.open_locks (without_boundary_locks gone.boundary_locks holder.job held) (All-without_boundary gone.boundary_locks held all))

-- ---- what clashes with none of the locks clashes with none of fewer

least_job-none : (locks : List Lock) → least_job locks ≡ None → locks ≡ []
least_job-none [] none = refl
least_job-none (lock ∷ locks) none = absurd cc

nothing-filtered : {X : Type 0} (test : X → Bool) (left : X → Bool) (xs : List X) → filter test xs ≡ [] → filter test (filter left xs) ≡ []
nothing-filtered test left [] none = refl
nothing-filtered test left (x ∷ xs) none =
    elim (test x) as (λ b. test x ≡ b → cond b (x ∷ filter test xs) (filter test xs) ≡ [] → filter test (cond (left x) (x ∷ filter left xs) (filter left xs)) ≡ []) [
      | true ↦ λ e h. absurd cc
      | false ↦ λ e h. elim (left x) as (λ b. filter test (cond b (x ∷ filter left xs) (filter left xs)) ≡ []) [
        | true ↦ rw e (nothing-filtered test left xs h)
        | false ↦ nothing-filtered test left xs h
      ]
    ] refl none

pub blocker-freed : (job : ℕ) (at : RecordId) (kind : LockKind) (gone : Lock → Bool) (held : List Lock) → blocker job at kind held ≡ None → blocker job at kind (freed gone held) ≡ None
blocker-freed job at kind gone held none =
    ap least_job (nothing-filtered (blocks job at kind) (λ lock. not (gone lock)) held (least_job-none (filter (blocks job at kind) held) none))

-- ---- what a call through an open frees and keeps

-- it frees locks of its open or of its record, and none that is kept to the boundary
released-Open : (call : Call) (level : Option Level) → IsOfOpen call → AreOfOpen (released call level).open_locks × ((released call level).boundary_locks ≡ false)
released-Open InputRead None is = (tt, refl)
released-Open InputRead (Some levels.Chg) is = (tt, refl)
released-Open InputRead (Some levels.Cs) is = (tt, refl)
released-Open InputRead (Some levels.All) is = (tt, refl)
released-Open UpdateRead None is = (tt, refl)
released-Open UpdateRead (Some levels.Chg) is = (tt, refl)
released-Open UpdateRead (Some levels.Cs) is = (tt, refl)
released-Open UpdateRead (Some levels.All) is = (tt, refl)
released-Open Update None is = (tt, refl)
released-Open Update (Some levels.Chg) is = (tt, refl)
released-Open Update (Some levels.Cs) is = (tt, refl)
released-Open Update (Some levels.All) is = (tt, refl)
released-Open Delete None is = (tt, refl)
released-Open Delete (Some levels.Chg) is = (tt, refl)
released-Open Delete (Some levels.Cs) is = (tt, refl)
released-Open Delete (Some levels.All) is = (tt, refl)
released-Open Write None is = (tt, refl)
released-Open Write (Some levels.Chg) is = (tt, refl)
released-Open Write (Some levels.Cs) is = (tt, refl)
released-Open Write (Some levels.All) is = (tt, refl)
released-Open WriteAt None is = (tt, refl)
released-Open WriteAt (Some levels.Chg) is = (tt, refl)
released-Open WriteAt (Some levels.Cs) is = (tt, refl)
released-Open WriteAt (Some levels.All) is = (tt, refl)
released-Open Unlock None is = (tt, refl)
released-Open Unlock (Some levels.Chg) is = (tt, refl)
released-Open Unlock (Some levels.Cs) is = (tt, refl)
released-Open Unlock (Some levels.All) is = (tt, refl)
released-Open Position None is = (tt, refl)
released-Open Position (Some levels.Chg) is = (tt, refl)
released-Open Position (Some levels.Cs) is = (tt, refl)
released-Open Position (Some levels.All) is = (tt, refl)
released-Open Close None is = (tt, refl)
released-Open Close (Some levels.Chg) is = (tt, refl)
released-Open Close (Some levels.Cs) is = (tt, refl)
released-Open Close (Some levels.All) is = (tt, refl)
released-Open Commit level is = absurd is
released-Open Rollback level is = absurd is
released-Open EndCommitment level is = absurd is
released-Open EndJob level is = absurd is

pub frees-Open : (call : Call) (level : Option Level) → IsOfOpen call → AreOfOpen (released call level).open_locks
frees-Open call level of = (released-Open call level of).0

pub left-Open : (call : Call) (level : Option Level) (holder : Holder) (at : RecordId) (is_committed : ℕ → Bool) (held : List Lock) → IsOfOpen call
    → locks_after call level holder at is_committed held ≡ with_wanted (gained call level) holder at (without_open_locks (released call level).open_locks holder at is_committed held)
left-Open call level holder at is_committed held of =
    ap (λ b. with_wanted (gained call level) holder at (without_open_locks (released call level).open_locks holder at is_committed (without_boundary_locks b holder.job held)))
    (released-Open call level of).1

alike : (which : OpenLocks) (holder : Holder) (at : RecordId) (one other : ℕ → Bool) (held : List Lock) → AreOfOpen which
    → without_open_locks which holder at one held ≡ without_open_locks which holder at other held
alike Stay holder at one other held of = refl
alike OfOpen holder at one other held of = refl
alike OfRecord holder at one other held of = refl
alike OfCommitted holder at one other held of = absurd of
alike OfJob holder at one other held of = absurd of

-- which opens are under commitment doesn't matter to it
pub left-alike : (call : Call) (level : Option Level) (holder : Holder) (at : RecordId) (one other : ℕ → Bool) (held : List Lock) → IsOfOpen call
    → locks_after call level holder at one held ≡ locks_after call level holder at other held
left-alike call level holder at one other held of =
    left-Open call level holder at one held of
    ∙ ap (with_wanted (gained call level) holder at) (alike (released call level).open_locks holder at one other held (frees-Open call level of))
    ∙ sym (left-Open call level holder at other held of)

-- what isn't blocked before isn't blocked once locks are freed
blocker-open : (which : OpenLocks) (holder : Holder) (at : RecordId) (is_committed : ℕ → Bool) (kind : LockKind) (held : List Lock) → blocker holder.job at kind held ≡ None
    → blocker holder.job at kind (without_open_locks which holder at is_committed held) ≡ None
blocker-open Stay holder at is_committed kind held none = none
blocker-open OfOpen holder at is_committed kind held none = blocker-freed holder.job at kind (is_of_open holder) held none
blocker-open OfRecord holder at is_committed kind held none = blocker-freed holder.job at kind (is_of_record holder.job at) held none
blocker-open OfCommitted holder at is_committed kind held none = blocker-freed holder.job at kind (is_of_opens holder.job is_committed) held none
blocker-open OfJob holder at is_committed kind held none = blocker-freed holder.job at kind (is_of_job holder.job) held none

-- what is gained was asked for
gained-asked : (P : Wanted → Type 0) (call : Call) (level : Option Level) → IfSome (asked call level) P → IfSome (gained call level) P
gained-asked P InputRead level of = of
gained-asked P UpdateRead level of = of
gained-asked P Update level of = of
gained-asked P Delete level of = of
gained-asked P Write level of = of
gained-asked P WriteAt None of = tt
gained-asked P WriteAt (Some levels.Chg) of = of
gained-asked P WriteAt (Some levels.Cs) of = of
gained-asked P WriteAt (Some levels.All) of = of
gained-asked P Unlock level of = of
gained-asked P Position level of = of
gained-asked P Close level of = of
gained-asked P Commit level of = of
gained-asked P Rollback level of = of
gained-asked P EndCommitment level of = of
gained-asked P EndJob level of = of

IfSome-each : {A : Type 0} (P Q : A → Type 0) (o : Option A) → ((a : A) → P a → Q a) → IfSome o P → IfSome o Q
IfSome-each P Q None each holds = tt
IfSome-each P Q (Some a) each holds = each a holds

pub gained-unlocked : (call : Call) (level : Option Level) (holder : Holder) (at : RecordId) (is_committed : ℕ → Bool) (held : List Lock)
    → IfSome (asked call level) (λ wanted. blocker holder.job at wanted.kind held ≡ None)
    → IfSome (gained call level) (λ wanted. blocker holder.job at wanted.kind (without_open_locks (released call level).open_locks holder at is_committed held) ≡ None)
gained-unlocked call level holder at is_committed held free =
    gained-asked (λ wanted. blocker holder.job at wanted.kind (without_open_locks (released call level).open_locks holder at is_committed held) ≡ None) call level
    (IfSome-each (λ wanted. blocker holder.job at wanted.kind held ≡ None) (λ wanted. blocker holder.job at wanted.kind (without_open_locks
    (released call level).open_locks holder at is_committed held) ≡ None)
    (asked call level) (λ wanted none. blocker-open (released call level).open_locks holder at is_committed wanted.kind held none) free)
