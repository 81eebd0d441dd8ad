-- The current record of each open stands there and is locked by it, after whatever is done.
use Rattle.std.proofs.Common.{◌≡◌, ◌≢◌, ◌⊎◌, inl, inr, ℕ, ◌+◌, ◌-◌, ◌==◌, ◌&&◌, ◌||◌, not, Bool, true, false, if◌then◌else◌, IsSome, IfSome, map, List, [], ◌∷◌, ◌++◌, Option, Some, None, unwrap_or, slice_get, refl, sym, ◌∙◌, ap, subst, arith}
use Rattle.std.specs.List.{AllByRecursion, list_any}
use Rattle.std.proofs.lemmas.Bool.{cases_eq}
use Rattle.std.proofs.lemmas.Bool.Decides.{nat_tests}
use Rattle.commit_level.specs.declared.Level.{Level}
use Rattle.commit_level.specs.declared.Level.TheVariants as levels
use Rattle.entry_codec.specs.declared.entries.Entry.{Entry}
use Rattle.member_slots.specs.declared.slot.Slot.{Slot}
use Rattle.member_slots.specs.declared.slot.Slot.TheVariants.{Live, Deleted}
use Rattle.member_slots.specs.Member.{slot_at}
use Rattle.member_slots.specs.Members.{member_of}
use Rattle.journal_model.specs.Replay.{before_of}
use Rattle.journal_model.specs.Rollback.{MemberChange}
use Rattle.lock_table.specs.declared.levels.Call.{Call}
use Rattle.lock_table.specs.declared.levels.Call.TheVariants.{InputRead, UpdateRead, Update, Delete, Write, WriteAt, Unlock, Position, Close, Commit, Rollback, EndCommitment, EndJob}
use Rattle.lock_table.specs.declared.levels.Freed.{Freed}
use Rattle.lock_table.specs.declared.levels.Wanted.{Wanted}
use Rattle.lock_table.specs.declared.levels.OpenLocks.{OpenLocks}
use Rattle.lock_table.specs.declared.levels.OpenLocks.TheVariants.{Stay, OfOpen, OfRecord, OfCommitted, OfJob}
use Rattle.lock_table.specs.declared.lock.Lock.{Lock}
use Rattle.lock_table.specs.declared.lock.LockKind.{LockKind}
use Rattle.lock_table.specs.declared.lock.Holder.{Holder}
use Rattle.lock_table.specs.declared.lock.Reach.TheVariants.{Open, Boundary}
use Rattle.lock_table.specs.declared.lock.RecordId.{RecordId}
use Rattle.lock_table.specs.Lock.{blocks, is_open, is_by, is_on, is_update, is_change_lock, is_of_job, lock_by, update_kind}
use Rattle.lock_table.specs.Table.{HoldsChange}
use Rattle.lock_table.proofs.Rules.{gained-asked}
use Rattle.lock_table.specs.Levels.{gained, released, locks_after}
use Rattle.library_model.specs.Named.{Named, same_name}
use Rattle.library_steps.specs.State.{State, Memory, OpenState, CycleState, JobState, job_of, job_changed, memory_of, with_entries, with_opens}
use Rattle.library_steps.specs.Change.{Change}
use Rattle.library_steps.specs.Locking.{level_of, holder_of, record_of, is_committed, locks_left}
use Rattle.library_steps.specs.Opens.{with_open, without_open}
use Rattle.library_steps.specs.Reads.{at_format, open_changed}
use Rattle.library_steps.specs.Records.{record_in, live_record}
use Rattle.library_steps.specs.SlotChange.{with_slot}
use Rattle.library_steps.specs.ChangeRecord.{is_current, without_record}
use Rattle.library_steps.specs.Commitment.{boundary_locks, taken_back, committed_open, at_boundary, rolled_back_open, without_cycle, with_level, changes_of}
use Rattle.library_steps.specs.EndJob.{ended_job}
use Rattle.library_steps.specs.Uses.{has_open_over, changes_in}
use Rattle.joint_state.specs.Lawful.{OpenHolds, OpensHold}
use Rattle.joint_state.specs.Calls.{IsRead, AsksNone}
use Rattle.joint_state.specs.Opens.{IsBefore, AreToldApart}
use Rattle.joint_state.specs.CurrentRecords.{keeps_record, CurrentStands, AllCurrentStand}
use Rattle.joint_state.specs.Sound.{IsSound, Does, after}
use Rattle.locks_kept.proofs.AllEffects.{effect-of}
use Rattle.locks_kept.proofs.ChangeEffects.{IsPlace}
use Rattle.locks_kept.proofs.CompatibleKept.{of_job, no_record, IsBoundary, boundary-asks, stands-of, current-of}
use Rattle.locks_kept.proofs.Effects.{at_member, IsAround, IsOpening, IsClosing, IsUse, IsChange, IsEnd, IsCommit, IsTakingBack, changing, unread, slots_of, Effect, Around, Opening, Closing, Use, Writing, Updating, Deleting, Start, End, Committing, RollingBack, EndingJob}
use Rattle.locks_kept.proofs.JobLemmas.{Runs, running-Runs, each-job}
use Rattle.locks_kept.proofs.JobsKept.{none-committed}
use Rattle.locks_kept.proofs.LockLists.{is_freed, after-any, after-gained}
use Rattle.locks_kept.proofs.OpenLemmas.{same-number, other-number}
use Rattle.locks_kept.proofs.OpenedMembers.{covered}
use Rattle.locks_kept.proofs.RecordLocks.{keeps-is, keeps-from, is_on-same, update-alone, locked-alone, none-keeps}
use Rattle.locks_kept.proofs.SlotLemmas.{live-within, put-live, put-here}
use Rattle.locks_kept.proofs.UserLemmas.{unused-job}
use Rattle.locks_kept.proofs.ListLemmas.{all-append, all-both, all-each, all-filter, all-map, all-weaker, at-place, each-there, none-any}
use Rattle.locks_kept.proofs.OptionLemmas.{is-there, some-each}
use Rattle.locks_kept.proofs.TestLemmas.{and_false, differ-false, not_true, number-is}

on-false : (at : RecordId) (l : Lock) → (l.at ≡ at → ⊥) → is_on at l ≡ false
on-false at l differ = by (is_on at l) refl
  where
    by : (b : Bool) → is_on at l ≡ b → b ≡ false
    by true e = absurd (differ (is_on-same at l e))
    by false e = refl

-- ---- which locks a call doesn't free

-- those of another job
freed-other : (which : OpenLocks) (holder : Holder) (at : RecordId) (is_committed : ℕ → Bool) (l : Lock) → is_by holder.job l ≡ false → is_freed which holder at is_committed l ≡ false
freed-other Stay holder at is_committed l other = refl
freed-other OfOpen holder at is_committed l other = rw other (and_false (is_open l.reach))
freed-other OfRecord holder at is_committed l other = rw (other, and_false (is_open l.reach)) (and_false (is_on at l))
freed-other OfCommitted holder at is_committed l other = rw (other, and_false (is_open l.reach)) refl
freed-other OfJob holder at is_committed l other = rw other (and_false (is_open l.reach))

other-locked : (call : Call) (level : Option Level) (holder : Holder) (at : RecordId) (is_committed : ℕ → Bool) (held : List Lock) (commit : Bool) (others : Holder) (record_at : RecordId)
    → others.job ≢ holder.job → list_any (keeps_record commit others record_at) held ≡ true → list_any (keeps_record commit others record_at)
    (locks_after call level holder at is_committed held) ≡ true
other-locked call level holder at is_committed held commit others record_at differ locked =
    after-any holder at is_committed call level (keeps_record commit others record_at) held
    (λ l keeps. freed-other (released call level).open_locks holder at is_committed l (not_by l keeps))
    (λ l keeps frees. rw (not_by l keeps) (and_false (not (is_open l.reach))))
    (some-each _ (gained call level) (λ w l keeps same. differ (sym (keeps-is commit others record_at l keeps).job ∙ ap (λ (k : Lock). k.job) same))) locked
  where
    not_by : (l : Lock) → keeps_record commit others record_at l ≡ true → is_by holder.job l ≡ false
    not_by l keeps = let its = (keeps-is commit others record_at l keeps).job in differ-false l.job holder.job (λ same. differ (sym its ∙ same))

-- the calls that free locks of their open alone, and of their record alone
abbrev FreesOpen : Freed → Type 0
FreesOpen gone = ((gone.open_locks ≡ Stay) ⊎ (gone.open_locks ≡ OfOpen)) × (gone.boundary_locks ≡ false)

abbrev FreesRecord : Freed → Type 0
FreesRecord gone = ((gone.open_locks ≡ Stay) ⊎ (gone.open_locks ≡ OfRecord)) × (gone.boundary_locks ≡ false)

reads-free : (call : Call) (level : Option Level) → IsRead call → FreesOpen (released call level)
reads-free InputRead None is = (inr refl, refl)
reads-free InputRead (Some levels.Chg) is = (inr refl, refl)
reads-free InputRead (Some levels.Cs) is = (inr refl, refl)
reads-free InputRead (Some levels.All) is = (inr refl, refl)
reads-free UpdateRead None is = (inr refl, refl)
reads-free UpdateRead (Some levels.Chg) is = (inr refl, refl)
reads-free UpdateRead (Some levels.Cs) is = (inr refl, refl)
reads-free UpdateRead (Some levels.All) is = (inr refl, refl)
reads-free Update level is = absurd is
reads-free Delete level is = absurd is
reads-free Write level is = absurd is
reads-free WriteAt level is = absurd is
reads-free Unlock level is = absurd is
reads-free Position level is = absurd is
reads-free Close level is = absurd is
reads-free Commit level is = absurd is
reads-free Rollback level is = absurd is
reads-free EndCommitment level is = absurd is
reads-free EndJob level is = absurd is

none-free : (call : Call) (level : Option Level) → AsksNone call → FreesOpen (released call level)
none-free Unlock None is = (inr refl, refl)
none-free Unlock (Some levels.Chg) is = (inr refl, refl)
none-free Unlock (Some levels.Cs) is = (inr refl, refl)
none-free Unlock (Some levels.All) is = (inl refl, refl)
none-free Position None is = (inr refl, refl)
none-free Position (Some levels.Chg) is = (inr refl, refl)
none-free Position (Some levels.Cs) is = (inr refl, refl)
none-free Position (Some levels.All) is = (inr refl, refl)
none-free Close None is = (inr refl, refl)
none-free Close (Some levels.Chg) is = (inr refl, refl)
none-free Close (Some levels.Cs) is = (inr refl, refl)
none-free Close (Some levels.All) is = (inr refl, refl)
none-free InputRead level is = absurd is
none-free UpdateRead level is = absurd is
none-free Update level is = absurd is
none-free Delete level is = absurd is
none-free Write level is = absurd is
none-free WriteAt level is = absurd is
none-free Commit level is = absurd is
none-free Rollback level is = absurd is
none-free EndCommitment level is = absurd is
none-free EndJob level is = absurd is

update-frees : (level : Option Level) → FreesOpen (released Update level)
update-frees None = (inr refl, refl)
update-frees (Some levels.Chg) = (inl refl, refl)
update-frees (Some levels.Cs) = (inl refl, refl)
update-frees (Some levels.All) = (inl refl, refl)

delete-frees : (level : Option Level) → FreesRecord (released Delete level)
delete-frees None = (inr refl, refl)
delete-frees (Some levels.Chg) = (inr refl, refl)
delete-frees (Some levels.Cs) = (inr refl, refl)
delete-frees (Some levels.All) = (inr refl, refl)

write-frees : (level : Option Level) → FreesRecord (released Write level)
write-frees None = (inl refl, refl)
write-frees (Some levels.Chg) = (inl refl, refl)
write-frees (Some levels.Cs) = (inl refl, refl)
write-frees (Some levels.All) = (inl refl, refl)

write_at-frees : (level : Option Level) → FreesRecord (released WriteAt level)
write_at-frees None = (inr refl, refl)
write_at-frees (Some levels.Chg) = (inl refl, refl)
write_at-frees (Some levels.Cs) = (inl refl, refl)
write_at-frees (Some levels.All) = (inl refl, refl)

-- another open of the job keeps its lock
open-locked : (call : Call) (level : Option Level) (holder : Holder) (at : RecordId) (is_committed : ℕ → Bool) (held : List Lock) (commit : Bool) (others : Holder) (record_at : RecordId)
    → FreesOpen (released call level) → others.opened ≢ holder.opened → list_any (keeps_record commit others record_at) held ≡ true
    → list_any (keeps_record commit others record_at) (locks_after call level holder at is_committed held) ≡ true
open-locked call level holder at is_committed held commit others record_at frees differ locked =
    after-any holder at is_committed call level (keeps_record commit others record_at) held
    (λ l keeps. not_freed l keeps frees.0)
    (λ l keeps gone. absurd (let none = frees.1 in cc))
    (some-each _ (gained call level) (λ w l keeps same. differ (sym (keeps-is commit others record_at l keeps).opened ∙ ap (λ (k : Lock). k.opened) same))) locked
  where
    not_freed : (l : Lock) → keeps_record commit others record_at l ≡ true → ((released call level).open_locks ≡ Stay) ⊎ ((released call level).open_locks ≡ OfOpen)
        → is_freed (released call level).open_locks holder at is_committed l ≡ false
    not_freed l keeps (inl stay) = ap (λ which. is_freed which holder at is_committed l) stay
    not_freed l keeps (inr ends) =
        let its = (keeps-is commit others record_at l keeps).opened in
        ap (λ which. is_freed which holder at is_committed l) ends
        ∙ rw (differ-false l.opened holder.opened (λ same. differ (sym its ∙ same)), and_false (is_by holder.job l)) (and_false (is_open l.reach))

-- so does the open of another record
record-locked : (call : Call) (level : Option Level) (holder : Holder) (at : RecordId) (is_committed : ℕ → Bool) (held : List Lock) (commit : Bool) (others : Holder) (record_at : RecordId)
    → FreesRecord (released call level) → (record_at ≡ at → ⊥) → list_any (keeps_record commit others record_at) held ≡ true
    → list_any (keeps_record commit others record_at) (locks_after call level holder at is_committed held) ≡ true
record-locked call level holder at is_committed held commit others record_at frees differ locked =
    after-any holder at is_committed call level (keeps_record commit others record_at) held
    (λ l keeps. not_freed l keeps frees.0)
    (λ l keeps gone. absurd (let none = frees.1 in cc))
    (some-each _ (gained call level) (λ w l keeps same. differ (sym (keeps-is commit others record_at l keeps).at ∙ ap (λ (k : Lock). k.at) same))) locked
  where
    not_freed : (l : Lock) → keeps_record commit others record_at l ≡ true → ((released call level).open_locks ≡ Stay) ⊎ ((released call level).open_locks ≡ OfRecord)
        → is_freed (released call level).open_locks holder at is_committed l ≡ false
    not_freed l keeps (inl stay) = ap (λ which. is_freed which holder at is_committed l) stay
    not_freed l keeps (inr record_locks) =
        let its = (keeps-is commit others record_at l keeps).at in
        ap (λ which. is_freed which holder at is_committed l) record_locks ∙ rw (on-false at l (λ same. differ (sym its ∙ same))) refl

-- ---- the lock of a read for update

record IsUpdateLock (commit : Bool) (wanted : Wanted) : Type 0 where
  update : wanted.kind ≡ update_kind
  reach : (commit || is_open wanted.reach) ≡ true

gained-update : (commit : Bool) (level : Option Level) → (w : Wanted) × (gained UpdateRead (if commit then level else None) ≡ Some w) × IsUpdateLock commit w
gained-update false level = (record { kind = update_kind; reach = Open }, refl, record { update = refl; reach = refl })
gained-update true None = (record { kind = update_kind; reach = Open }, refl, record { update = refl; reach = refl })
gained-update true (Some levels.Chg) = (record { kind = update_kind; reach = Open }, refl, record { update = refl; reach = refl })
gained-update true (Some levels.Cs) = (record { kind = update_kind; reach = Open }, refl, record { update = refl; reach = refl })
gained-update true (Some levels.All) = (record { kind = update_kind; reach = Boundary }, refl, record { update = refl; reach = refl })

-- ---- in another memory

current-seen : (gone : ℕ) (entries : List Entry) (m : Memory) (number : ℕ) (opened : OpenState) (rrn : ℕ) → CurrentStands m number opened rrn
    → CurrentStands (memory_of (with_entries gone entries m)) number opened rrn
current-seen gone entries m number opened rrn stands = record { live = stands.live; locked = stands.locked }

abbrev StandsIn : Memory → ℕ → OpenState → Type 0
StandsIn m number opened = (rrn : ℕ) → opened.current ≡ Some rrn → CurrentStands m number opened rrn

changing-opens : (commit : Bool) (cycle : CycleState) (change : OpenState → OpenState) (job : JobState) → (changing commit cycle change job).opens ≡ map (λ e. (e.0, change e.1)) job.opens
changing-opens true cycle change job = refl
changing-opens false cycle change job = refl

-- COMMIT frees locks of opens under commitment control, the end of it none
commit-frees : (level : Option Level) → (released Commit level).open_locks ≡ OfCommitted
commit-frees None = refl
commit-frees (Some levels.Chg) = refl
commit-frees (Some levels.Cs) = refl
commit-frees (Some levels.All) = refl

end-frees : (level : Option Level) → (released EndCommitment level).open_locks ≡ Stay
end-frees None = refl
end-frees (Some levels.Chg) = refl
end-frees (Some levels.Cs) = refl
end-frees (Some levels.All) = refl

apart-committed : (opens : Named OpenState) → AreToldApart opens → AllByRecursion (λ e. e.1.commit ≡ false → list_any (λ o. (o.1.number == e.1.number) && o.1.commit) opens ≡ false) opens
apart-committed [] apart = tt
apart-committed (entry ∷ opens) apart = (
  λ outside. rw (outside, and_false (entry.1.number == entry.1.number))
      (none-any (λ (o : List ℕ × OpenState). (o.1.number == entry.1.number) && o.1.commit) opens
      (all-weaker (IsBefore entry) (λ o. ((o.1.number == entry.1.number) && o.1.commit) ≡ false) opens (λ o before. (
      let numbers = before.numbers in
      rw (differ-false o.1.number entry.1.number (λ same. absurd (omega (arith, numbers, same)))) refl)) apart.0)),
  all-both (IsBefore entry) (λ e. e.1.commit ≡ false → list_any (λ o. (o.1.number == e.1.number) && o.1.commit) opens ≡ false)
      (λ e. e.1.commit ≡ false → list_any (λ o. (o.1.number == e.1.number) && o.1.commit) (entry ∷ opens) ≡ false) opens
      (λ e before none outside. (
      let numbers = before.numbers in
      rw (differ-false entry.1.number e.1.number (λ same. absurd (omega (arith, numbers, same)))) (none outside))) apart.0 (apart-committed opens apart.1),
)

-- the changes of an open commit cycle
same-changes : (cycle : Option CycleState) → changes_of cycle ≡ changes_in cycle
same-changes None = refl
same-changes (Some cycle) = refl

-- a record that none of the changes is of stays as they are taken back
back-live : (undos : List MemberChange) (m : Memory) (member rrn : ℕ) → AllByRecursion (λ undo. member ≡ undo.member → rrn ≡ undo.change.place + 1 → ⊥) undos → IsSome (live_record member rrn m)
    → IsSome (live_record member rrn (taken_back undos m))
back-live [] m member rrn apart live = live
back-live (undo ∷ undos) m member rrn apart live =
    back-live undos (with_slot undo.member (undo.change.place + 1) (before_of undo.change) m) member rrn apart.1
    (put-live m (with_slot undo.member (undo.change.place + 1) (before_of undo.change) m) undo.member (undo.change.place + 1) (before_of undo.change) refl member rrn apart.0 live)

change-lock : (job : ℕ) (at : RecordId) (l : Lock) → is_change_lock job at l ≡ true → (l.job ≡ job) × (l.at ≡ at) × (is_update l.kind ≡ true)
change-lock job at l is = by (is_on at l) (is_open l.reach) (is_by job l) (is_update l.kind) refl refl refl is
  where
    by : (a b c d : Bool) → is_on at l ≡ a → is_by job l ≡ c → is_update l.kind ≡ d → ((a && (not b && c)) && d) ≡ true → (l.job ≡ job) × (l.at ≡ at) × (is_update l.kind ≡ true)
    by true false true true on own update h = (number-is l.job job own, is_on-same at l on, update)
    by true false true false on own update h = absurd cc
    by true false false d on own update h = absurd cc
    by true true c d on own update h = absurd cc
    by false b c d on own update h = absurd cc

module _ (s : State) (new : Memory) (job : ℕ) (sound : IsSound s) (runs : Runs s.jobs job (job_of job (memory_of s))) where
  abbrev m : Memory
  m = memory_of s

  abbrev its : JobState
  its = job_of job m

  its-current : AllCurrentStand m job its
  its-current = (stands-of s job sound runs).current

  abbrev OthersStay : Type 0
  OthersStay = (number : ℕ) (o : OpenState) (r : ℕ) → number ≢ job → CurrentStands m number o r → CurrentStands new number o r

  all-jobs : (change : JobState → JobState) → new.jobs ≡ job_changed (job - 1) change m.jobs → OthersStay → AllCurrentStand new job (change its) → (place : ℕ) (j : JobState)
      → slice_get new.jobs place ≡ Some j
      → AllCurrentStand new (place + 1) j
  all-jobs change jobs stay own =
      each-job m new job change jobs runs (λ n j. AllCurrentStand new n j) own
      (λ place j at differ. all-weaker (λ (e : List ℕ × OpenState). StandsIn m (place + 1) e.1) (λ e. StandsIn new (place + 1) e.1) j.opens
      (λ e stands rrn current. stay (place + 1) e.1 rrn differ (stands rrn current)) (sound.joint.jobs place j at).current)

  -- the job's opens changed, each of them for itself
  own-mapped : (opens : Named OpenState) (change : OpenState → OpenState) (Q : List ℕ × OpenState → Type 0) → opens ≡ map (λ e. (e.0, change e.1)) its.opens → AllByRecursion Q its.opens
      → ((e : List ℕ × OpenState) → StandsIn m job e.1 → Q e → StandsIn new job (change e.1)) → AllByRecursion (λ e. StandsIn new job e.1) opens
  own-mapped opens change Q is all each =
      subst (AllByRecursion (λ e. StandsIn new job e.1)) (sym is)
      (all-map (λ (e : List ℕ × OpenState). StandsIn new job (change e.1)) (λ e. StandsIn new job e.1) (λ e. (e.0, change e.1)) its.opens (λ e stands. stands)
      (all-both (λ (e : List ℕ × OpenState). StandsIn m job e.1) Q (λ e. StandsIn new job (change e.1)) its.opens each its-current all))

  own-same : AllByRecursion (λ e. StandsIn m job e.1 → StandsIn new job e.1) its.opens → AllByRecursion (λ e. StandsIn new job e.1) its.opens
  own-same each = all-both (λ (e : List ℕ × OpenState). StandsIn m job e.1) (λ e. StandsIn m job e.1 → StandsIn new job e.1) (λ e. StandsIn new job e.1) its.opens
      (λ e stands stay. stay stands) its-current each

  -- ---- what stays where no record is changed

  same-live : new.members ≡ m.members → (member rrn : ℕ) → IsSome (live_record member rrn m) → IsSome (live_record member rrn new)
  same-live members member rrn live = subst (λ all. IsSome (record_in (slot_at (member_of member all) rrn))) (sym members) live

  nothing-changed : new.members ≡ m.members → new.locks ≡ m.locks → (number : ℕ) (o : OpenState) (r : ℕ) → CurrentStands m number o r → CurrentStands new number o r
  nothing-changed members locks number o r stands = record {
    live = same-live members o.member r stands.live;
    locked = subst (λ ls. list_any (keeps_record o.commit (holder_of number o) (record_of o r)) ls ≡ true) (sym locks) stands.locked;
  }

  -- ---- calls through an open

  module _ (call : Call) (opened : OpenState) (rrn : ℕ) (locks : new.locks ≡ locks_left call job opened rrn m) where
    abbrev at : RecordId
    at = record_of opened rrn

    in-new : (commit : Bool) (holder : Holder) (record_at : RecordId) → list_any (keeps_record commit holder record_at) (locks_left call job opened rrn m) ≡ true
        → list_any (keeps_record commit holder record_at) new.locks ≡ true
    in-new commit holder record_at there = subst (λ ls. list_any (keeps_record commit holder record_at) ls ≡ true) (sym locks) there

    others-locked : (number : ℕ) (o : OpenState) (r : ℕ) → number ≢ job → CurrentStands m number o r → list_any (keeps_record o.commit (holder_of number o) (record_of o r)) new.locks ≡ true
    others-locked number o r differ stands =
        in-new o.commit (holder_of number o) (record_of o r)
        (other-locked call (level_of its opened) (holder_of job opened) at (is_committed its) m.locks o.commit (holder_of number o) (record_of o r) differ stands.locked)

    other_open-locked : FreesOpen (released call (level_of its opened)) → (o : OpenState) (r : ℕ) → o.number ≢ opened.number → CurrentStands m job o r
        → list_any (keeps_record o.commit (holder_of job o) (record_of o r)) new.locks ≡ true
    other_open-locked frees o r differ stands =
        in-new o.commit (holder_of job o) (record_of o r)
        (open-locked call (level_of its opened) (holder_of job opened) at (is_committed its) m.locks o.commit (holder_of job o) (record_of o r) frees differ stands.locked)

    other_record-locked : FreesRecord (released call (level_of its opened)) → (o : OpenState) (r : ℕ) → (o.member ≡ opened.member → r ≡ rrn → ⊥) → CurrentStands m job o r
        → list_any (keeps_record o.commit (holder_of job o) (record_of o r)) new.locks ≡ true
    other_record-locked frees o r differ stands =
        in-new o.commit (holder_of job o) (record_of o r)
        (record-locked call (level_of its opened) (holder_of job opened) at (is_committed its) m.locks o.commit (holder_of job o) (record_of o r) frees
        (λ same. differ (ap (λ (x : RecordId). x.member) same) (ap (λ (x : RecordId). x.rrn) same)) stands.locked)

  -- ---- an open that is used

  use-frees : (is : IsUse m job new) → FreesOpen (released is.call (level_of its is.opened))
  use-frees is = elim is.of [ inl read ↦ reads-free is.call (level_of its is.opened) read.0 | inr none ↦ none-free is.call (level_of its is.opened) none.0 ]

  use-read : (is : IsUse m job new) (o : OpenState) (r : ℕ) → o ≡ is.opened → (is.change o).current ≡ Some r → CurrentStands new job (is.change o) r
  use-read is o r same current =
      let found = is.current o r current in
      let read = read-at found.1 in
      let like = is.same o in
      let number : (is.change o).number ≡ is.opened.number = like.number ∙ ap (λ (x : OpenState). x.number) same in
      let member : (is.change o).member ≡ is.member = ap (λ (x : OpenState). (is.change x).member) same ∙ read.1 in
      let commit : (is.change o).commit ≡ is.opened.commit = like.commit ∙ ap (λ (x : OpenState). x.commit) same in
      let gain = gained-update is.opened.commit its.level in
      let gains : gained is.call (level_of its is.opened) ≡ Some gain.0 = ap (λ c. gained c (level_of its is.opened)) found.1 ∙ gain.1 in
      let there : record_of (at_member is.member is.opened) is.rrn ≡ record_of (is.change o) r = λ i. record { member = sym member i; rrn = sym found.0 i } in
      record {
        live = subst (λ n. IsSome (live_record n r new)) (sym member) (subst (λ n. IsSome (live_record is.member n new)) (sym found.0)
            (same-live is.members is.member is.rrn read.0));
        locked = in-new is.call (at_member is.member is.opened) is.rrn is.locks (is.change o).commit (holder_of job (is.change o)) (record_of (is.change o) r)
            (after-gained (holder_of job is.opened) (record_of (at_member is.member is.opened) is.rrn) (is_committed its) is.call (level_of its is.opened) gain.0
            (keeps_record (is.change o).commit (holder_of job (is.change o)) (record_of (is.change o) r)) m.locks gains
            (keeps-from (is.change o).commit (holder_of job (is.change o)) (record_of (is.change o) r)
            (lock_by (holder_of job is.opened) (record_of (at_member is.member is.opened) is.rrn) gain.0.kind gain.0.reach)
            (record { at = there; job = refl; opened = sym number; update = ap is_update gain.2.update; reach = ap (λ b. b || is_open gain.0.reach) commit ∙ gain.2.reach })));
      }
    where
      read-at : is.call ≡ UpdateRead → IsSome (live_record is.member is.rrn m) × ((is.change is.opened).member ≡ is.member)
      read-at update = elim is.of [ inl read ↦ (read.1, read.2) | inr none ↦ absurd (subst AsksNone update none.0) ]

  use-open : (is : IsUse m job new) (o : OpenState) → StandsIn m job o → (o.number ≡ is.opened.number → o ≡ is.opened) → StandsIn new job (if o.number == is.opened.number then is.change o else o)
  use-open is o stands alone =
      elim (o.number == is.opened.number) as (λ b. (o.number == is.opened.number) ≡ b → StandsIn new job (if b then is.change o else o)) [
        | true ↦ λ e r current. use-read is o r (alone (number-is o.number is.opened.number e)) current
        | false ↦ λ e r current. (
            let differ : o.number ≢ is.opened.number = grind (arith, nat_tests, e) in
            record {
              live = same-live is.members o.member r (stands r current).live;
              locked = other_open-locked is.call (at_member is.member is.opened) is.rrn is.locks (use-frees is) o r differ (stands r current);
            })
      ] refl

  use-stands : (is : IsUse m job new) → (place : ℕ) (j : JobState) → slice_get new.jobs place ≡ Some j → AllCurrentStand new (place + 1) j
  use-stands is =
      all-jobs (open_changed is.opened.number is.change) is.jobs
      (λ number o r differ stands. record {
        live = same-live is.members o.member r stands.live;
        locked = others-locked is.call (at_member is.member is.opened) is.rrn is.locks number o r differ stands;
      })
      (own-mapped _ (λ o. if o.number == is.opened.number then is.change o else o) (λ e. e.1.number ≡ is.opened.number → e.1 ≡ is.opened) refl
      (same-number is.name its.opens is.opened is.named (stands-of s job sound runs).opens.apart) (λ e stands alone. use-open is e.1 stands alone))

  -- ---- a record that is changed

  module _ (call : Call) (opened : OpenState) (member rrn : ℕ) (slot : Slot) (change : OpenState → OpenState) (is : IsChange m job new opened member call rrn slot change) where
    changed-opens : (changing opened.commit is.cycle change its).opens ≡ map (λ e. (e.0, change e.1)) its.opens
    changed-opens = changing-opens opened.commit is.cycle change its

    other-live : (number : ℕ) (o : OpenState) (r : ℕ) → CurrentStands m number o r → (o.member ≡ member → r ≡ rrn → ⊥) → IsSome (live_record o.member r new)
    other-live number o r stands apart = put-live m new member rrn slot is.members o.member r apart stands.live

    others-stay : ((number : ℕ) (o : OpenState) (r : ℕ) → number ≢ job → CurrentStands m number o r → IsSome (live_record o.member r new)) → OthersStay
    others-stay live = λ number o r differ stands. record { live = live number o r differ stands; locked = others-locked call (at_member member opened) rrn is.locks number o r differ stands }

    change-stands : ((number : ℕ) (o : OpenState) (r : ℕ) → number ≢ job → CurrentStands m number o r → IsSome (live_record o.member r new))
        → ((o : OpenState) → StandsIn m job o → StandsIn new job (change o)) → (place : ℕ) (j : JobState) → slice_get new.jobs place ≡ Some j → AllCurrentStand new (place + 1) j
    change-stands live own =
        all-jobs (changing opened.commit is.cycle change) is.jobs (others-stay live)
        (own-mapped _ change (λ e. Unit {0}) changed-opens (all-each (λ (e : List ℕ × OpenState). Unit {0}) its.opens (λ e. tt)) (λ e stands any. own e.1 stands))

  -- ---- WRITE: no record stands at its place

  empty-place : (opened : OpenState) (call : Call) (rrn : ℕ) → IsPlace m job opened call rrn → (number : ℕ) (o : OpenState) (r : ℕ) → CurrentStands m number o r → o.member ≡ opened.member
      → r ≡ rrn → ⊥
  empty-place opened call rrn place number o r stands member same =
      let live : IsSome (live_record opened.member rrn m) = subst (λ n. IsSome (live_record n rrn m)) member (subst (λ n. IsSome (live_record o.member n m)) same stands.live) in
      elim place [
        | inl next ↦ (let last = (live-within (member_of opened.member m.members) rrn live).1 in let behind = next.1 in absurd (omega (arith, last, behind)))
        | inr named ↦ is-there (live_record opened.member rrn m) live named.1.empty
      ]

  write-frees_record : (opened : OpenState) (call : Call) (rrn : ℕ) → IsPlace m job opened call rrn → FreesRecord (released call (level_of its opened))
  write-frees_record opened call rrn (inl next) = subst (λ c. FreesRecord (released c (level_of its opened))) (sym next.0) (write-frees (level_of its opened))
  write-frees_record opened call rrn (inr named) = subst (λ c. FreesRecord (released c (level_of its opened))) (sym named.0) (write_at-frees (level_of its opened))

  write-stands : (opened : OpenState) (format : ℕ) (call : Call) (rrn : ℕ) (slot : Slot) → IsChange m job new opened (at_format format opened).member call rrn slot (λ o. o)
      → IsPlace m job (at_format format opened) call rrn
      → (place : ℕ) (j : JobState) → slice_get new.jobs place ≡ Some j → AllCurrentStand new (place + 1) j
  write-stands opened format call rrn slot is at =
      change-stands call opened its_member rrn slot (λ o. o) is
      (λ number o r differ stands. other-live call opened its_member rrn slot (λ o. o) is number o r stands (empty number o r stands))
      (λ o stands r current. record {
        live = other-live call opened its_member rrn slot (λ o. o) is job o r (stands r current) (empty job o r (stands r current));
        locked = other_record-locked call (at_member its_member opened) rrn is.locks (write-frees_record (at_format format opened) call rrn at) o r (empty job o r (stands r current))
            (stands r current);
      })
    where
      its_member : ℕ
      its_member = (at_format format opened).member

      empty : (number : ℕ) (o : OpenState) (r : ℕ) → CurrentStands m number o r → o.member ≡ its_member → r ≡ rrn → ⊥
      empty number o r stands = empty-place (at_format format opened) call rrn at number o r stands

  -- ---- UPDATE: a record stands at its place before and after

  updated-live : (opened : OpenState) (rrn : ℕ) (image : List ℕ) → IsChange m job new opened opened.member Update rrn (Live image) (unread opened.number) → (number : ℕ) (o : OpenState) (r : ℕ)
      → CurrentStands m number o r
      → IsSome (live_record o.member r new)
  updated-live opened rrn image is number o r stands =
      elim (cases_eq o.member opened.member) [
        | inl member ↦ (elim (cases_eq r rrn) [
          | inl same ↦ subst (λ n. IsSome (live_record n r new)) (sym member) (subst (λ n. IsSome (live_record opened.member n new)) (sym same)
              (put-here m new opened.member rrn image is.members (subst (λ n. IsSome (live_record n rrn m)) member (subst (λ n. IsSome (live_record o.member n m)) same stands.live))))
          | inr differ ↦ put-live m new opened.member rrn (Live image) is.members o.member r (λ member same. differ same) stands.live
        ])
        | inr differ ↦ put-live m new opened.member rrn (Live image) is.members o.member r (λ member same. differ member) stands.live
      ]

  update-stands : (opened : OpenState) (rrn : ℕ) (image : List ℕ) → IsChange m job new opened opened.member Update rrn (Live image) (unread opened.number)
      → (place : ℕ) (j : JobState) → slice_get new.jobs place ≡ Some j → AllCurrentStand new (place + 1) j
  update-stands opened rrn image is =
      change-stands Update opened opened.member rrn (Live image) (unread opened.number) is (λ number o r differ stands. updated-live opened rrn image is number o r stands) own
    where
      own : (o : OpenState) → StandsIn m job o → StandsIn new job (unread opened.number o)
      own o stands =
          elim (o.number == opened.number) as (λ b. (o.number == opened.number) ≡ b → StandsIn new job (if b then record o { current = None } else o)) [
            | true ↦ λ e r current. absurd cc
            | false ↦ λ e r current. (
                let differ : o.number ≢ opened.number = grind (arith, nat_tests, e) in
                record {
                  live = updated-live opened rrn image is job o r (stands r current);
                  locked = other_open-locked Update opened rrn is.locks (update-frees (level_of its opened)) o r differ (stands r current);
                })
          ] refl

  -- ---- DELETE: no other open has the record as its current one

  not-current : (member rrn : ℕ) (o : OpenState) (r : ℕ) → is_current member rrn o ≡ false → o.current ≡ Some r → o.member ≡ member → r ≡ rrn → ⊥
  not-current member rrn o r other current same_member same =
      let one : (o.member == member) ≡ true = grind (arith, nat_tests, same_member) in
      let number : unwrap_or o.current 0 ≡ r = ap (λ c. unwrap_or c 0) current in
      let two : (unwrap_or o.current 0 == rrn) ≡ true = grind (arith, nat_tests, number, same) in
      let both : is_current member rrn o ≡ true = rw (one, two) refl in
      absurd cc

  delete-stands : (opened : OpenState) (rrn : ℕ) → IsChange m job new opened opened.member Delete rrn Deleted (without_record opened.member rrn) → opened.current ≡ Some rrn
      → (place : ℕ) (j : JobState) → slice_get new.jobs place ≡ Some j → AllCurrentStand new (place + 1) j
  delete-stands opened rrn is current =
      change-stands Delete opened opened.member rrn Deleted (without_record opened.member rrn) is
      (λ number o r differ stands. other-live Delete opened opened.member rrn Deleted (without_record opened.member rrn) is number o r stands
      (λ member same. none-keeps job (record_of opened rrn) m.locks o.commit (holder_of number o) differ alone
      (subst (λ at. list_any (keeps_record o.commit (holder_of number o) at) m.locks ≡ true) (λ i. record { member = member i; rrn = same i }) stands.locked)))
      own
    where
      alone : AllByRecursion (λ b. (kind : LockKind) → blocks job (record_of opened rrn) kind b ≡ true → ⊥) m.locks
      alone = locked-alone opened.commit (holder_of job opened) (record_of opened rrn) m.locks sound.joint.compatible (current-of s job sound runs is.name opened rrn is.named current).locked

      own : (o : OpenState) → StandsIn m job o → StandsIn new job (without_record opened.member rrn o)
      own o stands =
          elim (is_current opened.member rrn o) as (λ b. is_current opened.member rrn o ≡ b → StandsIn new job (if b then record o { current = None } else o)) [
            | true ↦ λ e r now. absurd cc
            | false ↦ λ e r now. record {
              live = other-live Delete opened opened.member rrn Deleted (without_record opened.member rrn) is job o r (stands r now) (not-current opened.member rrn o r e now);
              locked = other_record-locked Delete opened rrn is.locks (delete-frees (level_of its opened)) o r (not-current opened.member rrn o r e now) (stands r now);
            }
          ] refl

  -- ---- boundaries

  boundary-others : (call : Call) → new.locks ≡ boundary_locks call job m → (number : ℕ) (o : OpenState) (r : ℕ) → number ≢ job → CurrentStands m number o r
      → list_any (keeps_record o.commit (holder_of number o) (record_of o r)) new.locks ≡ true
  boundary-others call locks number o r differ stands =
      subst (λ ls. list_any (keeps_record o.commit (holder_of number o) (record_of o r)) ls ≡ true) (sym locks)
      (other-locked call its.level (of_job job) no_record (is_committed its) m.locks o.commit (holder_of number o) (record_of o r) differ stands.locked)

  -- a lock to the next read of an open that isn't under commitment control
  to-next : (o : OpenState) (r : ℕ) (l : Lock) → o.commit ≡ false → keeps_record o.commit (holder_of job o) (record_of o r) l ≡ true → is_open l.reach ≡ true
  to-next o r l outside keeps = sym (ap (λ b. b || is_open l.reach) outside) ∙ (keeps-is o.commit (holder_of job o) (record_of o r) l keeps).reach

  boundary-own : (call : Call) → IsBoundary call → ((l : Lock) (o : OpenState) (r : ℕ) → keeps_record o.commit (holder_of job o) (record_of o r) l ≡ true → is_committed its o.number ≡ false
      → is_freed (released call its.level).open_locks (of_job job) no_record (is_committed its) l ≡ false) → new.locks ≡ boundary_locks call job m
      → (o : OpenState) (r : ℕ) → o.commit ≡ false → is_committed its o.number ≡ false → CurrentStands m job o r → list_any (keeps_record o.commit (holder_of job o) (record_of o r)) new.locks ≡ true
  boundary-own call is spared locks o r outside apart stands =
      subst (λ ls. list_any (keeps_record o.commit (holder_of job o) (record_of o r)) ls ≡ true) (sym locks)
      (after-any (of_job job) no_record (is_committed its) call its.level (keeps_record o.commit (holder_of job o) (record_of o r)) m.locks
      (λ l keeps. spared l o r keeps apart)
      (λ l keeps frees. rw (to-next o r l outside keeps) refl)
      (gained-asked others-lock call its.level (subst (λ a. IfSome a others-lock) (sym (boundary-asks call is its.level)) tt)) stands.locked)
    where
      others-lock : Wanted → Type 0
      others-lock w = (l : Lock) → keeps_record o.commit (holder_of job o) (record_of o r) l ≡ true → l ≡ lock_by (of_job job) no_record w.kind Open → ⊥

  -- the opens that aren't under commitment control keep theirs at COMMIT and at the end of it
  outside-stays : (call : Call) → IsBoundary call → ((l : Lock) (o : OpenState) (r : ℕ) → keeps_record o.commit (holder_of job o) (record_of o r) l ≡ true → is_committed its o.number ≡ false
      → is_freed (released call its.level).open_locks (of_job job) no_record (is_committed its) l ≡ false) → new.locks ≡ boundary_locks call job m → new.members ≡ m.members
      → (o : OpenState) → StandsIn m job o → (o.commit ≡ false → is_committed its o.number ≡ false) → o.commit ≡ false → StandsIn new job o
  outside-stays call is spared locks members o stands apart outside r current =
      record { live = same-live members o.member r (stands r current).live; locked = boundary-own call is spared locks o r outside (apart outside) (stands r current) }

  boundary-stay : (call : Call) → new.locks ≡ boundary_locks call job m → new.members ≡ m.members → OthersStay
  boundary-stay call locks members = λ number o r differ stands. record { live = same-live members o.member r stands.live; locked = boundary-others call locks number o r differ stands }

  its-committed : AllByRecursion (λ e. e.1.commit ≡ false → is_committed its e.1.number ≡ false) its.opens
  its-committed = apart-committed its.opens (stands-of s job sound runs).opens.apart

  commit-stands : IsCommit m job new → (place : ℕ) (j : JobState) → slice_get new.jobs place ≡ Some j → AllCurrentStand new (place + 1) j
  commit-stands is =
      all-jobs (λ j. with_opens committed_open (without_cycle j)) is.jobs (boundary-stay Commit is.locks is.members)
      (own-mapped _ committed_open (λ e. e.1.commit ≡ false → is_committed its e.1.number ≡ false) refl its-committed (λ e stands apart. own e.1 stands apart))
    where
      spared : (l : Lock) (o : OpenState) (r : ℕ) → keeps_record o.commit (holder_of job o) (record_of o r) l ≡ true → is_committed its o.number ≡ false
          → is_freed (released Commit its.level).open_locks (of_job job) no_record (is_committed its) l ≡ false
      spared l o r keeps apart =
          let through = (keeps-is o.commit (holder_of job o) (record_of o r) l keeps).opened in
          ap (λ which. is_freed which (of_job job) no_record (is_committed its) l) (commit-frees its.level) ∙ ap (λ b. is_of_job job l && b) (ap (is_committed its) through ∙ apart)
          ∙ and_false (is_of_job job l)

      own : (o : OpenState) → StandsIn m job o → (o.commit ≡ false → is_committed its o.number ≡ false) → StandsIn new job (committed_open o)
      own o stands apart =
          elim o.commit as (λ b. o.commit ≡ b → StandsIn new job (if b then at_boundary o else o)) [
            | true ↦ λ e r current. absurd cc
            | false ↦ λ e. outside-stays Commit tt spared is.locks is.members o stands apart e
          ] refl

  end-stands : IsEnd m job new → (place : ℕ) (j : JobState) → slice_get new.jobs place ≡ Some j → AllCurrentStand new (place + 1) j
  end-stands is =
      all-jobs (with_level None) is.jobs (boundary-stay EndCommitment is.locks is.members)
      (own-same (all-both (λ (e : List ℕ × OpenState). e.1.commit ≡ false) (λ e. e.1.commit ≡ false → is_committed its e.1.number ≡ false) (λ e. StandsIn m job e.1 → StandsIn new job e.1) its.opens
      (λ e outside apart stands. outside-stays EndCommitment tt spared is.locks is.members e.1 stands apart outside) (none-committed its.opens is.opens) its-committed))
    where
      spared : (l : Lock) (o : OpenState) (r : ℕ) → keeps_record o.commit (holder_of job o) (record_of o r) l ≡ true → is_committed its o.number ≡ false
          → is_freed (released EndCommitment its.level).open_locks (of_job job) no_record (is_committed its) l ≡ false
      spared l o r keeps apart = ap (λ which. is_freed which (of_job job) no_record (is_committed its) l) (end-frees its.level)

  -- ---- what the job has changed is taken back: no other open has it as its current record

  back-stays : (call : Call) → new.locks ≡ boundary_locks call job m → new.members ≡ (taken_back (changes_of its.cycle) m).members → OthersStay
  back-stays call locks members = λ number o r differ stands. record {
    live = subst (λ all. IsSome (record_in (slot_at (member_of o.member all) r))) (sym members) (back-live (changes_of its.cycle) m o.member r (apart number o r differ stands) stands.live);
    locked = boundary-others call locks number o r differ stands;
  }
    where
      changes-locked : AllByRecursion (λ undo. HoldsChange job (record { member = undo.member; rrn = undo.change.place + 1 }) m.locks) (changes_of its.cycle)
      changes-locked = subst (AllByRecursion (λ undo. HoldsChange job (record { member = undo.member; rrn = undo.change.place + 1 }) m.locks)) (sym (same-changes its.cycle))
          (stands-of s job sound runs).locked

      apart : (number : ℕ) (o : OpenState) (r : ℕ) → number ≢ job → CurrentStands m number o r → AllByRecursion (λ undo. o.member ≡ undo.member → r ≡ undo.change.place + 1 → ⊥) (changes_of its.cycle)
      apart number o r differ stands =
          all-weaker (λ (undo : MemberChange). HoldsChange job (record { member = undo.member; rrn = undo.change.place + 1 }) m.locks)
          (λ undo. o.member ≡ undo.member → r ≡ undo.change.place + 1 → ⊥) (changes_of its.cycle)
          (λ undo holds member same. (
          let at : RecordId = record { member = undo.member; rrn = undo.change.place + 1 } in
          none-keeps job at m.locks o.commit (holder_of number o) differ
          (update-alone (is_change_lock job at) job at m.locks (change-lock job at) sound.joint.compatible holds)
          (subst (λ x. list_any (keeps_record o.commit (holder_of number o) x) m.locks ≡ true) (λ i. record { member = member i; rrn = same i }) stands.locked))) changes-locked

  rolled-unread : (o : OpenState) → (rolled_back_open o).current ≡ None
  rolled-unread o =
      elim o.commit as (λ b. (if b then record o { position = o.boundary; current = None; last_read = None } else record o { current = None; last_read = None }).current ≡ None) [
        | true ↦ refl
        | false ↦ refl
      ]

  rollback-stands : IsTakingBack m job new Rollback (λ j. with_opens rolled_back_open (without_cycle j)) → (place : ℕ) (j : JobState) → slice_get new.jobs place ≡ Some j
      → AllCurrentStand new (place + 1) j
  rollback-stands is =
      all-jobs (λ j. with_opens rolled_back_open (without_cycle j)) is.jobs (back-stays Rollback is.locks is.members)
      (own-mapped _ rolled_back_open (λ e. Unit {0}) refl (all-each (λ (e : List ℕ × OpenState). Unit {0}) its.opens (λ e. tt)) (λ e stands any r current. absurd (let none = rolled-unread e.1 in cc)))

  -- ---- opens that come and go

  opening-stands : IsOpening m job new → (place : ℕ) (j : JobState) → slice_get new.jobs place ≡ Some j → AllCurrentStand new (place + 1) j
  opening-stands is =
      all-jobs (with_open is.args is.over) is.jobs (λ number o r differ stands. nothing-changed is.members is.locks number o r stands)
      (all-append (λ (e : List ℕ × OpenState). StandsIn new job e.1) its.opens _
      (own-same (all-each (λ (e : List ℕ × OpenState). StandsIn m job e.1 → StandsIn new job e.1) its.opens (λ e stands r current. nothing-changed is.members is.locks job e.1 r (stands r current))))
      (λ r current. absurd cc, tt))

  closing-stands : IsClosing m job new → (place : ℕ) (j : JobState) → slice_get new.jobs place ≡ Some j → AllCurrentStand new (place + 1) j
  closing-stands is =
      all-jobs (without_open is.name) is.jobs
      (λ number o r differ stands. record { live = same-live is.members o.member r stands.live; locked = others-locked Close is.opened 0 is.locks number o r differ stands })
      (all-filter (λ (e : List ℕ × OpenState). StandsIn m job e.1 × (same_name is.name e.0 ≡ false → e.1.number ≢ is.opened.number)) (λ e. StandsIn new job e.1)
      (λ e. not (same_name is.name e.0)) its.opens
      (λ e left both r current. record {
        live = same-live is.members e.1.member r (both.0 r current).live;
        locked = other_open-locked Close is.opened 0 is.locks (none-free Close (level_of its is.opened) tt) e.1 r (both.1 (not_true (same_name is.name e.0) left)) (both.0 r current);
      })
      (all-both (λ (e : List ℕ × OpenState). StandsIn m job e.1) (λ e. same_name is.name e.0 ≡ false → e.1.number ≢ is.opened.number)
      (λ e. StandsIn m job e.1 × (same_name is.name e.0 ≡ false → e.1.number ≢ is.opened.number)) its.opens (λ e one other. (one, other)) its-current
      (other-number is.name its.opens is.opened is.named (stands-of s job sound runs).opens.apart)))

  -- ---- members that no job uses

  around-stands : IsAround m new → (place : ℕ) (j : JobState) → slice_get new.jobs place ≡ Some j → AllCurrentStand new (place + 1) j
  around-stands is place j there =
      let before : slice_get m.jobs place ≡ Some j = ap (λ js. slice_get js place) (sym is.jobs) ∙ there in
      all-both (λ (e : List ℕ × OpenState). StandsIn m (place + 1) e.1 × OpenHolds m.files e.1)
      (λ e. (test : List ℕ × OpenState → Bool) → test e ≡ true → list_any test j.opens ≡ true) (λ e. StandsIn new (place + 1) e.1) j.opens
      (λ e both found r current. record {
        live = used before e.1 r (found (λ o. list_any (λ base. base == e.1.member) o.1.members) (covered m.files e.1 both.1)) (both.0 r current).live;
        locked = subst (λ ls. list_any (keeps_record e.1.commit (holder_of (place + 1) e.1) (record_of e.1 r)) ls ≡ true) (sym is.locks) (both.0 r current).locked;
      })
      (all-both (λ (e : List ℕ × OpenState). StandsIn m (place + 1) e.1) (λ e. OpenHolds m.files e.1) (λ e. StandsIn m (place + 1) e.1 × OpenHolds m.files e.1) j.opens
      (λ e one other. (one, other)) (sound.joint.jobs place j before).current (at-place (OpensHold m.files) m.jobs place j before sound.library.opens)) (each-there j.opens)
    where
      same-slots : (member r : ℕ) → slots_of member new ≡ slots_of member m → IsSome (live_record member r m) → IsSome (live_record member r new)
      same-slots member r same live =
          let bounds = live-within (member_of member m.members) r live in
          let some : (r == 0) ≡ false = differ-false r 0 (λ zero. (let first = bounds.0 in absurd (omega (arith, first, zero)))) in
          let before : IsSome (record_in (slice_get (slots_of member m) (r - 1))) = subst (λ b. IsSome (record_in (if b then None else slice_get (slots_of member m) (r - 1)))) some live in
          subst (λ b. IsSome (record_in (if b then None else slice_get (slots_of member new) (r - 1)))) (sym some) (subst (λ slots. IsSome (record_in (slice_get slots (r - 1)))) (sym same) before)

      used : slice_get m.jobs place ≡ Some j → (o : OpenState) (r : ℕ) → has_open_over o.member j ≡ true → IsSome (live_record o.member r m)
          → IsSome (live_record o.member r new)
      used before o r over live = elim (is.slots o.member) [
        | inl free ↦ absurd (
            let none = (unused-job m o.member place j free before).opens in
            cc)
        | inr same ↦ same-slots o.member r same live
      ]

  -- ---- all of them

  pub current-left : Effect m job new → (place : ℕ) (j : JobState) → slice_get new.jobs place ≡ Some j → AllCurrentStand new (place + 1) j
  current-left (Around is) = around-stands is
  current-left (Opening is) = opening-stands is
  current-left (Closing is) = closing-stands is
  current-left (Use is) = use-stands is
  current-left (Writing is) = write-stands is.opened is.format is.call is.rrn (Live is.image) is.change is.place
  current-left (Updating is) = update-stands is.opened is.rrn is.image is.change
  current-left (Deleting is) = delete-stands is.opened is.rrn is.change is.current
  current-left (Start is) =
      all-jobs (with_level (Some is.level)) is.jobs (λ number o r differ stands. nothing-changed is.members is.locks number o r stands)
      (own-same (all-each (λ (e : List ℕ × OpenState). StandsIn m job e.1 → StandsIn new job e.1) its.opens (λ e stands r current. nothing-changed is.members is.locks job e.1 r (stands r current))))
  current-left (End is) = end-stands is
  current-left (Committing is) = commit-stands is
  current-left (RollingBack is) = rollback-stands is
  current-left (EndingJob is) = all-jobs ended_job is.jobs (back-stays EndJob is.locks is.members) tt

pub current-kept : (s : State) (done : Change) → Does s done → (place : ℕ) (j : JobState) → slice_get (after s done).jobs place ≡ Some j → AllCurrentStand (memory_of (after s done)) (place + 1) j
current-kept s done does place j at =
    all-weaker (λ (e : List ℕ × OpenState). StandsIn done.memory (place + 1) e.1) (λ e. StandsIn (memory_of (after s done)) (place + 1) e.1) j.opens
    (λ e stands r current. current-seen s.gone (s.entries ++ done.entries) done.memory (place + 1) e.1 r (stands r current))
    (current-left s done.memory does.job does.sound (running-Runs s.jobs does.job does.running) (effect-of s done does) place j at)
