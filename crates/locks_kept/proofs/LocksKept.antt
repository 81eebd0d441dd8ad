-- Each lock stands on a place of its member, through an open of its job or kept by a job under commitment control, after whatever is done.
use Rattle.std.proofs.Common.{◌≡◌, ◌≢◌, ◌⊎◌, inl, inr, ℕ, ◌+◌, ◌-◌, ◌≤◌, ◌==◌, ◌&&◌, ◌||◌, not, Bool, true, false, cond, if◌then◌else◌, IsSome, IfSome, filter, map, length, List, [], ◌∷◌, ◌++◌, Option, Some, None, is_some, slice_get, unwrap_or, refl, sym, ◌∙◌, ap, subst, arith}
use Rattle.std.specs.List.{AllByRecursion, list_any}
use Rattle.std.proofs.lemmas.Bool.{cases_eq}
use Rattle.std.proofs.lemmas.Bool.Decides.{nat_tests}
use Rattle.commit_level.specs.declared.Level.{Level}
use Rattle.commit_level.specs.declared.Level.TheVariants as levels
use Rattle.entry_codec.specs.declared.entries.Entry.{Entry}
use Rattle.member_slots.specs.declared.slot.Slot.{Slot}
use Rattle.member_slots.specs.declared.slot.Slot.TheVariants.{Live, Deleted}
use Rattle.member_slots.specs.Members.{member_at, member_of}
use Rattle.joint_state.specs.Jobs.{HasBegun}
use Rattle.lock_table.specs.declared.levels.Call.{Call}
use Rattle.lock_table.specs.declared.levels.Call.TheVariants.{InputRead, UpdateRead, Update, Delete, Write, WriteAt, Unlock, Position, Close, Commit, Rollback, EndCommitment, EndJob}
use Rattle.lock_table.specs.declared.levels.Wanted.{Wanted}
use Rattle.lock_table.specs.declared.levels.OpenLocks.TheVariants.{OfOpen, OfJob}
use Rattle.lock_table.specs.declared.lock.Lock.{Lock}
use Rattle.lock_table.specs.declared.lock.RecordId.{RecordId}
use Rattle.lock_table.specs.Lock.{is_open, is_by, is_of_open, is_of_job, is_of_group, lock_by}
use Rattle.lock_table.specs.Levels.{asked, gained, released}
use Rattle.lock_table.proofs.Rules.{gained-asked}
use Rattle.library_model.specs.Named.{Named, named, same_name}
use Rattle.library_steps.specs.State.{State, Memory, fields_of, OpenState, JobState, job_at, job_of, job_changed, memory_of, with_entries, open_named, or_new, with_opens}
use Rattle.library_steps.specs.Change.{Change}
use Rattle.library_steps.specs.Locking.{level_of, holder_of, record_of, is_committed, locks_left}
use Rattle.library_steps.specs.Opens.{with_open, without_open}
use Rattle.library_steps.specs.Reads.{at_format, open_changed}
use Rattle.library_steps.specs.Records.{live_record}
use Rattle.library_steps.specs.ChangeRecord.{without_record}
use Rattle.library_steps.specs.Commitment.{boundary_locks, taken_back, committed_open, rolled_back_open, without_cycle, with_level, changes_of}
use Rattle.library_steps.specs.EndJob.{ended_job}
use Rattle.library_steps.specs.Uses.{user_of}
use Rattle.joint_state.specs.Calls.{IsRead, IsWrite, AsksNone}
use Rattle.joint_state.proofs.FindLemmas.{IsMember, opened-there as member_there, opened-members}
use Rattle.joint_state.proofs.MemberLemmas.{IsThere-is_some}
use Rattle.joint_state.specs.Locks.{LockStands, HasOpenOf, is_through}
use Rattle.joint_state.specs.Sound.{IsSound, Does, after}
use Rattle.locks_kept.proofs.AllEffects.{effect-of}
use Rattle.locks_kept.proofs.ChangeEffects.{IsPlace, same-opens}
use Rattle.locks_kept.proofs.CompatibleKept.{of_job, no_record, IsBoundary, boundary-asks, stands-of, current-of}
use Rattle.locks_kept.proofs.Effects.{IsSameOpen, IsAround, IsClosing, IsUse, IsChange, IsTakingBack, at_member, changing, unread, slots_of, Effect, Around, Opening, Closing, Use, Writing, Updating, Deleting, Start, End, Committing, RollingBack, EndingJob}
use Rattle.locks_kept.proofs.JobLemmas.{Runs, running-Runs, job_of-own, job_of-other}
use Rattle.locks_kept.proofs.JobsKept.{Goes, alike-if, changing-goes, same-unread, same-without_record, same-committed, same-rolled_back}
use Rattle.locks_kept.proofs.LockLists.{is_freed, after-all}
use Rattle.locks_kept.proofs.OpenEffects.{asks-nothing}
use Rattle.locks_kept.proofs.OpenLemmas.{named-holds, same-named}
use Rattle.locks_kept.proofs.UserLemmas.{used-by}
use Rattle.locks_kept.proofs.SlotLemmas.{live-within, put-grows, put-behind, taken_back-grows}
use Rattle.locks_kept.proofs.ListLemmas.{all-both, all-from, all-weaker, at-place, each-there}
use Rattle.locks_kept.proofs.OptionLemmas.{some-both, some-each}
use Rattle.locks_kept.proofs.TestLemmas.{differ-false, number-is, number-same, or_true}

-- ---- opens through which locks are held

-- the lock is held through one of these opens
abbrev pub through : Lock → Named OpenState → Bool
through lock opens = list_any (λ entry. is_through lock entry.1) opens

-- changes that keep number and member of an open don't matter to it
pub same-through : (lock : Lock) (new old : OpenState) → IsSameOpen new old → is_through lock new ≡ is_through lock old
same-through lock new old same = λ i. (same.number i == lock.opened) && (same.member i == lock.at.member)

pub through-map : (lock : Lock) (change : OpenState → OpenState) → ((o : OpenState) → is_through lock (change o) ≡ is_through lock o) → (opens : Named OpenState) → through lock opens ≡ true
    → through lock (map (λ e. (e.0, change e.1)) opens) ≡ true
through-map lock change same [] some = absurd cc
through-map lock change same (entry ∷ opens) some =
    elim (is_through lock entry.1) as (λ b. is_through lock entry.1 ≡ b → (b || through lock opens) ≡ true
    → (is_through lock (change entry.1) || through lock (map (λ e. (e.0, change e.1)) opens)) ≡ true) [
      | true ↦ λ e h. ap (λ b. b || through lock (map (λ e. (e.0, change e.1)) opens)) (same entry.1 ∙ e)
      | false ↦ λ e h. or_true (is_through lock (change entry.1)) (through lock (map (λ e. (e.0, change e.1)) opens)) (through-map lock change same opens h)
    ] refl some

through-more : (lock : Lock) (opens more : Named OpenState) → through lock opens ≡ true → through lock (opens ++ more) ≡ true
through-more lock [] more some = absurd cc
through-more lock (entry ∷ opens) more some =
    elim (is_through lock entry.1) as (λ b. (b || through lock opens) ≡ true → (b || through lock (opens ++ more)) ≡ true) [
      | true ↦ λ h. refl
      | false ↦ λ h. through-more lock opens more h
    ] some

-- an open that is named is one of them, and changed as they are
pub through-changed : (lock : Lock) (change : OpenState → OpenState) (name : List ℕ) (opens : Named OpenState) (opened : OpenState) → named name opens ≡ Some opened
    → is_through lock (change opened) ≡ true → through lock (map (λ e. (e.0, change e.1)) opens) ≡ true
through-changed lock change name [] opened is its = absurd cc
through-changed lock change name (entry ∷ opens) opened is its =
    elim (same_name name entry.0) as (λ b. cond b (Some entry.1) (named name opens) ≡ Some opened → through lock (map (λ e. (e.0, change e.1)) (entry ∷ opens)) ≡ true) [
      | true ↦ λ e. (
          let same : opened ≡ entry.1 = cc in
          ap (λ b. b || through lock (map (λ e. (e.0, change e.1)) opens)) (ap (λ (o : OpenState). is_through lock (change o)) (sym same) ∙ its))
      | false ↦ λ e. or_true (is_through lock (change entry.1)) (through lock (map (λ e. (e.0, change e.1)) opens)) (through-changed lock change name opens opened e its)
    ] is

-- none of another number is
pub not-through : (lock : Lock) (o : OpenState) → o.number ≢ lock.opened → is_through lock o ≡ false
not-through lock o differ = let other : (o.number == lock.opened) ≡ false = differ-false o.number lock.opened differ in rw other refl

-- one of another number stays where an open of this name goes
through-others : (lock : Lock) (name : List ℕ) (opened : OpenState) (opens : Named OpenState) → AllByRecursion (λ e. same_name name e.0 ≡ true → e.1 ≡ opened) opens
    → lock.opened ≢ opened.number → through lock opens ≡ true → through lock (filter (λ e. not (same_name name e.0)) opens) ≡ true
through-others lock name opened [] all differ some = absurd cc
through-others lock name opened (entry ∷ opens) all differ some =
    elim (same_name name entry.0) as (λ b. same_name name entry.0 ≡ b
    → through lock (cond (not b) (entry ∷ filter (λ e. not (same_name name e.0)) opens) (filter (λ e. not (same_name name e.0)) opens)) ≡ true) [
      | true ↦ λ its. through-others lock name opened opens all.1 differ (rest (all.0 its))
      | false ↦ λ its. elim (is_through lock entry.1) as (λ b. (b || through lock opens) ≡ true
          → (b || through lock (filter (λ e. not (same_name name e.0)) opens)) ≡ true) [
            | true ↦ λ h. refl
            | false ↦ λ h. through-others lock name opened opens all.1 differ h
          ] some
    ] refl
  where
    not_through : entry.1 ≡ opened → is_through lock entry.1 ≡ false
    not_through is =
        let number : entry.1.number ≡ opened.number = ap (λ (o : OpenState). o.number) is in
        let other : (entry.1.number == lock.opened) ≡ false = grind (arith, nat_tests, number, differ) in
        rw other refl

    rest : entry.1 ≡ opened → through lock opens ≡ true
    rest is = sym (ap (λ b. b || through lock opens) (not_through is)) ∙ some

-- ---- the level of a lock that is kept to the boundary

level-started : (job : JobState) (opened : OpenState) → IsSome (level_of job opened) → IsSome job.level
level-started job opened started = elim opened.commit as (λ b. IsSome (if b then job.level else None) → IsSome job.level) [ true ↦ λ h. h | false ↦ λ h. absurd cc ] started

-- outside commitment control no call keeps its lock to the boundary
kept-started : (call : Call) (level : Option Level) → IfSome (gained call level) (λ w. is_open w.reach ≡ false → IsSome level)
kept-started call (Some level) = some-each (λ w. is_open w.reach ≡ false → IsSome (Some level)) (gained call (Some level)) (λ w e. refl)
kept-started InputRead None = tt
kept-started UpdateRead None = λ e. absurd cc
kept-started Update None = tt
kept-started Delete None = tt
kept-started Write None = tt
kept-started WriteAt None = tt
kept-started Unlock None = tt
kept-started Position None = tt
kept-started Close None = tt
kept-started Commit None = tt
kept-started Rollback None = tt
kept-started EndCommitment None = tt
kept-started EndJob None = tt

-- a WRITE keeps its lock to the boundary, or none
write-kept : (call : Call) → IsWrite call → (P : Type 0) (level : Option Level) → IfSome (gained call level) (λ w. is_open w.reach ≡ true → P)
write-kept Write is P None = tt
write-kept Write is P (Some levels.Chg) = λ e. absurd cc
write-kept Write is P (Some levels.Cs) = λ e. absurd cc
write-kept Write is P (Some levels.All) = λ e. absurd cc
write-kept WriteAt is P None = tt
write-kept WriteAt is P (Some levels.Chg) = λ e. absurd cc
write-kept WriteAt is P (Some levels.Cs) = λ e. absurd cc
write-kept WriteAt is P (Some levels.All) = λ e. absurd cc
write-kept InputRead is P level = absurd is
write-kept UpdateRead is P level = absurd is
write-kept Update is P level = absurd is
write-kept Delete is P level = absurd is
write-kept Unlock is P level = absurd is
write-kept Position is P level = absurd is
write-kept Close is P level = absurd is
write-kept Commit is P level = absurd is
write-kept Rollback is P level = absurd is
write-kept EndCommitment is P level = absurd is
write-kept EndJob is P level = absurd is

-- what is needed of a lock that is gained, by how long it is kept
record Reaches (ends : Bool) (started : Option Level) (Moves : Type 0) : Type 0 where
  level : ends ≡ false → IsSome started
  moves : ends ≡ true → Moves

-- ---- which locks boundaries free

frees-boundary : (call : Call) → IsBoundary call → (level : Option Level) → (released call level).boundary_locks ≡ true
frees-boundary Commit is None = refl
frees-boundary Commit is (Some levels.Chg) = refl
frees-boundary Commit is (Some levels.Cs) = refl
frees-boundary Commit is (Some levels.All) = refl
frees-boundary Rollback is None = refl
frees-boundary Rollback is (Some levels.Chg) = refl
frees-boundary Rollback is (Some levels.Cs) = refl
frees-boundary Rollback is (Some levels.All) = refl
frees-boundary EndCommitment is None = refl
frees-boundary EndCommitment is (Some levels.Chg) = refl
frees-boundary EndCommitment is (Some levels.Cs) = refl
frees-boundary EndCommitment is (Some levels.All) = refl
frees-boundary EndJob is None = refl
frees-boundary EndJob is (Some levels.Chg) = refl
frees-boundary EndJob is (Some levels.Cs) = refl
frees-boundary EndJob is (Some levels.All) = refl
frees-boundary InputRead is level = absurd is
frees-boundary UpdateRead is level = absurd is
frees-boundary Update is level = absurd is
frees-boundary Delete is level = absurd is
frees-boundary Write is level = absurd is
frees-boundary WriteAt is level = absurd is
frees-boundary Unlock is level = absurd is
frees-boundary Position is level = absurd is
frees-boundary Close is level = absurd is

frees-job : (level : Option Level) → (released EndJob level).open_locks ≡ OfJob
frees-job None = refl
frees-job (Some levels.Chg) = refl
frees-job (Some levels.Cs) = refl
frees-job (Some levels.All) = refl

frees-open : (level : Option Level) → (released Close level).open_locks ≡ OfOpen
frees-open None = refl
frees-open (Some levels.Chg) = refl
frees-open (Some levels.Cs) = refl
frees-open (Some levels.All) = refl

-- a read frees those of its open
read-frees : (call : Call) → IsRead call → (level : Option Level) → (released call level).open_locks ≡ OfOpen
read-frees InputRead is None = refl
read-frees InputRead is (Some levels.Chg) = refl
read-frees InputRead is (Some levels.Cs) = refl
read-frees InputRead is (Some levels.All) = refl
read-frees UpdateRead is None = refl
read-frees UpdateRead is (Some levels.Chg) = refl
read-frees UpdateRead is (Some levels.Cs) = refl
read-frees UpdateRead is (Some levels.All) = refl
read-frees Update is level = absurd is
read-frees Delete is level = absurd is
read-frees Write is level = absurd is
read-frees WriteAt is level = absurd is
read-frees Unlock is level = absurd is
read-frees Position is level = absurd is
read-frees Close is level = absurd is
read-frees Commit is level = absurd is
read-frees Rollback is level = absurd is
read-frees EndCommitment is level = absurd is
read-frees EndJob is level = absurd is

-- ---- a lock in another memory

pub stands-seen : (gone : ℕ) (entries : List Entry) (m : Memory) (l : Lock) → LockStands m l → LockStands (memory_of (with_entries gone entries m)) l
stands-seen gone entries m l stands = record { counted = stands.counted; there = stands.there; opened = stands.opened; started = stands.started }

module _ (s : State) (new : Memory) (job : ℕ) (sound : IsSound s) (runs : Runs s.jobs job (job_of job (memory_of s))) where
  abbrev m : Memory
  m = memory_of s

  abbrev its : JobState
  its = job_of job m

  -- of the job that has changed, or of another as it was
  kept-in : (change : JobState → JobState) → new.jobs ≡ job_changed (job - 1) change m.jobs → (P : JobState → Type 0) (number : ℕ) → P (job_of number m)
      → (number ≡ job → P its → P (change its)) → P (job_of number new)
  kept-in change jobs P number holds own =
      elim (cases_eq number job) [
        | inl same ↦ (
            let there : job_of number new ≡ change its = ap (λ k. job_of k new) same ∙ job_of-own m new job change jobs runs in
            subst P (sym there) (own same (subst P (ap (λ k. job_of k m) same) holds)))
        | inr differ ↦ subst P (sym (job_of-other m new job change jobs runs number differ)) holds
      ]

  stands-after : (change : JobState → JobState) → new.jobs ≡ job_changed (job - 1) change m.jobs → ((number : ℕ) → length (slots_of number m) ≤ length (slots_of number new)) → (l : Lock)
      → (l.job ≡ job → is_open l.reach ≡ true → HasOpenOf its l → HasOpenOf (change its) l) → (l.job ≡ job → is_open l.reach ≡ false → IsSome its.level → IsSome (change its).level)
      → LockStands m l → LockStands new l
  stands-after change jobs grows l own_open own_level stands =
      let longer = grows l.at.member in
      let there = stands.there in
      record {
        counted = stands.counted;
        there = omega (arith, longer, there);
        opened = kept-in change jobs (λ j. is_open l.reach ≡ true → HasOpenOf j l) l.job stands.opened (λ same holds ends. own_open same ends (holds ends));
        started = kept-in change jobs (λ j. is_open l.reach ≡ false → IsSome j.level) l.job stands.started (λ same holds kept. own_level same kept (holds kept));
      }

  -- jobs and locks as they were, and slots of members that are used
  used-stands : IsAround m new → (l : Lock) → LockStands m l → HasBegun (length m.jobs) l.job → ((test : Lock → Bool) → test l ≡ true → list_any test m.locks ≡ true) → LockStands new l
  used-stands is l stands begun there = record {
    counted = stands.counted;
    there = elim (is.slots l.at.member) [
      | inl free ↦ absurd (in-use free)
      | inr same ↦ subst (λ slots. l.at.rrn ≤ length slots) (sym same) stands.there
    ];
    opened = λ ends. subst (λ (j : JobState). HasOpenOf j l) (sym same-job) (stands.opened ends);
    started = λ kept. subst (λ (j : JobState). IsSome j.level) (sym same-job) (stands.started kept);
  }
    where
      same-job : job_of l.job new ≡ job_of l.job m
      same-job = ap (λ js. or_new (job_at l.job js)) is.jobs

      in-use : user_of l.at.member m ≡ None → ⊥
      in-use free = used-by m l sound.library.opens stands begun there free

  around-stand : IsAround m new → AllByRecursion (LockStands new) m.locks
  around-stand is = all-both (λ (l : Lock). LockStands m l × HasBegun (length m.jobs) l.job) (λ l. (test : Lock → Bool) → test l ≡ true → list_any test m.locks ≡ true) (LockStands new) m.locks
      (λ l both there. used-stands is l both.0 both.1 there)
      (all-both (LockStands m) (λ l. HasBegun (length m.jobs) l.job) (λ l. LockStands m l × HasBegun (length m.jobs) l.job) m.locks (λ l one other. (one, other)) sound.joint.locks
      (all-from (λ l. HasBegun (length m.jobs) l.job) m.locks sound.library.keepers))
      (each-there m.locks)

  -- ---- calls through an open, on a record of one of its members

  module _ (call : Call) (name : List ℕ) (opened : OpenState) (member rrn : ℕ) (change : JobState → JobState) (of_open : OpenState → OpenState) (named : open_named name job m ≡ Some opened)
      (jobs : new.jobs ≡ job_changed (job - 1) change m.jobs) (goes : Goes its (change its) of_open) where
    abbrev at : RecordId
    at = record_of (at_member member opened) rrn

    gains : (1 ≤ rrn) × (rrn ≤ length (slots_of member new)) → (wanted : Wanted) → (is_open wanted.reach ≡ false → IsSome (level_of its opened))
        → (is_open wanted.reach ≡ true → (of_open opened).member ≡ member) → LockStands new (lock_by (holder_of job opened) at wanted.kind wanted.reach)
    gains within wanted level moves = record {
      counted = within.0;
      there = within.1;
      opened = λ ends. subst (λ (j : JobState). HasOpenOf j lock) (sym (job_of-own m new job change jobs runs))
          (subst (λ (opens : Named OpenState). through lock opens ≡ true) (sym goes.opens) (through-changed lock of_open name its.opens opened named
          (rw (number-same (of_open opened).number opened.number (goes.same opened).number, number-same (of_open opened).member member (moves ends)) refl)));
      started = λ kept. subst (λ (j : JobState). IsSome j.level) (sym (job_of-own m new job change jobs runs))
          (subst (λ (l : Option Level). IsSome l) (sym goes.level) (level-started its opened (level kept)));
    }
      where
        lock : Lock
        lock = lock_by (holder_of job opened) at wanted.kind wanted.reach

    -- the locks to the next read that are left are held through what the opens become
    abbrev StayThrough : Type 0
    StayThrough =
        (l : Lock) → is_freed (released call (level_of its opened)).open_locks (holder_of job opened) at (is_committed its) l ≡ false → l.job ≡ job → is_open l.reach ≡ true
        → (o : OpenState) → is_through l (of_open o) ≡ is_through l o

    call-stands : new.locks ≡ locks_left call job (at_member member opened) rrn m → ((number : ℕ) → length (slots_of number m) ≤ length (slots_of number new)) → StayThrough
        → IfSome (asked call (level_of its opened)) (λ w. (1 ≤ rrn) × (rrn ≤ length (slots_of member new)))
        → IfSome (gained call (level_of its opened)) (λ w. is_open w.reach ≡ true → (of_open opened).member ≡ member) → AllByRecursion (LockStands new) new.locks
    call-stands locks grows stay within moves =
        subst (AllByRecursion (LockStands new)) (sym locks)
        (after-all (holder_of job opened) at (is_committed its) call (level_of its opened) (LockStands m) (LockStands new) m.locks
        (λ l left spared stands. stands-after change jobs grows l
        (λ same ends has. subst (λ (opens : Named OpenState). through l opens ≡ true) (sym goes.opens) (through-map l of_open (stay l left same ends) its.opens has))
        (λ same kept started. subst (λ (o : Option Level). IsSome o) (sym goes.level) started) stands)
        (some-both (λ w. (1 ≤ rrn) × (rrn ≤ length (slots_of member new))) reaches (λ w. LockStands new (lock_by (holder_of job opened) at w.kind w.reach))
        (gained call (level_of its opened)) (λ w bounds both. gains bounds w both.level both.moves)
        (gained-asked (λ w. (1 ≤ rrn) × (rrn ≤ length (slots_of member new))) call (level_of its opened) within)
        (some-both (λ w. is_open w.reach ≡ false → IsSome (level_of its opened)) (λ w. is_open w.reach ≡ true → (of_open opened).member ≡ member) reaches (gained call (level_of its opened))
        (λ w level move. record { level = level; moves = move }) (kept-started call (level_of its opened)) moves))
        sound.joint.locks)
      where
        reaches : Wanted → Type 0
        reaches w = Reaches (is_open w.reach) (level_of its opened) ((of_open opened).member ≡ member)

  same-slots : new.members ≡ m.members → (number : ℕ) → length (slots_of number m) ≤ length (slots_of number new)
  same-slots members number = let same : length (slots_of number new) ≡ length (slots_of number m) = ap (λ all. length (member_of number all).slots) members in omega (arith, same)

  -- a change of a record that its place has, or that makes one
  change-stands : (opened : OpenState) (member : ℕ) (call : Call) (rrn : ℕ) (slot : Slot) (of_open : OpenState → OpenState) → IsChange m job new opened member call rrn slot of_open
      → ((o : OpenState) → IsSameOpen (of_open o) o) → (1 ≤ rrn) × (rrn ≤ length (slots_of member new))
      → IfSome (gained call (level_of its opened)) (λ w. is_open w.reach ≡ true → (of_open opened).member ≡ member) → AllByRecursion (LockStands new) new.locks
  change-stands opened member call rrn slot of_open is same within moves =
      call-stands call is.name opened member rrn (changing opened.commit is.cycle of_open) of_open is.named is.jobs
      (changing-goes opened.commit is.cycle of_open its (λ none. named-holds (λ (o : OpenState). o.commit ≡ false) is.name its.opens opened is.named
      ((stands-of s job sound runs).control.opens none)) same)
      is.locks (put-grows m new member rrn slot is.members) (λ l left own ends o. same-through l (of_open o) o (same o)) (some-each _ (asked call (level_of its opened)) (λ w. within)) moves

  -- of the open's current record
  current-stands : (opened : OpenState) (call : Call) (rrn : ℕ) (slot : Slot) (of_open : OpenState → OpenState) → IsChange m job new opened opened.member call rrn slot of_open
      → ((o : OpenState) → IsSameOpen (of_open o) o) → opened.current ≡ Some rrn → AllByRecursion (LockStands new) new.locks
  current-stands opened call rrn slot of_open is same current =
      let stands = current-of s job sound runs is.name opened rrn is.named current in
      let bounds = live-within (member_of opened.member m.members) rrn stands.live in
      let last = bounds.1 in
      let longer = put-grows m new opened.member rrn slot is.members opened.member in
      change-stands opened opened.member call rrn slot of_open is same (bounds.0, omega (arith, last, longer))
      (some-each _ (gained call (level_of its opened)) (λ w ends. (same opened).member))

  -- the member of an open is there, at any format
  opened-there : (name : List ℕ) (opened : OpenState) (format : ℕ) → open_named name job m ≡ Some opened → is_some (member_at (at_format format opened).member m.members) ≡ true
  opened-there name opened format called =
      by (slice_get opened.members format) refl
    where
      is-there : (number : ℕ) → IsMember s number → is_some (member_at number m.members) ≡ true
      is-there number is = IsThere-is_some (fields_of is.file) (member_at number m.members) is.has.there

      by : (found : Option ℕ) → slice_get opened.members format ≡ found → is_some (member_at (unwrap_or found opened.member) m.members) ≡ true
      by None is = is-there opened.member (member_there s job name opened sound.library called)
      by (Some member) is = is-there member (at-place (IsMember s) opened.members format member is (opened-members s job name opened sound.library called))

  -- ---- an open that is used: a read moves it, and frees what it held before

  use-stands : IsUse m job new → AllByRecursion (LockStands new) new.locks
  use-stands is =
      call-stands is.call is.name is.opened is.member is.rrn (open_changed is.opened.number is.change) of_open is.named is.jobs
      (record { ended = refl; level = refl; cycle = λ none was. was; opens = refl; opened = refl; same = λ o. alike-if (o.number == is.opened.number) is.change o (is.same o) })
      is.locks (same-slots is.members) stay within moves
    where
      of_open : OpenState → OpenState
      of_open o = if o.number == is.opened.number then is.change o else o

      stay : (l : Lock) → is_freed (released is.call (level_of its is.opened)).open_locks (holder_of job is.opened) (record_of (at_member is.member is.opened) is.rrn) (is_committed its) l ≡ false
          → l.job ≡ job → is_open l.reach ≡ true → (o : OpenState) → is_through l (of_open o) ≡ is_through l o
      stay l left own ends o =
          elim (o.number == is.opened.number) as (λ b. (o.number == is.opened.number) ≡ b → is_through l (if b then is.change o else o) ≡ is_through l o) [
            | true ↦ λ e. by (number-is o.number is.opened.number e) is.of
            | false ↦ λ e. refl
          ] refl
        where
          by : o.number ≡ is.opened.number
              → (IsRead is.call × IsSome (live_record is.member is.rrn m) × ((is.change is.opened).member ≡ is.member)) ⊎ (AsksNone is.call × ((x : OpenState) → (is.change x).member ≡ x.member))
              → is_through l (is.change o) ≡ is_through l o
          by same (inl read) =
              let none : is_of_open (holder_of job is.opened) l ≡ false =
              sym (ap (λ which. is_freed which (holder_of job is.opened) (record_of (at_member is.member is.opened) is.rrn) (is_committed its) l) (read-frees is.call read.0 (level_of its is.opened)))
              ∙ left in
              let other : is.opened.number ≢ l.opened = λ number. (
              let it : (l.opened == is.opened.number) ≡ true = number-same l.opened is.opened.number (sym number) in
              let some : is_of_open (holder_of job is.opened) l ≡ true = rw (ends, number-same l.job job own, it) refl in
              absurd cc) in
              not-through l (is.change o) (λ number. other (sym same ∙ sym (is.same o).number ∙ number)) ∙ sym (not-through l o (λ number. other (sym same ∙ number)))
          by same (inr none) = same-through l (is.change o) o (record { number = (is.same o).number; member = none.1 o; commit = (is.same o).commit })

      within : IfSome (asked is.call (level_of its is.opened)) (λ w. (1 ≤ is.rrn) × (is.rrn ≤ length (slots_of is.member new)))
      within = elim is.of [
        | inl read ↦ some-each _ (asked is.call (level_of its is.opened)) (λ w. subst (λ all. (1 ≤ is.rrn) × (is.rrn ≤ length (member_of is.member all).slots)) (sym is.members)
            (live-within (member_of is.member m.members) is.rrn read.1))
        | inr none ↦ subst (λ o. IfSome o (λ w. (1 ≤ is.rrn) × (is.rrn ≤ length (slots_of is.member new)))) (sym (asks-nothing is.call (level_of its is.opened) none.0)) tt
      ]

      moved : Wanted → Type 0
      moved w = is_open w.reach ≡ true → (of_open is.opened).member ≡ is.member

      moves : IfSome (gained is.call (level_of its is.opened)) moved
      moves = elim is.of [
        | inl read ↦ some-each moved (gained is.call (level_of its is.opened)) (λ w ends.
            ap (λ b. (if b then is.change is.opened else is.opened).member) (number-same is.opened.number is.opened.number refl) ∙ read.2)
        | inr none ↦ gained-asked moved is.call (level_of its is.opened) (subst (λ o. IfSome o moved) (sym (asks-nothing is.call (level_of its is.opened) none.0)) tt)
      ]

  -- ---- boundaries

  boundary-gains : (call : Call) → IsBoundary call → (Q : Wanted → Type 0) → IfSome (gained call its.level) Q
  boundary-gains call is Q = gained-asked Q call its.level (subst (λ o. IfSome o Q) (sym (boundary-asks call is its.level)) tt)

  by-job : (l : Lock) → l.job ≡ job → is_by job l ≡ true
  by-job l same = number-same l.job job same

  -- a lock that is kept to the boundary isn't left
  not-left : (call : Call) → IsBoundary call → (l : Lock) → ((released call its.level).boundary_locks ≡ true → is_of_group job l ≡ false) → l.job ≡ job → is_open l.reach ≡ false → ⊥
  not-left call is l spared same kept =
      let none : is_of_group job l ≡ false = spared (frees-boundary call is its.level) in
      let some : is_of_group job l ≡ true = rw (kept, by-job l same) refl in
      absurd cc

  boundary-stands : (call : Call) → IsBoundary call → (change : JobState → JobState) (of_open : OpenState → OpenState) → new.jobs ≡ job_changed (job - 1) change m.jobs
      → (change its).opens ≡ map (λ e. (e.0, of_open e.1)) its.opens → ((o : OpenState) → IsSameOpen (of_open o) o) → new.locks ≡ boundary_locks call job m
      → ((number : ℕ) → length (slots_of number m) ≤ length (slots_of number new)) → AllByRecursion (LockStands new) new.locks
  boundary-stands call is change of_open jobs opens same locks grows =
      subst (AllByRecursion (LockStands new)) (sym locks)
      (after-all (of_job job) no_record (is_committed its) call its.level (LockStands m) (LockStands new) m.locks
      (λ l left spared stands. stands-after change jobs grows l
      (λ own ends has. subst (λ (all : Named OpenState). through l all ≡ true) (sym opens) (through-map l of_open (λ o. same-through l (of_open o) o (same o)) its.opens has))
      (λ own kept started. absurd (not-left call is l spared own kept)) stands)
      (boundary-gains call is _) sound.joint.locks)

  taken-longer : new.members ≡ (taken_back (changes_of its.cycle) m).members → (number : ℕ) → length (slots_of number m) ≤ length (slots_of number new)
  taken-longer members number =
      let longer = taken_back-grows (changes_of its.cycle) m number in
      let same : length (slots_of number new) ≡ length (slots_of number (taken_back (changes_of its.cycle) m)) = ap (λ all. length (member_of number all).slots) members in
      omega (arith, longer, same)

  ending-stands : IsTakingBack m job new EndJob ended_job → AllByRecursion (LockStands new) new.locks
  ending-stands is =
      subst (AllByRecursion (LockStands new)) (sym is.locks)
      (after-all (of_job job) no_record (is_committed its) EndJob its.level (LockStands m) (LockStands new) m.locks
      (λ l left spared stands. stands-after ended_job is.jobs (taken-longer is.members) l
      (λ own ends has. absurd (open-left l left own ends))
      (λ own kept started. absurd (not-left EndJob tt l spared own kept)) stands)
      (boundary-gains EndJob tt _) sound.joint.locks)
    where
      open-left : (l : Lock) → is_freed (released EndJob its.level).open_locks (of_job job) no_record (is_committed its) l ≡ false → l.job ≡ job → is_open l.reach ≡ true → ⊥
      open-left l left own ends =
          let none : is_of_job job l ≡ false = sym (ap (λ which. is_freed which (of_job job) no_record (is_committed its) l) (frees-job its.level)) ∙ left in
          let some : is_of_job job l ≡ true = rw (ends, by-job l own) refl in
          absurd cc

  -- ---- CLOF: the locks of the open go with it

  closing-stands : IsClosing m job new → AllByRecursion (LockStands new) new.locks
  closing-stands is =
      subst (AllByRecursion (LockStands new)) (sym is.locks)
      (after-all (holder_of job is.opened) (record_of is.opened 0) (is_committed its) Close (level_of its is.opened) (LockStands m) (LockStands new) m.locks
      (λ l left spared stands. stands-after (without_open is.name) is.jobs (same-slots is.members) l
      (λ own ends has. through-others l is.name is.opened its.opens (same-named is.name its.opens is.opened is.named (stands-of s job sound runs).opens.apart) (other l left own ends) has)
      (λ own kept started. started) stands)
      (gained-asked gains-nothing Close (level_of its is.opened) (subst (λ o. IfSome o gains-nothing) (sym (asks-nothing Close (level_of its is.opened) tt)) tt)) sound.joint.locks)
    where
      gains-nothing : Wanted → Type 0
      gains-nothing w = LockStands new (lock_by (holder_of job is.opened) (record_of is.opened 0) w.kind w.reach)

      other : (l : Lock) → is_freed (released Close (level_of its is.opened)).open_locks (holder_of job is.opened) (record_of is.opened 0) (is_committed its) l ≡ false → l.job ≡ job
          → is_open l.reach ≡ true
          → l.opened ≢ is.opened.number
      other l left own ends = λ same. (
          let none : is_of_open (holder_of job is.opened) l ≡ false =
          sym (ap (λ which. is_freed which (holder_of job is.opened) (record_of is.opened 0) (is_committed its) l) (frees-open (level_of its is.opened))) ∙ left in
          let number : (l.opened == is.opened.number) ≡ true = grind (arith, nat_tests, same) in
          let some : is_of_open (holder_of job is.opened) l ≡ true = rw (ends, by-job l own, number) refl in
          absurd cc)

  -- ---- all of them

  with-locks : new.locks ≡ m.locks → AllByRecursion (LockStands new) m.locks → AllByRecursion (LockStands new) new.locks
  with-locks locks all = subst (AllByRecursion (LockStands new)) (sym locks) all

  jobs-stand : (change : JobState → JobState) → new.jobs ≡ job_changed (job - 1) change m.jobs → new.members ≡ m.members → new.locks ≡ m.locks
      → ((l : Lock) → HasOpenOf its l → HasOpenOf (change its) l) → (IsSome its.level → IsSome (change its).level) → AllByRecursion (LockStands new) new.locks
  jobs-stand change jobs members locks opens level =
      with-locks locks (all-weaker (LockStands m) (LockStands new) m.locks
      (λ l stands. stands-after change jobs (same-slots members) l (λ own ends has. opens l has) (λ own kept started. level started) stands) sound.joint.locks)

  pub locks-left : Effect m job new → AllByRecursion (LockStands new) new.locks
  locks-left (Around is) = with-locks is.locks (around-stand is)
  locks-left (Opening is) = jobs-stand (with_open is.args is.over) is.jobs is.members is.locks (λ l has. through-more l its.opens _ has) (λ level. level)
  locks-left (Closing is) = closing-stands is
  locks-left (Use is) = use-stands is
  locks-left (Writing is) =
      change-stands is.opened (at_format is.format is.opened).member is.call is.rrn (Live is.image) (λ o. o) is.change (λ o. record { number = refl; member = refl; commit = refl }) (
        write-first is.place,
        put-behind m new (at_format is.format is.opened).member is.rrn is.image is.change.members (opened-there is.change.name is.opened is.format is.change.named)
            (write-last is.place),
      )
      (write-kept is.call (write-call is.place) _ (level_of its is.opened))
    where
      write-first : IsPlace m job (at_format is.format is.opened) is.call is.rrn → 1 ≤ is.rrn
      write-first (inl next) = let at = next.1 in omega (arith, at)
      write-first (inr named) = named.1.first

      write-last : IsPlace m job (at_format is.format is.opened) is.call is.rrn → is.rrn ≤ length (slots_of (at_format is.format is.opened).member m) + 1
      write-last (inl next) = let at = next.1 in omega (arith, at)
      write-last (inr named) = named.1.last

      write-call : IsPlace m job (at_format is.format is.opened) is.call is.rrn → IsWrite is.call
      write-call (inl next) = subst IsWrite (sym next.0) tt
      write-call (inr named) = subst IsWrite (sym named.0) tt
  locks-left (Updating is) = current-stands is.opened Update is.rrn (Live is.image) (unread is.opened.number) is.change (same-unread is.opened.number) is.current
  locks-left (Deleting is) =
      current-stands is.opened Delete is.rrn Deleted (without_record is.opened.member is.rrn) is.change (same-without_record is.opened.member is.rrn) is.current
  locks-left (Start is) = jobs-stand (with_level (Some is.level)) is.jobs is.members is.locks (λ l has. has) (λ level. refl)
  locks-left (End is) = boundary-stands EndCommitment tt (with_level None) (λ o. o) is.jobs (sym (same-opens its.opens)) (λ o. record { number = refl; member = refl; commit = refl }) is.locks
      (same-slots is.members)
  locks-left (Committing is) = boundary-stands Commit tt (λ j. with_opens committed_open (without_cycle j)) committed_open is.jobs refl same-committed is.locks (same-slots is.members)
  locks-left (RollingBack is) = boundary-stands Rollback tt (λ j. with_opens rolled_back_open (without_cycle j)) rolled_back_open is.jobs refl same-rolled_back is.locks (taken-longer is.members)
  locks-left (EndingJob is) = ending-stands is

pub locks-kept : (s : State) (done : Change) → Does s done → AllByRecursion (LockStands (memory_of (after s done))) (after s done).locks
locks-kept s done does =
    all-weaker (LockStands done.memory) (LockStands (memory_of (after s done))) done.memory.locks (λ l stands. stands-seen s.gone (s.entries ++ done.entries) done.memory l stands)
    (locks-left s done.memory does.job does.sound (running-Runs s.jobs does.job does.running) (effect-of s done does))
