-- No two locks clash after whatever is done.
use Rattle.std.proofs.Common.{◌≡◌, inl, inr, ℕ, ◌+◌, ◌-◌, ◌≤◌, IfSome, List, Option, Some, None, refl, sym, subst, arith}
use Rattle.commit_level.specs.declared.Level.{Level}
use Rattle.lock_table.specs.declared.levels.Call.{Call}
use Rattle.lock_table.specs.declared.levels.Call.TheVariants.{InputRead, UpdateRead, Update, Delete, Write, WriteAt, Unlock, Position, Close, Commit, Rollback, EndCommitment, EndJob}
use Rattle.commit_level.specs.declared.Level.TheVariants as levels
use Rattle.lock_table.specs.declared.lock.Holder.{Holder}
use Rattle.lock_table.specs.declared.lock.RecordId.{RecordId}
use Rattle.lock_table.specs.Levels.{asked}
use Rattle.lock_table.specs.Table.{AreCompatible, blocker}
use Rattle.lock_table.proofs.LawLemmas.{AreCompatible-call}
use Rattle.library_steps.specs.State.{State, Memory, OpenState, job_of, memory_of, open_named}
use Rattle.library_steps.specs.Change.{Change}
use Rattle.library_steps.specs.Locking.{level_of, holder_of, record_of, is_committed, locks_left, clashing}
use Rattle.library_steps.specs.Reads.{at_format}
use Rattle.library_steps.specs.Commitment.{boundary_locks}
use Rattle.joint_state.specs.CurrentRecords.{CurrentStands}
use Rattle.joint_state.specs.Joint.{JobStands}
use Rattle.joint_state.specs.Sound.{IsSound, Does, after}
use Rattle.locks_kept.proofs.AllEffects.{effect-of}
use Rattle.locks_kept.proofs.Effects.{at_member, Effect, Around, Opening, Closing, Use, Writing, Updating, Deleting, Start, End, Committing, RollingBack, EndingJob}
use Rattle.locks_kept.proofs.JobLemmas.{Runs, running-Runs}
use Rattle.locks_kept.proofs.OpenEffects.{clashes-none}
use Rattle.locks_kept.proofs.OpenLemmas.{named-holds}
use Rattle.locks_kept.proofs.RecordLocks.{locked-free, behind-free, asked-free}
use Rattle.locks_kept.proofs.OptionLemmas.{some-each}

-- what a running job stands on
pub stands-of : (s : State) (job : ℕ) → IsSound s → Runs s.jobs job (job_of job (memory_of s)) → JobStands s job (job_of job (memory_of s))
stands-of s job sound runs =
    let first : 1 ≤ job = runs.first in
    let back : job - 1 + 1 ≡ job = omega (arith, first) in
    subst (λ n. JobStands s n (job_of job (memory_of s))) back (sound.joint.jobs (job - 1) (job_of job (memory_of s)) runs.at)

pub current-of : (s : State) (job : ℕ) → IsSound s → Runs s.jobs job (job_of job (memory_of s)) → (name : List ℕ) (opened : OpenState) (rrn : ℕ) → open_named name job (memory_of s) ≡ Some opened
    → opened.current ≡ Some rrn → CurrentStands (memory_of s) job opened rrn
current-of s job sound runs name opened rrn named current =
    named-holds (λ (o : OpenState). (r : ℕ) → o.current ≡ Some r → CurrentStands (memory_of s) job o r) name (job_of job (memory_of s)).opens opened named
    (stands-of s job sound runs).current rrn current

abbrev pub IsBoundary : Call → Type 0
IsBoundary InputRead = ⊥
IsBoundary UpdateRead = ⊥
IsBoundary Update = ⊥
IsBoundary Delete = ⊥
IsBoundary Write = ⊥
IsBoundary WriteAt = ⊥
IsBoundary Unlock = ⊥
IsBoundary Position = ⊥
IsBoundary Close = ⊥
IsBoundary Commit = Unit {0}
IsBoundary Rollback = Unit {0}
IsBoundary EndCommitment = Unit {0}
IsBoundary EndJob = Unit {0}

-- whose locks a boundary frees: the job's, through no open and on no record
abbrev pub of_job : ℕ → Holder
of_job job = record { job = job; opened = 0 }

abbrev pub no_record : RecordId
no_record = record { member = 0; rrn = 0 }

-- a boundary asks for no lock
pub boundary-asks : (call : Call) → IsBoundary call → (level : Option Level) → asked call level ≡ None
boundary-asks Commit is None = refl
boundary-asks Commit is (Some levels.Chg) = refl
boundary-asks Commit is (Some levels.Cs) = refl
boundary-asks Commit is (Some levels.All) = refl
boundary-asks Rollback is None = refl
boundary-asks Rollback is (Some levels.Chg) = refl
boundary-asks Rollback is (Some levels.Cs) = refl
boundary-asks Rollback is (Some levels.All) = refl
boundary-asks EndCommitment is None = refl
boundary-asks EndCommitment is (Some levels.Chg) = refl
boundary-asks EndCommitment is (Some levels.Cs) = refl
boundary-asks EndCommitment is (Some levels.All) = refl
boundary-asks EndJob is None = refl
boundary-asks EndJob is (Some levels.Chg) = refl
boundary-asks EndJob is (Some levels.Cs) = refl
boundary-asks EndJob is (Some levels.All) = refl
boundary-asks InputRead is level = absurd is
boundary-asks UpdateRead is level = absurd is
boundary-asks Update is level = absurd is
boundary-asks Delete is level = absurd is
boundary-asks Write is level = absurd is
boundary-asks WriteAt is level = absurd is
boundary-asks Unlock is level = absurd is
boundary-asks Position is level = absurd is
boundary-asks Close is level = absurd is

module _ (s : State) (new : Memory) (job : ℕ) (sound : IsSound s) (runs : Runs s.jobs job (job_of job (memory_of s))) where
  abbrev m : Memory
  m = memory_of s

  -- the locks that a call through an open leaves, where none is in its way
  left-compatible : (call : Call) (opened : OpenState) (rrn : ℕ) → IfSome (asked call (level_of (job_of job m) opened)) (λ wanted. blocker job (record_of opened rrn) wanted.kind m.locks ≡ None)
      → AreCompatible (locks_left call job opened rrn m)
  left-compatible call opened rrn free =
      AreCompatible-call (holder_of job opened) (record_of opened rrn) (is_committed (job_of job m)) call (level_of (job_of job m) opened) m.locks free sound.joint.compatible

  clear-compatible : (call : Call) (opened : OpenState) (rrn : ℕ) → clashing call job opened rrn m ≡ None → AreCompatible (locks_left call job opened rrn m)
  clear-compatible call opened rrn free = left-compatible call opened rrn (asked-free _ (asked call (level_of (job_of job m) opened)) free)

  -- what is asked for where the job has the record locked for a change
  current-compatible : (call : Call) (name : List ℕ) (opened : OpenState) (rrn : ℕ) → open_named name job m ≡ Some opened → opened.current ≡ Some rrn → AreCompatible (locks_left call job opened rrn m)
  current-compatible call name opened rrn named current =
      let stands = current-of s job sound runs name opened rrn named current in
      left-compatible call opened rrn (some-each _ (asked call (level_of (job_of job m) opened))
      (λ wanted. locked-free opened.commit (holder_of job opened) (record_of opened rrn) m.locks wanted.kind sound.joint.compatible stands.locked))

  -- what a boundary frees
  boundary-compatible : (call : Call) → IsBoundary call → AreCompatible (boundary_locks call job m)
  boundary-compatible call is =
      AreCompatible-call (of_job job) no_record (is_committed (job_of job m)) call (job_of job m).level m.locks
      (rw (boundary-asks call is (job_of job m).level) tt) sound.joint.compatible

  pub compatible-left : Effect m job new → AreCompatible new.locks
  compatible-left (Around is) = subst AreCompatible (sym is.locks) sound.joint.compatible
  compatible-left (Opening is) = subst AreCompatible (sym is.locks) sound.joint.compatible
  compatible-left (Closing is) = subst AreCompatible (sym is.locks) (clear-compatible Close is.opened 0 (clashes-none Close job is.opened 0 m tt))
  compatible-left (Use is) = subst AreCompatible (sym is.locks) (clear-compatible is.call (at_member is.member is.opened) is.rrn is.free)
  compatible-left (Writing is) = subst AreCompatible (sym is.change.locks) (elim is.place [
    | inl next ↦ left-compatible is.call (at_format is.format is.opened) is.rrn (some-each _ (asked is.call (level_of (job_of job m) is.opened))
        (λ wanted. behind-free m job (record_of (at_format is.format is.opened) is.rrn) wanted.kind next.1 sound.joint.locks))
    | inr named ↦ clear-compatible is.call (at_format is.format is.opened) is.rrn
        (subst (λ call. clashing call job (at_format is.format is.opened) is.rrn m ≡ None) (sym named.0) named.1.free)
  ])
  compatible-left (Updating is) = subst AreCompatible (sym is.change.locks) (current-compatible Update is.change.name is.opened is.rrn is.change.named is.current)
  compatible-left (Deleting is) = subst AreCompatible (sym is.change.locks) (current-compatible Delete is.change.name is.opened is.rrn is.change.named is.current)
  compatible-left (Start is) = subst AreCompatible (sym is.locks) sound.joint.compatible
  compatible-left (End is) = subst AreCompatible (sym is.locks) (boundary-compatible EndCommitment tt)
  compatible-left (Committing is) = subst AreCompatible (sym is.locks) (boundary-compatible Commit tt)
  compatible-left (RollingBack is) = subst AreCompatible (sym is.locks) (boundary-compatible Rollback tt)
  compatible-left (EndingJob is) = subst AreCompatible (sym is.locks) (boundary-compatible EndJob tt)

pub compatible-kept : (s : State) (done : Change) → Does s done → AreCompatible (after s done).locks
compatible-kept s done does = compatible-left s done.memory does.job does.sound (running-Runs s.jobs does.job does.running) (effect-of s done does)
