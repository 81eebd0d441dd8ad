-- COMMIT, ROLLBACK, the beginning and the end of commitment control, and the end of a job leave a library.
use Rattle.std.proofs.Common.{◌≡◌, ℕ, ◌+◌, ◌-◌, IsTrue, true, false, if◌then◌else◌, List, [], ◌∷◌, Option, None, refl, sym, subst}
use Rattle.commit_level.specs.declared.Level.{Level}
use Rattle.lock_table.specs.declared.levels.Call.{Call}
use Rattle.lock_table.specs.declared.levels.Call.TheVariants.{Commit, Rollback, EndCommitment, EndJob, Close}
use Rattle.journal_model.specs.Rollback.{MemberChange}
use Rattle.member_slots.specs.Members.{NumberedMembers, member_of}
use Rattle.member_slots.specs.Member.{changed}
use Rattle.journal_model.specs.Replay.{before_of}
use Rattle.library_steps.specs.Commitment.{boundary_locks, changes_of, taken_back, at_boundary, committed, committed_open, commitment_ended, rolled_back, rolled_back_open, with_level, without_cycle}
use Rattle.library_steps.specs.EndJob.{ended_job, job_ended}
use Rattle.library_steps.specs.History.{is_running}
use Rattle.library_steps.specs.Locking.{locks_left, with_locks}
use Rattle.library_steps.specs.Opens.{new_open, with_open, without_open}
use Rattle.library_steps.specs.Ranges.{library_bytes}
use Rattle.library_steps.specs.State.{Memory, FileState, OpenState, JobState, job_at, job_of, with_job, with_opens}
use Rattle.library_steps.specs.Uses.{changes_in}
use Rattle.library_model.specs.declared.requests.OpenFile.{OpenFile}
use Rattle.library_model.specs.Named.{Named}
use Rattle.lawful_states.specs.Back.{member_back, members_back}
use Rattle.lawful_states.specs.Lawful.{OpenHolds, OpensHold, CycleGoesBack}
use Rattle.lawful_states.proofs.BackLemmas.{CycleGoesBack-of}
use Rattle.lawful_states.proofs.BaseLemmas.{OpenHolds-alike}
use Rattle.lawful_states.proofs.BoundaryLemmas.{cycle_back-is, AreOne-cycle_back}
use Rattle.lawful_states.proofs.LawfulLemmas.{AreOne-with_open, AreOne-without_open, opens-map}
use Rattle.joint_state.specs.Limits.{AreWithin}
use Rattle.library_kept.proofs.SlotLemmas.{within-changed}
use Rattle.library_kept.proofs.StandLemmas.{bare, Stands, one-of, Stands-job, Stands-locks, begun-left, begun-boundary, within-of, within-with}

-- ---- the opens of a job

committed-holds : (files : Named FileState) (job : JobState) → OpensHold files job → OpensHold files (with_opens committed_open (without_cycle job))
committed-holds files job all =
    opens-map files committed_open (λ opened holds. elim opened.commit as (λ b. OpenHolds files (if b then at_boundary opened else opened)) [
      | true ↦ OpenHolds-alike files opened (at_boundary opened) refl refl refl refl holds
      | false ↦ holds
    ]) job.opens all

rolled-holds : (files : Named FileState) (job : JobState) → OpensHold files job → OpensHold files (with_opens rolled_back_open (without_cycle job))
rolled-holds files job all =
    opens-map files rolled_back_open
    (λ opened holds. elim opened.commit as
    (λ b. OpenHolds files (if b then record opened { position = opened.boundary; current = None; last_read = None } else record opened { current = None; last_read = None })) [
      | true ↦ OpenHolds-alike files opened (record opened { position = opened.boundary; current = None; last_read = None }) refl refl refl refl holds
      | false ↦ OpenHolds-alike files opened (record opened { current = None; last_read = None }) refl refl refl refl holds
    ]) job.opens all

-- ---- changes taken back

pub within-back : (undos : List MemberChange) (members : NumberedMembers) → AreWithin members → AreWithin (members_back undos members)
within-back [] members all = all
within-back (undo ∷ undos) members all =
    within-back undos (member_back undo members)
    (within-with members undo.member (changed (member_of undo.member members) (undo.change.place + 1) (before_of undo.change))
    (within-changed (member_of undo.member members) (undo.change.place + 1) (before_of undo.change) (within-of undo.member members all)) all)

module _ (m : Memory) (job : ℕ) (running : IsTrue (is_running (job_at job m.jobs))) (stands : Stands m) where
  abbrev undone : Memory
  undone = record m { members = members_back (changes_in (job_of job m).cycle) m.members }

  back : CycleGoesBack m.files m.members (job_of job m).cycle
  back = CycleGoesBack-of m.files m.members job m.jobs stands.library.changes

  undone-stands : Stands undone
  undone-stands = record {
    library = (AreOne-cycle_back (bare m) (library_bytes m.members) (job_of job m).cycle (one-of (bare m) stands.library) back).lawful;
    within = within-back (changes_in (job_of job m).cycle) m.members stands.within;
  }

  undone-is : undone ≡ taken_back (changes_of (job_of job m).cycle) m
  undone-is = sym (cycle_back-is m.files m (job_of job m).cycle back)

  left-stands : (call : Call) → Stands (with_locks (boundary_locks call job m) undone)
  left-stands call = Stands-locks undone (boundary_locks call job m) undone-stands (begun-boundary m job running call stands.library.keepers)

  pub rolled-stands : Stands (rolled_back job m)
  rolled-stands =
      subst (λ (x : Memory). Stands (with_job job (λ j. with_opens rolled_back_open (without_cycle j)) (with_locks (boundary_locks Rollback job m) x))) undone-is
      (Stands-job (with_locks (boundary_locks Rollback job m) undone) job (λ j. with_opens rolled_back_open (without_cycle j)) (left-stands Rollback)
      (λ j all. rolled-holds m.files j all) (λ j kept. tt))

  pub ended-stands : Stands (job_ended job m)
  ended-stands =
      subst (λ (x : Memory). Stands (with_job job ended_job (with_locks (boundary_locks EndJob job m) x))) undone-is
      (Stands-job (with_locks (boundary_locks EndJob job m) undone) job ended_job (left-stands EndJob) (λ j all. tt) (λ j kept. tt))

  kept-stands : (call : Call) → Stands (with_locks (boundary_locks call job m) m)
  kept-stands call = Stands-locks m (boundary_locks call job m) stands (begun-boundary m job running call stands.library.keepers)

  pub committed-stands : Stands (committed job m)
  committed-stands =
      Stands-job (with_locks (boundary_locks Commit job m) m) job (λ j. with_opens committed_open (without_cycle j)) (kept-stands Commit) (λ j all. committed-holds m.files j all) (λ j kept. tt)

  pub uncommitted-stands : Stands (commitment_ended job m)
  uncommitted-stands = Stands-job (with_locks (boundary_locks EndCommitment job m) m) job (with_level None) (kept-stands EndCommitment) (λ j all. all) (λ j kept. kept)

  pub level-stands : (level : Option Level) → Stands (with_job job (with_level level) m)
  level-stands level = Stands-job m job (with_level level) stands (λ j all. all) (λ j kept. kept)

  -- ---- opens

  pub open-stands : (args : OpenFile) (members : List ℕ) → OpenHolds m.files (new_open args 0 members) → Stands (with_job job (with_open args members) m)
  open-stands args members holds = record {
    library = (AreOne-with_open (bare m) (library_bytes m.members) (job - 1) args members (one-of (bare m) stands.library) holds).lawful;
    within = stands.within;
  }

  pub close-stands : (name : List ℕ) (opened : OpenState) → Stands (with_job job (without_open name) (with_locks (locks_left Close job opened 0 m) m))
  close-stands name opened =
      let locked = Stands-locks m (locks_left Close job opened 0 m) stands (begun-left m job running Close opened 0 stands.library.keepers) in
      let now = with_locks (locks_left Close job opened 0 m) m in record {
        library = (AreOne-without_open (bare now) (library_bytes m.members) (job - 1) name (one-of (bare now) locked.library)).lawful;
        within = stands.within;
      }
