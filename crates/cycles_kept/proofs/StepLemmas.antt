-- What each request leaves of the open commit cycles, and so what holds of them after whatever is done to a sound library.
use Rattle.std.proofs.Common.{◌≡◌, ℕ, ◌+◌, List, slice_get, Some}
use Rattle.std.specs.List.{IsDistinct}
use Rattle.std.specs.Map.{keys_of}
use Rattle.entry_codec.specs.declared.entries.Entry.{Entry}
use Rattle.journal_model.specs.Journal.{AreNumbered}
use Rattle.library_model.specs.Named.{same_name}
use Rattle.library_model.specs.declared.requests.Request.{Request}
use Rattle.library_model.specs.declared.requests.Request.TheVariants as request
use Rattle.library_model.specs.declared.sources.NamedSource.{NamedSource}
use Rattle.library_steps.specs.State.{State, JobState, memory_of}
use Rattle.library_steps.specs.Change.{Change}
use Rattle.library_steps.specs.Step.{change}
use Rattle.library_steps.specs.Uses.{changes_in}
use Rattle.joint_state.specs.Cycles.{AreJournaled, ChangesAreLocked, HasBegun, StandAsMade}
use Rattle.joint_state.specs.Sound.{Does, IsKept, IsSound}
use Rattle.cycles_kept.proofs.BoundarySteps.{commit-cycles, end_commitment-cycles, end_job-cycles, rollback-cycles, start_commitment-cycles}
use Rattle.cycles_kept.proofs.CycleLemmas.{HaveCycles, begun-after, locked-after, made-after}
use Rattle.cycles_kept.proofs.FileSteps.{add_member-cycles, apply-cycles, change_journal-cycles, clear_member-cycles, create-cycles, create_logical-cycles, delete_file-cycles, delete_receiver-cycles, display_journal-cycles, end_journaling-cycles, remove-cycles, reorganize_member-cycles, save-cycles, start_journaling-cycles}
use Rattle.cycles_kept.proofs.HoldLemmas.{Holds, holds-done}
use Rattle.cycles_kept.proofs.ImageSteps.{StayJournaled, change-stays}
use Rattle.cycles_kept.proofs.JobLemmas.{IsAsking, asking}
use Rattle.cycles_kept.proofs.JournalLemmas.{IsJournaled, numbered-after}
use Rattle.cycles_kept.proofs.JournalSteps.{change-journaled}
use Rattle.cycles_kept.proofs.NameSteps.{NamesStay, change-names}
use Rattle.cycles_kept.proofs.OpenSteps.{chain-cycles, close_file-cycles, open_file-cycles, read-cycles, read_equal-cycles, read_prior-cycles, read_prior_equal-cycles, set_greater_than-cycles, set_lower_limit-cycles, unlock-cycles}
use Rattle.cycles_kept.proofs.RecordSteps.{delete-cycles, update-cycles, write-cycles}

module _ (s : State) (sources : List NamedSource) (job timestamp : ℕ) (sound : IsSound s) (asks : IsAsking s job) (read : List Entry) where
  change-cycles : (r : Request) → Holds (change sources read (memory_of s) job timestamp r) (HaveCycles s)
  unfolding change
  change-cycles (request.CreatePhysicalFile args) = create-cycles s sources job timestamp args sound
  change-cycles (request.CreateLogicalFile args) = create_logical-cycles s sources job timestamp args
  change-cycles (request.DeleteFile args) = delete_file-cycles s job timestamp args sound
  change-cycles (request.AddMember args) = add_member-cycles s job timestamp args sound
  change-cycles (request.ClearMember args) = clear_member-cycles s job timestamp args
  change-cycles (request.ReorganizeMember args) = reorganize_member-cycles s job timestamp args
  change-cycles (request.StartJournaling args) = start_journaling-cycles s job timestamp args
  change-cycles (request.EndJournaling args) = end_journaling-cycles s job timestamp args
  change-cycles request.ChangeJournal = change_journal-cycles s job timestamp
  change-cycles (request.DeleteReceiver args) = delete_receiver-cycles s read args
  change-cycles request.Checkpoint = save-cycles s
  change-cycles (request.DisplayJournal args) = display_journal-cycles s read args
  change-cycles (request.ApplyChanges args) = apply-cycles s read job timestamp args
  change-cycles (request.RemoveChanges args) = remove-cycles s read job timestamp args
  change-cycles (request.StartCommitment args) = start_commitment-cycles s job sound asks timestamp args
  change-cycles request.EndCommitment = end_commitment-cycles s job sound asks timestamp
  change-cycles request.Commit = commit-cycles s job sound asks timestamp
  change-cycles request.Rollback = rollback-cycles s job sound asks timestamp
  change-cycles (request.OpenFile args) = open_file-cycles s job args
  change-cycles (request.CloseFile args) = close_file-cycles s job args
  change-cycles (request.SetLowerLimit args) = set_lower_limit-cycles s job args
  change-cycles (request.SetGreaterThan args) = set_greater_than-cycles s job args
  change-cycles (request.Read args) = read-cycles s job args
  change-cycles (request.ReadPrior args) = read_prior-cycles s job args
  change-cycles (request.ReadEqual args) = read_equal-cycles s job args
  change-cycles (request.ReadPriorEqual args) = read_prior_equal-cycles s job args
  change-cycles (request.Chain args) = chain-cycles s job args
  change-cycles (request.Write args) = write-cycles s job timestamp sound asks args
  change-cycles (request.Update args) = update-cycles s job timestamp sound asks args
  change-cycles (request.Delete args) = delete-cycles s job timestamp sound asks args
  change-cycles (request.Unlock args) = unlock-cycles s job args
  change-cycles (request.EndJob args) = end_job-cycles s job sound asks timestamp

-- ---- what is done to a sound library

cycles-of : (s : State) (done : Change) → Does s done → HaveCycles s done
cycles-of s done d =
    holds-done (change d.sources d.read (memory_of s) d.job d.timestamp d.request) (HaveCycles s) done d.does
    (change-cycles s d.sources d.job d.timestamp d.sound (asking s d.job d.sound.joint d.running) d.read d.request)

journal-of : (s : State) (done : Change) → Does s done → IsJournaled s done
journal-of s done d =
    holds-done (change d.sources d.read (memory_of s) d.job d.timestamp d.request) (IsJournaled s) done d.does
    (change-journaled s d.sources d.job d.timestamp d.read d.reads d.request)

pub begun-kept : IsKept (λ s. (place : ℕ) (job : JobState) → slice_get s.jobs place ≡ Some job → HasBegun (memory_of s) job)
begun-kept s done d = begun-after s done (journal-of s done d) d.sound.joint (cycles-of s done d)

pub locked-kept : IsKept (λ s. (place : ℕ) (job : JobState) → slice_get s.jobs place ≡ Some job → ChangesAreLocked (memory_of s) (place + 1) job)
locked-kept s done d = locked-after s done (journal-of s done d) d.sound.joint (cycles-of s done d)

pub made-kept : IsKept (λ s. (place : ℕ) (job : JobState) → slice_get s.jobs place ≡ Some job → StandAsMade (changes_in job.cycle) s.members)
made-kept s done d = made-after s done (journal-of s done d) d.sound.joint (cycles-of s done d)

pub numbered-kept : IsKept (λ s. AreNumbered (s.gone + 1) s.entries)
numbered-kept s done d = numbered-after s done d.sound.numbered (journal-of s done d)

names-of : (s : State) (done : Change) → Does s done → NamesStay s done
names-of s done d =
    holds-done (change d.sources d.read (memory_of s) d.job d.timestamp d.request) (NamesStay s) done d.does (change-names s d.sources d.job d.timestamp d.read d.request)

pub names-kept : IsKept (λ s. IsDistinct same_name (keys_of s.files))
names-kept s done d = (names-of s done d).names d.sound.names

pub journaled-kept : IsKept (λ s. (place : ℕ) (job : JobState) → slice_get s.jobs place ≡ Some job → AreJournaled (memory_of s) job)
journaled-kept s done d =
    let stays = holds-done (change d.sources d.read (memory_of s) d.job d.timestamp d.request) (StayJournaled s) done d.does
    (change-stays s d.sources d.job d.timestamp d.sound (λ place old there. (d.sound.joint.jobs place old there).journaled) d.read d.request) in
    stays.stay
