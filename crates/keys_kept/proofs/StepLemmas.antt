-- What each request leaves of the keys, and so what holds of them after whatever is done to a sound library.
use Rattle.std.proofs.Common.{inl, ℕ, List, refl}
use Rattle.entry_codec.specs.declared.entries.Entry.{Entry}
use Rattle.library_model.specs.declared.requests.Request.{Request}
use Rattle.library_model.specs.declared.requests.Request.TheVariants as request
use Rattle.library_model.specs.declared.sources.NamedSource.{NamedSource}
use Rattle.library_steps.specs.State.{State, memory_of}
use Rattle.library_steps.specs.Step.{change}
use Rattle.lawful_states.specs.Lawful.{IsLibrary}
use Rattle.joint_state.specs.Sound.{IsKept, IsSound, after}
use Rattle.cycles_kept.proofs.HoldLemmas.{Holds, holds-done}
use Rattle.cycles_kept.proofs.JobLemmas.{IsAsking, asking}
use Rattle.keys_kept.specs.KeysKept.{AreKeysKept}
use Rattle.keys_kept.proofs.EffectLemmas.{quiet-stands}
use Rattle.keys_kept.proofs.FileSteps.{add_member-keys, change_journal-keys, clear_member-keys, create-keys, create_logical-keys, delete_file-keys, delete_receiver-keys, display_journal-keys, end_journaling-keys, reorganize_member-keys, save-keys, start_journaling-keys}
use Rattle.keys_kept.proofs.JobSteps.{chain-keys, close_file-keys, commit-keys, end_commitment-keys, end_job-keys, open_file-keys, read-keys, read_equal-keys, read_prior-keys, read_prior_equal-keys, rollback-keys, set_greater_than-keys, set_lower_limit-keys, start_commitment-keys, unlock-keys}
use Rattle.keys_kept.proofs.QuietLemmas.{KeysStay}
use Rattle.keys_kept.proofs.RangeSteps.{apply-keys, remove-keys}
use Rattle.keys_kept.proofs.RecordSteps.{delete-keys, update-keys, write-keys}
use Rattle.keys_kept.proofs.StateLemmas.{places-of}

module _ (s : State) (sources : List NamedSource) (job timestamp : ℕ) (sound : IsSound s) (asks : IsAsking s job) (read : List Entry) where
  change-keys : (r : Request) → Holds (change sources read (memory_of s) job timestamp r) (KeysStay s)
  unfolding change
  change-keys (request.CreatePhysicalFile args) = create-keys s sources job timestamp sound args
  change-keys (request.CreateLogicalFile args) = create_logical-keys s sources job timestamp args
  change-keys (request.DeleteFile args) = delete_file-keys s job timestamp args
  change-keys (request.AddMember args) = add_member-keys s job timestamp sound args
  change-keys (request.ClearMember args) = clear_member-keys s job timestamp args
  change-keys (request.ReorganizeMember args) = reorganize_member-keys s job timestamp args
  change-keys (request.StartJournaling args) = start_journaling-keys s job timestamp args
  change-keys (request.EndJournaling args) = end_journaling-keys s job timestamp args
  change-keys request.ChangeJournal = change_journal-keys s job timestamp
  change-keys (request.DeleteReceiver args) = delete_receiver-keys s read args
  change-keys request.Checkpoint = save-keys s
  change-keys (request.DisplayJournal args) = display_journal-keys s read args
  change-keys (request.ApplyChanges args) = apply-keys s read job timestamp args
  change-keys (request.RemoveChanges args) = remove-keys s read job timestamp args
  change-keys (request.StartCommitment args) = start_commitment-keys s job asks timestamp args
  change-keys request.EndCommitment = end_commitment-keys s job asks timestamp
  change-keys request.Commit = commit-keys s job asks timestamp
  change-keys request.Rollback = rollback-keys s job asks sound timestamp
  change-keys (request.OpenFile args) = open_file-keys s job asks args
  change-keys (request.CloseFile args) = close_file-keys s job asks args
  change-keys (request.SetLowerLimit args) = set_lower_limit-keys s job asks args
  change-keys (request.SetGreaterThan args) = set_greater_than-keys s job asks args
  change-keys (request.Read args) = read-keys s job asks args
  change-keys (request.ReadPrior args) = read_prior-keys s job asks args
  change-keys (request.ReadEqual args) = read_equal-keys s job asks args
  change-keys (request.ReadPriorEqual args) = read_prior_equal-keys s job asks args
  change-keys (request.Chain args) = chain-keys s job asks args
  change-keys (request.Write args) = write-keys s job timestamp sound asks args
  change-keys (request.Update args) = update-keys s job timestamp sound asks args
  change-keys (request.Delete args) = delete-keys s job timestamp sound asks args
  change-keys (request.Unlock args) = unlock-keys s job asks args
  change-keys (request.EndJob args) = end_job-keys s job asks sound timestamp

-- what commit cycles changed can still be taken back, and so the keys stand; the entries aren't read
pub keys-kept : IsKept IsLibrary → AreKeysKept
keys-kept kept s done d stand =
    let later = places-of (after s done) (kept s done d).changes in
    let stands = holds-done (change d.sources d.read (memory_of s) d.job d.timestamp d.request) (KeysStay s) done d.does
    (change-keys s d.sources d.job d.timestamp d.sound (asking s d.job d.sound.joint d.running) d.read d.request)
    (places-of s d.sound.library.changes) (record { places = later.places }) stand in
    quiet-stands done.memory (memory_of (after s done)) (record { places = later.places }) later stands
    (record { changes = λ job. inl refl; formats = λ format over. inl (over, λ place. refl) })
