-- What each request leaves of the files.
use Rattle.std.proofs.Common.{◌≡◌, ℕ, ◌+◌, length, Bool, true, false, Ok, List, [], ◌∷◌, refl, sym, subst}
use Rattle.lawful_states.specs.declared.changes.StatusChange.TheVariants.{Touched, Renumbered, Journaled, Unjournaled}
use Rattle.entry_codec.specs.declared.entries.Entry.{Entry}
use Rattle.file_model.specs.Positions.{Before, Past, next_from, prior_from, next_equal, prior_equal}
use Rattle.journal_model.specs.Replay.{before_of}
use Rattle.journal_model.specs.Rollback.{MemberChange}
use Rattle.member_slots.specs.Member.{records}
use Rattle.member_slots.specs.Members.{member_of}
use Rattle.library_model.specs.declared.replies.Reply.TheVariants.{EndOfFile, BeginOfFile}
use Rattle.library_model.specs.declared.requests.Request.{Request}
use Rattle.library_model.specs.declared.requests.Request.TheVariants as requests
use Rattle.library_model.specs.declared.sources.NamedSource.{NamedSource}
use Rattle.library_steps.specs.Change.{Change}
use Rattle.library_steps.specs.ChangeRecord.{unlock_plan, unlock_change, update_plan, update_change, delete_plan, delete_change}
use Rattle.library_steps.specs.Checkpoint.{save_plan, save_change}
use Rattle.library_steps.specs.Commitment.{start_plan, end_plan, changes_of, taken_back}
use Rattle.library_steps.specs.CreateLogicalFile.{create_logical_plan, create_logical_change}
use Rattle.library_steps.specs.CreatePhysicalFile.{create_plan, create_change}
use Rattle.library_steps.specs.DeleteFile.{delete_plan as delete_file_plan, delete_change as delete_file_change}
use Rattle.library_steps.specs.EndJob.{end_change}
use Rattle.library_steps.specs.JournalReads.{display_plan}
use Rattle.library_steps.specs.Journaling.{start_plan as start_journaling_plan, start_change, end_plan as end_journaling_plan, end_change as end_journaling_change}
use Rattle.library_steps.specs.MemberCommands.{add_plan, empty_plan}
use Rattle.library_steps.specs.Opens.{open_plan}
use Rattle.library_steps.specs.Ranges.{apply_plan, remove_plan, range_change}
use Rattle.library_steps.specs.Reads.{position_plan, position_change, read_plan, read_equal_plan, chain_plan, read_change}
use Rattle.library_steps.specs.Receivers.{attach_plan, attach_change, give_up_plan}
use Rattle.library_steps.specs.Refusals.{found, named_or_refused}
use Rattle.library_steps.specs.SlotChange.{NewSlot, change_made, cycle_for, slot_changed, touched, with_slot, with_undo}
use Rattle.library_steps.specs.State.{State, Memory, CycleState, memory_of, job_of, open_named, with_status}
use Rattle.library_steps.specs.Step.{change}
use Rattle.library_steps.specs.WriteRecord.{write_plan, write_change, write_call}
use Rattle.joint_state.specs.Sound.{IsSound}
use Rattle.library_kept.proofs.FileKeepLemmas.{KeepsFiles, keeps-same, keeps-status, keeps-fewer, keeps-more, keeps-view, keeps-wider, plan-good, plan-over}
use Rattle.library_kept.proofs.RequestLemmas.{add-file, changes-equal, delete-file}
use Rattle.library_kept.proofs.ResultLemmas.{does-each}

-- the commit cycle of a change, and changes taken back, are nothing to the files
undo-files : (commit : Bool) (job : ℕ) (undo : MemberChange) (cycle : CycleState) (m : Memory) → (with_undo commit job undo cycle m).files ≡ m.files
undo-files false job undo cycle m = refl
undo-files true job undo cycle m = refl

pub back-files : (undos : List MemberChange) (m : Memory) → (taken_back undos m).files ≡ m.files
back-files [] m = refl
back-files (undo ∷ undos) m = back-files undos (with_slot undo.member (undo.change.place + 1) (before_of undo.change) m)

-- a member more makes the next number greater, and nothing makes it less
pub undo-next : (commit : Bool) (job : ℕ) (undo : MemberChange) (cycle : CycleState) (m : Memory) → (with_undo commit job undo cycle m).next_member ≡ m.next_member
undo-next false job undo cycle m = refl
undo-next true job undo cycle m = refl

pub back-next : (undos : List MemberChange) (m : Memory) → (taken_back undos m).next_member ≡ m.next_member
back-next [] m = refl
back-next (undo ∷ undos) m = back-next undos (with_slot undo.member (undo.change.place + 1) (before_of undo.change) m)

module _ (s : State) (job timestamp : ℕ) (sound : IsSound s) (read : List Entry) where
  abbrev m : Memory
  m = memory_of s

  abbrev Kept : Change → Type 0
  Kept done = KeepsFiles s done.memory.files

  same : KeepsFiles s s.files
  same = keeps-same s sound

  -- the status of the member of a changed slot
  slot-kept : (new : NewSlot) → KeepsFiles s (slot_changed job new m).files
  slot-kept new =
      subst (KeepsFiles s) (sym (undo-files new.opened.commit job (change_made m (job_of job m) new) (cycle_for m (job_of job m))
      (with_status new.opened.member touched (with_slot new.opened.member new.rrn new.slot m)))) (keeps-status s sound new.opened.member Touched)

  back-kept : KeepsFiles s (taken_back (changes_of (job_of job m).cycle) m).files
  back-kept = subst (KeepsFiles s) (sym (back-files (changes_of (job_of job m).cycle) m)) same

  pub files-kept : (sources : List NamedSource) (done : Change) (request : Request) → change sources read m job timestamp request ≡ Ok done → KeepsFiles s done.memory.files
  unfolding change
  files-kept sources done (requests.CreatePhysicalFile args) h =
      does-each (create_change m job timestamp args) (create_plan sources m args) done Kept h (λ plan is. let good = plan-good sources m args plan is in keeps-more s sound args.file plan good.laid good.defaults)
  files-kept sources done (requests.CreateLogicalFile args) h =
      does-each (create_logical_change m job timestamp args) (create_logical_plan sources m args) done Kept h
      (λ plan is. let its = plan-over sources m args plan is in keeps-view s sound args.file plan its.over its.view)
  files-kept sources done (requests.DeleteFile args) h =
      does-each (delete_file_change m job timestamp args) (delete_file_plan m args) done Kept h (λ file is. keeps-fewer s sound args.file (delete-file s args file is).1)
  files-kept sources done (requests.AddMember args) h = does-each _ (add_plan m args) done Kept h (λ file is. keeps-wider s sound args.file args.member file (add-file s args file is))
  files-kept sources done (requests.ClearMember args) h =
      does-each _ (empty_plan m args) done Kept h (λ status is. keeps-status s sound status.number (Renumbered (m.last_entry + 1)))
  files-kept sources done (requests.ReorganizeMember args) h =
      does-each _ (empty_plan m args) done Kept h (λ status is. keeps-status s sound status.number (Renumbered (m.last_entry + 1)))
  files-kept sources done (requests.StartJournaling args) h =
      does-each (start_change m job timestamp args) (start_journaling_plan m args) done Kept h (λ status is. keeps-status s sound status.number (Journaled (m.last_entry + 1) args.images))
  files-kept sources done (requests.EndJournaling args) h =
      does-each (end_journaling_change m job timestamp) (end_journaling_plan m args) done Kept h
      (λ status is. keeps-status s sound status.number (Unjournaled (m.last_entry + 1) (length (records (member_of status.number s.members)))))
  files-kept sources done requests.ChangeJournal h = does-each (attach_change m job timestamp) (attach_plan m) done Kept h (λ number is. same)
  files-kept sources done (requests.DeleteReceiver args) h = does-each _ (give_up_plan read m args) done Kept h (λ last is. same)
  files-kept sources done requests.Checkpoint h = does-each (save_change m) (save_plan m) done Kept h (λ sequence is. same)
  files-kept sources done (requests.DisplayJournal args) h = does-each _ (display_plan read m args) done Kept h (λ shown is. same)
  files-kept sources done (requests.ApplyChanges args) h = does-each (range_change m) (apply_plan read m job timestamp args) done Kept h (λ work is. same)
  files-kept sources done (requests.RemoveChanges args) h = does-each (range_change m) (remove_plan read m job timestamp args) done Kept h (λ work is. same)
  files-kept sources done (requests.StartCommitment args) h = does-each _ (start_plan m job) done Kept h (λ started is. same)
  files-kept sources done requests.EndCommitment h = does-each _ (end_plan m job) done Kept h (λ ended is. same)
  files-kept sources done requests.Commit h = does-each _ (found (job_of job m).level _) done Kept h (λ level is. same)
  files-kept sources done requests.Rollback h = does-each _ (found (job_of job m).level _) done Kept h (λ level is. back-kept)
  files-kept sources done (requests.OpenFile args) h = does-each _ (open_plan m job args) done Kept h (λ status is. same)
  files-kept sources done (requests.CloseFile args) h = does-each _ (named_or_refused args.open_id (open_named args.open_id job m)) done Kept h (λ opened is. same)
  files-kept sources done (requests.SetLowerLimit args) h = does-each (position_change m job) (position_plan Before m job args) done Kept h (λ new is. same)
  files-kept sources done (requests.SetGreaterThan args) h = does-each (position_change m job) (position_plan Past m job args) done Kept h (λ new is. same)
  files-kept sources done (requests.Read args) h = does-each (read_change m job) (read_plan next_from next_from EndOfFile m job args) done Kept h (λ it is. same)
  files-kept sources done (requests.ReadPrior args) h = does-each (read_change m job) (read_plan prior_from prior_from BeginOfFile m job args) done Kept h (λ it is. same)
  files-kept sources done (requests.ReadEqual args) h = does-each (read_change m job) (read_equal_plan next_equal next_equal EndOfFile m job args) done Kept h (λ it is. same)
  files-kept sources done (requests.ReadPriorEqual args) h = does-each (read_change m job) (read_equal_plan prior_equal prior_equal BeginOfFile m job args) done Kept h (λ it is. same)
  files-kept sources done (requests.Chain args) h = does-each (read_change m job) (chain_plan m job args) done Kept h (λ it is. same)
  files-kept sources done (requests.Write args) h =
      does-each (write_change m job timestamp (write_call args.record_number)) (write_plan m job args) done Kept h (λ new is. slot-kept new)
  files-kept sources done (requests.Update args) h = does-each (update_change m job timestamp) (update_plan m job args) done Kept h (λ new is. slot-kept new)
  files-kept sources done (requests.Delete args) h = does-each (delete_change m job timestamp) (delete_plan m job args) done Kept h (λ new is. slot-kept new)
  files-kept sources done (requests.Unlock args) h = does-each (unlock_change m job) (unlock_plan m job args) done Kept h (λ it is. same)
  files-kept sources done (requests.EndJob args) h = subst Kept (changes-equal (end_change m job timestamp) done h) back-kept
