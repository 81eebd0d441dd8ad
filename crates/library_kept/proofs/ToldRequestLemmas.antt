-- What the entries of each request tell.
use Rattle.std.proofs.Common.{◌≡◌, ℕ, ◌+◌, ◌<◌, length, IsTrue, is_some, Ok, List, [], ◌∷◌, ◌++◌, refl, sym, ◌∙◌, subst, arith}
use Rattle.std.specs.List.{AllByRecursion}
use Rattle.entry_codec.specs.declared.entries.Draft.{Draft}
use Rattle.entry_codec.specs.declared.entries.Entry.{Entry}
use Rattle.entry_codec.specs.declared.kinds.EntryKind.TheVariants.{FileCreated, FileDeleted, MemberAdded, MemberCleared, MemberReorganized, JournalingStarted, JournalingEnded, NextReceiver, PreviousReceiver, CommitmentStarted, CommitmentEnded}
use Rattle.entry_codec.specs.declared.kinds.FileKind.TheVariants.{Physical, Logical}
use Rattle.file_model.specs.Positions.{Before, Past, next_from, prior_from, next_equal, prior_equal}
use Rattle.library_model.specs.declared.replies.Reply.TheVariants.{EndOfFile, BeginOfFile}
use Rattle.library_model.specs.declared.requests.Request.{Request}
use Rattle.library_model.specs.declared.requests.Request.TheVariants as requests
use Rattle.library_model.specs.declared.sources.NamedSource.{NamedSource}
use Rattle.library_steps.specs.Change.{Change}
use Rattle.library_steps.specs.ChangeRecord.{unlock_plan, unlock_change, update_plan, update_change, delete_plan, delete_change}
use Rattle.library_steps.specs.Checkpoint.{save_plan, save_change}
use Rattle.library_steps.specs.Commitment.{start_plan, end_plan, changes_of, taken_back, end_drafts, undo_entries}
use Rattle.library_steps.specs.CreateLogicalFile.{create_logical_plan, create_logical_change}
use Rattle.library_steps.specs.CreatePhysicalFile.{create_plan, create_change}
use Rattle.library_steps.specs.DeleteFile.{delete_plan as delete_file_plan, delete_change as delete_file_change}
use Rattle.library_steps.specs.Drafts.{Author, author_of, initial_drafts, library_draft, member_draft}
use Rattle.library_steps.specs.EndJob.{end_change, definition_entries}
use Rattle.library_steps.specs.History.{is_running}
use Rattle.library_steps.specs.JournalReads.{display_plan}
use Rattle.library_steps.specs.Journaling.{start_plan as start_journaling_plan, start_change, end_plan as end_journaling_plan, end_change as end_journaling_change}
use Rattle.library_steps.specs.MemberCommands.{add_plan, empty_plan, if_journaled}
use Rattle.library_steps.specs.Opens.{open_plan}
use Rattle.library_steps.specs.Ranges.{apply_plan, remove_plan, range_change}
use Rattle.library_steps.specs.Reads.{position_plan, position_change, read_plan, read_equal_plan, chain_plan, read_change}
use Rattle.library_steps.specs.Receivers.{attach_plan, attach_change, give_up_plan}
use Rattle.library_steps.specs.Refusals.{found, named_or_refused}
use Rattle.library_steps.specs.SlotChange.{NewSlot, change_made, cycle_for, drafts_of, images_of, slot_changed, touched, with_slot}
use Rattle.library_steps.specs.State.{State, Memory, MemberStatus, memory_of, job_at, job_of, open_named, with_status}
use Rattle.library_steps.specs.Step.{change}
use Rattle.library_steps.specs.WriteRecord.{write_plan, write_change, write_call}
use Rattle.lawful_states.specs.Lawful.{CycleGoesBack}
use Rattle.lawful_states.proofs.BackLemmas.{CycleGoesBack-of}
use Rattle.lawful_states.proofs.FileLemmas.{Owns-below}
use Rattle.journal_model.specs.Rollback.{numbered_from}
use Rattle.member_slots.specs.Members.{member_of}
use Rattle.joint_state.specs.Sound.{IsSound, MayBeRead}
use Rattle.joint_state.specs.Told.{IsTold}
use Rattle.library_kept.proofs.ChangeLemmas.{MayChange, write-may, update-may, delete-may}
use Rattle.library_kept.proofs.FileKeepLemmas.{KeepsFiles}
use Rattle.library_kept.proofs.FileRequestLemmas.{undo-next, back-files, back-next}
use Rattle.library_kept.proofs.PlanLemmas.{running-job}
use Rattle.library_kept.proofs.RequestLemmas.{IsFree, changes-equal, empty-free, start-free, end-free}
use Rattle.library_kept.proofs.ResultLemmas.{does-each}
use Rattle.library_kept.proofs.ToldLemmas.{TellsNew, IsBelow, IsPlain, library-plain, end-plain, if_journaled-plain, plain-new, member-new, change-told, start-told, undo_entries-told, end_entries-told}
use Rattle.library_kept.proofs.WorkLemmas.{apply-may, remove-may}

module _ (s : State) (job timestamp : ℕ) (sound : IsSound s) (running : IsTrue (is_running (job_at job s.jobs))) (read : List Entry) (reads : MayBeRead s read) where
  abbrev m : Memory
  m = memory_of s

  abbrev author : Author
  author = author_of m job timestamp

  abbrev Told : Change → Type 0
  Told done = KeepsFiles s done.memory.files → TellsNew s done

  -- a change that deposits nothing
  silent : (done : Change) → done.memory.next_member ≡ s.next_member → done.entries ≡ [] → TellsNew s done
  silent done next none = plain-new s done 0 [] (omega (arith, next)) none tt

  plain : (done : Change) (drafts : List Draft) → done.memory.next_member ≡ s.next_member → done.entries ≡ numbered_from (m.last_entry + 1) drafts
      → AllByRecursion (IsPlain done.memory.next_member) drafts
      → TellsNew s done
  plain done drafts next is all = plain-new s done (m.last_entry + 1) drafts (omega (arith, next)) is all

  free-below : (status : MemberStatus) → IsFree s status → status.number < s.next_member
  free-below status free = Owns-below s free.name free.file status.number sound.library free.has.owns

  -- the drafts of a changed slot lie behind the last entry, also where the memory is one with the slot
  slot-told : (done : Change) (new : NewSlot) (change : MayChange s new) → done.memory.next_member ≡ (slot_changed job new m).next_member
      → done.entries ≡ numbered_from ((slot_changed job new m).last_entry + 1) (drafts_of author (job_of job m) new (images_of new.opened.member m) m)
      → KeepsFiles s done.memory.files → TellsNew s done
  slot-told done new change next is keeps =
      member-new s done ((slot_changed job new m).last_entry + 1) (drafts_of author (job_of job m) new (images_of new.opened.member m) m) change.name change.file new.opened.member sound keeps
      (next ∙ undo-next new.opened.commit job (change_made m (job_of job m) new) (cycle_for m (job_of job m)) (with_status new.opened.member touched (with_slot new.opened.member new.rrn new.slot m)))
      is change.owns (change-told s author (job_of job m) new sound change (images_of new.opened.member m))

  back : CycleGoesBack s.files s.members (job_of job m).cycle
  back = CycleGoesBack-of s.files s.members job s.jobs sound.library.changes

  -- where changes were taken back
  back-told : (done : Change) (k : ℕ) (drafts : List Draft) → done.memory.next_member ≡ (taken_back (changes_of (job_of job m).cycle) m).next_member
      → done.memory.files ≡ (taken_back (changes_of (job_of job m).cycle) m).files → done.entries ≡ numbered_from k drafts
      → AllByRecursion (IsTold s.files) (numbered_from k drafts) × AllByRecursion (IsBelow s.next_member) (numbered_from k drafts) → TellsNew s done
  back-told done k drafts next files is told =
      let same_next : done.memory.next_member ≡ s.next_member = next ∙ back-next (changes_of (job_of job m).cycle) m in
      let same_files : done.memory.files ≡ s.files = files ∙ back-files (changes_of (job_of job m).cycle) m in record {
        further = omega (arith, same_next);
        records = subst (AllByRecursion (IsTold done.memory.files)) (sym is) (subst (λ fs. AllByRecursion (IsTold fs) (numbered_from k drafts)) (sym same_files) told.0);
        members = subst (AllByRecursion (IsBelow done.memory.next_member)) (sym is) (subst (λ n. AllByRecursion (IsBelow n) (numbered_from k drafts)) (sym same_next) told.1);
      }

  pub request-told : (sources : List NamedSource) (done : Change) (request : Request) → change sources read m job timestamp request ≡ Ok done → Told done
  unfolding change
  request-told sources done (requests.CreatePhysicalFile args) h =
      does-each (create_change m job timestamp args) (create_plan sources m args) done Told h
      (λ new is keeps. plain-new s _ (m.last_entry + 1) (member_draft author s.next_member (FileCreated Physical args.file new.source) ∷ []) (omega arith) refl
      (record { member = omega arith; images = refl; place = refl }, tt))
  request-told sources done (requests.CreateLogicalFile args) h =
      does-each (create_logical_change m job timestamp args) (create_logical_plan sources m args) done Told h
      (λ new is keeps. plain _ (library_draft author (FileCreated Logical args.file new.source) ∷ []) refl refl (library-plain _ author (FileCreated Logical args.file new.source) refl refl, tt))
  request-told sources done (requests.DeleteFile args) h =
      does-each (delete_file_change m job timestamp args) (delete_file_plan m args) done Told h
      (λ file is keeps. plain _ (library_draft author (FileDeleted args.file) ∷ []) refl refl (library-plain _ author (FileDeleted args.file) refl refl, tt))
  request-told sources done (requests.AddMember args) h =
      does-each _ (add_plan m args) done Told h
      (λ file is keeps. plain-new s _ (m.last_entry + 1) (member_draft author s.next_member (MemberAdded args.file args.member) ∷ []) (omega arith) refl
      (record { member = omega arith; images = refl; place = refl }, tt))
  request-told sources done (requests.ClearMember args) h =
      does-each _ (empty_plan m args) done Told h
      (λ status is keeps. plain _ (if_journaled (is_some status.images) (member_draft author status.number MemberCleared)) refl refl
      (if_journaled-plain _ status.number author MemberCleared (is_some status.images) (free-below status (empty-free s args status sound is)) refl refl))
  request-told sources done (requests.ReorganizeMember args) h =
      does-each _ (empty_plan m args) done Told h
      (λ status is keeps. plain _ (if_journaled (is_some status.images) (member_draft author status.number MemberReorganized)) refl refl
      (if_journaled-plain _ status.number author MemberReorganized (is_some status.images) (free-below status (empty-free s args status sound is)) refl refl))
  request-told sources done (requests.StartJournaling args) h =
      does-each (start_change m job timestamp args) (start_journaling_plan m args) done Told h
      (λ status is keeps. let free = start-free s args status sound is in
      member-new s _ (m.last_entry + 1)
      (member_draft author status.number (JournalingStarted args.images (length (member_of status.number s.members).slots))
      ∷ initial_drafts author status.number 1 (member_of status.number s.members).slots)
      free.name free.file status.number sound keeps refl refl free.has.owns (start-told s author args.images free.name free.file status.number sound free.has.owns))
  request-told sources done (requests.EndJournaling args) h =
      does-each (end_journaling_change m job timestamp) (end_journaling_plan m args) done Told h
      (λ status is keeps. plain _ (member_draft author status.number JournalingEnded ∷ []) refl refl
      (record { member = free-below status (end-free s args status sound is); images = refl; place = refl }, tt))
  request-told sources done requests.ChangeJournal h =
      does-each (attach_change m job timestamp) (attach_plan m) done Told h
      (λ number is keeps. plain _ (library_draft author (NextReceiver number) ∷ library_draft author (PreviousReceiver s.receivers.attached) ∷ []) refl refl
      (library-plain _ author (NextReceiver number) refl refl, (library-plain _ author (PreviousReceiver s.receivers.attached) refl refl, tt)))
  request-told sources done (requests.DeleteReceiver args) h = does-each _ (give_up_plan read m args) done Told h (λ last is keeps. silent _ refl refl)
  request-told sources done requests.Checkpoint h = does-each (save_change m) (save_plan m) done Told h (λ sequence is keeps. silent _ refl refl)
  request-told sources done (requests.DisplayJournal args) h = does-each _ (display_plan read m args) done Told h (λ shown is keeps. silent _ refl refl)
  request-told sources done (requests.ApplyChanges args) h =
      does-each (range_change m) (apply_plan read m job timestamp args) done Told h
      (λ work is keeps. let may = apply-may s read job timestamp args work sound reads is in
      member-new s _ (m.last_entry + 1) work.drafts may.name may.file work.range.status.number sound keeps refl refl may.owns may.drafts)
  request-told sources done (requests.RemoveChanges args) h =
      does-each (range_change m) (remove_plan read m job timestamp args) done Told h
      (λ work is keeps. let may = remove-may s read job timestamp args work sound reads is in
      member-new s _ (m.last_entry + 1) work.drafts may.name may.file work.range.status.number sound keeps refl refl may.owns may.drafts)
  request-told sources done (requests.StartCommitment args) h =
      does-each _ (start_plan m job) done Told h
      (λ started is keeps. plain _ (library_draft author (CommitmentStarted args.level) ∷ []) refl refl (library-plain _ author (CommitmentStarted args.level) refl refl, tt))
  request-told sources done requests.EndCommitment h =
      does-each _ (end_plan m job) done Told h (λ ended is keeps. plain _ (library_draft author CommitmentEnded ∷ []) refl refl (library-plain _ author CommitmentEnded refl refl, tt))
  request-told sources done requests.Commit h =
      does-each _ (found (job_of job m).level _) done Told h
      (λ level is keeps. plain _ (end_drafts author (job_of job m).cycle) refl refl (end-plain _ author (job_of job m).cycle))
  request-told sources done requests.Rollback h =
      does-each _ (found (job_of job m).level _) done Told h
      (λ level is keeps. let k = (taken_back (changes_of (job_of job m).cycle) m).last_entry + 1 in
      back-told _ k (undo_entries author (job_of job m).cycle) refl refl refl
      (undo_entries-told s author (job_of job m).cycle sound back (running-job s job running sound.joint).made k))
  request-told sources done (requests.OpenFile args) h = does-each _ (open_plan m job args) done Told h (λ status is keeps. silent _ refl refl)
  request-told sources done (requests.CloseFile args) h = does-each _ (named_or_refused args.open_id (open_named args.open_id job m)) done Told h (λ opened is keeps. silent _ refl refl)
  request-told sources done (requests.SetLowerLimit args) h = does-each (position_change m job) (position_plan Before m job args) done Told h (λ new is keeps. silent _ refl refl)
  request-told sources done (requests.SetGreaterThan args) h = does-each (position_change m job) (position_plan Past m job args) done Told h (λ new is keeps. silent _ refl refl)
  request-told sources done (requests.Read args) h = does-each (read_change m job) (read_plan next_from next_from EndOfFile m job args) done Told h (λ it is keeps. silent _ refl refl)
  request-told sources done (requests.ReadPrior args) h = does-each (read_change m job) (read_plan prior_from prior_from BeginOfFile m job args) done Told h (λ it is keeps. silent _ refl refl)
  request-told sources done (requests.ReadEqual args) h = does-each (read_change m job) (read_equal_plan next_equal next_equal EndOfFile m job args) done Told h (λ it is keeps. silent _ refl refl)
  request-told sources done (requests.ReadPriorEqual args) h = does-each (read_change m job) (read_equal_plan prior_equal prior_equal BeginOfFile m job args) done Told h (λ it is keeps. silent _ refl refl)
  request-told sources done (requests.Chain args) h = does-each (read_change m job) (chain_plan m job args) done Told h (λ it is keeps. silent _ refl refl)
  request-told sources done (requests.Write args) h =
      does-each (write_change m job timestamp (write_call args.record_number)) (write_plan m job args) done Told h
      (λ new is keeps. slot-told _ new (write-may s job args new sound is) refl refl keeps)
  request-told sources done (requests.Update args) h =
      does-each (update_change m job timestamp) (update_plan m job args) done Told h (λ new is keeps. slot-told _ new (update-may s job args new sound running is) refl refl keeps)
  request-told sources done (requests.Delete args) h =
      does-each (delete_change m job timestamp) (delete_plan m job args) done Told h (λ new is keeps. slot-told _ new (delete-may s job args new sound running is) refl refl keeps)
  request-told sources done (requests.Unlock args) h = does-each (unlock_change m job) (unlock_plan m job args) done Told h (λ it is keeps. silent _ refl refl)
  request-told sources done (requests.EndJob args) h =
      let k = (taken_back (changes_of (job_of job m).cycle) m).last_entry + 1 in
      subst Told (changes-equal (end_change m job timestamp) done h)
      (λ keeps. back-told (end_change m job timestamp) k (undo_entries author (job_of job m).cycle ++ definition_entries author (job_of job m).level) refl refl refl
      (end_entries-told s author (job_of job m).cycle (job_of job m).level sound back (running-job s job running sound.joint).made k))
