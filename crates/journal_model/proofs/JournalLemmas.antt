-- The journal of a library with the entries of its restart.
use Rattle.std.proofs.Common.{◌≡◌, ℕ, ◌+◌, List, [], ◌++◌, Option, Some, None, refl, sym, ap, ◌∙◌, subst}
use Rattle.entry_codec.specs.declared.entries.Entry.{Entry}
use Rattle.entry_codec.specs.declared.entries.Draft.{Draft}
use Rattle.entry_codec.specs.declared.kinds.EntryKind.{EntryKind}
use Rattle.entry_codec.specs.declared.kinds.EntryKind.TheVariants.{FileCreated, FileDeleted, MemberAdded, JournalingStarted, InitialSlot, JournalingEnded, MemberCleared, MemberReorganized, ChangesApplied, ChangesRemoved, RecordAdded, RecordAddedAtNumber, BeforeImage, AfterImage, RecordDeleted, UndoBeforeImage, UndoAfterImage, UndoDelete, CommitmentStarted, CommitCycleStarted, CommitCycleCommitted, CommitCycleRolledBack, CommitmentEnded, AbnormalEnd, NextReceiver, PreviousReceiver}
use Rattle.journal_model.specs.Acts.{Act, acts, entry_before}
use Rattle.journal_model.specs.Places.{HasSameRecords}
use Rattle.journal_model.specs.Replay.{replay}
use Rattle.journal_model.specs.Replayable.{CanReplay}
use Rattle.journal_model.specs.Settled.{settled}
use Rattle.journal_model.specs.Restart.{all_rollback_acts, restart_acts, somethings, all_undone}
use Rattle.journal_model.specs.ManyMembers.{slots_in}
use Rattle.journal_model.specs.Rollback.{MemberChange, of_member, undos_of, restart_drafts, missing_kind, missing_draft, missing_behind, numbered_from}
use Rattle.journal_model.specs.Journal.{Journal, entries, last_sequence, acts_after, start_of, state_of, open_cycles, settled_of, restart_entries, restarted}
use Rattle.journal_model.proofs.MemberLemmas.{acts-append}
use Rattle.journal_model.proofs.RestartLemmas.{CanReplay-restarted, cycles-restarted, slots-restarted, settled-restarted}
use Rattle.journal_model.proofs.RollbackLemmas.{restart_drafts-do}
use Rattle.journal_model.proofs.LibraryLemmas.{IsLinked, linked}

-- the entry that begins a receiver does nothing to a member
began_only : (job : Option (List ℕ)) (moment member : ℕ) (kind : EntryKind) (drafts : List Draft) (prior : Option Entry) (sequence : ℕ) (done : List Act)
    → ((prior : Option Entry) (sequence : ℕ) → somethings (acts member prior (numbered_from sequence drafts)) ≡ done)
    → somethings (acts member prior (numbered_from sequence (missing_draft job moment (missing_kind kind) ++ drafts))) ≡ done
began_only job moment member (NextReceiver number) drafts prior sequence done h = h _ (sequence + 1)
began_only job moment member (FileCreated kind name source) drafts prior sequence done h = h prior sequence
began_only job moment member (FileDeleted name) drafts prior sequence done h = h prior sequence
began_only job moment member (MemberAdded file name) drafts prior sequence done h = h prior sequence
began_only job moment member (JournalingStarted images slots) drafts prior sequence done h = h prior sequence
began_only job moment member (InitialSlot image) drafts prior sequence done h = h prior sequence
began_only job moment member JournalingEnded drafts prior sequence done h = h prior sequence
began_only job moment member MemberCleared drafts prior sequence done h = h prior sequence
began_only job moment member MemberReorganized drafts prior sequence done h = h prior sequence
began_only job moment member (ChangesApplied first last changes) drafts prior sequence done h = h prior sequence
began_only job moment member (ChangesRemoved first last changes) drafts prior sequence done h = h prior sequence
began_only job moment member (RecordAdded image) drafts prior sequence done h = h prior sequence
began_only job moment member (RecordAddedAtNumber image) drafts prior sequence done h = h prior sequence
began_only job moment member (BeforeImage image) drafts prior sequence done h = h prior sequence
began_only job moment member (AfterImage has_before image) drafts prior sequence done h = h prior sequence
began_only job moment member (RecordDeleted before) drafts prior sequence done h = h prior sequence
began_only job moment member (UndoBeforeImage image) drafts prior sequence done h = h prior sequence
began_only job moment member (UndoAfterImage has_before image) drafts prior sequence done h = h prior sequence
began_only job moment member (UndoDelete image) drafts prior sequence done h = h prior sequence
began_only job moment member (CommitmentStarted level) drafts prior sequence done h = h prior sequence
began_only job moment member CommitCycleStarted drafts prior sequence done h = h prior sequence
began_only job moment member CommitCycleCommitted drafts prior sequence done h = h prior sequence
began_only job moment member CommitCycleRolledBack drafts prior sequence done h = h prior sequence
began_only job moment member CommitmentEnded drafts prior sequence done h = h prior sequence
began_only job moment member AbnormalEnd drafts prior sequence done h = h prior sequence
began_only job moment member (PreviousReceiver number) drafts prior sequence done h = h prior sequence

missing_does : (job : Option (List ℕ)) (moment member : ℕ) (last : Option Entry) (drafts : List Draft) (prior : Option Entry) (sequence : ℕ) (done : List Act)
    → ((prior : Option Entry) (sequence : ℕ) → somethings (acts member prior (numbered_from sequence drafts)) ≡ done)
    → somethings (acts member prior (numbered_from sequence (missing_behind job moment last ++ drafts))) ≡ done
missing_does job moment member None drafts prior sequence done h = h prior sequence
missing_does job moment member (Some last) drafts prior sequence done h = began_only job moment member last.kind drafts prior sequence done h

module _ (job : Option (List ℕ)) (moment : ℕ) (j : Journal) (r : (member : ℕ) → CanReplay (start_of j member) (acts_after j member)) where
  prior : Option Entry
  prior = entry_before None j.kept

  undos : List MemberChange
  undos = undos_of [] (entry_before None j.kept) j.later

  all : IsLinked (λ member. state_of j member) undos
  unfolding undos
  all = linked j.later (λ member. start_of j member) [] (entry_before None j.kept) (record { cycles = λ member. refl; undos = λ member. refl; real = tt }) r

  block : ℕ → List Act
  block member = acts member (entry_before prior j.later) (restart_entries job moment j)

  block_does : (member : ℕ) → somethings (block member) ≡ restart_acts (state_of j member)
  unfolding undos block
  block_does member =
      missing_does job moment member (entry_before None (entries j)) (restart_drafts job moment (open_cycles j) undos) (entry_before prior j.later) (last_sequence j + 1)
      (all_rollback_acts (open_cycles j) (of_member member undos))
      (λ p s. restart_drafts-do job moment member (open_cycles j) undos p s all.real)
      ∙ ap (λ (cycles : List ℕ). all_rollback_acts cycles (of_member member undos)) (sym (all.cycles member))
      ∙ ap (all_rollback_acts (state_of j member).cycles) (sym (all.undos member))

  acts_restarted : (member : ℕ) → acts_after (restarted job moment j) member ≡ acts_after j member ++ block member
  unfolding prior block
  acts_restarted member = acts-append member (entry_before None j.kept) j.later (restart_entries job moment j)

  pub restarted-replays : (member : ℕ) → CanReplay (start_of (restarted job moment j) member) (acts_after (restarted job moment j) member)
  restarted-replays member = subst (λ (all : List Act). CanReplay (start_of j member) all) (sym (acts_restarted member))
      (CanReplay-restarted (j.checkpoint + 1) (slots_in member j.members) (acts_after j member) (block member) (r member) (block_does member))

  pub restarted-closed : (member : ℕ) → (state_of (restarted job moment j) member).cycles ≡ []
  restarted-closed member = ap (λ (all : List Act). (replay (start_of j member) all).cycles) (acts_restarted member)
      ∙ cycles-restarted (j.checkpoint + 1) (slots_in member j.members) (acts_after j member) (block member) (r member) (block_does member)

  pub restarted-slots : (member : ℕ) → (state_of (restarted job moment j) member).slots ≡ all_undone (state_of j member)
  restarted-slots member = ap (λ (all : List Act). (replay (start_of j member) all).slots) (acts_restarted member)
      ∙ slots-restarted (j.checkpoint + 1) (slots_in member j.members) (acts_after j member) (block member) (r member) (block_does member)

  pub restarted-settled : (member : ℕ) → HasSameRecords (settled_of (restarted job moment j) member) (settled_of j member)
  restarted-settled member = subst (λ (all : List Act). HasSameRecords (settled (slots_in member j.members) all) (settled_of j member)) (sym (acts_restarted member))
      (settled-restarted (j.checkpoint + 1) (slots_in member j.members) (acts_after j member) (block member) (r member) (block_does member))
