-- What holds of each journal that the library writes, beyond that it can be replayed?
-- (Journal Management, "Removing journaled changes"; DDS, "UNIQUE". The four parts are this project's own.)
use Rattle.std.specs.Prelude.{ℕ, ◌≡◌, ◌-◌, Bool, true, false, ◌==◌, nat_le, if◌then◌else◌, List, [], ◌∷◌, ◌++◌, Option, Some, None, unwrap_or, IsFalse, length}
use Rattle.std.specs.List.{filter, list_any}
use Rattle.entry_codec.specs.declared.entries.Entry.{Entry}
use Rattle.entry_codec.specs.declared.kinds.EntryKind.{EntryKind}
use Rattle.entry_codec.specs.declared.kinds.EntryKind.TheVariants.{FileCreated, FileDeleted, MemberAdded, JournalingStarted, InitialSlot, JournalingEnded, MemberCleared, MemberReorganized, ChangesApplied, ChangesRemoved, RecordAdded, RecordAddedAtNumber, BeforeImage, AfterImage, RecordDeleted, UndoBeforeImage, UndoAfterImage, UndoDelete, CommitmentStarted, CommitCycleStarted, CommitCycleCommitted, CommitCycleRolledBack, CommitmentEnded, AbnormalEnd, NextReceiver, PreviousReceiver}
use Rattle.member_slots.specs.declared.slot.Slot.{Slot}
use Rattle.member_slots.specs.declared.slot.Slot.TheVariants.{Deleted}
use Rattle.journal_model.specs.Acts.{Act, Changed, Began, Committed, RolledBack, Journaled, Stood, Cleared, Reorganized, Ended, Nothing, acts, changes, entry_before, act_elsewhere, is_number}
use Rattle.journal_model.specs.Places.{slot_of}
use Rattle.journal_model.specs.Walks.{numbered}
use Rattle.journal_model.specs.Ranges.{is_break, lacks_before}
use Rattle.journal_model.specs.Replay.{all_moved}
use Rattle.journal_model.specs.AtSequence.{IsChained, IsSo, known_after, slot_at, touches}
use Rattle.journal_model.specs.ManyMembers.{slots_in}
use Rattle.journal_model.specs.Catalogue.{CatalogFile, Descriptions}
use Rattle.journal_model.specs.Journal.{Journal, entries, last_sequence, catalogue_of, state_of, settled_of, CanReplayJournal, restart_entries}

-- no path with unique keys of these files has equal keys, where the members have these slots at their places; what a
-- path shows stands elsewhere
abbrev pub Unique : Type 1
Unique = List CatalogFile → (ℕ → ℕ → Slot) → Type 0

-- the slots of a member while restart takes back what is open, after so much of its entries
abbrev pub slots_after_restart : Journal → ℕ → List Entry → List Slot
slots_after_restart j member front = all_moved (state_of j member).slots (acts member (entry_before None (entries j)) front)

-- the member's slots at a journal's end, each that is changed after a sequence as it was there
abbrev pub slot_back : Journal → (front rest : List Entry) → ℕ → ℕ → Slot
slot_back j front rest member place =
    if touches place (changes (acts member (entry_before None front) rest))
    then unwrap_or (slot_at place (acts member None front) (acts member (entry_before None front) rest)) Deleted
    else slot_of (state_of j member).slots place

-- a member without a break and without a missing before side among these acts
pub record CanGoBack (later : List Act) : Type 0 where
  pub whole : IsFalse (list_any is_break later)
  pub told : IsFalse (list_any lacks_before (numbered 0 later))

-- ---- sequences within what APYJRNCHG or RMVJRNCHG deposits

abbrev pub is_command : EntryKind → Bool
is_command (ChangesApplied first last changes) = true
is_command (ChangesRemoved first last changes) = true
is_command (FileCreated kind name source) = false
is_command (FileDeleted name) = false
is_command (MemberAdded file name) = false
is_command (JournalingStarted images slots) = false
is_command (InitialSlot image) = false
is_command JournalingEnded = false
is_command MemberCleared = false
is_command MemberReorganized = false
is_command (RecordAdded image) = false
is_command (RecordAddedAtNumber image) = false
is_command (BeforeImage image) = false
is_command (AfterImage has_before image) = false
is_command (RecordDeleted before) = false
is_command (UndoBeforeImage image) = false
is_command (UndoAfterImage has_before image) = false
is_command (UndoDelete image) = false
is_command (CommitmentStarted level) = false
is_command CommitCycleStarted = false
is_command CommitCycleCommitted = false
is_command CommitCycleRolledBack = false
is_command CommitmentEnded = false
is_command AbnormalEnd = false
is_command (NextReceiver number) = false
is_command (PreviousReceiver number) = false

abbrev pub is_after_command : Option Entry → Bool
is_after_command None = false
is_after_command (Some prior) = is_command prior.kind

abbrev pub command_by : Bool → Option ℕ → Act → Option ℕ
command_by after open_one (Began n) = if after then Some n else open_one
command_by after open_one (Committed n) = if is_number open_one n then None else open_one
command_by after open_one (RolledBack n) = if is_number open_one n then None else open_one
command_by after open_one (Changed c) = open_one
command_by after open_one (Journaled images number) = open_one
command_by after open_one (Stood place image) = open_one
command_by after open_one Cleared = open_one
command_by after open_one Reorganized = open_one
command_by after open_one Ended = open_one
command_by after open_one Nothing = open_one

-- the commit cycle of a command that these entries leave open
abbrev pub open_command : Option Entry → Option ℕ → List Entry → Option ℕ
open_command prior open_one [] = open_one
open_command prior open_one (e ∷ entries) = open_command (Some e) (command_by (is_after_command prior) open_one (act_elsewhere e.kind e)) entries

-- ---- the four parts

abbrev pub of_others : Journal → ℕ → ℕ → Slot
of_others j member place = slot_of (state_of j member).slots place

-- files that were created up to a sequence
abbrev pub files_up_to : ℕ → List CatalogFile → List CatalogFile
files_up_to sequence files = filter (λ (f : CatalogFile). nat_le f.created sequence) files

pub record IsLawful (d : Descriptions) (unique : Unique) (j : Journal) : Type 0 where
  pub replays : CanReplayJournal d j
  -- each before side is the after side of the record's entry before it, across the checkpoint too
  pub chained : (member place : ℕ) → IsChained place None (acts member None (entries j))
  pub checkpoint : (member place : ℕ) → IsSo (known_after place None (acts member None j.kept)) (slot_of (slots_in member j.members) place)
  -- the settled records have no equal keys, nor has what replaying leaves, nor what each entry of restart then leaves
  pub settled : unique (catalogue_of j).files (λ member place. slot_of (settled_of j member) place)
  pub restarted : (front rest : List Entry) → restart_entries None 0 j ≡ front ++ rest → unique (catalogue_of j).files (λ member place. slot_of (slots_after_restart j member front) place)
  -- nor has a member that is taken back to a sequence, in the paths that were there
  pub taken_back : (front rest : List Entry) (member : ℕ) → entries j ≡ front ++ rest → open_command None None front ≡ None → CanGoBack (acts member (entry_before None front) rest)
      → unique (files_up_to (last_sequence j - length rest) (catalogue_of j).files) (λ other place. if other == member then slot_back j front rest member place else of_others j other place)
