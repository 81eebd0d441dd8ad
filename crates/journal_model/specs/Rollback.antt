-- Which entries does a rollback deposit, and which a restart?
-- (Commitment Control, "Commitment control during abnormal job end and restart". The entries and their order are this
-- project's own.)
use Rattle.std.specs.Prelude.{ℕ, ◌+◌, ◌-◌, true, false, List, [], ◌∷◌, ◌++◌, Option, Some, None, ◌==◌, ◌||◌, Bool, if◌then◌else◌}
use Rattle.std.specs.List.{filter}
use Rattle.entry_codec.specs.declared.entries.Entry.{Entry}
use Rattle.entry_codec.specs.declared.entries.Draft.{Draft}
use Rattle.entry_codec.specs.declared.kinds.EntryKind.{EntryKind}
use Rattle.entry_codec.specs.declared.kinds.EntryKind.TheVariants.{FileCreated, FileDeleted, MemberAdded, JournalingStarted, InitialSlot, JournalingEnded, MemberCleared, MemberReorganized, ChangesApplied, ChangesRemoved, RecordAdded, RecordAddedAtNumber, BeforeImage, AfterImage, RecordDeleted, UndoBeforeImage, UndoAfterImage, UndoDelete, CommitmentStarted, CommitCycleStarted, CommitCycleCommitted, CommitCycleRolledBack, CommitmentEnded, AbnormalEnd, NextReceiver, PreviousReceiver}
use Rattle.entry_codec.specs.Drafts.{numbered}
use Rattle.member_slots.specs.declared.slot.Slot.{Slot}
use Rattle.member_slots.specs.declared.slot.Slot.TheVariants.{Live, Deleted}
use Rattle.member_slots.specs.Member.{is_live}
use Rattle.journal_model.specs.Acts.{Act, Changed, Began, Committed, RolledBack, Journaled, Stood, Cleared, Reorganized, Ended, Nothing, Change, act}
use Rattle.journal_model.specs.Replay.{is_in, is_not_in, before_of}

-- ---- the changes of the open commit cycles, of all members

pub record MemberChange : Type 0 where
  pub member : ℕ
  pub change : Change

abbrev pub noted_of : Option ℕ → MemberChange → List MemberChange → List MemberChange
noted_of None c undos = undos
noted_of (Some n) c undos = c ∷ undos

abbrev pub undos_by : Act → ℕ → List MemberChange → List MemberChange
undos_by (Changed c) member undos = noted_of c.cycle (record { member = member; change = c }) undos
undos_by (Committed n) member undos = filter (λ (c : MemberChange). is_not_in n c.change) undos
undos_by (RolledBack n) member undos = filter (λ (c : MemberChange). is_not_in n c.change) undos
undos_by (Began n) member undos = undos
undos_by (Journaled images number) member undos = undos
undos_by (Stood place image) member undos = undos
undos_by Cleared member undos = undos
undos_by Reorganized member undos = undos
undos_by Ended member undos = undos
undos_by Nothing member undos = undos

-- the member that the entry names; no member has the number 0
abbrev pub named : Option ℕ → ℕ
named None = 0
named (Some number) = number

-- the last change first
abbrev pub undos_of : List MemberChange → Option Entry → List Entry → List MemberChange
undos_of undos prior [] = undos
undos_of undos prior (e ∷ entries) = undos_of (undos_by (act (named e.member) prior e) (named e.member) undos) (Some e) entries

-- those of one member
abbrev pub of_member : ℕ → List MemberChange → List Change
of_member member [] = []
of_member member (c ∷ undos) = if c.member == member then c.change ∷ of_member member undos else of_member member undos

-- a record stood there before the change or stands there after it
abbrev pub is_real : Change → Bool
is_real c = is_live (before_of c) || is_live c.after

-- ---- entries

-- a record that was changed to a slot is given another one
abbrev pub undo_kinds : (given changed : Slot) → List EntryKind
undo_kinds (Live before) (Live after) = UndoBeforeImage after ∷ UndoAfterImage true before ∷ []
undo_kinds (Live before) Deleted = UndoAfterImage false before ∷ []
undo_kinds Deleted (Live after) = UndoDelete after ∷ []
undo_kinds Deleted Deleted = []

abbrev pub change_drafts : (job : Option (List ℕ)) (moment : ℕ) → MemberChange → List EntryKind → List Draft
change_drafts job moment c [] = []
change_drafts job moment c (kind ∷ kinds) = record {
  job = job;
  moment = moment;
  group = c.change.cycle;
  member = Some c.member;
  rrn = Some
      (c.change.place + 1);
  kind = kind;
} ∷ change_drafts job moment c kinds

abbrev pub undo_drafts : (job : Option (List ℕ)) (moment : ℕ) → List MemberChange → List Draft
undo_drafts job moment [] = []
undo_drafts job moment (c ∷ undos) = change_drafts job moment c (undo_kinds (before_of c.change) c.change.after) ++ undo_drafts job moment undos

abbrev pub cycle_draft : (job : Option (List ℕ)) (moment : ℕ) → ℕ → EntryKind → Draft
cycle_draft job moment n kind = record { job = job; moment = moment; group = Some n; member = None; rrn = None; kind = kind }

-- what ROLLBACK deposits: the changes of the commit cycle are taken back, the last one first, and the cycle ends
abbrev pub rollback_drafts : (job : Option (List ℕ)) (moment : ℕ) → ℕ → List MemberChange → List Draft
rollback_drafts job moment n undos = undo_drafts job moment (filter (λ (c : MemberChange). is_in n c.change) undos) ++ cycle_draft job moment n CommitCycleRolledBack ∷ []

abbrev pub library_draft : (job : Option (List ℕ)) (moment : ℕ) → EntryKind → Draft
library_draft job moment kind = record { job = job; moment = moment; group = None; member = None; rrn = None; kind = kind }

abbrev pub all_rollback_drafts : (job : Option (List ℕ)) (moment : ℕ) → List ℕ → List MemberChange → List Draft
all_rollback_drafts job moment [] undos = []
all_rollback_drafts job moment (n ∷ cycles) undos = rollback_drafts job moment n undos ++ all_rollback_drafts job moment cycles undos

-- what restart deposits for these open commit cycles: one block, and none where there are none
abbrev pub restart_drafts : (job : Option (List ℕ)) (moment : ℕ) → List ℕ → List MemberChange → List Draft
restart_drafts job moment [] undos = []
restart_drafts job moment (n ∷ cycles) undos = library_draft job moment AbnormalEnd ∷ all_rollback_drafts job moment (n ∷ cycles) undos

-- the entry that begins a receiver, where the stop came after the old receiver's last entry
abbrev pub missing_kind : EntryKind → Option EntryKind
missing_kind (NextReceiver number) = Some (PreviousReceiver (number - 1))
missing_kind (FileCreated kind name source) = None
missing_kind (FileDeleted name) = None
missing_kind (MemberAdded file name) = None
missing_kind (JournalingStarted images slots) = None
missing_kind (InitialSlot image) = None
missing_kind JournalingEnded = None
missing_kind MemberCleared = None
missing_kind MemberReorganized = None
missing_kind (ChangesApplied first last changes) = None
missing_kind (ChangesRemoved first last changes) = None
missing_kind (RecordAdded image) = None
missing_kind (RecordAddedAtNumber image) = None
missing_kind (BeforeImage image) = None
missing_kind (AfterImage has_before image) = None
missing_kind (RecordDeleted before) = None
missing_kind (UndoBeforeImage image) = None
missing_kind (UndoAfterImage has_before image) = None
missing_kind (UndoDelete image) = None
missing_kind (CommitmentStarted level) = None
missing_kind CommitCycleStarted = None
missing_kind CommitCycleCommitted = None
missing_kind CommitCycleRolledBack = None
missing_kind CommitmentEnded = None
missing_kind AbnormalEnd = None
missing_kind (PreviousReceiver number) = None

abbrev pub missing_draft : (job : Option (List ℕ)) (moment : ℕ) → Option EntryKind → List Draft
missing_draft job moment None = []
missing_draft job moment (Some kind) = library_draft job moment kind ∷ []

abbrev pub missing_behind : (job : Option (List ℕ)) (moment : ℕ) → Option Entry → List Draft
missing_behind job moment None = []
missing_behind job moment (Some last) = missing_draft job moment (missing_kind last.kind)

-- drafts become entries from a sequence on
abbrev pub numbered_from : ℕ → List Draft → List Entry
numbered_from sequence [] = []
numbered_from sequence (d ∷ drafts) = numbered d sequence ∷ numbered_from (sequence + 1) drafts
