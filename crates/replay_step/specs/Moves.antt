-- What does an entry make of a standing, once it is read into the act of the member that it names?
-- (Journal Management, "Recovery operations using journaling".)
use Rattle.std.specs.Prelude.{ℕ, ◌+◌, Bool, true, ◌&&◌, nat_le, is_none, List, [], ◌∷◌, ◌++◌, Option, Some, None}
use Rattle.std.specs.List.{filter, find, list_all}
use Rattle.entry_codec.specs.declared.entries.Entry.{Entry}
use Rattle.entry_codec.specs.declared.kinds.FileKind.{FileKind}
use Rattle.entry_codec.specs.declared.kinds.FileKind.TheVariants.{Physical, Logical}
use Rattle.entry_codec.specs.declared.kinds.EntryKind.{EntryKind}
use Rattle.entry_codec.specs.declared.kinds.EntryKind.TheVariants.{FileCreated, FileDeleted, MemberAdded, JournalingStarted, InitialSlot, JournalingEnded, MemberCleared, MemberReorganized, ChangesApplied, ChangesRemoved, RecordAdded, RecordAddedAtNumber, BeforeImage, AfterImage, RecordDeleted, UndoBeforeImage, UndoAfterImage, UndoDelete, CommitmentStarted, CommitCycleStarted, CommitCycleCommitted, CommitCycleRolledBack, CommitmentEnded, AbnormalEnd, NextReceiver, PreviousReceiver}
use Rattle.journal_model.specs.declared.limits.TheConstants.{LAST_MEMBER}
use Rattle.journal_model.specs.Acts.{Act, Changed, Began, Committed, RolledBack, Journaled, Stood, Cleared, Reorganized, Ended, Nothing, cycle_of, is_number}
use Rattle.journal_model.specs.Replay.{is_other, is_not_in}
use Rattle.journal_model.specs.Catalogue.{CatalogFile, is_named}
use Rattle.journal_model.specs.Rollback.{MemberChange, undos_by}
use Rattle.journal_replay.specs.Standing.{HeldMember, Standing, begun_by, files_by, left_by, new_member, next_after}
use Rattle.journal_replay.specs.Open.{Open}
use Rattle.journal_replay.specs.Tests.{is_apart}
use Rattle.replay_members.specs.Bodies.{with_act}

-- a physical file has a member of its own name from the beginning
abbrev pub first_member : FileKind → (next : ℕ) → List ℕ → List HeldMember
first_member Physical next name = new_member next name name ∷ []
first_member Logical next name = []

-- the member that is made, with the next number
abbrev pub made_at : EntryKind → ℕ → List HeldMember
made_at (FileCreated kind name source) next = first_member kind next name
made_at (FileDeleted name) next = []
made_at (MemberAdded file name) next = new_member next file name ∷ []
made_at (JournalingStarted images slots) next = []
made_at (InitialSlot image) next = []
made_at JournalingEnded next = []
made_at MemberCleared next = []
made_at MemberReorganized next = []
made_at (ChangesApplied first last changes) next = []
made_at (ChangesRemoved first last changes) next = []
made_at (RecordAdded image) next = []
made_at (RecordAddedAtNumber image) next = []
made_at (BeforeImage image) next = []
made_at (AfterImage has_before image) next = []
made_at (RecordDeleted before) next = []
made_at (UndoBeforeImage image) next = []
made_at (UndoAfterImage has_before image) next = []
made_at (UndoDelete image) next = []
made_at (CommitmentStarted level) next = []
made_at CommitCycleStarted next = []
made_at CommitCycleCommitted next = []
made_at CommitCycleRolledBack next = []
made_at CommitmentEnded next = []
made_at AbnormalEnd next = []
made_at (NextReceiver number) next = []
made_at (PreviousReceiver number) next = []

-- the member that is named, by its act
abbrev pub acted : Option ℕ → Act → (sequence : ℕ) → List HeldMember → List HeldMember
acted None a sequence members = members
acted (Some number) a sequence members = with_act number a sequence members

-- a change of a commit cycle is noted
abbrev pub noted_by : Option ℕ → Act → List MemberChange → List MemberChange
noted_by None a undos = undos
noted_by (Some number) a undos = undos_by a number undos

-- the commit cycle is no longer open
abbrev pub ended : ℕ → Open → Open
ended cycle o = record { cycles = filter (is_other cycle) o.cycles; undos = filter (λ (c : MemberChange). is_not_in cycle c.change) o.undos }

abbrev pub open_by : EntryKind → (own group : Option ℕ) → Act → Open → Open
open_by (FileCreated kind name source) own group a o = record { cycles = o.cycles; undos = noted_by own a o.undos }
open_by (FileDeleted name) own group a o = record { cycles = o.cycles; undos = noted_by own a o.undos }
open_by (MemberAdded file name) own group a o = record { cycles = o.cycles; undos = noted_by own a o.undos }
open_by (JournalingStarted images slots) own group a o = record { cycles = o.cycles; undos = noted_by own a o.undos }
open_by (InitialSlot image) own group a o = record { cycles = o.cycles; undos = noted_by own a o.undos }
open_by JournalingEnded own group a o = record { cycles = o.cycles; undos = noted_by own a o.undos }
open_by MemberCleared own group a o = record { cycles = o.cycles; undos = noted_by own a o.undos }
open_by MemberReorganized own group a o = record { cycles = o.cycles; undos = noted_by own a o.undos }
open_by (ChangesApplied first last changes) own group a o = record { cycles = o.cycles; undos = noted_by own a o.undos }
open_by (ChangesRemoved first last changes) own group a o = record { cycles = o.cycles; undos = noted_by own a o.undos }
open_by (RecordAdded image) own group a o = record { cycles = o.cycles; undos = noted_by own a o.undos }
open_by (RecordAddedAtNumber image) own group a o = record { cycles = o.cycles; undos = noted_by own a o.undos }
open_by (BeforeImage image) own group a o = record { cycles = o.cycles; undos = noted_by own a o.undos }
open_by (AfterImage has_before image) own group a o = record { cycles = o.cycles; undos = noted_by own a o.undos }
open_by (RecordDeleted before) own group a o = record { cycles = o.cycles; undos = noted_by own a o.undos }
open_by (UndoBeforeImage image) own group a o = record { cycles = o.cycles; undos = noted_by own a o.undos }
open_by (UndoAfterImage has_before image) own group a o = record { cycles = o.cycles; undos = noted_by own a o.undos }
open_by (UndoDelete image) own group a o = record { cycles = o.cycles; undos = noted_by own a o.undos }
open_by (CommitmentStarted level) own group a o = record { cycles = o.cycles; undos = noted_by own a o.undos }
open_by CommitCycleStarted own group a o = record { cycles = o.cycles ++ cycle_of group ∷ []; undos = o.undos }
open_by CommitCycleCommitted own group a o = ended (cycle_of group) o
open_by CommitCycleRolledBack own group a o = ended (cycle_of group) o
open_by CommitmentEnded own group a o = record { cycles = o.cycles; undos = noted_by own a o.undos }
open_by AbnormalEnd own group a o = record { cycles = o.cycles; undos = noted_by own a o.undos }
open_by (NextReceiver number) own group a o = record { cycles = o.cycles; undos = noted_by own a o.undos }
open_by (PreviousReceiver number) own group a o = record { cycles = o.cycles; undos = noted_by own a o.undos }

abbrev pub open_in : Standing → Open
open_in s = record { cycles = s.cycles; undos = s.undos }

abbrev pub standing_by : Entry → Act → Standing → Standing
standing_by e a s = record {
  next = s.next + 1;
  begun = begun_by (Some e);
  files = files_by e.kind e s.files;
  members = left_by e.kind (acted e.member a e.sequence s.members) ++ made_at e.kind s.next_member;
  next_member = next_after s.next_member (made_at e.kind s.next_member);
  cycles = (open_by e.kind e.member e.group a (open_in s)).cycles;
  undos = (open_by e.kind e.member e.group a (open_in s)).undos;
}

-- ---- what an entry that may come tells of the move

-- no other commit cycle has changed what the act changes
abbrev pub may_note_by : Act → (number : ℕ) → List MemberChange → Bool
may_note_by (Changed c) number undos = list_all (is_apart number c.place c.cycle) undos
may_note_by (Began n) number undos = true
may_note_by (Committed n) number undos = true
may_note_by (RolledBack n) number undos = true
may_note_by (Journaled images slots) number undos = true
may_note_by (Stood place image) number undos = true
may_note_by Cleared number undos = true
may_note_by Reorganized number undos = true
may_note_by Ended number undos = true
may_note_by Nothing number undos = true

abbrev pub may_note : Option ℕ → Act → List MemberChange → Bool
may_note None a undos = true
may_note (Some number) a undos = may_note_by a number undos

-- this is the next number, and a member may have it
abbrev pub is_next : Option ℕ → (next : ℕ) → Bool
is_next number next = is_number number next && nat_le next LAST_MEMBER

abbrev pub first_is_next : FileKind → Option ℕ → (next : ℕ) → Bool
first_is_next Physical number next = is_next number next
first_is_next Logical number next = true

-- a member that is made has the next number
abbrev pub makes_next : EntryKind → Option ℕ → (next : ℕ) → Bool
makes_next (FileCreated kind name source) own next = first_is_next kind own next
makes_next (FileDeleted name) own next = true
makes_next (MemberAdded file name) own next = is_next own next
makes_next (JournalingStarted images slots) own next = true
makes_next (InitialSlot image) own next = true
makes_next JournalingEnded own next = true
makes_next MemberCleared own next = true
makes_next MemberReorganized own next = true
makes_next (ChangesApplied first last changes) own next = true
makes_next (ChangesRemoved first last changes) own next = true
makes_next (RecordAdded image) own next = true
makes_next (RecordAddedAtNumber image) own next = true
makes_next (BeforeImage image) own next = true
makes_next (AfterImage has_before image) own next = true
makes_next (RecordDeleted before) own next = true
makes_next (UndoBeforeImage image) own next = true
makes_next (UndoAfterImage has_before image) own next = true
makes_next (UndoDelete image) own next = true
makes_next (CommitmentStarted level) own next = true
makes_next CommitCycleStarted own next = true
makes_next CommitCycleCommitted own next = true
makes_next CommitCycleRolledBack own next = true
makes_next CommitmentEnded own next = true
makes_next AbnormalEnd own next = true
makes_next (NextReceiver number) own next = true
makes_next (PreviousReceiver number) own next = true

-- a file that is made has a new name
abbrev pub names_new : EntryKind → List CatalogFile → Bool
names_new (FileCreated kind name source) files = is_none (find (is_named name) files)
names_new (FileDeleted name) files = true
names_new (MemberAdded file name) files = true
names_new (JournalingStarted images slots) files = true
names_new (InitialSlot image) files = true
names_new JournalingEnded files = true
names_new MemberCleared files = true
names_new MemberReorganized files = true
names_new (ChangesApplied first last changes) files = true
names_new (ChangesRemoved first last changes) files = true
names_new (RecordAdded image) files = true
names_new (RecordAddedAtNumber image) files = true
names_new (BeforeImage image) files = true
names_new (AfterImage has_before image) files = true
names_new (RecordDeleted before) files = true
names_new (UndoBeforeImage image) files = true
names_new (UndoAfterImage has_before image) files = true
names_new (UndoDelete image) files = true
names_new (CommitmentStarted level) files = true
names_new CommitCycleStarted files = true
names_new CommitCycleCommitted files = true
names_new CommitCycleRolledBack files = true
names_new CommitmentEnded files = true
names_new AbnormalEnd files = true
names_new (NextReceiver number) files = true
names_new (PreviousReceiver number) files = true
