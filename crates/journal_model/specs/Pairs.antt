-- Does each before image of the journal stand directly before the entry that takes it?
-- (Journal Management, "Before-images and after-images". That the two entries are neighbours is this project's own.)
use Rattle.std.specs.Prelude.{◌≡◌, List, [], ◌∷◌, Option, Some, None, true, false, ⊤}
use Rattle.entry_codec.specs.declared.entries.Entry.{Entry}
use Rattle.entry_codec.specs.declared.kinds.EntryKind.{EntryKind}
use Rattle.entry_codec.specs.declared.kinds.EntryKind.TheVariants.{FileCreated, FileDeleted, MemberAdded, JournalingStarted, InitialSlot, JournalingEnded, MemberCleared, MemberReorganized, ChangesApplied, ChangesRemoved, RecordAdded, RecordAddedAtNumber, BeforeImage, AfterImage, RecordDeleted, UndoBeforeImage, UndoAfterImage, UndoDelete, CommitmentStarted, CommitCycleStarted, CommitCycleCommitted, CommitCycleRolledBack, CommitmentEnded, AbnormalEnd, NextReceiver, PreviousReceiver}

-- what a pair of images is of
pub data Pair : Type 0 where
  OfUpdate : Pair
  OfUndo : Pair

-- the pair that an entry of this kind begins
abbrev pub pair_begun : EntryKind → Option Pair
pair_begun (BeforeImage image) = Some OfUpdate
pair_begun (UndoBeforeImage image) = Some OfUndo
pair_begun (AfterImage has_before image) = None
pair_begun (UndoAfterImage has_before image) = None
pair_begun (RecordAdded image) = None
pair_begun (RecordAddedAtNumber image) = None
pair_begun (RecordDeleted before) = None
pair_begun (UndoDelete image) = None
pair_begun (FileCreated kind name source) = None
pair_begun (FileDeleted name) = None
pair_begun (MemberAdded file name) = None
pair_begun (JournalingStarted images slots) = None
pair_begun (InitialSlot image) = None
pair_begun JournalingEnded = None
pair_begun MemberCleared = None
pair_begun MemberReorganized = None
pair_begun (ChangesApplied first last changes) = None
pair_begun (ChangesRemoved first last changes) = None
pair_begun (CommitmentStarted level) = None
pair_begun CommitCycleStarted = None
pair_begun CommitCycleCommitted = None
pair_begun CommitCycleRolledBack = None
pair_begun CommitmentEnded = None
pair_begun AbnormalEnd = None
pair_begun (NextReceiver number) = None
pair_begun (PreviousReceiver number) = None

-- the pair that an entry of this kind ends
abbrev pub pair_ended : EntryKind → Option Pair
pair_ended (AfterImage true image) = Some OfUpdate
pair_ended (AfterImage false image) = None
pair_ended (UndoAfterImage true image) = Some OfUndo
pair_ended (UndoAfterImage false image) = None
pair_ended (BeforeImage image) = None
pair_ended (UndoBeforeImage image) = None
pair_ended (RecordAdded image) = None
pair_ended (RecordAddedAtNumber image) = None
pair_ended (RecordDeleted before) = None
pair_ended (UndoDelete image) = None
pair_ended (FileCreated kind name source) = None
pair_ended (FileDeleted name) = None
pair_ended (MemberAdded file name) = None
pair_ended (JournalingStarted images slots) = None
pair_ended (InitialSlot image) = None
pair_ended JournalingEnded = None
pair_ended MemberCleared = None
pair_ended MemberReorganized = None
pair_ended (ChangesApplied first last changes) = None
pair_ended (ChangesRemoved first last changes) = None
pair_ended (CommitmentStarted level) = None
pair_ended CommitCycleStarted = None
pair_ended CommitCycleCommitted = None
pair_ended CommitCycleRolledBack = None
pair_ended CommitmentEnded = None
pair_ended AbnormalEnd = None
pair_ended (NextReceiver number) = None
pair_ended (PreviousReceiver number) = None

-- two entries of one change
pub record IsOneChange (a b : Entry) : Type 0 where
  pub job : a.job ≡ b.job
  pub cycle : a.group ≡ b.group
  pub member : a.member ≡ b.member
  pub rrn : a.rrn ≡ b.rrn

abbrev pub OneChange : Option Pair → Entry → Entry → Type 0
OneChange None prior e = ⊤
OneChange (Some pair) prior e = IsOneChange prior e

-- an entry ends the pair that the entry before it began, and no other
abbrev pub EndsPair : Option Entry → Entry → Type 0
EndsPair None e = pair_ended e.kind ≡ None
EndsPair (Some prior) e = (pair_ended e.kind ≡ pair_begun prior.kind) × OneChange (pair_begun prior.kind) prior e

abbrev pub BeginsNoPair : Option Entry → Type 0
BeginsNoPair None = ⊤
BeginsNoPair (Some prior) = pair_begun prior.kind ≡ None

-- each pair that begins among the entries ends with the next entry, and no other ends
abbrev pub AreInPairs : Option Entry → List Entry → Type 0
AreInPairs prior [] = BeginsNoPair prior
AreInPairs prior (e ∷ entries) = EndsPair prior e × AreInPairs (Some e) entries
