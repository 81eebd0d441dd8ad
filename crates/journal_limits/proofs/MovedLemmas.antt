-- The slots of a member hold what is so of what acts give them: images of entries as long as its records.
use Rattle.std.proofs.Common.{◌≡◌, ℕ, zero, suc, true, false, Option, List, [], ◌∷◌, length, replicate}
use Rattle.std.specs.List.{AllByRecursion, filter}
use Rattle.entry_codec.specs.declared.entries.Entry.{Entry}
use Rattle.entry_codec.specs.declared.kinds.EntryKind.{EntryKind}
use Rattle.entry_codec.specs.declared.kinds.EntryKind.TheVariants.{FileCreated, FileDeleted, MemberAdded, JournalingStarted, InitialSlot, JournalingEnded, MemberCleared, MemberReorganized, ChangesApplied, ChangesRemoved, RecordAdded, RecordAddedAtNumber, BeforeImage, AfterImage, RecordDeleted, UndoBeforeImage, UndoAfterImage, UndoDelete, CommitmentStarted, CommitCycleStarted, CommitCycleCommitted, CommitCycleRolledBack, CommitmentEnded, AbnormalEnd, NextReceiver, PreviousReceiver}
use Rattle.member_slots.specs.declared.slot.Slot.{Slot}
use Rattle.member_slots.specs.declared.slot.Slot.TheVariants.{Live, Deleted}
use Rattle.member_slots.specs.Member.{FitsSlot, is_live}
use Rattle.journal_model.specs.Acts.{Act, Changed, Began, Committed, RolledBack, Journaled, Stood, Cleared, Reorganized, Ended, Nothing, act_there}
use Rattle.journal_model.specs.Images.{images_of}
use Rattle.journal_model.specs.Places.{put_slot}
use Rattle.journal_model.specs.Replay.{moved}

-- what an act gives is so
abbrev pub Gives : (Slot → Type 0) → Act → Type 0
Gives P (Changed c) = P c.after
Gives P (Stood place image) = P (Live image)
Gives P (Began n) = Unit {0}
Gives P (Committed n) = Unit {0}
Gives P (RolledBack n) = Unit {0}
Gives P (Journaled images number) = Unit {0}
Gives P Cleared = Unit {0}
Gives P Reorganized = Unit {0}
Gives P Ended = Unit {0}
Gives P Nothing = Unit {0}

module _ (P : Slot → Type 0) (none : P Deleted) where
  put-holds : (slots : List Slot) (place : ℕ) (new : Slot) → P new → AllByRecursion P slots → AllByRecursion P (put_slot slots place new)
  put-holds [] zero new p all = (p, tt)
  put-holds [] (suc place) new p all = (none, put-holds [] place new p tt)
  put-holds (slot ∷ slots) zero new p all = (p, all.1)
  put-holds (slot ∷ slots) (suc place) new p all = (all.0, put-holds slots place new p all.1)

  replicate-holds : (n : ℕ) → AllByRecursion P (replicate n Deleted)
  replicate-holds zero = tt
  replicate-holds (suc n) = (none, replicate-holds n)

  live-holds : (slots : List Slot) → AllByRecursion P slots → AllByRecursion P (filter is_live slots)
  live-holds [] all = tt
  live-holds (Live image ∷ slots) all = (all.0, live-holds slots all.1)
  live-holds (Deleted ∷ slots) all = live-holds slots all.1

  pub moved-holds : (slots : List Slot) (a : Act) → Gives P a → AllByRecursion P slots → AllByRecursion P (moved slots a)
  moved-holds slots (Changed c) gives all = put-holds slots c.place c.after gives all
  moved-holds slots (Stood place image) gives all = put-holds slots place (Live image) gives all
  moved-holds slots (Began n) gives all = all
  moved-holds slots (Committed n) gives all = all
  moved-holds slots (RolledBack n) gives all = all
  moved-holds slots (Journaled images number) gives all = replicate-holds number
  moved-holds slots Cleared gives all = tt
  moved-holds slots Reorganized gives all = live-holds slots all
  moved-holds slots Ended gives all = all
  moved-holds slots Nothing gives all = all

-- ---- the images of an entry

pub gives-there : (long : ℕ) (kind : EntryKind) (prior : Option Entry) (e : Entry) → AllByRecursion (λ (image : List ℕ). length image ≡ long) (images_of kind)
    → Gives (FitsSlot long) (act_there kind prior e)
gives-there long (RecordAdded image) prior e all = all.0
gives-there long (RecordAddedAtNumber image) prior e all = all.0
gives-there long (AfterImage true image) prior e all = all.0
gives-there long (AfterImage false image) prior e all = all.0
gives-there long (UndoAfterImage true image) prior e all = all.0
gives-there long (UndoAfterImage false image) prior e all = all.0
gives-there long (RecordDeleted before) prior e all = tt
gives-there long (UndoDelete image) prior e all = tt
gives-there long (JournalingStarted images slots) prior e all = tt
gives-there long (InitialSlot image) prior e all = all.0
gives-there long JournalingEnded prior e all = tt
gives-there long MemberCleared prior e all = tt
gives-there long MemberReorganized prior e all = tt
gives-there long (FileCreated kind name source) prior e all = tt
gives-there long (FileDeleted name) prior e all = tt
gives-there long (MemberAdded file name) prior e all = tt
gives-there long (ChangesApplied first last changes) prior e all = tt
gives-there long (ChangesRemoved first last changes) prior e all = tt
gives-there long (BeforeImage image) prior e all = tt
gives-there long (UndoBeforeImage image) prior e all = tt
gives-there long (CommitmentStarted level) prior e all = tt
gives-there long CommitCycleStarted prior e all = tt
gives-there long CommitCycleCommitted prior e all = tt
gives-there long CommitCycleRolledBack prior e all = tt
gives-there long CommitmentEnded prior e all = tt
gives-there long AbnormalEnd prior e all = tt
gives-there long (NextReceiver number) prior e all = tt
gives-there long (PreviousReceiver number) prior e all = tt
