-- How many bytes are counted for a body and for the entries of a block.
use Rattle.std.proofs.Common.{◌≡◌, ℕ, ◌+◌, true, false, List, [], ◌∷◌, ◌++◌, length, Some, None, refl, sym, arith, length-append}
use Rattle.commit_level.specs.declared.Level.TheVariants.{Chg, Cs, All}
use Rattle.entry_codec.specs.declared.entries.Entry.{Entry}
use Rattle.entry_codec.specs.declared.kinds.Images.TheVariants.{After, Both}
use Rattle.entry_codec.specs.declared.kinds.EntryKind.{EntryKind}
use Rattle.entry_codec.specs.declared.kinds.EntryKind.TheVariants.{FileCreated, FileDeleted, MemberAdded, JournalingStarted, InitialSlot, JournalingEnded, MemberCleared, MemberReorganized, ChangesApplied, ChangesRemoved, RecordAdded, RecordAddedAtNumber, BeforeImage, AfterImage, RecordDeleted, UndoBeforeImage, UndoAfterImage, UndoDelete, CommitmentStarted, CommitCycleStarted, CommitCycleCommitted, CommitCycleRolledBack, CommitmentEnded, AbnormalEnd, NextReceiver, PreviousReceiver}
use Rattle.entry_codec.specs.Spelling.{number4, number8, name_field, body, spelling}
use Rattle.entry_codec.proofs.FieldLemmas.{length-number4, length-number8, length-name_field}
use Rattle.entry_codec.proofs.Lengths.{length-file_created, length-content, length-spelling}
use Rattle.journal_book.specs.Entries.{spelled}
use Rattle.block_cache.specs.Sizes.{block_bytes, body_size}

-- two sequences and a number
length-range : (first last changes : ℕ) → length (number8 first ++ number8 last ++ number4 changes) ≡ 20
length-range first last changes =
    omega (arith, length-append (number8 first ++ number8 last) (number4 changes), length-append (number8 first) (number8 last), length-number8 first, length-number8 last, length-number4 changes)

pub body-size : (kind : EntryKind) → body_size kind ≡ length (body kind)
body-size (FileCreated kind name source) = omega (arith, length-file_created kind name source)
body-size (FileDeleted name) = sym (length-name_field name)
body-size (MemberAdded file name) = omega (arith, length-append (name_field file) (name_field name), length-name_field file, length-name_field name)
body-size (JournalingStarted After slots) = omega (arith, length-number4 slots)
body-size (JournalingStarted Both slots) = omega (arith, length-number4 slots)
body-size (InitialSlot image) = omega arith
body-size JournalingEnded = refl
body-size MemberCleared = refl
body-size MemberReorganized = refl
body-size (ChangesApplied first last changes) = sym (length-range first last changes)
body-size (ChangesRemoved first last changes) = sym (length-range first last changes)
body-size (RecordAdded image) = omega arith
body-size (RecordAddedAtNumber image) = omega arith
body-size (BeforeImage image) = omega arith
body-size (AfterImage true image) = omega arith
body-size (AfterImage false image) = omega arith
body-size (RecordDeleted None) = refl
body-size (RecordDeleted (Some image)) = omega arith
body-size (UndoBeforeImage image) = omega arith
body-size (UndoAfterImage true image) = omega arith
body-size (UndoAfterImage false image) = omega arith
body-size (UndoDelete image) = omega arith
body-size (CommitmentStarted Chg) = refl
body-size (CommitmentStarted Cs) = refl
body-size (CommitmentStarted All) = refl
body-size CommitCycleStarted = refl
body-size CommitCycleCommitted = refl
body-size CommitCycleRolledBack = refl
body-size CommitmentEnded = refl
body-size AbnormalEnd = refl
body-size (NextReceiver number) = sym (length-number4 number)
body-size (PreviousReceiver number) = sym (length-number4 number)

pub block-bytes : (entries : List Entry) → block_bytes entries ≡ length (spelled entries)
block-bytes [] = refl
block-bytes (e ∷ entries) =
    omega (arith, body-size e.kind, length-content e, length-spelling e, block-bytes entries, length-append (spelling e) (spelled entries))
