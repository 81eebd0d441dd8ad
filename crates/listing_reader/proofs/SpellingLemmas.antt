-- What the tests of an entry tell: it has a spelling.
use Rattle.std.proofs.Common.{◌≡◌, suc, ◌<◌, true, nat_le, Option, Some, None, IfSome, List, ℕ, length, arith}
use Rattle.std.proofs.lemmas.Bool.{and_parts, leb-true}
use Rattle.entry_codec.specs.Placing.{is_placed}
use Rattle.entry_codec.specs.Spelling.{IsImage, HoldsFields, HasSpelling}
use Rattle.entry_codec.specs.declared.entries.Entry.{Entry}
use Rattle.entry_codec.specs.declared.kinds.EntryKind.{EntryKind}
use Rattle.entry_codec.specs.declared.kinds.EntryKind.TheVariants as kind
use Rattle.entry_codec.specs.declared.kinds.TheConstants.{MIN_RECORD_LENGTH, MAX_RECORD_LENGTH}
use Rattle.listing_reader.specs.Entries.{is_image, is_optional_image, holds_fields}

image-is : (image : List ℕ) → is_image image ≡ true → IsImage image
image-is image tested =
    let parts = and_parts (nat_le MIN_RECORD_LENGTH (length image)) (nat_le (length image) MAX_RECORD_LENGTH) tested in
    (leb-true MIN_RECORD_LENGTH (length image) parts.0, leb-true (length image) MAX_RECORD_LENGTH parts.1)

before-is : (before : Option (List ℕ)) → is_optional_image before ≡ true → IfSome before IsImage
before-is None tested = tt
before-is (Some image) tested = image-is image tested

fields-are : (k : EntryKind) → holds_fields k ≡ true → HoldsFields k
fields-are (kind.FileCreated fk name source) tested = let small : length source < 4294967236 = leb-true (suc (length source)) 4294967236 tested in omega (arith, small)
fields-are (kind.FileDeleted name) tested = tt
fields-are (kind.MemberAdded file name) tested = tt
fields-are (kind.JournalingStarted images slots) tested = tt
fields-are (kind.InitialSlot image) tested = image-is image tested
fields-are kind.JournalingEnded tested = tt
fields-are kind.MemberCleared tested = tt
fields-are kind.MemberReorganized tested = tt
fields-are (kind.ChangesApplied first last changes) tested = tt
fields-are (kind.ChangesRemoved first last changes) tested = tt
fields-are (kind.RecordAdded image) tested = image-is image tested
fields-are (kind.RecordAddedAtNumber image) tested = image-is image tested
fields-are (kind.BeforeImage image) tested = image-is image tested
fields-are (kind.AfterImage has image) tested = image-is image tested
fields-are (kind.RecordDeleted before) tested = before-is before tested
fields-are (kind.UndoBeforeImage image) tested = image-is image tested
fields-are (kind.UndoAfterImage has image) tested = image-is image tested
fields-are (kind.UndoDelete image) tested = image-is image tested
fields-are (kind.CommitmentStarted lvl) tested = tt
fields-are kind.CommitCycleStarted tested = tt
fields-are kind.CommitCycleCommitted tested = tt
fields-are kind.CommitCycleRolledBack tested = tt
fields-are kind.CommitmentEnded tested = tt
fields-are kind.AbnormalEnd tested = tt
fields-are (kind.NextReceiver number) tested = tt
fields-are (kind.PreviousReceiver number) tested = tt

pub spelling-is : (e : Entry) → is_placed e ≡ true → holds_fields e.kind ≡ true → HasSpelling e
spelling-is e placed fields = record { placed = placed; fields = fields-are e.kind fields }
