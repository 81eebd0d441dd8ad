-- The drafts of a slot that becomes another tell of records of the member's fields.
use Rattle.std.proofs.Common.{◌≡◌, ℕ, Bool, true, false, Option, Some, None, is_some, List, [], ◌∷◌, map, sym}
use Rattle.std.specs.List.{AllByRecursion}
use Rattle.entry_codec.specs.declared.entries.Draft.{Draft}
use Rattle.entry_codec.specs.declared.kinds.EntryKind.{EntryKind}
use Rattle.entry_codec.specs.declared.kinds.EntryKind.TheVariants.{RecordDeleted, InitialSlot}
use Rattle.entry_codec.specs.Placing.{place}
use Rattle.member_slots.specs.declared.slot.Slot.{Slot}
use Rattle.member_slots.specs.declared.slot.Slot.TheVariants.{Live, Deleted}
use Rattle.record_fmt.specs.declared.formats.Field.{Field}
use Rattle.record_fmt.specs.Records.{record_held}
use Rattle.journal_model.specs.Images.{images_of}
use Rattle.library_steps.specs.Drafts.{Author, record_draft, slot_kinds, slot_drafts, updated, added, if_both}
use Rattle.lawful_states.specs.Lawful.{HoldsValues}
use Rattle.journaled_entries.specs.Deposited.{is_of_record}
use Rattle.joint_state.specs.Told.{IsRecordOf, MayHavePlace, NamesPlace}
use Rattle.library_kept.proofs.FieldLemmas.{length-record}

-- an entry of this kind has records of these fields
abbrev pub KindTold : List Field → EntryKind → Type 0
KindTold fields kind = AllByRecursion (IsRecordOf fields) (images_of kind)

-- what becomes of the draft tells of records of these fields, and of no other member than this
pub record DraftTold (fields : List Field) (number : ℕ) (d : Draft) : Type 0 where
  pub member : (n : ℕ) → d.member ≡ Some n → n ≡ number
  pub images : KindTold fields d.kind
  pub place : is_of_record (place d.kind) ≡ true → NamesPlace fields d.rrn

pub record-of : (fields : List Field) (image : List ℕ) → is_some (record_held fields image) ≡ true → IsRecordOf fields image
record-of fields image held = record { long = length-record fields image held; values = held }

added-told : (fields : List Field) (behind : Bool) (image : List ℕ) → IsRecordOf fields image → KindTold fields (added behind image)
added-told fields true image is = (is, tt)
added-told fields false image is = (is, tt)

updated-told : (fields : List Field) (both : Bool) (old new : List ℕ) → IsRecordOf fields old → IsRecordOf fields new → AllByRecursion (KindTold fields) (updated both old new)
updated-told fields true old new is also = ((is, tt), ((also, tt), tt))
updated-told fields false old new is also = ((also, tt), tt)

deleted-told : (fields : List Field) (both : Bool) (image : List ℕ) → IsRecordOf fields image → KindTold fields (RecordDeleted (if_both both image))
deleted-told fields true image is = (is, tt)
deleted-told fields false image is = tt

pub kinds-told : (fields : List Field) (both behind : Bool) (old new : Slot) → HoldsValues fields old → HoldsValues fields new → AllByRecursion (KindTold fields) (slot_kinds both behind old new)
kinds-told fields both behind Deleted (Live image) holds also = (added-told fields behind image (record-of fields image also), tt)
kinds-told fields both behind (Live old) (Live new) holds also = updated-told fields both old new (record-of fields old holds) (record-of fields new also)
kinds-told fields both behind (Live old) Deleted holds also = (deleted-told fields both old (record-of fields old holds), tt)
kinds-told fields both behind Deleted Deleted holds also = tt

record-told : (fields : List Field) (author : Author) (cycle : Option ℕ) (member rrn : ℕ) (kind : EntryKind) → MayHavePlace fields rrn → KindTold fields kind
    → DraftTold fields member (record_draft author cycle member rrn kind)
record-told fields author cycle member rrn kind may told = record { member = λ n e. (let same : member ≡ n = cc in sym same); images = told; place = λ h. may }

records-told : (fields : List Field) (author : Author) (cycle : Option ℕ) (member rrn : ℕ) (kinds : List EntryKind) → MayHavePlace fields rrn → AllByRecursion (KindTold fields) kinds
    → AllByRecursion (DraftTold fields member) (map (record_draft author cycle member rrn) kinds)
records-told fields author cycle member rrn [] may told = tt
records-told fields author cycle member rrn (kind ∷ kinds) may told = (record-told fields author cycle member rrn kind may told.0, records-told fields author cycle member rrn kinds may told.1)

pub slot_drafts-told : (fields : List Field) (author : Author) (cycle : Option ℕ) (both behind : Bool) (member rrn : ℕ) (old new : Slot) → MayHavePlace fields rrn → HoldsValues fields old
    → HoldsValues fields new → AllByRecursion (DraftTold fields member) (slot_drafts author cycle both behind member rrn old new)
slot_drafts-told fields author cycle both behind member rrn old new may holds also =
    records-told fields author cycle member rrn (slot_kinds both behind old new) may (kinds-told fields both behind old new holds also)

pub initial-told : (fields : List Field) (author : Author) (member rrn : ℕ) (image : List ℕ) → MayHavePlace fields rrn → is_some (record_held fields image) ≡ true
    → DraftTold fields member (record_draft author None member rrn (InitialSlot image))
initial-told fields author member rrn image may held = record-told fields author None member rrn (InitialSlot image) may (record-of fields image held, tt)
