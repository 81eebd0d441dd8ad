-- The entries that a request deposits, before they have a sequence: of the library, of a member, of a commit cycle.
-- (Journal Management, "Fixed-length portion of the journal entry".)
use Rattle.std.specs.Prelude.{ℕ, ◌+◌, Bool, true, false, Option, Some, None, List, [], ◌∷◌, map}
use Rattle.journal_model.below.entry_codec.specs.declared.entries.Draft.{Draft}
use Rattle.journal_model.below.entry_codec.specs.declared.kinds.EntryKind.{EntryKind}
use Rattle.journal_model.below.entry_codec.specs.declared.kinds.EntryKind.TheVariants.{RecordAdded, RecordAddedAtNumber, BeforeImage, AfterImage, RecordDeleted, InitialSlot}
use Rattle.logical_model.below.member_slots.specs.declared.slot.Slot.{Slot}
use Rattle.logical_model.below.member_slots.specs.declared.slot.Slot.TheVariants.{Live, Deleted}
use Rattle.library_steps.specs.State.{Memory, job_of}

-- who deposits, and when
pub record Author : Type 0 where
  pub job : List ℕ
  pub moment : ℕ

abbrev pub author_of : Memory → ℕ → ℕ → Author
author_of m job timestamp = record { job = (job_of job m).name; moment = timestamp }

abbrev pub library_draft : Author → EntryKind → Draft
library_draft author kind = record { job = Some author.job; moment = author.moment; group = None; member = None; rrn = None; kind = kind }

abbrev pub cycle_draft : Author → ℕ → EntryKind → Draft
cycle_draft author cycle kind = record { job = Some author.job; moment = author.moment; group = Some cycle; member = None; rrn = None; kind = kind }

abbrev pub member_draft : Author → ℕ → EntryKind → Draft
member_draft author member kind = record { job = Some author.job; moment = author.moment; group = None; member = Some member; rrn = None; kind = kind }

-- an entry of the record with this number, of an open commit cycle or of none
abbrev pub record_draft : Author → Option ℕ → ℕ → ℕ → EntryKind → Draft
record_draft author cycle member rrn kind =
    record { job = Some author.job; moment = author.moment; group = cycle; member = Some member; rrn = Some rrn; kind = kind }

abbrev pub if_both : Bool → List ℕ → Option (List ℕ)
if_both true image = Some image
if_both false image = None

-- a record that is changed is preceded by what it was, where both images are kept
abbrev pub updated : Bool → (before after : List ℕ) → List EntryKind
updated true before after = BeforeImage before ∷ AfterImage true after ∷ []
updated false before after = AfterImage false after ∷ []

abbrev pub added : (behind_last : Bool) → List ℕ → EntryKind
added true image = RecordAdded image
added false image = RecordAddedAtNumber image

-- the entries of a slot that becomes another: a place behind the last slot, or one that the member has
abbrev pub slot_kinds : (both behind_last : Bool) → Slot → Slot → List EntryKind
slot_kinds both behind_last Deleted (Live image) = added behind_last image ∷ []
slot_kinds both behind_last (Live before) (Live after) = updated both before after
slot_kinds both behind_last (Live before) Deleted = RecordDeleted (if_both both before) ∷ []
slot_kinds both behind_last Deleted Deleted = []

abbrev pub slot_drafts : Author → Option ℕ → (both behind_last : Bool) → ℕ → ℕ → Slot → Slot → List Draft
slot_drafts author cycle both behind_last member rrn old new = map (record_draft author cycle member rrn) (slot_kinds both behind_last old new)

-- the live slots from this relative record number on, as they stand when journaling begins
abbrev pub initial_drafts : Author → ℕ → ℕ → List Slot → List Draft
initial_drafts author member rrn [] = []
initial_drafts author member rrn (Live image ∷ slots) = record_draft author None member rrn (InitialSlot image) ∷ initial_drafts author member (rrn + 1) slots
initial_drafts author member rrn (Deleted ∷ slots) = initial_drafts author member (rrn + 1) slots
