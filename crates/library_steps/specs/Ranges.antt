-- APYJRNCHG and RMVJRNCHG: the changes of a range of the journal are made again in a member, or taken out of it. What fits and what is done is
-- the journal's meaning; here are the refusals around it, and the entries that tell of it. (Journal Management, "Applying journaled changes".)
use Rattle.std.specs.Prelude.{ℕ, ◌+◌, ◌*◌, ◌==◌, nat_lt, true, Option, Some, None, Result, Ok, Err, List, [], ◌∷◌, ◌++◌, length, map, reverse}
use Rattle.std.specs.List.{sum_by}
use Rattle.std.specs.Option.{is_none}
use Rattle.journal_model.below.entry_codec.specs.declared.entries.Entry.{Entry}
use Rattle.journal_model.below.entry_codec.specs.declared.entries.Draft.{Draft}
use Rattle.journal_model.below.entry_codec.specs.declared.kinds.EntryKind.{EntryKind}
use Rattle.journal_model.below.entry_codec.specs.declared.kinds.EntryKind.TheVariants.{ChangesApplied, ChangesRemoved, CommitCycleStarted, CommitCycleCommitted}
use Rattle.logical_model.below.member_slots.specs.declared.slot.Slot.{Slot}
use Rattle.logical_model.below.member_slots.specs.declared.slot.Slot.TheVariants.{Deleted}
use Rattle.logical_model.specs.Members.{NumberedMembers, member_of, with_member}
use Rattle.journal_model.specs.Acts.{Act, acts}
use Rattle.journal_model.specs.Places.{slot_of, put_slot}
use Rattle.journal_model.specs.Walks.{RangeFault, Straddled, Gap, NotRemovable, NeedsBoth, DoesNotFit, Numbered}
use Rattle.journal_model.specs.Ranges.{RangeDone, apply_range, remove_range, first_of}
use Rattle.library_model.specs.declared.requests.JournaledChanges.{JournaledChanges}
use Rattle.library_model.specs.declared.requests.RangeEnd.{RangeEnd}
use Rattle.library_model.specs.declared.requests.RangeEnd.TheVariants.{First, Last, Sequence}
use Rattle.library_model.specs.declared.replies.Reply.{Reply}
use Rattle.library_model.specs.declared.replies.Reply.TheVariants as replies
use Rattle.library_model.specs.declared.replies.LimitKind.TheVariants.{LibraryBytes, BlockBytes}
use Rattle.library_steps.specs.declared.limits.TheConstants.{MOST_LIBRARY_BYTES, MOST_BLOCK_BYTES}
use Rattle.library_steps.specs.State.{Memory, MemberStatus}
use Rattle.library_steps.specs.Change.{Change, journaled, deposited, does}
use Rattle.library_steps.specs.Refusals.{◌>>=◌, refuse_if, sequences_left, member_of_file}
use Rattle.library_steps.specs.Uses.{user_of, unused}
use Rattle.library_steps.specs.Drafts.{Author, author_of, member_draft, cycle_draft, slot_drafts}
use Rattle.library_steps.specs.UniqueKeys.{unique_paths, all_apart}
use Rattle.library_steps.specs.EntrySizes.{entry_bytes}
use Rattle.library_steps.specs.JournalReads.{first_kept, are_there, are_kept, entries_between, prior_to}

-- ---- the range

-- the range that is gone through: a member, and its acts from a sequence up to another
pub record Range : Type 0 where
  pub status : MemberStatus
  pub first : ℕ
  pub acts : List Act

-- the sequence that an end of a range names
abbrev pub end_named : RangeEnd → ℕ → List Entry → Memory → ℕ
end_named First member entries m = first_of (first_kept m) (acts member None entries)
end_named Last member entries m = m.last_entry
end_named (Sequence n) member entries m = n

abbrev pub range_between : MemberStatus → (first last : ℕ) → List Entry → Memory → Range
range_between status first last entries m =
    record { status = status; first = first; acts = acts status.number (prior_to first m entries) (entries_between first last m entries) }

-- the member isn't used and is journaled, and the entries of the range are kept
abbrev pub range_named : JournaledChanges → (first last : RangeEnd) → List Entry → Memory → Result Range Reply
range_named args first last entries m = do
  _ ← sequences_left m
  it ← member_of_file args.file args.member m
  _ ← unused (user_of it.status.number m)
  _ ← refuse_if (is_none it.status.images) (replies.NotJournaled it.status.number)
  _ ← are_there (end_named first it.status.number entries m) (end_named last it.status.number entries m) m
  _ ← are_kept (end_named first it.status.number entries m) m
  Ok (range_between it.status (end_named first it.status.number entries m) (end_named last it.status.number entries m) entries m)

-- ---- what is done

abbrev pub fault_reply : RangeFault → Reply
fault_reply (Straddled cycle) = replies.Straddled cycle
fault_reply (Gap sequence) = replies.Gap sequence
fault_reply (NotRemovable sequence) = replies.NotRemovable sequence
fault_reply (NeedsBoth sequence) = replies.NeedsBoth sequence
fault_reply (DoesNotFit sequence rrn) = replies.DoesNotFit sequence rrn

abbrev pub done_or_refused : Result RangeDone RangeFault → Result RangeDone Reply
done_or_refused (Ok done) = Ok done
done_or_refused (Err fault) = Err (fault_reply fault)

-- the bytes of all members, deleted slots counted
abbrev pub library_bytes : NumberedMembers → ℕ
library_bytes members = sum_by (λ entry. length entry.item.slots * entry.item.record_length) members

-- the member with the slots that the range leaves
abbrev pub with_range : Range → RangeDone → Memory → Memory
with_range range done m = record m {
  members = with_member range.status.number (record (member_of range.status.number m.members) { slots = done.slots }) m.members;
}

-- ---- the entries that tell of it

-- a slot that was given: its place, counted from 0, and its new content
pub record Given : Type 0 where
  pub place : ℕ
  pub slot : Slot

abbrev pub before_or_deleted : Option Slot → Slot
before_or_deleted None = Deleted
before_or_deleted (Some slot) = slot

-- applying gives each slot its content after the change, from the first change on
abbrev pub given_forward : List Numbered → List Given
given_forward changes = map (λ n. record { place = n.change.place; slot = n.change.after }) changes

-- removing gives each its content before the change, from the last change back
abbrev pub given_back : List Numbered → List Given
given_back changes = map (λ n. record { place = n.change.place; slot = before_or_deleted n.change.before }) (reverse changes)

-- their entries, each from the slots that the ones before have left
abbrev pub given_drafts : Author → (cycle member : ℕ) → List Slot → List Given → List Draft
given_drafts author cycle member slots [] = []
given_drafts author cycle member slots (g ∷ given) =
    slot_drafts author (Some cycle) true (g.place == length slots) member (g.place + 1) (slot_of slots g.place) g.slot
    ++ given_drafts author cycle member (put_slot slots g.place g.slot) given

-- what was done, and then each change, as a commit cycle of its own that is committed
abbrev pub told : Author → (cycle member : ℕ) → EntryKind → List Slot → List Given → List Draft
told author cycle member kind slots [] = member_draft author member kind ∷ []
told author cycle member kind slots (g ∷ given) =
    member_draft author member kind ∷ cycle_draft author cycle CommitCycleStarted
    ∷ given_drafts author cycle member slots (g ∷ given) ++ cycle_draft author cycle CommitCycleCommitted ∷ []

-- ---- the two requests

-- the range that was gone through, what it gives, and the entries that tell of it
pub record RangeWork : Type 0 where
  pub range : Range
  pub done : RangeDone
  pub drafts : List Draft

-- the member's limits and keys allow it
abbrev pub allowed : RangeWork → Memory → Result RangeWork Reply
allowed work m = do
  _ ← refuse_if (nat_lt MOST_LIBRARY_BYTES (library_bytes (with_range work.range work.done m).members)) (replies.LimitReached LibraryBytes MOST_LIBRARY_BYTES)
  _ ← refuse_if (nat_lt MOST_BLOCK_BYTES (entry_bytes (deposited m work.drafts))) (replies.LimitReached BlockBytes MOST_BLOCK_BYTES)
  _ ← all_apart (unique_paths work.range.status.number m) (with_range work.range work.done m)
  Ok work

abbrev pub slots_now : Range → Memory → List Slot
slots_now range m = (member_of range.status.number m.members).slots

abbrev pub work_of : Author → (RangeDone → EntryKind) → (RangeDone → List Given) → Range → Memory → RangeDone → RangeWork
work_of author kind given range m done = record {
  range = range;
  done = done;
  drafts = told author (m.last_entry + 2) range.status.number (kind done) (slots_now range m) (given done);
}

unfoldable pub apply_plan : List Entry → Memory → ℕ → (timestamp : ℕ) → JournaledChanges → Result RangeWork Reply
apply_plan entries m job timestamp args = do
  range ← range_named args args.from args.to entries m
  done ← done_or_refused (apply_range range.first range.acts (slots_now range m))
  allowed (work_of (author_of m job timestamp) (λ d. ChangesApplied d.first d.last (length d.changes)) (λ d. given_forward d.changes) range m done) m

-- from the end that is named first back to the other
unfoldable pub remove_plan : List Entry → Memory → ℕ → (timestamp : ℕ) → JournaledChanges → Result RangeWork Reply
remove_plan entries m job timestamp args = do
  range ← range_named args args.to args.from entries m
  done ← done_or_refused (remove_range range.first range.acts (slots_now range m))
  allowed (work_of (author_of m job timestamp) (λ d. ChangesRemoved d.first d.last (length d.changes)) (λ d. given_back d.changes) range m done) m

abbrev pub range_change : Memory → RangeWork → Change
range_change m work =
    journaled work.drafts true (replies.Range work.done.first work.done.last (length work.done.changes)) (with_range work.range work.done m)

abbrev pub apply_changes : List Entry → Memory → ℕ → (timestamp : ℕ) → JournaledChanges → Result Change Reply
apply_changes entries m job timestamp args = does (range_change m) (apply_plan entries m job timestamp args)

abbrev pub remove_changes : List Entry → Memory → ℕ → (timestamp : ℕ) → JournaledChanges → Result Change Reply
remove_changes entries m job timestamp args = does (range_change m) (remove_plan entries m job timestamp args)
