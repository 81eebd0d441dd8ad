-- What the change of a record does besides its slot: its entries, its commit cycle, and whether its member has been changed.
-- (Journal Management, "Before-images and after-images"; Commitment Control, "Commit cycle identifier".)
use Rattle.std.specs.Prelude.{ℕ, ◌+◌, ◌-◌, ◌==◌, ◌&&◌, ◌||◌, nat_lt, Bool, true, false, not, Option, Some, None, Result, Ok, List, [], ◌∷◌, ◌++◌, length, unwrap_or, if◌then◌else◌}
use Rattle.std.specs.List.{find, list_any, sum_by}
use Rattle.std.specs.Option.{option_map, option_and_then, is_some}
use Rattle.journal_model.below.entry_codec.specs.declared.entries.Draft.{Draft}
use Rattle.journal_model.below.entry_codec.specs.declared.kinds.Images.{Images}
use Rattle.journal_model.below.entry_codec.specs.declared.kinds.Images.TheVariants.{After, Both}
use Rattle.journal_model.below.entry_codec.specs.declared.kinds.EntryKind.TheVariants.{CommitCycleStarted}
use Rattle.logical_model.below.member_slots.specs.declared.slot.Slot.{Slot}
use Rattle.logical_model.below.member_slots.specs.declared.slot.Slot.TheVariants.{Live, Deleted}
use Rattle.logical_model.specs.Member.{MemberState, appended, changed}
use Rattle.logical_model.specs.Members.{member_of, with_member}
use Rattle.journal_model.specs.Rollback.{MemberChange}
use Rattle.library_model.specs.declared.replies.Reply.{Reply}
use Rattle.library_model.specs.declared.replies.Reply.TheVariants.{HeldByGroup, LimitReached}
use Rattle.library_model.specs.declared.replies.LimitKind.TheVariants.{GroupChanges, GroupBytes}
use Rattle.library_model.specs.Named.{Named}
use Rattle.library_steps.specs.declared.limits.TheConstants.{MOST_GROUP_CHANGES, MOST_GROUP_BYTES}
use Rattle.library_steps.specs.State.{Memory, FileState, MemberStatus, OpenState, CycleState, JobState, job_of, with_job, with_status}
use Rattle.library_steps.specs.Change.{Change, journaled}
use Rattle.library_steps.specs.Refusals.{◌>>=◌, refuse_if}
use Rattle.library_steps.specs.Uses.{changes_in}
use Rattle.library_steps.specs.Drafts.{Author, author_of, cycle_draft, slot_drafts}
use Rattle.library_steps.specs.Records.{slot_there}

-- a slot of a member that a job's call gives another content, through an open
pub record NewSlot : Type 0 where
  pub opened : OpenState
  pub rrn : ℕ
  pub slot : Slot

-- ---- the member's journaling

abbrev pub status_in : ℕ → Named MemberStatus → Option MemberStatus
status_in number members = option_map (λ entry. entry.1) (find (λ entry. entry.1.number == number) members)

abbrev pub status_among : ℕ → Named FileState → Option MemberStatus
status_among number [] = None
status_among number (entry ∷ files) = if is_some (status_in number entry.1.members) then status_in number entry.1.members else status_among number files

-- the images that the journal keeps of the member with this number
abbrev pub images_of : ℕ → Memory → Option Images
images_of number m = option_and_then (λ status. status.images) (status_among number m.files)

abbrev pub are_both : Images → Bool
are_both After = false
are_both Both = true

-- a member that isn't journaled has been changed
abbrev pub touched : MemberStatus → MemberStatus
touched status = record status { changed = status.changed || not (is_some status.images) }

-- ---- the commit cycle

-- the commit cycle that a change belongs to: the job's open one, or one that begins with the next entry
abbrev pub cycle_for : Memory → JobState → CycleState
cycle_for m job = unwrap_or job.cycle (record { sequence = m.last_entry + 1; undos = [] })

abbrev pub begins_cycle : Author → Memory → JobState → List Draft
begins_cycle author m job = if is_some job.cycle then [] else cycle_draft author (m.last_entry + 1) CommitCycleStarted ∷ []

abbrev pub cycle_number : Bool → Memory → JobState → Option ℕ
cycle_number true m job = Some (cycle_for m job).sequence
cycle_number false m job = None

abbrev pub noted : MemberChange → CycleState → CycleState
noted undo cycle = record cycle { undos = undo ∷ cycle.undos }

abbrev pub with_cycle : CycleState → JobState → JobState
with_cycle cycle job = record job { cycle = Some cycle }

-- the job's open commit cycle has a change of the record
abbrev pub has_changed_record : (member rrn : ℕ) → JobState → Bool
has_changed_record member rrn job = list_any (λ undo. (undo.member == member) && (undo.change.place + 1 == rrn)) (changes_in job.cycle)

-- through an open without commitment a job leaves the records alone that its open commit cycle has changed
abbrev pub not_held : ℕ → OpenState → (rrn : ℕ) → Memory → Result Bool Reply
not_held job opened rrn m = refuse_if (not opened.commit && has_changed_record opened.member rrn (job_of job m)) (HeldByGroup rrn)

-- ---- how much the open commit cycles may hold

abbrev pub image_bytes : Slot → ℕ
image_bytes (Live image) = length image
image_bytes Deleted = 0

-- the bytes of images in the entries that would take the change back
abbrev pub undo_bytes : (old new : Slot) → ℕ
undo_bytes old new = image_bytes old + image_bytes new

abbrev pub change_bytes : MemberChange → ℕ
change_bytes undo = undo_bytes (unwrap_or undo.change.before Deleted) undo.change.after

abbrev pub open_changes : Memory → ℕ
open_changes m = sum_by (λ job. length (changes_in job.cycle)) m.jobs

abbrev pub open_bytes : Memory → ℕ
open_bytes m = sum_by (λ job. sum_by change_bytes (changes_in job.cycle)) m.jobs

-- one change more, of this slot to that one, isn't too much; outside commitment nothing is kept
abbrev pub few_changes : (commit : Bool) → (old new : Slot) → Memory → Result Bool Reply
few_changes false old new m = Ok true
few_changes true old new m = do
  _ ← refuse_if (nat_lt MOST_GROUP_CHANGES (open_changes m + 1)) (LimitReached GroupChanges MOST_GROUP_CHANGES)
  refuse_if (nat_lt MOST_GROUP_BYTES (open_bytes m + undo_bytes old new)) (LimitReached GroupBytes MOST_GROUP_BYTES)

-- ---- the effect

-- a place one past the last is added, any other is changed
abbrev pub slot_put : (rrn : ℕ) → Slot → MemberState → MemberState
slot_put rrn (Live image) member = if rrn == length member.slots + 1 then appended member image else changed member rrn (Live image)
slot_put rrn Deleted member = changed member rrn Deleted

abbrev pub is_behind_last : (member rrn : ℕ) → Memory → Bool
is_behind_last member rrn m = rrn == length (member_of member m.members).slots + 1

abbrev pub with_slot : (member rrn : ℕ) → Slot → Memory → Memory
with_slot member rrn slot m = record m { members = with_member member (slot_put rrn slot (member_of member m.members)) m.members }

-- the change as the commit cycle keeps it
abbrev pub change_made : Memory → JobState → NewSlot → MemberChange
change_made m job new = record {
  member = new.opened.member;
  change = record {
    place = new.rrn - 1;
    cycle = Some (cycle_for m job).sequence;
    before = Some (slot_there new.opened.member new.rrn m);
    after = new.slot;
  };
}

-- the drafts of the change: under commitment with both images, and the start of the cycle before its first
abbrev pub drafts_of : Author → JobState → NewSlot → Option Images → Memory → List Draft
drafts_of author job new None m = []
drafts_of author job new (Some images) m =
    (if new.opened.commit then begins_cycle author m job else [])
    ++ slot_drafts author (cycle_number new.opened.commit m job) (new.opened.commit || are_both images) (is_behind_last new.opened.member new.rrn m)
    new.opened.member new.rrn (slot_there new.opened.member new.rrn m) new.slot

abbrev pub with_undo : Bool → ℕ → MemberChange → CycleState → Memory → Memory
with_undo true job undo cycle m = with_job job (with_cycle (noted undo cycle)) m
with_undo false job undo cycle m = m

-- the memory with the new slot, and with the change in the job's commit cycle where the open is under commitment
abbrev pub slot_changed : ℕ → NewSlot → Memory → Memory
slot_changed job new m =
    with_undo new.opened.commit job (change_made m (job_of job m) new) (cycle_for m (job_of job m))
    (with_status new.opened.member touched (with_slot new.opened.member new.rrn new.slot m))

-- the slot, its entries and its commit cycle; outside commitment the entries are forced, where there are any
abbrev pub slot_change : ℕ → (timestamp : ℕ) → NewSlot → Reply → (Memory → Memory) → Memory → Change
slot_change job timestamp new reply besides m =
    let images = images_of new.opened.member m in
    journaled (drafts_of (author_of m job timestamp) (job_of job m) new images m) (not new.opened.commit && is_some images) reply
    (besides (slot_changed job new m))
