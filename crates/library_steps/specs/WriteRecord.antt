-- WRITE: a record added past the last place of the member, or at a deleted place. (Database Programming, "Adding database records".)
use Rattle.std.specs.Prelude.{ℕ, ◌+◌, ◌==◌, ◌||◌, nat_lt, Bool, true, false, not, Option, Some, None, Result, Ok, Err, List, length}
use Rattle.std.specs.Option.{is_some}
use Rattle.logical_model.below.member_slots.specs.declared.slot.Slot.TheVariants.{Live, Deleted}
use Rattle.logical_model.specs.Member.{is_full}
use Rattle.logical_model.specs.Members.{member_of}
use Rattle.field_types.specs.declared.faults.RecordFault.{RecordFault}
use Rattle.lock_table.specs.declared.levels.Call.{Call}
use Rattle.lock_table.specs.declared.levels.Call.TheVariants.{Write, WriteAt}
use Rattle.library_model.specs.declared.requests.WriteRecord.{WriteRecord}
use Rattle.library_model.specs.declared.requests.OpenOption.{OpenOption}
use Rattle.library_model.specs.declared.requests.OpenOption.TheVariants.{Input, All}
use Rattle.library_model.specs.declared.replies.Reply.{Reply}
use Rattle.library_model.specs.declared.replies.Reply.TheVariants.{WrongOpen, BadValue, NotFound, PlaceInUse, MemberFull, LimitReached, Added}
use Rattle.library_model.specs.declared.replies.LimitKind.TheVariants.{LibraryBytes}
use Rattle.library_steps.specs.declared.limits.TheConstants.{MOST_LIBRARY_BYTES}
use Rattle.library_steps.specs.State.{Memory, OpenState}
use Rattle.library_steps.specs.Change.{Change, does}
use Rattle.library_steps.specs.Refusals.{◌>>=◌, refuse_if, named_or_refused, sequences_left, opened_file}
use Rattle.library_steps.specs.Locking.{locks_left, with_locks, not_locked, few_locks}
use Rattle.logical_model.specs.Bases.{FileSpec}
use Rattle.logical_model.specs.Formats.{format_number, given_in}
use Rattle.library_steps.specs.LogicalFiles.{bases_of}
use Rattle.library_steps.specs.Records.{live_record}
use Rattle.library_steps.specs.Reads.{at_format}
use Rattle.library_steps.specs.UniqueKeys.{keys_free}
use Rattle.library_steps.specs.Ranges.{library_bytes}
use Rattle.library_steps.specs.SlotChange.{NewSlot, not_held, few_changes, is_behind_last, slot_change}

-- the number of the format that is named, counted from 0; the first where none is
abbrev pub format_asked : Option (List ℕ) → FileSpec → Result ℕ Reply
format_asked None spec = Ok 0
format_asked (Some name) spec = named_or_refused name (format_number name spec)

abbrev pub is_input : OpenOption → Bool
is_input Input = true
is_input All = false

-- the image, or the refusal of a value
abbrev pub packed : Result (List ℕ) RecordFault → Result (List ℕ) Reply
packed (Ok image) = Ok image
packed (Err fault) = Err (BadValue fault)

-- the place behind the last
abbrev pub next_place : (member : ℕ) → Memory → ℕ
next_place member m = length (member_of member m.members).slots + 1

-- the place that is named: there, deleted, and no other job's and not the commit cycle's; or the one behind the last
abbrev pub place_asked : ℕ → OpenState → Option ℕ → Memory → Result ℕ Reply
place_asked job opened None m = Ok (next_place opened.member m)
place_asked job opened (Some rrn) m = do
  _ ← refuse_if ((rrn == 0) || nat_lt (next_place opened.member m) rrn) NotFound
  _ ← refuse_if (is_some (live_record opened.member rrn m)) (PlaceInUse rrn)
  _ ← not_locked WriteAt job opened rrn m
  _ ← not_held job opened rrn m
  Ok rrn

-- a place behind the last takes room: of the member, and of all members together
abbrev pub has_room : (behind_last : Bool) → (member : ℕ) → Memory → Result Bool Reply
has_room false member m = Ok true
has_room true member m = do
  _ ← refuse_if (is_full (member_of member m.members)) MemberFull
  refuse_if (nat_lt MOST_LIBRARY_BYTES (library_bytes m.members + (member_of member m.members).record_length)) (LimitReached LibraryBytes MOST_LIBRARY_BYTES)

abbrev pub write_call : Option ℕ → Call
write_call None = Write
write_call (Some rrn) = WriteAt

-- an image to add through an open, where it is at the format that is written
unfoldable pub place_plan : Memory → ℕ → OpenState → Option ℕ → (image : List ℕ) → Result NewSlot Reply
place_plan m job opened record_number image = do
  rrn ← place_asked job opened record_number m
  _ ← has_room (is_behind_last opened.member rrn m) opened.member m
  _ ← keys_free job opened.commit opened.member rrn Deleted image m
  _ ← few_locks (write_call record_number) job opened rrn m
  _ ← few_changes opened.commit Deleted (Live image) m
  Ok (record { opened = opened; rrn = rrn; slot = Live image })

-- a record to add: the open, its place, and the call by which locks are asked
unfoldable pub write_plan : Memory → ℕ → WriteRecord → Result NewSlot Reply
write_plan m job args = do
  _ ← sequences_left m
  its ← opened_file args.open_id job m
  format ← format_asked args.format its.file.spec
  _ ← refuse_if (is_input its.opened.option) WrongOpen
  image ← packed (given_in (bases_of m) its.file.spec format args.values None)
  place_plan m job (at_format format its.opened) args.record_number image

abbrev pub write_change : Memory → ℕ → (timestamp : ℕ) → Call → NewSlot → Change
write_change m job timestamp call new =
    slot_change job timestamp new (Added new.rrn) (with_locks (locks_left call job new.opened new.rrn m)) m

abbrev pub write_record : Memory → ℕ → (timestamp : ℕ) → WriteRecord → Result Change Reply
write_record m job timestamp args = does (write_change m job timestamp (write_call args.record_number)) (write_plan m job args)
