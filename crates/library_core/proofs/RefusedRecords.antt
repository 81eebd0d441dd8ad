-- That the requests through an open are refused by no fault.
use Rattle.std.proofs.Common.{◌≡◌, refl, false, true, List, Bool, Option, Some, None, Result, Ok, Err, ℕ, ◌+◌}
use Rattle.std.specs.Prelude.{nat_lt, ◌||◌, nat_le, not, length, ◌==◌}
use Rattle.std.specs.Option.{is_some, is_none}
use Rattle.library_model.specs.declared.replies.Reply.{Reply}
use Rattle.library_model.specs.declared.replies.Reply.TheVariants.{NoSuchName, LimitReached, NameExists, WrongOpen, NoDefinition, NotJournaled, NotFound, PlaceInUse, MemberFull, NoCurrentRecord}
use Rattle.library_model.specs.declared.replies.Reply.TheVariants.{HeldToBoundary, EndOfFile, BeginOfFile}
use Rattle.library_model.specs.declared.replies.Missing.TheVariants.{Name}
use Rattle.library_model.specs.declared.replies.LimitKind.TheVariants.{Opens, LibraryBytes}
use Rattle.library_model.specs.Named.{named, same_name}
use Rattle.library_steps.specs.declared.limits.TheConstants.{MOST_LIBRARY_BYTES}
use Rattle.library_steps.specs.State.{Memory, FileState, MemberStatus, OpenState, file_named, open_named, JobState, job_of}
use Rattle.dds_logical.specs.declared.views.LogicalSpec.{LogicalSpec}
use Rattle.lock_table.specs.declared.levels.Call.TheVariants.{WriteAt}
use Rattle.file_model.specs.Positions.{Start, Bound, Position, End, Before, Past, Reading, next_from, prior_from, next_equal, prior_equal}
use Rattle.logical_model.specs.Bases.{FileSpec, PhysicalFile, LogicalFile, base_members}
use Rattle.library_model.specs.declared.limits.TheConstants.{MOST_OPENS}
use Rattle.library_model.specs.declared.requests.OpenFile.{OpenFile}
use Rattle.library_model.specs.declared.requests.OpenName.{OpenName}
use Rattle.library_steps.specs.LogicalFiles.{bases_of}
use Rattle.library_steps.specs.Refusals.{named_or_refused, sequences_left, opened_file, OpenedFile}
use Rattle.library_steps.specs.Records.{live_record, slot_there, is_keyed, key_asked, number_asked}
use Rattle.library_steps.specs.SlotChange.{not_held, few_changes, is_behind_last}
use Rattle.library_steps.specs.WriteRecord.{is_input, packed, format_asked, next_place, place_asked, has_room, write_call, place_plan, write_plan, write_record}
use Rattle.library_steps.specs.Locking.{not_locked, few_locks}
use Rattle.member_slots.specs.declared.slot.Slot.TheVariants.{Live, Deleted}
use Rattle.member_slots.specs.Member.{is_full}
use Rattle.member_slots.specs.Members.{member_of}
use Rattle.field_types.specs.declared.faults.RecordFault.{RecordFault}
use Rattle.library_model.specs.declared.requests.WriteRecord.{WriteRecord}
use Rattle.logical_model.specs.Formats.{format_number, given_in}
use Rattle.library_steps.specs.Reads.{at_format, whole_end, bound_asked, position_plan, set_lower_limit, set_greater_than, read_call, Found, find_in, lockable, if_lockable, read_plan, read}
use Rattle.library_steps.specs.Reads.{read_prior, read_equal_plan, read_equal, read_prior_equal, chained, chain_plan, chain}
use Rattle.library_steps.specs.UniqueKeys.{keys_free}
use Rattle.library_steps.specs.Ranges.{library_bytes}
use Rattle.library_model.specs.declared.requests.UpdateRecord.{UpdateRecord}
use Rattle.file_model.specs.KeyOrder.{KeyValue}
use Rattle.file_model.specs.Paths.{PathEntry}
use Rattle.file_model.specs.Joins.{RowPlace}
use Rattle.library_model.specs.declared.requests.LockOption.{LockOption}
use Rattle.library_model.specs.declared.requests.Limit.{Limit}
use Rattle.library_model.specs.declared.requests.Limit.TheVariants as limits
use Rattle.library_model.specs.declared.requests.SetPosition.{SetPosition}
use Rattle.library_model.specs.declared.requests.ReadRecord.{ReadRecord}
use Rattle.library_model.specs.declared.requests.ReadEqual.{ReadEqual}
use Rattle.library_model.specs.declared.requests.ChainTo.{ChainTo}
use Rattle.library_model.specs.declared.requests.ChainTo.TheVariants.{Key, RecordNumber}
use Rattle.library_model.specs.declared.requests.ChainRecord.{ChainRecord}
use Rattle.library_steps.specs.Opens.{may_commit, first_unjournaled, may_commit_all, physical_members, may_not, logical_members, members_by, open_plan, open_file, close_file}
use Rattle.library_steps.specs.ChangeRecord.{update_plan, update_record, delete_plan, delete_record, has_open_lock, has_boundary_lock, unlock_plan, unlock}
use Rattle.library_core.proofs.RefusalLemmas.{Tells, ok-tells, then-tells, refused-last, refused-then, reason-last, found-last, found-then, if-tells, does-tells}
use Rattle.library_core.specs.Laws.{is_fault}
use Rattle.library_core.proofs.RefusedParts.{sequences_left-tells, opened_file-tells, keys_free-tells, key_asked-tells, number_asked-tells, not_locked-tells, few_locks-tells, not_held-tells}
use Rattle.library_core.proofs.RefusedParts.{few_changes-tells}

-- ---- opens

may_commit-tells : (commit : Bool) (status : MemberStatus) (job : JobState) → Tells (may_commit commit status job)
may_commit-tells false status job = ok-tells _
may_commit-tells true status job =
    found-then job.level NoDefinition _ refl (λ go.
    refused-last (is_none status.images) (NotJournaled status.number) refl)

may_commit_all-tells : (commit : Bool) (members : List ℕ) (job : JobState) (m : Memory) → Tells (may_commit_all commit members job m)
may_commit_all-tells false members job m = ok-tells _
may_commit_all-tells true members job m =
    found-then job.level NoDefinition _ refl (λ go.
    reason-last NotJournaled (first_unjournaled members m) (λ a. refl))

physical_members-tells : (m : Memory) (job : ℕ) (args : OpenFile) (file : FileState) → Tells (physical_members m job args file)
physical_members-tells m job args file =
    found-then (named args.member file.members) (NoSuchName (Name args.member)) _ refl (λ status.
    then-tells (may_commit args.commit status (job_of job m)) _ (may_commit-tells args.commit status (job_of job m)) (λ go.
    ok-tells _))

logical_members-tells : (m : Memory) (job : ℕ) (args : OpenFile) (spec : LogicalSpec) → Tells (logical_members m job args spec)
logical_members-tells m job args spec =
    refused-then (not (same_name args.member args.file)) (NoSuchName (Name args.member)) _ refl (λ go.
    refused-then (may_not spec args) WrongOpen _ refl (λ go.
    then-tells (may_commit_all args.commit (base_members (bases_of m) spec) (job_of job m) m) _ (may_commit_all-tells args.commit (base_members (bases_of m) spec) (job_of job m) m) (λ go.
    ok-tells _)))

members_by-tells : (spec : FileSpec) (m : Memory) (job : ℕ) (args : OpenFile) (file : FileState) → Tells (members_by spec m job args file)
members_by-tells (PhysicalFile spec) m job args file = physical_members-tells m job args file
members_by-tells (LogicalFile spec) m job args file = logical_members-tells m job args spec

open_plan-tells : (m : Memory) (job : ℕ) (args : OpenFile) → Tells (open_plan m job args)
unfolding open_plan
open_plan-tells m job args =
    refused-then (is_some (open_named args.open_id job m)) (NameExists args.open_id) _ refl (λ go.
    refused-then (nat_le MOST_OPENS (length (job_of job m).opens)) (LimitReached Opens MOST_OPENS) _ refl (λ go.
    found-then (file_named args.file m) (NoSuchName (Name args.file)) _ refl (λ file.
    members_by-tells file.spec m job args file)))

pub open_file-tells : (m : Memory) (job : ℕ) (args : OpenFile) → Tells (open_file m job args)
open_file-tells m job args = does-tells _ (open_plan m job args) (open_plan-tells m job args)

pub close_file-tells : (m : Memory) (job : ℕ) (args : OpenName) → Tells (close_file m job args)
close_file-tells m job args = does-tells _ (named_or_refused args.open_id (open_named args.open_id job m)) (found-last (open_named args.open_id job m) (NoSuchName (Name args.open_id)) refl)

-- ---- changes of a record

format_asked-tells : (name : Option (List ℕ)) (spec : FileSpec) → Tells (format_asked name spec)
format_asked-tells None spec = ok-tells _
format_asked-tells (Some name) spec = found-last (format_number name spec) (NoSuchName (Name name)) refl

packed-tells : (r : Result (List ℕ) RecordFault) → Tells (packed r)
packed-tells (Ok image) = ok-tells image
packed-tells (Err fault) = record { told = refl }

place_asked-tells : (job : ℕ) (opened : OpenState) (number : Option ℕ) (m : Memory) → Tells (place_asked job opened number m)
place_asked-tells job opened None m = ok-tells _
place_asked-tells job opened (Some rrn) m =
    refused-then ((rrn == 0) || nat_lt (next_place opened.member m) rrn) NotFound _ refl (λ go.
    refused-then (is_some (live_record opened.member rrn m)) (PlaceInUse rrn) _ refl (λ go.
    then-tells (not_locked WriteAt job opened rrn m) _ (not_locked-tells WriteAt job opened rrn m) (λ go.
    then-tells (not_held job opened rrn m) _ (not_held-tells job opened rrn m) (λ go.
    ok-tells _))))

has_room-tells : (behind_last : Bool) (member : ℕ) (m : Memory) → Tells (has_room behind_last member m)
has_room-tells false member m = ok-tells _
has_room-tells true member m =
    refused-then (is_full (member_of member m.members)) MemberFull _ refl (λ go.
    refused-last (nat_lt MOST_LIBRARY_BYTES (library_bytes m.members + (member_of member m.members).record_length)) (LimitReached LibraryBytes MOST_LIBRARY_BYTES) refl)

place_plan-tells : (m : Memory) (job : ℕ) (opened : OpenState) (record_number : Option ℕ) (image : List ℕ) → Tells (place_plan m job opened record_number image)
unfolding place_plan
place_plan-tells m job opened record_number image =
    then-tells (place_asked job opened record_number m) _ (place_asked-tells job opened record_number m) (λ rrn.
    then-tells (has_room (is_behind_last opened.member rrn m) opened.member m) _ (has_room-tells (is_behind_last opened.member rrn m) opened.member m) (λ go.
    then-tells (keys_free job opened.commit opened.member rrn Deleted image m) _ (keys_free-tells job opened.commit opened.member rrn Deleted image m) (λ go.
    then-tells (few_locks (write_call record_number) job opened rrn m) _ (few_locks-tells (write_call record_number) job opened rrn m) (λ go.
    then-tells (few_changes opened.commit Deleted (Live image) m) _ (few_changes-tells opened.commit Deleted (Live image) m) (λ go.
    ok-tells _)))))

write_plan-tells : (m : Memory) (job : ℕ) (args : WriteRecord) → Tells (write_plan m job args)
unfolding write_plan
write_plan-tells m job args =
    then-tells (sequences_left m) _ (sequences_left-tells m) (λ go.
    then-tells (opened_file args.open_id job m) _ (opened_file-tells args.open_id job m) (λ its.
    then-tells (format_asked args.format its.file.spec) _ (format_asked-tells args.format its.file.spec) (λ format.
    refused-then (is_input its.opened.option) WrongOpen _ refl (λ go.
    then-tells (packed (given_in (bases_of m) its.file.spec format args.values None)) _ (packed-tells (given_in (bases_of m) its.file.spec format args.values None)) (λ image.
    place_plan-tells m job (at_format format its.opened) args.record_number image)))))

pub write_record-tells : (m : Memory) (job timestamp : ℕ) (args : WriteRecord) → Tells (write_record m job timestamp args)
write_record-tells m job timestamp args = does-tells _ (write_plan m job args) (write_plan-tells m job args)

update_plan-tells : (m : Memory) (job : ℕ) (args : UpdateRecord) → Tells (update_plan m job args)
unfolding update_plan
update_plan-tells m job args =
    then-tells (sequences_left m) _ (sequences_left-tells m) (λ go.
    then-tells (opened_file args.open_id job m) _ (opened_file-tells args.open_id job m) (λ its.
    refused-then (is_input its.opened.option) WrongOpen _ refl (λ go.
    found-then its.opened.current NoCurrentRecord _ refl (λ rrn.
    then-tells (packed (given_in (bases_of m) its.file.spec its.opened.format args.values (live_record its.opened.member rrn m))) _
    (packed-tells (given_in (bases_of m) its.file.spec its.opened.format args.values (live_record its.opened.member rrn m))) (λ image.
    then-tells (not_held job its.opened rrn m) _ (not_held-tells job its.opened rrn m) (λ go.
    then-tells (keys_free job its.opened.commit its.opened.member rrn (slot_there its.opened.member rrn m) image m) _
    (keys_free-tells job its.opened.commit its.opened.member rrn (slot_there its.opened.member rrn m) image m) (λ go.
    then-tells (few_changes its.opened.commit (slot_there its.opened.member rrn m) (Live image) m) _ (few_changes-tells its.opened.commit (slot_there its.opened.member rrn m) (Live image) m) (λ go.
    ok-tells _))))))))

pub update_record-tells : (m : Memory) (job timestamp : ℕ) (args : UpdateRecord) → Tells (update_record m job timestamp args)
update_record-tells m job timestamp args = does-tells _ (update_plan m job args) (update_plan-tells m job args)

delete_plan-tells : (m : Memory) (job : ℕ) (args : OpenName) → Tells (delete_plan m job args)
unfolding delete_plan
delete_plan-tells m job args =
    then-tells (sequences_left m) _ (sequences_left-tells m) (λ go.
    then-tells (opened_file args.open_id job m) _ (opened_file-tells args.open_id job m) (λ its.
    refused-then (is_input its.opened.option) WrongOpen _ refl (λ go.
    found-then its.opened.current NoCurrentRecord _ refl (λ rrn.
    then-tells (not_held job its.opened rrn m) _ (not_held-tells job its.opened rrn m) (λ go.
    then-tells (few_changes its.opened.commit (slot_there its.opened.member rrn m) Deleted m) _ (few_changes-tells its.opened.commit (slot_there its.opened.member rrn m) Deleted m) (λ go.
    ok-tells _))))))

pub delete_record-tells : (m : Memory) (job timestamp : ℕ) (args : OpenName) → Tells (delete_record m job timestamp args)
delete_record-tells m job timestamp args = does-tells _ (delete_plan m job args) (delete_plan-tells m job args)

unlock_plan-tells : (m : Memory) (job : ℕ) (args : OpenName) → Tells (unlock_plan m job args)
unfolding unlock_plan
unlock_plan-tells m job args =
    then-tells (opened_file args.open_id job m) _ (opened_file-tells args.open_id job m) (λ its.
    found-then its.opened.last_read NoCurrentRecord _ refl (λ rrn.
    refused-then (not (has_open_lock job its.opened rrn m || has_boundary_lock job its.opened rrn m)) NoCurrentRecord _ refl (λ go.
    refused-then (has_boundary_lock job its.opened rrn m) HeldToBoundary _ refl (λ go.
    ok-tells _))))

pub unlock-tells : (m : Memory) (job : ℕ) (args : OpenName) → Tells (unlock m job args)
unlock-tells m job args = does-tells _ (unlock_plan m job args) (unlock_plan-tells m job args)

-- ---- reads

whole_end-tells : (its : OpenedFile) (end : Position PathEntry) → Tells (whole_end its end)
whole_end-tells its end = if-tells (is_keyed its.file its.opened) (Ok end) (Err WrongOpen) (ok-tells end) (record { told = refl })

bound_asked-tells : (its : OpenedFile) (side : (Bound → Position PathEntry)) (to : Limit) → Tells (bound_asked its side to)
bound_asked-tells its side (limits.Key values) =
    then-tells (key_asked its.file its.opened values) _ (key_asked-tells its.file its.opened values) (λ key.
    ok-tells _)
bound_asked-tells its side limits.LowValue = whole_end-tells its Start
bound_asked-tells its side limits.HighValue = whole_end-tells its End
bound_asked-tells its side (limits.RecordNumber rrn) =
    then-tells (number_asked its.file its.opened rrn) _ (number_asked-tells its.file its.opened rrn) (λ number.
    ok-tells _)

position_plan-tells : (side : (Bound → Position PathEntry)) (m : Memory) (job : ℕ) (args : SetPosition) → Tells (position_plan side m job args)
unfolding position_plan
position_plan-tells side m job args =
    then-tells (opened_file args.open_id job m) _ (opened_file-tells args.open_id job m) (λ its.
    then-tells (bound_asked its side args.to) _ (bound_asked-tells its side args.to) (λ position.
    ok-tells _))

pub set_lower_limit-tells : (m : Memory) (job : ℕ) (args : SetPosition) → Tells (set_lower_limit m job args)
set_lower_limit-tells m job args = does-tells _ (position_plan Before m job args) (position_plan-tells Before m job args)

pub set_greater_than-tells : (m : Memory) (job : ℕ) (args : SetPosition) → Tells (set_greater_than m job args)
set_greater_than-tells m job args = does-tells _ (position_plan Past m job args) (position_plan-tells Past m job args)

lockable-tells : (job : ℕ) (m : Memory) (file : FileState) (opened : OpenState) (lock : LockOption) (it : Found) → Tells (lockable job m file opened lock it)
lockable-tells job m file opened lock it =
    then-tells (not_locked (read_call lock opened) job opened it.entry.rrn m) _ (not_locked-tells (read_call lock opened) job opened it.entry.rrn m) (λ go.
    then-tells (few_locks (read_call lock opened) job opened it.entry.rrn m) _ (few_locks-tells (read_call lock opened) job opened it.entry.rrn m) (λ go.
    ok-tells _))

if_lockable-tells : (job : ℕ) (m : Memory) (its : OpenedFile) (lock : LockOption) (it : Found) → Tells (if_lockable job m its lock it)
if_lockable-tells job m its lock it = lockable-tells job m its.file (at_format it.entry.format its.opened) lock it

read_plan-tells : (entry_from : (Reading PathEntry → Position PathEntry → Option PathEntry)) (row_from : (Reading RowPlace → Position RowPlace → Option RowPlace)) (nothing : Reply) (m : Memory)
    (job : ℕ) (args : ReadRecord) → is_fault nothing ≡ false → Tells (read_plan entry_from row_from nothing m job args)
unfolding read_plan
read_plan-tells entry_from row_from nothing m job args told =
    then-tells (opened_file args.open_id job m) _ (opened_file-tells args.open_id job m) (λ its.
    found-then (find_in its m (λ reading. entry_from reading its.opened.position) (λ reading. row_from reading its.opened.rows)) nothing _ told (λ it.
    if_lockable-tells job m its args.lock it))

pub read-tells : (m : Memory) (job : ℕ) (args : ReadRecord) → Tells (read m job args)
read-tells m job args = does-tells _ (read_plan next_from next_from EndOfFile m job args) (read_plan-tells next_from next_from EndOfFile m job args refl)

pub read_prior-tells : (m : Memory) (job : ℕ) (args : ReadRecord) → Tells (read_prior m job args)
read_prior-tells m job args = does-tells _ (read_plan prior_from prior_from BeginOfFile m job args) (read_plan-tells prior_from prior_from BeginOfFile m job args refl)

read_equal_plan-tells : (entry_from : (Reading PathEntry → List KeyValue → Position PathEntry → Option PathEntry)) (row_from : (Reading RowPlace → List KeyValue → Position RowPlace → Option RowPlace))
    (nothing : Reply) (m : Memory) (job : ℕ) (args : ReadEqual) → is_fault nothing ≡ false → Tells (read_equal_plan entry_from row_from nothing m job args)
unfolding read_equal_plan
read_equal_plan-tells entry_from row_from nothing m job args told =
    then-tells (opened_file args.open_id job m) _ (opened_file-tells args.open_id job m) (λ its.
    then-tells (key_asked its.file its.opened args.key) _ (key_asked-tells its.file its.opened args.key) (λ key.
    found-then (find_in its m (λ reading. entry_from reading key its.opened.position) (λ reading. row_from reading key its.opened.rows)) nothing _ told (λ it.
    if_lockable-tells job m its args.lock it)))

pub read_equal-tells : (m : Memory) (job : ℕ) (args : ReadEqual) → Tells (read_equal m job args)
read_equal-tells m job args = does-tells _ (read_equal_plan next_equal next_equal EndOfFile m job args) (read_equal_plan-tells next_equal next_equal EndOfFile m job args refl)

pub read_prior_equal-tells : (m : Memory) (job : ℕ) (args : ReadEqual) → Tells (read_prior_equal m job args)
read_prior_equal-tells m job args = does-tells _ (read_equal_plan prior_equal prior_equal BeginOfFile m job args) (read_equal_plan-tells prior_equal prior_equal BeginOfFile m job args refl)

chained-tells : (its : OpenedFile) (m : Memory) (to : ChainTo) → Tells (chained its m to)
chained-tells its m (Key values) =
    then-tells (key_asked its.file its.opened values) _ (key_asked-tells its.file its.opened values) (λ key.
    ok-tells _)
chained-tells its m (RecordNumber rrn) =
    then-tells (number_asked its.file its.opened rrn) _ (number_asked-tells its.file its.opened rrn) (λ number.
    ok-tells _)

chain_plan-tells : (m : Memory) (job : ℕ) (args : ChainRecord) → Tells (chain_plan m job args)
unfolding chain_plan
chain_plan-tells m job args =
    then-tells (opened_file args.open_id job m) _ (opened_file-tells args.open_id job m) (λ its.
    then-tells (chained its m args.to) _ (chained-tells its m args.to) (λ item.
    found-then item NotFound _ refl (λ it.
    if_lockable-tells job m its args.lock it)))

pub chain-tells : (m : Memory) (job : ℕ) (args : ChainRecord) → Tells (chain m job args)
chain-tells m job args = does-tells _ (chain_plan m job args) (chain_plan-tells m job args)
