-- Which plans have asked whether sequences are left.
use Rattle.std.proofs.Common.{◌≡◌, ℕ, ◌≤◌, nat_lt, Bool, Ok, List}
use Rattle.std.proofs.lemmas.Bool.{ltb-false}
use Rattle.entry_codec.specs.declared.entries.Entry.{Entry}
use Rattle.library_model.specs.declared.requests.CreateLogicalFile.{CreateLogicalFile}
use Rattle.library_model.specs.declared.requests.CreatePhysicalFile.{CreatePhysicalFile}
use Rattle.library_model.specs.declared.requests.DeleteFile.{DeleteFile}
use Rattle.library_model.specs.declared.requests.FileMember.{FileMember}
use Rattle.library_model.specs.declared.requests.JournaledChanges.{JournaledChanges}
use Rattle.library_model.specs.declared.requests.OpenName.{OpenName}
use Rattle.library_model.specs.declared.requests.RangeEnd.{RangeEnd}
use Rattle.library_model.specs.declared.requests.StartJournaling.{StartJournaling}
use Rattle.library_model.specs.declared.requests.UpdateRecord.{UpdateRecord}
use Rattle.library_model.specs.declared.requests.WriteRecord.{WriteRecord}
use Rattle.library_model.specs.declared.sources.NamedSource.{NamedSource}
use Rattle.library_steps.specs.declared.limits.TheConstants.{LAST_SEQUENCE}
use Rattle.library_steps.specs.ChangeRecord.{update_plan, delete_plan}
use Rattle.library_steps.specs.Commitment.{start_plan}
use Rattle.library_steps.specs.CreateLogicalFile.{NewLogical, create_logical_plan}
use Rattle.library_steps.specs.CreatePhysicalFile.{NewFile, create_plan}
use Rattle.library_steps.specs.DeleteFile.{delete_plan as delete_file_plan}
use Rattle.library_steps.specs.Journaling.{start_plan as start_journaling_plan, end_plan as end_journaling_plan}
use Rattle.library_steps.specs.MemberCommands.{add_plan, empty_plan}
use Rattle.library_steps.specs.Ranges.{Range, RangeWork, apply_plan, remove_plan, range_named}
use Rattle.library_steps.specs.Receivers.{attach_plan}
use Rattle.library_steps.specs.Refusals.{sequences_left}
use Rattle.library_steps.specs.SlotChange.{NewSlot}
use Rattle.library_steps.specs.State.{Memory, FileState, MemberStatus}
use Rattle.library_steps.specs.WriteRecord.{write_plan}
use Rattle.library_kept.proofs.ResultLemmas.{bind-ok, not-refused}

left-is : (m : Memory) (x : Bool) → sequences_left m ≡ Ok x → m.last_entry ≤ LAST_SEQUENCE
left-is m x h = ltb-false LAST_SEQUENCE m.last_entry (not-refused (nat_lt LAST_SEQUENCE m.last_entry) _ x h)

pub create-left : (sources : List NamedSource) (m : Memory) (args : CreatePhysicalFile) (new : NewFile) → create_plan sources m args ≡ Ok new → m.last_entry ≤ LAST_SEQUENCE
unfolding create_plan
create-left sources m args new h = let left = bind-ok (sequences_left m) _ new h in left-is m left.0 left.1

pub create_logical-left : (sources : List NamedSource) (m : Memory) (args : CreateLogicalFile) (new : NewLogical) → create_logical_plan sources m args ≡ Ok new → m.last_entry ≤ LAST_SEQUENCE
unfolding create_logical_plan
create_logical-left sources m args new h = let left = bind-ok (sequences_left m) _ new h in left-is m left.0 left.1

pub delete_file-left : (m : Memory) (args : DeleteFile) (file : FileState) → delete_file_plan m args ≡ Ok file → m.last_entry ≤ LAST_SEQUENCE
unfolding delete_file_plan
delete_file-left m args file h = let left = bind-ok (sequences_left m) _ file h in left-is m left.0 left.1

pub add-left : (m : Memory) (args : FileMember) (file : FileState) → add_plan m args ≡ Ok file → m.last_entry ≤ LAST_SEQUENCE
unfolding add_plan
add-left m args file h = let left = bind-ok (sequences_left m) _ file h in left-is m left.0 left.1

pub empty-left : (m : Memory) (args : FileMember) (status : MemberStatus) → empty_plan m args ≡ Ok status → m.last_entry ≤ LAST_SEQUENCE
unfolding empty_plan
empty-left m args status h = let left = bind-ok (sequences_left m) _ status h in left-is m left.0 left.1

pub start_journaling-left : (m : Memory) (args : StartJournaling) (status : MemberStatus) → start_journaling_plan m args ≡ Ok status → m.last_entry ≤ LAST_SEQUENCE
unfolding start_journaling_plan
start_journaling-left m args status h = let left = bind-ok (sequences_left m) _ status h in left-is m left.0 left.1

pub end_journaling-left : (m : Memory) (args : FileMember) (status : MemberStatus) → end_journaling_plan m args ≡ Ok status → m.last_entry ≤ LAST_SEQUENCE
unfolding end_journaling_plan
end_journaling-left m args status h = let left = bind-ok (sequences_left m) _ status h in left-is m left.0 left.1

pub attach-left : (m : Memory) (number : ℕ) → attach_plan m ≡ Ok number → m.last_entry ≤ LAST_SEQUENCE
unfolding attach_plan
attach-left m number h = let left = bind-ok (sequences_left m) _ number h in left-is m left.0 left.1

range-left : (m : Memory) (entries : List Entry) (args : JournaledChanges) (from to : RangeEnd) (range : Range) → range_named args from to entries m ≡ Ok range → m.last_entry ≤ LAST_SEQUENCE
range-left m entries args from to range h = let left = bind-ok (sequences_left m) _ range h in left-is m left.0 left.1

pub apply-left : (entries : List Entry) (m : Memory) (job timestamp : ℕ) (args : JournaledChanges) (work : RangeWork) → apply_plan entries m job timestamp args ≡ Ok work → m.last_entry ≤ LAST_SEQUENCE
unfolding apply_plan
apply-left entries m job timestamp args work h =
    let range = bind-ok (range_named args args.from args.to entries m) _ work h in
    range-left m entries args args.from args.to range.0 range.1

pub remove-left : (entries : List Entry) (m : Memory) (job timestamp : ℕ) (args : JournaledChanges) (work : RangeWork) → remove_plan entries m job timestamp args ≡ Ok work → m.last_entry ≤ LAST_SEQUENCE
unfolding remove_plan
remove-left entries m job timestamp args work h =
    let range = bind-ok (range_named args args.to args.from entries m) _ work h in
    range-left m entries args args.to args.from range.0 range.1

pub start-left : (m : Memory) (job : ℕ) (started : Bool) → start_plan m job ≡ Ok started → m.last_entry ≤ LAST_SEQUENCE
unfolding start_plan
start-left m job started h = let left = bind-ok (sequences_left m) _ started h in left-is m left.0 left.1

pub write-left : (m : Memory) (job : ℕ) (args : WriteRecord) (new : NewSlot) → write_plan m job args ≡ Ok new → m.last_entry ≤ LAST_SEQUENCE
unfolding write_plan
write-left m job args new h = let left = bind-ok (sequences_left m) _ new h in left-is m left.0 left.1

pub update-left : (m : Memory) (job : ℕ) (args : UpdateRecord) (new : NewSlot) → update_plan m job args ≡ Ok new → m.last_entry ≤ LAST_SEQUENCE
unfolding update_plan
update-left m job args new h = let left = bind-ok (sequences_left m) _ new h in left-is m left.0 left.1

pub delete-left : (m : Memory) (job : ℕ) (args : OpenName) (new : NewSlot) → delete_plan m job args ≡ Ok new → m.last_entry ≤ LAST_SEQUENCE
unfolding delete_plan
delete-left m job args new h = let left = bind-ok (sequences_left m) _ new h in left-is m left.0 left.1
