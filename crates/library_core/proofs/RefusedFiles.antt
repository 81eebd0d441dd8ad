-- That the requests on files and members are refused by no fault.
use Rattle.std.proofs.Common.{refl, List, None, Result, Ok, Err, ℕ, if◌then◌else◌}
use Rattle.std.specs.Prelude.{nat_lt, nat_le, length}
use Rattle.std.specs.Option.{is_some, is_none}
use Rattle.std.specs.List.{list_any}
use Rattle.library_model.specs.declared.replies.Reply.TheVariants.{NoSuchName, LimitReached, NameExists, NotJournaled, DuplicateKey, Dependents, AlreadyStarted, InUse}
use Rattle.library_model.specs.declared.replies.Missing.TheVariants.{Name}
use Rattle.library_model.specs.declared.replies.LimitKind.TheVariants.{Files, MemberNumbers, Paths, Members}
use Rattle.library_model.specs.Named.{named}
use Rattle.library_steps.specs.declared.limits.TheConstants.{MOST_PATHS, MOST_MEMBERS}
use Rattle.library_steps.specs.State.{Memory, file_named, physical_named}
use Rattle.dds_source.specs.declared.faults.DdsFault.{DdsFault}
use Rattle.dds_physical.specs.declared.physical_files.PhysicalSpec.{PhysicalSpec}
use Rattle.logical_model.specs.Bases.{base_members}
use Rattle.library_model.specs.declared.limits.TheConstants.{MOST_FILES, LAST_MEMBER}
use Rattle.library_model.specs.declared.requests.CreatePhysicalFile.{CreatePhysicalFile}
use Rattle.library_model.specs.declared.sources.NamedSource.{NamedSource}
use Rattle.library_model.specs.SourceList.{text_of}
use Rattle.library_steps.specs.Refusals.{sequences_left, member_of_file}
use Rattle.dds_logical.specs.declared.views.LogicalSpec.{LogicalSpec}
use Rattle.logical_model.specs.FilePaths.{logical_paths}
use Rattle.library_model.specs.declared.requests.CreateLogicalFile.{CreateLogicalFile}
use Rattle.library_steps.specs.LogicalFiles.{bases_of}
use Rattle.library_steps.specs.Uses.{changer_of_any, user_of}
use Rattle.library_model.specs.declared.requests.DeleteFile.{DeleteFile}
use Rattle.library_model.specs.declared.requests.FileMember.{FileMember}
use Rattle.library_steps.specs.CreatePhysicalFile.{formats_of, described, spec_or_refused, create_plan, create_physical_file}
use Rattle.library_model.specs.declared.requests.StartJournaling.{StartJournaling}
use Rattle.library_steps.specs.CreateLogicalFile.{logical_described, logical_or_refused, has_many, first_undone, is_unique, first_repeated, over_members, create_logical_plan, create_logical_file}
use Rattle.library_steps.specs.DeleteFile.{first_dependent, user_by, delete_plan, delete_file}
use Rattle.library_steps.specs.MemberCommands.{add_plan, add_member, empty_plan, clear_member, reorganize_member}
use Rattle.library_steps.specs.Journaling.{start_plan, start_journaling, end_plan, end_journaling}
use Rattle.library_core.proofs.RefusalLemmas.{Tells, ok-tells, then-tells, refused-then, reason-then, found-then, does-tells}
use Rattle.library_core.proofs.RefusedParts.{sequences_left-tells, member_of_file-tells}

spec_or_refused-tells : (r : Result PhysicalSpec DdsFault) → Tells (spec_or_refused r)
spec_or_refused-tells (Ok spec) = ok-tells spec
spec_or_refused-tells (Err fault) = record { told = refl }

logical_or_refused-tells : (r : Result LogicalSpec DdsFault) → Tells (logical_or_refused r)
logical_or_refused-tells (Ok spec) = ok-tells spec
logical_or_refused-tells (Err fault) = record { told = refl }

create_plan-tells : (sources : List NamedSource) (m : Memory) (args : CreatePhysicalFile) → Tells (create_plan sources m args)
unfolding create_plan
create_plan-tells sources m args =
    then-tells (sequences_left m) _ (sequences_left-tells m) (λ go.
    refused-then (is_some (file_named args.file m)) (NameExists args.file) _ refl (λ go.
    refused-then (nat_le MOST_FILES (length m.files)) (LimitReached Files MOST_FILES) _ refl (λ go.
    refused-then (nat_lt LAST_MEMBER m.next_member) (LimitReached MemberNumbers LAST_MEMBER) _ refl (λ go.
    found-then (text_of sources args.source) (NoSuchName (Name args.source)) _ refl (λ text.
    then-tells (spec_or_refused (described (formats_of m) text)) _ (spec_or_refused-tells (described (formats_of m) text)) (λ spec.
    ok-tells _))))))

pub create_physical_file-tells : (sources : List NamedSource) (m : Memory) (job timestamp : ℕ) (args : CreatePhysicalFile) → Tells (create_physical_file sources m job timestamp args)
create_physical_file-tells sources m job timestamp args = does-tells _ (create_plan sources m args) (create_plan-tells sources m args)

over_members-tells : (m : Memory) (args : CreateLogicalFile) (text : List ℕ) (spec : LogicalSpec) → Tells (over_members m args text spec)
over_members-tells m args text spec =
    refused-then (list_any (has_many (logical_paths (bases_of m) spec) m) (base_members (bases_of m) spec)) (LimitReached Paths MOST_PATHS) _ refl (λ go.
    reason-then InUse (changer_of_any (base_members (bases_of m) spec) m) _ (λ a. refl) (λ go.
    reason-then NotJournaled (if is_unique (logical_paths (bases_of m) spec) then first_undone m (base_members (bases_of m) spec) else None) _ (λ a. refl) (λ go.
    reason-then (DuplicateKey args.file) (first_repeated (logical_paths (bases_of m) spec) m) _ (λ a. refl) (λ go.
    ok-tells _))))

create_logical_plan-tells : (sources : List NamedSource) (m : Memory) (args : CreateLogicalFile) → Tells (create_logical_plan sources m args)
unfolding create_logical_plan
create_logical_plan-tells sources m args =
    then-tells (sequences_left m) _ (sequences_left-tells m) (λ go.
    refused-then (is_some (file_named args.file m)) (NameExists args.file) _ refl (λ go.
    refused-then (nat_le MOST_FILES (length m.files)) (LimitReached Files MOST_FILES) _ refl (λ go.
    found-then (text_of sources args.source) (NoSuchName (Name args.source)) _ refl (λ text.
    then-tells (logical_or_refused (logical_described m text)) _ (logical_or_refused-tells (logical_described m text)) (λ spec.
    over_members-tells m args text spec)))))

pub create_logical_file-tells : (sources : List NamedSource) (m : Memory) (job timestamp : ℕ) (args : CreateLogicalFile) → Tells (create_logical_file sources m job timestamp args)
create_logical_file-tells sources m job timestamp args = does-tells _ (create_logical_plan sources m args) (create_logical_plan-tells sources m args)

delete_plan-tells : (m : Memory) (args : DeleteFile) → Tells (delete_plan m args)
unfolding delete_plan
delete_plan-tells m args =
    then-tells (sequences_left m) _ (sequences_left-tells m) (λ go.
    found-then (file_named args.file m) (NoSuchName (Name args.file)) _ refl (λ file.
    reason-then Dependents (first_dependent args.file m.files) _ (λ a. refl) (λ go.
    reason-then InUse (user_by file.spec args.file file m) _ (λ a. refl) (λ go.
    ok-tells _))))

pub delete_file-tells : (m : Memory) (job timestamp : ℕ) (args : DeleteFile) → Tells (delete_file m job timestamp args)
delete_file-tells m job timestamp args = does-tells _ (delete_plan m args) (delete_plan-tells m args)

add_plan-tells : (m : Memory) (args : FileMember) → Tells (add_plan m args)
unfolding add_plan
add_plan-tells m args =
    then-tells (sequences_left m) _ (sequences_left-tells m) (λ go.
    found-then (physical_named args.file m) (NoSuchName (Name args.file)) _ refl (λ file.
    refused-then (is_some (named args.member file.members)) (NameExists args.member) _ refl (λ go.
    refused-then (nat_le MOST_MEMBERS (length file.members)) (LimitReached Members MOST_MEMBERS) _ refl (λ go.
    refused-then (nat_lt LAST_MEMBER m.next_member) (LimitReached MemberNumbers LAST_MEMBER) _ refl (λ go.
    ok-tells _)))))

pub add_member-tells : (m : Memory) (job timestamp : ℕ) (args : FileMember) → Tells (add_member m job timestamp args)
add_member-tells m job timestamp args = does-tells _ (add_plan m args) (add_plan-tells m args)

empty_plan-tells : (m : Memory) (args : FileMember) → Tells (empty_plan m args)
unfolding empty_plan
empty_plan-tells m args =
    then-tells (sequences_left m) _ (sequences_left-tells m) (λ go.
    then-tells (member_of_file args.file args.member m) _ (member_of_file-tells args.file args.member m) (λ it.
    reason-then InUse (user_of it.status.number m) _ (λ a. refl) (λ go.
    ok-tells _)))

pub clear_member-tells : (m : Memory) (job timestamp : ℕ) (args : FileMember) → Tells (clear_member m job timestamp args)
clear_member-tells m job timestamp args = does-tells _ (empty_plan m args) (empty_plan-tells m args)

pub reorganize_member-tells : (m : Memory) (job timestamp : ℕ) (args : FileMember) → Tells (reorganize_member m job timestamp args)
reorganize_member-tells m job timestamp args = does-tells _ (empty_plan m args) (empty_plan-tells m args)

start_plan-tells : (m : Memory) (args : StartJournaling) → Tells (start_plan m args)
unfolding start_plan
start_plan-tells m args =
    then-tells (sequences_left m) _ (sequences_left-tells m) (λ go.
    then-tells (member_of_file args.file args.member m) _ (member_of_file-tells args.file args.member m) (λ it.
    reason-then InUse (user_of it.status.number m) _ (λ a. refl) (λ go.
    refused-then (is_some it.status.images) AlreadyStarted _ refl (λ go.
    ok-tells _))))

pub start_journaling-tells : (m : Memory) (job timestamp : ℕ) (args : StartJournaling) → Tells (start_journaling m job timestamp args)
start_journaling-tells m job timestamp args = does-tells _ (start_plan m args) (start_plan-tells m args)

end_plan-tells : (m : Memory) (args : FileMember) → Tells (end_plan m args)
unfolding end_plan
end_plan-tells m args =
    then-tells (sequences_left m) _ (sequences_left-tells m) (λ go.
    then-tells (member_of_file args.file args.member m) _ (member_of_file-tells args.file args.member m) (λ it.
    reason-then InUse (user_of it.status.number m) _ (λ a. refl) (λ go.
    refused-then (is_none it.status.images) (NotJournaled it.status.number) _ refl (λ go.
    ok-tells _))))

pub end_journaling-tells : (m : Memory) (job timestamp : ℕ) (args : FileMember) → Tells (end_journaling m job timestamp args)
end_journaling-tells m job timestamp args = does-tells _ (end_plan m args) (end_plan-tells m args)
