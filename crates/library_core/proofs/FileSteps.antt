-- What the requests on files and members leave: CRTPF, CRTLF, DLTF, ADDPFM, CLRPFM, RGZPFM, STRJRNPF and ENDJRNPF.
use Rattle.std.proofs.Common.{ℕ, List}
use Rattle.entry_codec.specs.declared.kinds.EntryKind.{EntryKind}
use Rattle.entry_codec.specs.declared.kinds.EntryKind.TheVariants.{MemberCleared, MemberReorganized}
use Rattle.member_slots.specs.Member.{MemberState, cleared, reorganized}
use Rattle.library_model.specs.declared.requests.CreateLogicalFile.{CreateLogicalFile}
use Rattle.library_model.specs.declared.requests.CreatePhysicalFile.{CreatePhysicalFile}
use Rattle.library_model.specs.declared.requests.DeleteFile.{DeleteFile}
use Rattle.library_model.specs.declared.requests.FileMember.{FileMember}
use Rattle.library_model.specs.declared.requests.StartJournaling.{StartJournaling}
use Rattle.library_model.specs.declared.sources.NamedSource.{NamedSource}
use Rattle.library_steps.specs.State.{Memory, MemberStatus}
use Rattle.library_steps.specs.CreatePhysicalFile.{create_plan, create_change, create_physical_file}
use Rattle.library_steps.specs.CreateLogicalFile.{create_logical_plan, create_logical_change, create_logical_file}
use Rattle.library_steps.specs.DeleteFile.{delete_plan, delete_change, delete_file}
use Rattle.library_steps.specs.MemberCommands.{renumbering, empty_plan, add_member, clear_member, reorganize_member}
use Rattle.library_steps.specs.Journaling.{start_journaling, end_journaling}
use Rattle.library_core.proofs.ResultLemmas.{Holds, each-holds, does-holds}
use Rattle.library_core.proofs.SpareLemmas.{SparesIn, spares-all}

-- ---- CRTPF

pub create_physical_file-spares : (sources : List NamedSource) (m : Memory) (job timestamp : ℕ) (args : CreatePhysicalFile)
    → Holds (create_physical_file sources m job timestamp args) (SparesIn m)
create_physical_file-spares sources m job timestamp args =
    does-holds (create_change m job timestamp args) (create_plan sources m args) (SparesIn m) (each-holds (create_plan sources m args) _ (λ new. spares-all m.jobs))

-- ---- CRTLF

pub create_logical_file-spares : (sources : List NamedSource) (m : Memory) (job timestamp : ℕ) (args : CreateLogicalFile)
    → Holds (create_logical_file sources m job timestamp args) (SparesIn m)
create_logical_file-spares sources m job timestamp args =
    does-holds (create_logical_change m job timestamp args) (create_logical_plan sources m args) (SparesIn m)
    (each-holds (create_logical_plan sources m args) _ (λ new. spares-all m.jobs))

-- ---- DLTF

pub delete_file-spares : (m : Memory) (job timestamp : ℕ) (args : DeleteFile) → Holds (delete_file m job timestamp args) (SparesIn m)
delete_file-spares m job timestamp args =
    does-holds (delete_change m job timestamp args) (delete_plan m args) (SparesIn m) (each-holds (delete_plan m args) _ (λ file. spares-all m.jobs))

-- ---- members

pub add_member-spares : (m : Memory) (job timestamp : ℕ) (args : FileMember) → Holds (add_member m job timestamp args) (SparesIn m)
add_member-spares m job timestamp args = does-holds _ _ (SparesIn m) (each-holds _ _ (λ file. spares-all m.jobs))

renumbering-spares : (m : Memory) (job timestamp : ℕ) (kind : EntryKind) (change : MemberState → MemberState) (status : MemberStatus) → SparesIn m (renumbering m job timestamp kind change status)
renumbering-spares m job timestamp kind change status = spares-all m.jobs

pub clear_member-spares : (m : Memory) (job timestamp : ℕ) (args : FileMember) → Holds (clear_member m job timestamp args) (SparesIn m)
clear_member-spares m job timestamp args =
    does-holds (renumbering m job timestamp MemberCleared cleared) (empty_plan m args) (SparesIn m) (each-holds (empty_plan m args) _
    (λ status. renumbering-spares m job timestamp MemberCleared cleared status))

pub reorganize_member-spares : (m : Memory) (job timestamp : ℕ) (args : FileMember) → Holds (reorganize_member m job timestamp args) (SparesIn m)
reorganize_member-spares m job timestamp args =
    does-holds (renumbering m job timestamp MemberReorganized reorganized) (empty_plan m args) (SparesIn m)
    (each-holds (empty_plan m args) _ (λ status. renumbering-spares m job timestamp MemberReorganized reorganized status))

-- ---- journaling

pub start_journaling-spares : (m : Memory) (job timestamp : ℕ) (args : StartJournaling) → Holds (start_journaling m job timestamp args) (SparesIn m)
start_journaling-spares m job timestamp args = does-holds _ _ (SparesIn m) (each-holds _ _ (λ status. spares-all m.jobs))

pub end_journaling-spares : (m : Memory) (job timestamp : ℕ) (args : FileMember) → Holds (end_journaling m job timestamp args) (SparesIn m)
end_journaling-spares m job timestamp args = does-holds _ _ (SparesIn m) (each-holds _ _ (λ status. spares-all m.jobs))
