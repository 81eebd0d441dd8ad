-- DLTF: a file is gone, and the members of a physical file with it. (CL reference, DLTF; Database Programming.)
use Rattle.std.specs.Prelude.{ℕ, Bool, true, false, if◌then◌else◌, not, filter, Option, Some, None, Result, Ok, Err, List, [], ◌∷◌}
use Rattle.std.specs.List.{list_any}
use Rattle.journal_model.below.entry_codec.specs.declared.kinds.EntryKind.TheVariants.{FileDeleted}
use Rattle.logical_model.specs.Members.{NumberedMembers, without_member}
use Rattle.dds_physical.below.dds_source.specs.declared.faults.DdsFault.{DdsFault}
use Rattle.dds_physical.below.dds_source.specs.declared.specifications.Source.{Source}
use Rattle.dds_physical.specs.Reading.{source_of}
use Rattle.dds_physical.specs.References.{refers_to}
use Rattle.logical_model.specs.Bases.{FileSpec, PhysicalFile, LogicalFile, base_names, base_members}
use Rattle.library_model.specs.declared.requests.DeleteFile.{DeleteFile}
use Rattle.library_model.specs.declared.replies.Reply.{Reply}
use Rattle.library_model.specs.declared.replies.Reply.TheVariants.{Dependents, Done}
use Rattle.library_model.specs.Named.{Named, same_name}
use Rattle.library_steps.specs.State.{Memory, FileState, MemberStatus, file_named}
use Rattle.library_steps.specs.LogicalFiles.{bases_of}
use Rattle.library_steps.specs.Change.{Change, journaled, does}
use Rattle.library_steps.specs.Refusals.{◌>>=◌, refuse_with, named_or_refused, sequences_left}
use Rattle.library_steps.specs.Uses.{user_of_any, user_of_logical, unused}
use Rattle.library_steps.specs.Drafts.{author_of, library_draft}

-- a source that was read names the file in REF or REFFLD
abbrev pub source_refers : List ℕ → Result Source DdsFault → Bool
source_refers name (Ok source) = refers_to name source
source_refers name (Err fault) = false

-- the file stands over the one of this name, or names it
abbrev pub depends_by : FileSpec → List ℕ → FileState → Bool
depends_by (PhysicalFile spec) name file = source_refers name (source_of file.source)
depends_by (LogicalFile spec) name file = list_any (same_name name) (base_names spec)

abbrev pub file_refers : List ℕ → FileState → Bool
file_refers name file = depends_by file.spec name file

-- the first file, by creation, that depends on the one of this name
abbrev pub first_dependent : List ℕ → Named FileState → Option (List ℕ)
first_dependent name [] = None
first_dependent name (entry ∷ files) = if file_refers name entry.1 then Some entry.0 else first_dependent name files

-- who uses the file: a physical one by its members, a logical one by its opens
abbrev pub user_by : FileSpec → (name : List ℕ) → FileState → Memory → Option ℕ
user_by (PhysicalFile spec) name file m = user_of_any file.members m
user_by (LogicalFile spec) name file m = user_of_logical name (base_members (bases_of m) spec) m

-- the file that is to go
unfoldable pub delete_plan : Memory → DeleteFile → Result FileState Reply
delete_plan m args = do
  _ ← sequences_left m
  file ← named_or_refused args.file (file_named args.file m)
  _ ← refuse_with Dependents (first_dependent args.file m.files)
  _ ← unused (user_by file.spec args.file file m)
  Ok file

abbrev pub without_file : List ℕ → Named FileState → Named FileState
without_file name files = filter (λ entry. not (same_name name entry.0)) files

abbrev pub without_members : Named MemberStatus → NumberedMembers → NumberedMembers
without_members [] members = members
without_members (entry ∷ others) members = without_members others (without_member entry.1.number members)

abbrev pub deleted : DeleteFile → FileState → Memory → Memory
deleted args file m = record m { files = without_file args.file m.files; members = without_members file.members m.members }

abbrev pub delete_change : Memory → ℕ → (timestamp : ℕ) → DeleteFile → FileState → Change
delete_change m job timestamp args file =
    journaled (library_draft (author_of m job timestamp) (FileDeleted args.file) ∷ []) true Done (deleted args file m)

abbrev pub delete_file : Memory → ℕ → (timestamp : ℕ) → DeleteFile → Result Change Reply
delete_file m job timestamp args = does (delete_change m job timestamp args) (delete_plan m args)
