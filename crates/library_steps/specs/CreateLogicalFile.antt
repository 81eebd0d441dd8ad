-- CRTLF: a logical file over members that are there, made from a source. (CL reference, CRTLF; DDS for Physical and Logical Files; Database Programming.
-- That it isn't made over a record that an open commit cycle has changed, nor with UNIQUE over records whose changes a restart would undo, is our own.)
use Rattle.std.specs.Prelude.{ℕ, ◌+◌, ◌&&◌, nat_le, nat_lt, Bool, true, Option, Some, None, Result, Ok, Err, List, [], ◌∷◌, ◌++◌, filter, length, if◌then◌else◌}
use Rattle.std.specs.List.{list_any}
use Rattle.std.specs.Option.{is_some, is_none, option_and_then, option_map_or}
use Rattle.journal_model.below.entry_codec.specs.declared.kinds.FileKind.TheVariants.{Logical}
use Rattle.journal_model.below.entry_codec.specs.declared.kinds.EntryKind.TheVariants.{FileCreated}
use Rattle.dds_physical.below.dds_source.specs.declared.faults.DdsFault.{DdsFault}
use Rattle.dds_physical.below.dds_source.specs.declared.specifications.Source.{Source}
use Rattle.dds_physical.specs.Reading.{source_of}
use Rattle.dds_physical.specs.declared.physical_files.PhysicalSpec.{PhysicalSpec}
use Rattle.logical_model.below.dds_logical.specs.declared.views.LogicalSpec.{LogicalSpec}
use Rattle.logical_model.specs.Logical.{logical_of}
use Rattle.file_model.specs.declared.paths.PathSpec.{PathSpec}
use Rattle.file_model.specs.Paths.{repeated_in}
use Rattle.logical_model.specs.Bases.{LogicalFile, base_members}
use Rattle.logical_model.specs.FilePaths.{is_over, logical_paths}
use Rattle.logical_model.specs.SamePaths.{count_paths}
use Rattle.library_model.specs.declared.limits.TheConstants.{MOST_FILES}
use Rattle.library_model.specs.declared.requests.CreateLogicalFile.{CreateLogicalFile}
use Rattle.library_model.specs.declared.sources.NamedSource.{NamedSource}
use Rattle.library_model.specs.declared.replies.Reply.{Reply}
use Rattle.library_model.specs.declared.replies.Reply.TheVariants.{NameExists, LimitReached, NotJournaled, DuplicateKey, Done, DdsFault as DdsFaultReply}
use Rattle.library_model.specs.declared.replies.LimitKind.TheVariants.{Files, Paths}
use Rattle.library_model.specs.SourceList.{text_of}
use Rattle.library_steps.specs.declared.limits.TheConstants.{MOST_PATHS}
use Rattle.library_steps.specs.State.{Memory, FileState, MemberStatus, file_named, physical_spec}
use Rattle.library_steps.specs.Change.{Change, journaled, does}
use Rattle.library_steps.specs.Refusals.{◌>>=◌, refuse_if, refuse_with, named_or_refused, sequences_left}
use Rattle.library_steps.specs.Drafts.{author_of, library_draft}
use Rattle.library_steps.specs.LogicalFiles.{bases_of, paths_over}
use Rattle.library_steps.specs.SlotChange.{status_among}
use Rattle.library_steps.specs.Uses.{changer_of_any, unused}

-- what a file is made of: a source, and what it describes
pub record NewLogical : Type 0 where
  pub source : List ℕ
  pub spec : LogicalSpec

-- what a source that was read describes over the physical files that are there, or the first fault
abbrev pub logical_by : (List ℕ → Option PhysicalSpec) → Result Source DdsFault → Result LogicalSpec DdsFault
logical_by bases (Ok source) = logical_of bases source
logical_by bases (Err fault) = Err fault

abbrev pub logical_described : Memory → List ℕ → Result LogicalSpec DdsFault
logical_described m text = logical_by (λ name. physical_spec name m) (source_of text)

abbrev pub logical_or_refused : Result LogicalSpec DdsFault → Result LogicalSpec Reply
logical_or_refused (Ok spec) = Ok spec
logical_or_refused (Err fault) = Err (DdsFaultReply fault)

-- a member would have more different paths over it than there may be
abbrev pub has_many : List PathSpec → Memory → ℕ → Bool
has_many new m member = nat_lt MOST_PATHS (count_paths (paths_over member m ++ filter (is_over member) new))

-- a member that isn't journaled was changed since it was, and had two records or more then: a restart could bring equal keys back
abbrev pub has_undone : MemberStatus → Bool
has_undone status = is_none status.images && status.changed && nat_le 2 status.records_then

abbrev pub undone_number : Memory → ℕ → Option ℕ
undone_number m member = option_and_then (λ status. if has_undone status then Some status.number else None) (status_among member m.files)

-- the member of the first format, or a join's primary
abbrev pub first_undone : Memory → List ℕ → Option ℕ
first_undone m [] = None
first_undone m (member ∷ members) = undone_number m member

abbrev pub is_unique : List PathSpec → Bool
is_unique paths = list_any (λ path. path.unique) paths

-- the least record that has the key of a later one in the file's own path, where that is unique; of a join the primary's
abbrev pub first_repeated : List PathSpec → Memory → Option ℕ
first_repeated [] m = None
first_repeated (path ∷ paths) m = repeated_in path m.members

-- what is refused of a file that a source describes, because of the members that it stands over
abbrev pub over_members : Memory → CreateLogicalFile → (text : List ℕ) → LogicalSpec → Result NewLogical Reply
over_members m args text spec = do
  _ ← refuse_if (list_any (has_many (logical_paths (bases_of m) spec) m) (base_members (bases_of m) spec)) (LimitReached Paths MOST_PATHS)
  _ ← unused (changer_of_any (base_members (bases_of m) spec) m)
  _ ← refuse_with NotJournaled (if is_unique (logical_paths (bases_of m) spec) then first_undone m (base_members (bases_of m) spec) else None)
  _ ← refuse_with (DuplicateKey args.file) (first_repeated (logical_paths (bases_of m) spec) m)
  Ok (record { source = text; spec = spec })

unfoldable pub create_logical_plan : List NamedSource → Memory → CreateLogicalFile → Result NewLogical Reply
create_logical_plan sources m args = do
  _ ← sequences_left m
  _ ← refuse_if (is_some (file_named args.file m)) (NameExists args.file)
  _ ← refuse_if (nat_le MOST_FILES (length m.files)) (LimitReached Files MOST_FILES)
  text ← named_or_refused args.source (text_of sources args.source)
  spec ← logical_or_refused (logical_described m text)
  over_members m args text spec

abbrev pub logical_file : NewLogical → FileState
logical_file plan = record { source = plan.source; spec = LogicalFile plan.spec; members = [] }

abbrev pub with_logical : List ℕ → NewLogical → Memory → Memory
with_logical name plan m = record m { files = m.files ++ (name, logical_file plan) ∷ [] }

abbrev pub create_logical_change : Memory → ℕ → (timestamp : ℕ) → CreateLogicalFile → NewLogical → Change
create_logical_change m job timestamp args plan =
    journaled (library_draft (author_of m job timestamp) (FileCreated Logical args.file plan.source) ∷ []) true Done (with_logical args.file plan m)

abbrev pub create_logical_file : List NamedSource → Memory → ℕ → (timestamp : ℕ) → CreateLogicalFile → Result Change Reply
create_logical_file sources m job timestamp args = does (create_logical_change m job timestamp args) (create_logical_plan sources m args)
