-- CRTPF: a physical file and its first member, made from a source. (CL reference, CRTPF; Database Programming; DDS for Physical and Logical Files.)
use Rattle.std.specs.Prelude.{ℕ, ◌+◌, true, false, nat_le, nat_lt, Option, None, Result, Ok, Err, List, [], ◌∷◌, ◌++◌, length}
use Rattle.std.specs.Option.{is_some, option_map}
use Rattle.journal_model.below.entry_codec.specs.declared.kinds.FileKind.TheVariants.{Physical}
use Rattle.journal_model.below.entry_codec.specs.declared.kinds.EntryKind.TheVariants.{FileCreated}
use Rattle.logical_model.specs.Member.{empty_member}
use Rattle.logical_model.specs.Members.{put_member}
use Rattle.record_fmt.specs.declared.formats.Format.{Format}
use Rattle.record_fmt.specs.Layout.{record_length}
use Rattle.dds_physical.below.dds_source.specs.declared.faults.DdsFault.{DdsFault}
use Rattle.dds_physical.below.dds_source.specs.declared.specifications.Source.{Source}
use Rattle.dds_physical.specs.Reading.{source_of}
use Rattle.dds_physical.specs.declared.physical_files.PhysicalSpec.{PhysicalSpec}
use Rattle.dds_physical.specs.Physical.{physical_of}
use Rattle.logical_model.specs.Bases.{PhysicalFile}
use Rattle.library_model.specs.declared.limits.TheConstants.{MOST_FILES, LAST_MEMBER}
use Rattle.library_model.specs.declared.requests.CreatePhysicalFile.{CreatePhysicalFile}
use Rattle.library_model.specs.declared.sources.NamedSource.{NamedSource}
use Rattle.library_model.specs.declared.replies.Reply.{Reply}
use Rattle.library_model.specs.declared.replies.Reply.TheVariants.{NameExists, LimitReached, Done, DdsFault as DdsFaultReply}
use Rattle.library_model.specs.declared.replies.LimitKind.TheVariants.{Files, MemberNumbers}
use Rattle.library_model.specs.SourceList.{text_of}
use Rattle.library_steps.specs.State.{Memory, FileState, MemberStatus, file_named, fields_of, physical_spec}
use Rattle.library_steps.specs.Change.{Change, journaled, does}
use Rattle.library_steps.specs.Refusals.{◌>>=◌, refuse_if, named_or_refused, sequences_left}
use Rattle.library_steps.specs.Drafts.{author_of, member_draft}

-- what a file is made of: a source, and what it describes
pub record NewFile : Type 0 where
  pub source : List ℕ
  pub spec : PhysicalSpec

-- the record formats that a source may refer to: those of the physical files that are there
abbrev pub formats_of : Memory → List ℕ → Option Format
formats_of m name = option_map (λ spec. spec.format) (physical_spec name m)

-- what a source that was read describes, or the first fault
abbrev pub described_by : (List ℕ → Option Format) → Result Source DdsFault → Result PhysicalSpec DdsFault
described_by formats (Ok source) = physical_of formats source
described_by formats (Err fault) = Err fault

-- what a text describes, or its first fault
abbrev pub described : (List ℕ → Option Format) → List ℕ → Result PhysicalSpec DdsFault
described formats text = described_by formats (source_of text)

abbrev pub spec_or_refused : Result PhysicalSpec DdsFault → Result PhysicalSpec Reply
spec_or_refused (Ok spec) = Ok spec
spec_or_refused (Err fault) = Err (DdsFaultReply fault)

unfoldable pub create_plan : List NamedSource → Memory → CreatePhysicalFile → Result NewFile Reply
create_plan sources m args = do
  _ ← sequences_left m
  _ ← refuse_if (is_some (file_named args.file m)) (NameExists args.file)
  _ ← refuse_if (nat_le MOST_FILES (length m.files)) (LimitReached Files MOST_FILES)
  _ ← refuse_if (nat_lt LAST_MEMBER m.next_member) (LimitReached MemberNumbers LAST_MEMBER)
  text ← named_or_refused args.source (text_of sources args.source)
  spec ← spec_or_refused (described (formats_of m) text)
  Ok (record { source = text; spec = spec })

-- a member that was never journaled, nor changed
abbrev pub new_status : ℕ → MemberStatus
new_status number = record { number = number; images = None; changed = false; records_then = 0; last_break = 0 }

-- the file, with a member of its name
abbrev pub new_file : List ℕ → ℕ → NewFile → FileState
new_file name number plan = record { source = plan.source; spec = PhysicalFile plan.spec; members = (name, new_status number) ∷ [] }

-- one file more, whose first member has the next number
abbrev pub with_file : List ℕ → FileState → Memory → Memory
with_file name file m = record m {
  files = m.files ++ (name, file) ∷ [];
  members = put_member m.next_member (empty_member (record_length (fields_of file))) m.members;
  next_member = m.next_member + 1;
}

abbrev pub create_change : Memory → ℕ → (timestamp : ℕ) → CreatePhysicalFile → NewFile → Change
create_change m job timestamp args plan =
    journaled (member_draft (author_of m job timestamp) m.next_member (FileCreated Physical args.file plan.source) ∷ []) true Done
    (with_file args.file (new_file args.file m.next_member plan) m)

abbrev pub create_physical_file : List NamedSource → Memory → ℕ → (timestamp : ℕ) → CreatePhysicalFile → Result Change Reply
create_physical_file sources m job timestamp args = does (create_change m job timestamp args) (create_plan sources m args)
