-- What do the rules of data descriptions say of the sources of a journal's files? (DDS for Physical and Logical Files. What a journal needs of them is
-- told by `Descriptions` of journal_model.)
use Rattle.std.specs.Prelude.{ℕ, ◌==◌, ◌&&◌, Bool, Option, Some, None, Result, Ok, Err, List, [], ◌∷◌, ◌++◌, length, option_to_list, if◌then◌else◌, codes}
use Rattle.std.specs.List.{filter_map}
use Rattle.std.specs.Option.{is_some, option_and_then, option_map}
use Rattle.entry_codec.specs.declared.kinds.FileKind.{FileKind}
use Rattle.entry_codec.specs.declared.kinds.FileKind.TheVariants.{Physical, Logical}
use Rattle.record_fmt.specs.declared.formats.Field.{Field}
use Rattle.record_fmt.specs.declared.formats.Format.{Format}
use Rattle.record_fmt.specs.Layout as layout
use Rattle.record_fmt.specs.Records.{record_held}
use Rattle.dds_source.specs.declared.arguments.Argument.{Argument}
use Rattle.dds_source.specs.declared.faults.DdsFault.{DdsFault}
use Rattle.dds_source.specs.declared.keywords.Keyword.{Keyword}
use Rattle.dds_source.specs.declared.specifications.Source.{Source}
use Rattle.dds_source.specs.declared.specifications.Specification.{Specification}
use Rattle.dds_source.specs.Reading.{source_of}
use Rattle.dds_physical.specs.declared.physical_files.PhysicalSpec.{PhysicalSpec}
use Rattle.dds_physical.specs.Keywords.{first_named, arguments_of}
use Rattle.dds_physical.specs.KeywordRules.{argument_name}
use Rattle.dds_physical.specs.References.{reference_file}
use Rattle.dds_logical.specs.declared.views.LogicalSpec.{LogicalSpec}
use Rattle.dds_logical.specs.FormatLines.{FormatLines, formats_in, is_join_file}
use Rattle.dds_logical.specs.JoinViews.{files_joined}
use Rattle.dds_logical.specs.Logical.{base_name}
use Rattle.library_steps.specs.Bases.{FileSpec, PhysicalFile, LogicalFile}
use Rattle.journal_model.specs.Catalogue.{CatalogFile, Descriptions}
use Rattle.library_model.specs.Named.{Named, named}
use Rattle.library_steps.specs.CreatePhysicalFile.{described}
use Rattle.library_steps.specs.CreateLogicalFile.{logical_by}
use Rattle.library_steps.specs.State.{FileState, physical_in, format_in}

-- ---- what a source describes

-- what the physical file of this name is
abbrev pub spec_named : Named FileState → List ℕ → Option PhysicalSpec
spec_named files name = option_and_then (λ file. physical_in file.spec) (named name files)

abbrev pub format_named : Named FileState → List ℕ → Option Format
format_named files name = option_map (λ spec. spec.format) (spec_named files name)

abbrev pub if_physical : Result PhysicalSpec DdsFault → Option FileSpec
if_physical (Ok spec) = Some (PhysicalFile spec)
if_physical (Err fault) = None

abbrev pub if_logical : Result LogicalSpec DdsFault → Option FileSpec
if_logical (Ok spec) = Some (LogicalFile spec)
if_logical (Err fault) = None

-- what a source describes beside these files; nothing where something is wrong with it
abbrev pub spec_beside : Named FileState → FileKind → (source : List ℕ) → Option FileSpec
spec_beside files Physical source = if_physical (described (format_named files) source)
spec_beside files Logical source = if_logical (logical_by (spec_named files) (source_of source))

-- ---- the files of a journal, each described beside those before it

abbrev pub with_described : CatalogFile → Option FileSpec → Named FileState → Named FileState
with_described file None before = before
with_described file (Some spec) before = before ++ (file.name, record { source = file.source; spec = spec; members = [] }) ∷ []

abbrev pub described_behind : (before : Named FileState) → List CatalogFile → Named FileState
described_behind before [] = before
described_behind before (file ∷ files) = described_behind (with_described file (spec_beside before file.kind file.source) before) files

-- without their members
abbrev pub described_files : List CatalogFile → Named FileState
described_files files = described_behind [] files

-- ---- the files that a source names

abbrev pub second_name : List Argument → Option (List ℕ)
second_name [] = None
second_name (a ∷ []) = None
second_name (a ∷ b ∷ []) = argument_name b
second_name (a ∷ b ∷ c ∷ more) = None

abbrev pub file_in_keyword : Option Keyword → Option (List ℕ)
file_in_keyword None = None
file_in_keyword (Some k) = second_name (arguments_of k)

-- the file that REFFLD names
abbrev pub file_of_line : Specification → Option (List ℕ)
file_of_line s = file_in_keyword (first_named (codes "REFFLD") s.keywords)

-- the files that PFILE or JFILE names
abbrev pub base_files : List FormatLines → List (List ℕ)
base_files formats = if is_join_file formats then joined_by formats else filter_map base_name formats
  where
    joined_by : List FormatLines → List (List ℕ)
    joined_by [] = []
    joined_by (f ∷ fs) = files_joined f

abbrev pub names_by : FileKind → Source → List (List ℕ)
names_by Physical source = option_to_list (reference_file source.file) ++ filter_map file_of_line source.specifications
names_by Logical source = base_files (formats_in source.specifications)

abbrev pub names_if : FileKind → Result Source DdsFault → List (List ℕ)
names_if kind (Ok source) = names_by kind source
names_if kind (Err fault) = []

-- ---- records

abbrev pub fields_if : Option FileSpec → List Field
fields_if None = []
fields_if (Some spec) = (format_in spec).fields

-- the fields of the physical file that a source describes
abbrev pub fields_beside : List CatalogFile → (source : List ℕ) → List Field
fields_beside files source = fields_if (spec_beside (described_files files) Physical source)

-- as long as its fields together, with a value in each
abbrev pub is_record_of : List Field → (image : List ℕ) → Bool
is_record_of fields image = (length image == layout.record_length fields) && is_some (record_held fields image)

-- ---- the rules

abbrev pub descriptions : Descriptions
descriptions = record {
  accepts = λ files kind source. is_some (spec_beside (described_files files) kind source);
  names = λ kind source. names_if kind (source_of source);
  record_length = λ files source. layout.record_length (fields_beside files source);
  is_record = λ files source image. is_record_of (fields_beside files source) image;
}
