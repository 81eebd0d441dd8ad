-- A source that names each field of a file again, and refers to it for its attributes.
use Rattle.std.specs.Prelude.{◌≡◌, ℕ, ◌+◌, ◌<◌, Bool, true, false, List, [], ◌∷◌, ◌++◌, length, Option, Some, None, codes}
use Rattle.key_spec.specs.declared.Ties.TheVariants.{Rising}
use Rattle.record_fmt.specs.declared.formats.Field.{Field}
use Rattle.record_fmt.specs.declared.formats.Format.{Format}
use Rattle.record_fmt.specs.Layout.{IsLaidOut}
use Rattle.dds_source.specs.declared.arguments.Argument.TheVariants as arguments
use Rattle.dds_source.specs.declared.keywords.Keyword.{Keyword}
use Rattle.dds_source.specs.declared.specifications.NameEntry.TheVariants as names
use Rattle.dds_source.specs.declared.specifications.Columns.{Columns}
use Rattle.dds_source.specs.declared.specifications.Source.{Source}
use Rattle.dds_source.specs.declared.specifications.Specification.{Specification}
use Rattle.dds_source.specs.declared.specifications.SpecificationKind.TheVariants as kinds
use Rattle.dds_physical.specs.declared.physical_files.PhysicalSpec.{PhysicalSpec}
use Rattle.dds_physical.specs.Names.{is_field}
use Rattle.dds_physical.specs.Defaults.{unspecified}

-- The source.

-- positions 29 to 38, blank but for R or not
abbrev pub columns : Bool → Columns
columns reference = record { reference = reference; length = None; data_type = None; decimals = None; usage = None }

-- REF of a file
abbrev pub reference_to : List ℕ → Keyword
reference_to file = record { name = codes "REF"; line = 1; column = 45; arguments = Some (arguments.Name file ∷ []) }

abbrev pub record_line : List ℕ → Specification
record_line name = record { line = 2; kind = kinds.Record; name = names.Named name; columns = columns false; keywords = [] }

-- R in 29, and nothing else but the name
abbrev pub field_line : ℕ → List ℕ → Specification
field_line line name = record { line = line; kind = kinds.Field; name = names.Named name; columns = columns true; keywords = [] }

abbrev pub field_lines : ℕ → List Field → List Specification
field_lines line [] = []
field_lines line (f ∷ fs) = field_line line f.name ∷ field_lines (line + 1) fs

-- the source that names them again
abbrev pub source_again : List ℕ → Format → Source
source_again file format = record {
  file = reference_to file ∷ [];
  specifications = record_line format.name ∷ field_lines 3 format.fields;
  last_line = 2 + length format.fields;
}

-- The file.

-- with the unspecified default of its type, and without texts
abbrev pub ArePlain : List Field → Type 0
ArePlain [] = Unit {0}
ArePlain (f ∷ fs) = (f.default ≡ unspecified f.ty.kind) × (f.text ≡ []) × ArePlain fs

-- none has the name of one before it
abbrev pub Differ : List Field → List Field → Type 0
Differ before [] = Unit {0}
Differ before (f ∷ fs) = (is_field (Some f.name) before ≡ false) × Differ (before ++ f ∷ []) fs

-- the format of a file that is there, of plain fields with names that differ
pub record IsCopied (formats : List ℕ → Option Format) (file : List ℕ) (format : Format) : Type 0 where
  pub there : formats file ≡ Some format
  pub some : 0 < length format.fields
  pub laid : IsLaidOut format.fields
  pub plain : ArePlain format.fields
  pub differ : Differ [] format.fields

-- the same format, without a key
abbrev pub file_again : Format → PhysicalSpec
file_again format = record { format = format; keys = record { parts = []; unique = false; ties = Rising } }
