-- Which logical files can have their access paths, and whose records can stand in them? (DDS for Physical and Logical Files, "RENAME", "CONCAT",
-- "SST", "Data type" of a logical field, key field level; that a value which is shown at another type fits there is our own.)
use Rattle.std.specs.Prelude.{◌≡◌, ℕ, ◌+◌, ◌<◌, ◌≤◌, true, false, List, length, map, Some, None, AllPairs, Contains}
use Rattle.std.specs.List.{AllByRecursion}
use Rattle.field_types.specs.declared.kinds.Kind.TheVariants.{Char}
use Rattle.field_types.specs.declared.kinds.FieldType.{FieldType}
use Rattle.field_types.specs.declared.values.Value.{Value}
use Rattle.field_values.specs.FieldTypes.{IsFieldType}
use Rattle.field_values.specs.FieldBytes.{held, fault_of}
use Rattle.file_model.below.record_fmt.specs.declared.formats.Field.{Field}
use Rattle.file_model.specs.Layout.{IsLaidOut}
use Rattle.key_spec.specs.declared.KeyPart.{KeyPart}
use Rattle.key_spec.specs.declared.KeyPart.TheVariants.{Field as KeyField, Absent}
use Rattle.access_path.below.key_order.specs.declared.widths.TheConstants.{MOST_POSITIONS}
use Rattle.access_path.specs.KeyFields.{Matches}
use Rattle.member_slots.specs.Members.{NumberedMembers}
use Rattle.file_model.specs.declared.rules.Condition.{Condition}
use Rattle.file_model.specs.declared.rules.Rules.{Rules}
use Rattle.file_model.specs.declared.rules.Statement.{Statement}
use Rattle.file_model.specs.declared.rules.Test.{Test}
use Rattle.file_model.specs.declared.rules.Test.TheVariants as tests
use Rattle.file_model.specs.declared.views.FieldSource.{FieldSource}
use Rattle.file_model.specs.declared.views.FieldSource.TheVariants.{Copied, Converted, Concatenated, Substring}
use Rattle.file_model.specs.declared.views.Piece.{Piece}
use Rattle.file_model.specs.declared.views.ViewField.{ViewField}
use Rattle.file_model.specs.FilePaths.{field_from}
use Rattle.file_model.specs.Views.{pieces_length}
use Rattle.path_entrants.specs.declared.entrant.TheConstants.{MOST_FORMATS}
use Rattle.dds_logical.specs.declared.join_views.JoinedFile.{JoinedFile}
use Rattle.dds_logical.specs.declared.join_views.JoinView.{JoinView}
use Rattle.dds_logical.specs.declared.views.LogicalSpec.{LogicalSpec}
use Rattle.dds_logical.specs.declared.views.LogicalSpec.TheVariants.{Simple, Multi, Join}
use Rattle.dds_logical.specs.declared.views.View.{View}
use Rattle.logical_laws.specs.Bases.{Bases, base_names}
use Rattle.logical_laws.specs.Mapped.{IsFieldAt, IsTextAt}
use Rattle.physical_paths.specs.KeyedFiles.{IsRecord, HasRecordsOf}
use Rattle.logical_paths.specs.Steps.{shown_of, shown_in_join}

-- ---- fields that show a value of each record

-- each value that stands in a field of the one type fits the other
abbrev pub Widens : (from t : FieldType) → Type 0
Widens from t = (image : List ℕ) (v : Value) → held from image ≡ Some v → fault_of t v ≡ None

-- a field of another type lies there, whose values all fit
pub record IsWidened (base : List Field) (t from : FieldType) (offset : ℕ) : Type 0 where
  pub field : IsFieldAt base from offset
  pub widens : Widens from t

-- character fields one after another, for which there is room
pub record AreTexts (base : List Field) (t : FieldType) (pieces : List Piece) : Type 0 where
  pub kind : t.kind ≡ Char
  pub texts : AllByRecursion (IsTextAt base) pieces
  pub room : pieces_length pieces ≤ t.length

-- part of a character field, for which there is room
pub record IsTextPart (base : List Field) (t : FieldType) (piece : Piece) : Type 0 where
  pub kind : t.kind ≡ Char
  pub field : Field
  pub among : Contains base field
  pub text : field.ty.kind ≡ Char
  pub behind : field.offset ≤ piece.offset
  pub within : piece.offset + piece.length ≤ field.offset + field.ty.length
  pub room : piece.length ≤ t.length

abbrev pub ShowsSource : List Field → FieldType → FieldSource → Type 0
ShowsSource base t (Copied offset) = IsFieldAt base t offset
ShowsSource base t (Converted from offset) = IsWidened base t from offset
ShowsSource base t (Concatenated pieces) = AreTexts base t pieces
ShowsSource base t (Substring piece) = IsTextPart base t piece

-- the field shows a value of each record with these fields
pub record IsShownOf (base : List Field) (f : ViewField) : Type 0 where
  pub allowed : IsFieldType f.ty
  pub source : ShowsSource base f.ty f.source

-- ---- keys

-- a field begins there in a record of the format, which is of this type and shows a value of each record of the base file
pub record IsPartAt (base : List Field) (fields : List ViewField) (t : FieldType) (offset : ℕ) : Type 0 where
  pub field : ViewField
  pub found : field_from offset 0 fields ≡ Some field
  pub ty : field.ty ≡ t
  pub shown : IsShownOf base field

-- the position is such a field, or one that the format lacks
abbrev pub IsPartOver : List Field → List ViewField → KeyPart → Type 0
IsPartOver base fields (KeyField t offset descend absval) = IsPartAt base fields t offset
IsPartOver base fields Absent = Unit {0}

-- ---- select and omit statements

abbrev pub IsTestOver : List Field → Test → Type 0
IsTestOver base (tests.Literal relation literal) = Unit {0}
IsTestOver base (tests.Field relation other) = IsShownOf base other
IsTestOver base (tests.Range low high) = Unit {0}
IsTestOver base (tests.Values values) = Unit {0}

pub record IsConditionOver (base : List Field) (condition : Condition) : Type 0 where
  pub field : IsShownOf base condition.field
  pub test : IsTestOver base condition.test

abbrev pub IsStatementOver : List Field → Statement → Type 0
IsStatementOver base statement = AllByRecursion (IsConditionOver base) statement.conditions

-- each field that they compare shows a value of each record
abbrev pub AreRulesOver : List Field → Rules → Type 0
AreRulesOver base rules = AllByRecursion (IsStatementOver base) rules.statements

-- ---- files

-- what a format shows, selects and has as its key is of fields of its base file
pub record IsKeyedView (base : List Field) (view : View) : Type 0 where
  pub laid : IsLaidOut base
  pub fields : AllByRecursion (IsShownOf base) (shown_of view.mapping)
  pub rules : AreRulesOver base view.rules
  pub parts : AllByRecursion (IsPartOver base (shown_of view.mapping)) view.keys.parts
  pub few : length view.keys.parts ≤ MOST_POSITIONS

abbrev pub IsViewOver : Bases → View → Type 0
IsViewOver bases view = IsKeyedView (bases view.base).fields view

-- where two formats have a position, they have it in one type and direction
pub record AreKeyedViews (bases : Bases) (views : List View) : Type 0 where
  pub each : AllByRecursion (IsViewOver bases) views
  pub few : length views ≤ MOST_FORMATS
  pub match : AllPairs Matches (map (λ view. view.keys.parts) views)

-- the field of JDUPSEQ is one of these, if there is one
abbrev pub IsSequenceOf : List Field → KeyPart → Type 0
IsSequenceOf base (KeyField t offset descend absval) = IsFieldAt base t offset
IsSequenceOf base Absent = Unit {0}

-- what a secondary file is reached by are fields of it
pub record IsKeyedFile (base : List Field) (joined : JoinedFile) : Type 0 where
  pub laid : IsLaidOut base
  pub pairs : AllByRecursion (λ pair. IsShownOf base pair.to) joined.pairs
  pub sequence : IsSequenceOf base joined.sequence
  pub few : length joined.pairs < MOST_POSITIONS

abbrev pub IsFileOver : Bases → JoinedFile → Type 0
IsFileOver bases joined = IsKeyedFile (bases joined.file).fields joined

-- the key is by fields of the primary file
pub record IsKeyedJoin (bases : Bases) (view : JoinView) : Type 0 where
  pub laid : IsLaidOut (bases view.primary).fields
  pub parts : AllByRecursion (IsPartOver (bases view.primary).fields (shown_in_join view.fields)) view.keys.parts
  pub few : length view.keys.parts ≤ MOST_POSITIONS
  pub secondaries : AllByRecursion (IsFileOver bases) view.secondaries

abbrev pub IsKeyedLogical : Bases → LogicalSpec → Type 0
IsKeyedLogical bases (Simple view) = IsViewOver bases view
IsKeyedLogical bases (Multi views) = AreKeyedViews bases views
IsKeyedLogical bases (Join view) = IsKeyedJoin bases view

-- ---- records

-- the image is a record of each base file of the logical file that has this member
abbrev pub IsRecordOfBases : Bases → LogicalSpec → (member : ℕ) → (image : List ℕ) → Type 0
IsRecordOfBases bases spec member image = AllByRecursion (λ name. (bases name).member ≡ member → IsRecord (bases name).fields image) (base_names spec)

-- the members of its base files have records of these
abbrev pub HaveRecords : Bases → LogicalSpec → NumberedMembers → Type 0
HaveRecords bases spec members = AllByRecursion (λ name. HasRecordsOf (bases name).fields (bases name).member members) (base_names spec)

-- the base files' fields lie one behind another
abbrev pub AreLaidOut : Bases → LogicalSpec → Type 0
AreLaidOut bases spec = AllByRecursion (λ name. IsLaidOut (bases name).fields) (base_names spec)

-- no secondary file is reached by more fields than a key can have; a data description doesn't limit them
abbrev pub HaveFewPairs : LogicalSpec → Type 0
HaveFewPairs (Simple view) = Unit {0}
HaveFewPairs (Multi views) = Unit {0}
HaveFewPairs (Join view) = AllByRecursion (λ joined. length joined.pairs < MOST_POSITIONS) view.secondaries

-- where no two records may have one key, there is a key; in a file of several formats they may
abbrev pub HasKeyIfUnique : LogicalSpec → Type 0
HasKeyIfUnique (Simple view) = view.keys.unique ≡ true → 1 ≤ length view.keys.parts
HasKeyIfUnique (Multi views) = AllByRecursion (λ view. view.keys.unique ≡ false) views
HasKeyIfUnique (Join view) = view.keys.unique ≡ true → 1 ≤ length view.keys.parts
