-- The files and sources of the worked rows. Our own.
use Rattle.std.specs.Prelude.{ℕ, Bool, true, false, nat_eq, List, [], ◌∷◌, map, Option, Some, None, Result, Ok, Err, if◌then◌else◌, codes, pos}
use lib.Pointwise.{pointwise}
use Rattle.field_types.specs.declared.kinds.Kind.TheVariants.{Char, Packed, Date}
use Rattle.field_types.specs.declared.kinds.FieldType.{FieldType}
use Rattle.field_types.specs.declared.values.Value.{Value}
use Rattle.field_types.specs.declared.values.Value.TheVariants.{Chars, Number}
use Rattle.key_spec.specs.declared.Ties.TheVariants.{Rising}
use Rattle.record_fmt.specs.declared.formats.Field.{Field}
use Rattle.key_spec.specs.declared.Ties.{Ties}
use Rattle.key_spec.specs.declared.KeyPart.{KeyPart}
use Rattle.key_spec.specs.declared.KeySpec.{KeySpec}
use Rattle.text_lines.specs.Lines.{text_of_lines}
use Rattle.file_model.specs.declared.views.Piece.{Piece}
use Rattle.file_model.specs.declared.views.FieldSource.{FieldSource}
use Rattle.file_model.specs.declared.views.FieldSource.TheVariants.{Copied}
use Rattle.file_model.specs.declared.views.ViewField.{ViewField}
use Rattle.file_model.specs.declared.views.LogicalField.{LogicalField}
use Rattle.file_model.specs.declared.rules.Test.{Test}
use Rattle.file_model.specs.declared.rules.Choice.{Choice}
use Rattle.file_model.specs.declared.rules.Statement.{Statement}
use Rattle.file_model.specs.declared.rules.Rules.{Rules}
use Rattle.std.specs.Option.{option_map}
use Rattle.dds_source.specs.declared.arguments.Argument.{Argument}
use Rattle.dds_source.specs.declared.arguments.Argument.TheVariants as arguments
use Rattle.dds_source.specs.declared.keywords.Keyword.{Keyword}
use Rattle.dds_source.specs.declared.specifications.NameEntry.{NameEntry}
use Rattle.dds_source.specs.declared.specifications.Columns.{Columns}
use Rattle.dds_source.specs.declared.specifications.Specification.{Specification}
use Rattle.dds_source.specs.declared.specifications.SpecificationKind.{SpecificationKind}
use Rattle.dds_source.specs.declared.specifications.LengthEntry.TheVariants.{Exactly}
use Rattle.dds_source.specs.declared.faults.DdsFault.{DdsFault}
use Rattle.dds_source.specs.declared.faults.DdsCause.{DdsCause}
use Rattle.dds_source.specs.Reading.{source_in}
use Rattle.dds_physical.specs.declared.physical_files.PhysicalSpec.{PhysicalSpec}
use Rattle.dds_physical.specs.Defaults.{unspecified}
use Rattle.file_model.specs.declared.joins.JoinPair.{JoinPair}
use Rattle.file_model.specs.declared.paths.PathSpec.{PathSpec}
use Rattle.file_model.specs.FilePaths.{simple_path}
use Rattle.dds_logical.specs.declared.join_views.JoinView.{JoinView}
use Rattle.dds_logical.specs.declared.join_views.JoinedFile.{JoinedFile}
use Rattle.dds_logical.specs.declared.join_views.JoinedField.{JoinedField}
use Rattle.dds_logical.specs.declared.views.View.{View}
use Rattle.dds_logical.specs.declared.views.LogicalSpec.{LogicalSpec}
use Rattle.dds_logical.specs.declared.views.LogicalSpec.TheVariants.{Simple, Multi, Join}
use Rattle.dds_logical.specs.Logical.{logical_of}

-- ---- physical files

abbrev pub characters : ℕ → FieldType
characters length = record { kind = Char; length = length; decimals = 0 }

abbrev pub packed : (length decimals : ℕ) → FieldType
packed length decimals = record { kind = Packed; length = length; decimals = decimals }

abbrev pub whole : ℕ → Value
whole n = Number (record { units = pos n; scale = 0 })

-- a field without a text and with the default of its type
abbrev pub plain : List ℕ → FieldType → (offset : ℕ) → Field
plain name t offset = record { name = name; ty = t; offset = offset; default = unspecified t.kind; text = [] }

-- a file without a key
abbrev pub file : List ℕ → List Field → PhysicalSpec
file format fields = record { format = record { name = format; fields = fields }; keys = record { parts = []; unique = false; ties = Rising } }

-- NAME 5A, NO 3P 0
abbrev pub cust : PhysicalSpec
cust = file (codes "CUSTR") (plain (codes "NAME") (characters 5) 0 ∷ plain (codes "NO") (packed 3 0) 5 ∷ [])

-- ORD 3P 0, LINE 3P 0
abbrev pub details : PhysicalSpec
details = file (codes "DETAILR") (plain (codes "ORD") (packed 3 0) 0 ∷ plain (codes "LINE") (packed 3 0) 2 ∷ [])

-- ORD 3P 0
abbrev pub headers : PhysicalSpec
headers = file (codes "HEADERR") (plain (codes "ORD") (packed 3 0) 0 ∷ [])

-- NO 3P 0, AMT 3P 0, CODE 1A
abbrev pub orders : PhysicalSpec
orders = file (codes "ORDERR") (plain (codes "NO") (packed 3 0) 0 ∷ plain (codes "AMT") (packed 3 0) 2 ∷ plain (codes "CODE") (characters 1) 4 ∷ [])

-- ID 3P 0, CODE 1A, DAY L
abbrev pub chained : PhysicalSpec
chained = file (codes "CHAINR") (plain (codes "ID") (packed 3 0) 0 ∷ plain (codes "CODE") (characters 1) 2 ∷ plain (codes "DAY") (record { kind = Date; length = 10; decimals = 0 }) 3 ∷ [])

-- W 20000A
abbrev pub wide : PhysicalSpec
wide = file (codes "WIDER") (plain (codes "W") (characters 20000) 0 ∷ [])

-- the files that are there
abbrev pub library : List ℕ → Option PhysicalSpec
library name =
    if pointwise nat_eq name (codes "CUST") then Some cust
    else (if pointwise nat_eq name (codes "HEADERS") then Some headers
    else (if pointwise nat_eq name (codes "DETAILS") then Some details
    else (if pointwise nat_eq name (codes "ORDERS") then Some orders
    else (if pointwise nat_eq name (codes "CHAINED") then Some chained
    else (if pointwise nat_eq name (codes "WIDE") then Some wide
    else None)))))

-- ---- formats over one file

abbrev pub text : List ℕ → Value
text bytes = Chars bytes

abbrev pub piece : (offset size : ℕ) → Piece
piece offset size = record { offset = offset; length = size }

abbrev pub field_itself : FieldType → (offset : ℕ) → ViewField
field_itself t offset = record { ty = t; source = Copied offset }

abbrev pub shown : FieldType → FieldSource → LogicalField
shown t source = record { field = record { ty = t; source = source }; read_only = false }

abbrev pub read_only : FieldType → FieldSource → LogicalField
read_only t source = record { field = record { ty = t; source = source }; read_only = true }

abbrev pub rules : List Statement → Option Choice → Rules
rules statements all = record { statements = statements; all = all }

abbrev pub all_records : Rules
all_records = rules [] None

-- tests of one field
abbrev pub statement : Choice → ViewField → List Test → Statement
statement choice field tests = record { choice = choice; conditions = map (λ t. record { field = field; test = t }) tests }

abbrev pub keyed : (unique : Bool) → Ties → List KeyPart → KeySpec
keyed unique ties parts = record { parts = parts; unique = unique; ties = ties }

abbrev pub keyless : KeySpec
keyless = keyed false Rising []

abbrev pub view : List ℕ → List Field → List LogicalField → Rules → KeySpec → View
view base fields mapping rules keys = record { base = base; format = record { name = codes "VIEWR"; fields = fields }; mapping = mapping; rules = rules; keys = keys }

-- all fields of a file, under the name of a format
abbrev pub all_of : List ℕ → List ℕ → PhysicalSpec → KeySpec → View
all_of base name spec keys = record {
  base = base;
  format = record { name = name; fields = spec.format.fields };
  mapping = map (λ f. shown f.ty (Copied f.offset)) spec.format.fields;
  rules = all_records;
  keys = keys;
}

abbrev pub all_of_cust : Rules → KeySpec → View
all_of_cust rules keys = record (all_of (codes "CUST") (codes "VIEWR") cust keys) { rules = rules }

-- ORD of a file, in a format with key positions that it lacks
abbrev pub ordered : List ℕ → List ℕ → List KeyPart → View
ordered base name parts = record {
  base = base;
  format = record { name = name; fields = plain (codes "ORD") (packed 3 0) 0 ∷ [] };
  mapping = shown (packed 3 0) (Copied 0) ∷ [];
  rules = all_records;
  keys = keyed false Rising parts;
}

-- ---- joins

-- fields with equal values, by their types and bytes
abbrev pub pair : FieldType → (from : ℕ) → FieldType → (to : ℕ) → JoinPair
pair t from u to = record { from = field_itself t from; to = field_itself u to }

abbrev pub joined : List ℕ → (from : ℕ) → List JoinPair → KeyPart → JoinedFile
joined file from pairs sequence = record { file = file; from = from; pairs = pairs; sequence = sequence }

-- a field of the file of a place
abbrev pub seen : (place : ℕ) → FieldType → FieldSource → JoinedField
seen place t source = record { field = record { file = place; field = record { ty = t; source = source } }; shown = true }

abbrev pub unseen : (place : ℕ) → FieldType → FieldSource → JoinedField
unseen place t source = record (seen place t source) { shown = false }

-- of CUST, without a key and without JDFTVAL
abbrev pub unkeyed_join : List JoinedFile → List Field → List JoinedField → JoinView
unkeyed_join secondaries format_fields fields = record {
  primary = codes "CUST";
  secondaries = secondaries;
  format = record { name = codes "JOINR"; fields = format_fields };
  fields = fields;
  keys = keyless;
  keeps_missing = false;
}

-- ---- access paths

-- the path of a format over a member
abbrev pub view_path : (member : ℕ) → View → PathSpec
view_path member view = simple_path member view.rules (map (λ f. f.field) view.mapping) view.keys

abbrev pub simple_view_path : LogicalSpec → Option PathSpec
simple_view_path (Simple view) = Some (view_path 1 view)
simple_view_path (Multi views) = None
simple_view_path (Join view) = None

-- of a simple file over member 1
abbrev pub path_described : Result LogicalSpec DdsFault → Option PathSpec
path_described (Ok spec) = simple_view_path spec
path_described (Err fault) = None

-- ---- sources

-- a keyword with arguments, by its line and column
abbrev pub keyword : (line column : ℕ) → List ℕ → List Argument → Keyword
keyword line column name args = record { name = name; line = line; column = column; arguments = Some args }

abbrev pub flag : (line column : ℕ) → List ℕ → Keyword
flag line column name = record { name = name; line = line; column = column; arguments = None }

abbrev pub word : List ℕ → Argument
word name = arguments.Name name

abbrev pub number : ℕ → Argument
number n = arguments.Number (record { units = pos n; scale = 0 })

abbrev pub quoted : List ℕ → Argument
quoted characters = arguments.Quoted characters

abbrev pub special : List ℕ → Argument
special characters = arguments.Special characters

abbrev pub blank : Columns
blank = record { reference = false; length = None; data_type = None; decimals = None; usage = None }

-- positions 30 to 38
abbrev pub entries : (length : Option ℕ) → (data_type : Option ℕ) → (decimals : Option ℕ) → (usage : Option ℕ) → Columns
entries length data_type decimals usage = record { reference = false; length = option_map Exactly length; data_type = data_type; decimals = decimals; usage = usage }

abbrev pub referring : Columns
referring = record blank { reference = true }

abbrev pub line : ℕ → SpecificationKind → NameEntry → Columns → List Keyword → Specification
line at kind name columns keywords = record { line = at; kind = kind; name = name; columns = columns; keywords = keywords }

-- what a source of these lines describes over these files; the last line is the last of the source
abbrev pub described : (last_line : ℕ) → (file : List Keyword) → List Specification → Result LogicalSpec DdsFault
described last_line file specifications = logical_of library (record { file = file; specifications = specifications; last_line = last_line })

-- what a text describes over these files
abbrev pub described_by_text : List (List ℕ) → Result LogicalSpec DdsFault
described_by_text lines = logical_of library (source_in (text_of_lines lines))

abbrev pub fault : (line column : ℕ) → DdsCause → Result LogicalSpec DdsFault
fault line column cause = Err (record { line = line; column = column; cause = cause })
