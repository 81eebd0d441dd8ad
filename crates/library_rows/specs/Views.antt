-- Logical files over the customers, as their data descriptions say, and the libraries in which they stand.
use Rattle.std.specs.Prelude.{ℕ, zero, suc, Bool, true, false, Result, Ok, Option, Some, None, List, [], ◌∷◌, ◌++◌, replicate, reverse, slice_get, codes}
use Rattle.std.specs.Option.{option_map}
use Rattle.entry_codec.specs.declared.kinds.EntryKind.{EntryKind}
use Rattle.field_types.specs.declared.kinds.Kind.TheVariants.{Char}
use Rattle.field_types.specs.declared.kinds.FieldType.{FieldType}
use Rattle.field_types.specs.declared.values.Value.TheVariants.{Chars}
use Rattle.key_spec.specs.declared.KeyPart.{KeyPart}
use Rattle.key_spec.specs.declared.KeyPart.TheVariants.{Field as KeyField, Absent}
use Rattle.key_spec.specs.declared.KeySpec.{KeySpec}
use Rattle.key_spec.specs.declared.Ties.TheVariants.{Rising}
use Rattle.record_fmt.specs.declared.formats.Field.{Field}
use Rattle.file_model.specs.declared.views.FieldSource.TheVariants.{Copied, Substring}
use Rattle.file_model.specs.declared.views.LogicalField.{LogicalField}
use Rattle.file_model.specs.declared.rules.Rules.{Rules}
use Rattle.file_model.specs.declared.rules.Relation.TheVariants.{Below}
use Rattle.file_model.specs.declared.rules.Test.TheVariants as tests
use Rattle.file_model.specs.declared.rules.Choice.TheVariants.{Select}
use Rattle.file_model.specs.FilePaths.{every_record}
use Rattle.member_slots.specs.Member.{empty_member}
use Rattle.dds_logical.specs.declared.views.View.{View}
use Rattle.dds_logical.specs.declared.views.LogicalSpec.{LogicalSpec}
use Rattle.dds_logical.specs.declared.views.LogicalSpec.TheVariants.{Simple, Multi, Join}
use Rattle.library_model.specs.Named.{Named}
use Rattle.library_model.specs.declared.requests.Request.{Request}
use Rattle.library_model.specs.declared.requests.Request.TheVariants as request
use Rattle.library_model.specs.declared.requests.OpenOption.{OpenOption}
use Rattle.library_model.specs.declared.requests.OpenOption.TheVariants.{Input, All}
use Rattle.library_model.specs.declared.requests.AccessPath.{AccessPath}
use Rattle.library_model.specs.declared.requests.AccessPath.TheVariants.{File, Arrival}
use Rattle.library_model.specs.declared.requests.LockOption.TheVariants.{No}
use Rattle.library_model.specs.declared.sources.NamedSource.{NamedSource}
use Rattle.library_model.specs.declared.replies.Reply.{Reply}
use Rattle.library_model.specs.declared.replies.Reply.TheVariants.{Record}
use Rattle.library_steps.specs.State.{State, FileState, memory_of}
use Rattle.library_steps.specs.CreatePhysicalFile.{new_status}
use Rattle.library_steps.specs.CreateLogicalFile.{NewLogical, over_members, logical_file}
use Rattle.library_steps.specs.Step.{step}
use Rattle.library_rows.specs.Shown.{Told, told, told_by}
use Rattle.library_rows.specs.Customers.{cust, no_key, name_type, name_field, customers, library}

abbrev pub view_name : List ℕ
view_name = codes "VIEW"

abbrev pub old_name : List ℕ
old_name = codes "OLD"

-- ---- data descriptions

abbrev pub own_name : LogicalField
own_name = record { field = record { ty = name_type; source = Copied 0 }; read_only = false }

abbrev pub letter_type : FieldType
letter_type = record { kind = Char; length = 1; decimals = 0 }

abbrev pub letter_field : Field
letter_field = record { name = codes "LETTER"; ty = letter_type; offset = 0; default = Chars []; text = [] }

-- the first letter of the name
abbrev pub first_letter : LogicalField
first_letter = record { field = record { ty = letter_type; source = Substring (record { offset = 0; length = 1 }) }; read_only = true }

abbrev pub keyed : (unique : Bool) → List KeyPart → KeySpec
keyed unique parts = record { parts = parts; unique = unique; ties = Rising }

abbrev pub name_part : (descend : Bool) → KeyPart
name_part descend = KeyField name_type 0 descend false

-- names below these characters
abbrev pub names_below : List ℕ → Rules
names_below name = record {
  statements = record { choice = Select; conditions = record { field = record { ty = name_type; source = Copied 0 }; test = tests.Literal Below (Chars name) } ∷ [] } ∷ [];
  all = None;
}

abbrev pub named_view : (base format : List ℕ) → Rules → KeySpec → View
named_view base format rules keys = record { base = base; format = record { name = format; fields = name_field ∷ [] }; mapping = own_name ∷ []; rules = rules; keys = keys }

-- all customers by name, the last name first
abbrev pub backwards : LogicalSpec
backwards = Simple (named_view cust (codes "VIEWR") every_record (keyed false (name_part true ∷ [])))

-- no two customers have one name
abbrev pub one_each : LogicalSpec
one_each = Simple (named_view cust (codes "VIEWR") every_record (keyed true (name_part false ∷ [])))

-- the customers whose names are below C
abbrev pub first_names : LogicalSpec
first_names = Simple (named_view cust (codes "VIEWR") (names_below (codes "C")) (keyed false (name_part false ∷ [])))

-- without a key
abbrev pub unsorted : LogicalSpec
unsorted = Simple (named_view cust (codes "VIEWR") every_record no_key)

abbrev pub first_letters : LogicalSpec
first_letters = Simple (record { base = cust; format = record { name = codes "VIEWR"; fields = letter_field ∷ [] }; mapping = first_letter ∷ []; rules = every_record; keys = no_key })

-- customers and former ones, by name
abbrev pub old_and_new : LogicalSpec
old_and_new = Multi (named_view cust (codes "NEWR") every_record (keyed false (name_part false ∷ [])) ∷ named_view old_name (codes "OLDR") every_record (keyed false (name_part false ∷ [])) ∷ [])

-- customers with the former ones of the same name
abbrev pub came_back : LogicalSpec
came_back = Join (record {
  primary = cust;
  secondaries = record { file = old_name; from = 0; pairs = record { from = record { ty = name_type; source = Copied 0 }; to = record { ty = name_type; source = Copied 0 } } ∷ []; sequence = Absent } ∷ [];
  format = record { name = codes "VIEWR"; fields = name_field ∷ [] };
  fields = record { field = record { file = 1; field = record { ty = name_type; source = Copied 0 } }; shown = true } ∷ [];
  keys = no_key;
  keeps_missing = false;
})

-- ---- libraries

-- with a second file, of former customers
abbrev pub two_files : State
two_files = record (library no_key) {
  files = (cust, customers no_key) ∷ (old_name, record (customers no_key) { members = (old_name, new_status 2) ∷ [] }) ∷ [];
  members = record { number = 1; item = empty_member 5 } ∷ record { number = 2; item = empty_member 5 } ∷ [];
  next_member = 3;
}

abbrev pub seen_as : (name : List ℕ) → LogicalSpec → State → State
seen_as name spec s = record s { files = s.files ++ (name, logical_file (record { source = []; spec = spec })) ∷ [] }

-- with a logical file behind those that are there
abbrev pub seen : LogicalSpec → State → State
seen spec s = seen_as view_name spec s

-- with so many logical files, of which no two have one path
abbrev pub seen_often : ℕ → State → State
seen_often zero s = s
seen_often (suc count) s = seen_as (codes "V") (Simple (named_view cust (codes "VIEWR") (names_below (replicate (suc count) 65)) (keyed false (name_part false ∷ [])))) (seen_often count s)

-- ---- requests

abbrev pub create_view : (file source : List ℕ) → Request
create_view file source = request.CreateLogicalFile (record { file = file; source = source })

-- what is answered where its source describes this file
abbrev pub placed : LogicalSpec → State → Result NewLogical Reply
placed spec s = over_members (memory_of s) (record { file = view_name; source = view_name }) [] spec

abbrev pub may_be_placed : LogicalSpec → Result NewLogical Reply
may_be_placed spec = Ok (record { source = []; spec = spec })

abbrev pub open_view_as : OpenOption → AccessPath → (commit : Bool) → (member : List ℕ) → Request
open_view_as option access_path commit member =
    request.OpenFile (record { file = view_name; option = option; member = member; open_id = view_name; commit = commit; access_path = access_path })

abbrev pub open_view : Request
open_view = open_view_as All File false view_name

abbrev pub read_view : Request
read_view = request.Read (record { open_id = view_name; lock = No })

abbrev pub write_through : (format : Option (List ℕ)) → (name : List ℕ) → Request
write_through format name = request.Write (record { open_id = view_name; format = format; record_number = None; values = Some (Chars name) ∷ [] })

-- what a format shows of a record
abbrev pub shown : (format : List ℕ) → (rrn : ℕ) → (bytes : List ℕ) → Reply
shown format rrn bytes = Record (record { format = format; rrn = rrn; values = Chars bytes ∷ [] })

-- ---- sources

abbrev pub named_source : (text : List ℕ) → NamedSource
named_source text = record { name = view_name; text = text }

-- the entry that a request of J1 deposits last
abbrev pub last_told : List NamedSource → State → Request → Option Told
last_told sources s request = option_map told_by (slice_get (reverse (step sources s 1 100 request).0.entries) 0)

abbrev pub told_alone : EntryKind → Option Told
told_alone kind = Some (told None None kind)

abbrev pub files_after : List NamedSource → State → Request → Named FileState
files_after sources s request = (step sources s 1 100 request).0.files

abbrev pub made_from_source : (text : List ℕ) → LogicalSpec → Named FileState
made_from_source text spec = (view_name, logical_file (record { source = text; spec = spec })) ∷ []
