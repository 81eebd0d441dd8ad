-- Which access path does a file have, by its fields and its key? (Database Programming, "Describing access paths for
-- database files". That the path of a file is told by what its key fields show, and not by their names, is this
-- project's own.)
use Rattle.std.specs.Prelude.{ℕ, ◌+◌, ◌==◌, List, [], ◌∷◌, map, Option, Some, None, if◌then◌else◌}
use Rattle.std.specs.List.{filter_map}
use Rattle.record_fmt.specs.FieldTypes.{width}
use Rattle.key_spec.specs.declared.KeyPart.{KeyPart}
use Rattle.key_spec.specs.declared.KeyPart.TheVariants.{Field as KeyField, Absent}
use Rattle.key_spec.specs.declared.KeySpec.{KeySpec}
use Rattle.record_fmt.specs.declared.formats.Field.{Field}
use Rattle.file_model.specs.declared.views.ViewField.{ViewField}
use Rattle.file_model.specs.declared.views.FieldSource.TheVariants.{Copied}
use Rattle.file_model.specs.declared.rules.Rules.{Rules}
use Rattle.file_model.specs.declared.paths.PathFormat.{PathFormat}
use Rattle.file_model.specs.declared.paths.PathSpec.{PathSpec}

-- the field of a format that begins at this byte of its image
abbrev pub field_from : (at start : ℕ) → List ViewField → Option ViewField
field_from at start [] = None
field_from at start (f ∷ fields) = if start == at then Some f else field_from at (start + width f.ty) fields

-- the field of a key's position
abbrev pub field_of_part : List ViewField → KeyPart → Option ViewField
field_of_part fields (KeyField t offset descend absval) = field_from offset 0 fields
field_of_part fields Absent = None

-- the key fields of a format, in the order of the key
abbrev pub key_fields : List ViewField → List KeyPart → List ViewField
key_fields fields parts = filter_map (field_of_part fields) parts

-- the positions of the key where the key fields alone stand one after another, from this byte on
abbrev pub key_parts : ℕ → List KeyPart → List KeyPart
key_parts at [] = []
key_parts at (KeyField t offset descend absval ∷ parts) = KeyField t at descend absval ∷ key_parts (at + width t) parts
key_parts at (Absent ∷ parts) = Absent ∷ key_parts at parts

-- a format of a path: over this member, of a file's format whose positions are those of the key
abbrev pub path_format : ℕ → Rules → List ViewField → List KeyPart → PathFormat
path_format member rules fields parts = record { member = member; rules = rules; fields = key_fields fields parts; key = key_parts 0 parts }

-- the fields of a physical file show themselves
abbrev pub own_fields : List Field → List ViewField
own_fields fields = map (λ f. record { ty = f.ty; source = Copied f.offset }) fields

abbrev pub every_record : Rules
every_record = record { statements = []; all = None }

-- the path of a simple file
abbrev pub simple_path : ℕ → Rules → List ViewField → KeySpec → PathSpec
simple_path member rules fields key = record { formats = path_format member rules fields key.parts ∷ []; unique = key.unique; ties = key.ties }

-- the path of a physical file with a key
abbrev pub physical_path : ℕ → List Field → KeySpec → PathSpec
physical_path member fields key = simple_path member every_record (own_fields fields) key
