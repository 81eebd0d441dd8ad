-- What lines describe: the record format's name, its fields, and the key.
-- (DDS for Physical and Logical Files, "Record format level", "Field level" and "Key field level".)
use Rattle.std.specs.Prelude.{ℕ, ◌+◌, List, [], ◌∷◌, Option, Some, None, codes}
use Rattle.record_fmt.specs.FieldTypes.{width}
use Rattle.key_spec.specs.declared.KeyPart.{KeyPart}
use Rattle.key_spec.specs.declared.KeyPart.TheVariants as parts
use Rattle.record_fmt.specs.declared.formats.Field.{Field}
use Rattle.dds_source.specs.declared.keywords.Keyword.{Keyword}
use Rattle.dds_physical.specs.declared.draft.Draft.{Draft}
use Rattle.dds_physical.specs.Keywords.{is_there}

abbrev pub nothing : Draft
nothing = record { name = None; fields = []; key_names = []; key_parts = [] }

-- the position of a key that a field is, with the keywords of the key's line
abbrev pub key_part : Option Field → List Keyword → KeyPart
key_part None ks = parts.Absent
key_part (Some f) ks = parts.Field f.ty f.offset (is_there (codes "DESCEND") ks) (is_there (codes "ABSVAL") ks)

-- the bytes that a position of a key has in a record
abbrev pub part_length : KeyPart → ℕ
part_length parts.Absent = 0
part_length (parts.Field ty offset descend absval) = width ty

-- the bytes that a key has in a record
abbrev pub key_length : List KeyPart → ℕ
key_length [] = 0
key_length (p ∷ ps) = part_length p + key_length ps
