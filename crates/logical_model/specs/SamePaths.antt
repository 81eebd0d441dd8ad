-- When do two files have one access path? Where base members, base fields, rules, key positions, UNIQUE and the order of equal keys are equal.
-- (Database Programming, "Sharing access paths". Names of fields have no part in it; NL is GE, and NG is LE.)
use Rattle.std.specs.Prelude.{ℕ, zero, suc, ℤ, pos, negsuc, ◌+◌, ◌==◌, ◌&&◌, Bool, true, false, not, Option, Some, None, List, [], ◌∷◌, length, filter, if◌then◌else◌}
use Rattle.std.specs.List.{list_any}
use Rattle.std.specs.Cmp.Lexicographic.{pointwise}
use Rattle.std.specs.Str.{bytes_eq}
use Rattle.field_types.specs.declared.kinds.Kind.{Kind}
use Rattle.field_types.specs.declared.kinds.Kind.TheVariants.{Char, Zoned, Packed, Binary, Date, Time, Stamp}
use Rattle.field_types.specs.declared.kinds.FieldType.{FieldType}
use Rattle.field_types.specs.declared.values.Dec.{Dec}
use Rattle.field_types.specs.declared.values.Value.{Value}
use Rattle.field_types.specs.declared.values.Value.TheVariants.{Chars, Number}
use Rattle.key_spec.specs.declared.KeyPart.{KeyPart}
use Rattle.key_spec.specs.declared.KeyPart.TheVariants.{Field, Absent}
use Rattle.key_spec.specs.declared.Ties.{Ties}
use Rattle.key_spec.specs.declared.Ties.TheVariants.{Rising, Falling}
use Rattle.dds_logical.below.file_model.specs.declared.views.Piece.{Piece}
use Rattle.dds_logical.below.file_model.specs.declared.views.FieldSource.{FieldSource}
use Rattle.dds_logical.below.file_model.specs.declared.views.FieldSource.TheVariants.{Copied, Converted, Concatenated, Substring}
use Rattle.dds_logical.below.file_model.specs.declared.views.ViewField.{ViewField}
use Rattle.dds_logical.below.file_model.specs.declared.rules.Relation.{Relation}
use Rattle.dds_logical.below.file_model.specs.declared.rules.Relation.TheVariants.{Equals, Differs, Below, AtMost, Above, AtLeast}
use Rattle.dds_logical.below.file_model.specs.declared.rules.Test.{Test}
use Rattle.dds_logical.below.file_model.specs.declared.rules.Test.TheVariants as tests
use Rattle.dds_logical.below.file_model.specs.declared.rules.Condition.{Condition}
use Rattle.dds_logical.below.file_model.specs.declared.rules.Choice.{Choice}
use Rattle.dds_logical.below.file_model.specs.declared.rules.Choice.TheVariants.{Select, Omit}
use Rattle.dds_logical.below.file_model.specs.declared.rules.Statement.{Statement}
use Rattle.dds_logical.below.file_model.specs.declared.rules.Rules.{Rules}
use Rattle.dds_logical.below.file_model.specs.declared.paths.PathFormat.{PathFormat}
use Rattle.dds_logical.below.file_model.specs.declared.paths.PathSpec.{PathSpec}

abbrev same_flag : Bool → Bool → Bool
same_flag true flag = flag
same_flag false flag = not flag

-- the kinds, the relations and the choices by their places in their declarations
abbrev kind_number : Kind → ℕ
kind_number Char = 0
kind_number Zoned = 1
kind_number Packed = 2
kind_number Binary = 3
kind_number Date = 4
kind_number Time = 5
kind_number Stamp = 6

abbrev relation_number : Relation → ℕ
relation_number Equals = 0
relation_number Differs = 1
relation_number Below = 2
relation_number AtMost = 3
relation_number Above = 4
relation_number AtLeast = 5

abbrev chooses : Choice → Bool
chooses Select = true
chooses Omit = false

abbrev falls : Ties → Bool
falls Rising = false
falls Falling = true

abbrev pub same_type : FieldType → FieldType → Bool
same_type t u = (kind_number t.kind == kind_number u.kind) && (t.length == u.length) && (t.decimals == u.decimals)

abbrev same_units : ℤ → ℤ → Bool
same_units (pos n) (pos k) = n == k
same_units (negsuc n) (negsuc k) = n == k
same_units (pos n) (negsuc k) = false
same_units (negsuc n) (pos k) = false

abbrev pub same_value : Value → Value → Bool
same_value (Chars text) (Chars other) = bytes_eq text other
same_value (Number n) (Number k) = same_units n.units k.units && (n.scale == k.scale)
same_value (Chars text) (Number k) = false
same_value (Number n) (Chars other) = false

abbrev same_piece : Piece → Piece → Bool
same_piece p q = (p.offset == q.offset) && (p.length == q.length)

abbrev same_source : FieldSource → FieldSource → Bool
same_source (Copied at) (Copied offset) = at == offset
same_source (Converted t at) (Converted u offset) = same_type t u && (at == offset)
same_source (Concatenated ps) (Concatenated qs) = pointwise same_piece ps qs
same_source (Substring p) (Substring q) = same_piece p q
same_source (Copied at) (Converted u offset) = false
same_source (Copied at) (Concatenated qs) = false
same_source (Copied at) (Substring q) = false
same_source (Converted t at) (Copied offset) = false
same_source (Converted t at) (Concatenated qs) = false
same_source (Converted t at) (Substring q) = false
same_source (Concatenated ps) (Copied offset) = false
same_source (Concatenated ps) (Converted u offset) = false
same_source (Concatenated ps) (Substring q) = false
same_source (Substring p) (Copied offset) = false
same_source (Substring p) (Converted u offset) = false
same_source (Substring p) (Concatenated qs) = false

abbrev pub same_field : ViewField → ViewField → Bool
same_field f g = same_type f.ty g.ty && same_source f.source g.source

abbrev same_relation : Relation → Relation → Bool
same_relation r q = relation_number r == relation_number q

abbrev same_test : Test → Test → Bool
same_test (tests.Literal r v) (tests.Literal q w) = same_relation r q && same_value v w
same_test (tests.Field r f) (tests.Field q g) = same_relation r q && same_field f g
same_test (tests.Range low high) (tests.Range least most) = same_value low least && same_value high most
same_test (tests.Values vs) (tests.Values ws) = pointwise same_value vs ws
same_test (tests.Literal r v) (tests.Field q g) = false
same_test (tests.Literal r v) (tests.Range least most) = false
same_test (tests.Literal r v) (tests.Values ws) = false
same_test (tests.Field r f) (tests.Literal q w) = false
same_test (tests.Field r f) (tests.Range least most) = false
same_test (tests.Field r f) (tests.Values ws) = false
same_test (tests.Range low high) (tests.Literal q w) = false
same_test (tests.Range low high) (tests.Field q g) = false
same_test (tests.Range low high) (tests.Values ws) = false
same_test (tests.Values vs) (tests.Literal q w) = false
same_test (tests.Values vs) (tests.Field q g) = false
same_test (tests.Values vs) (tests.Range least most) = false

abbrev same_condition : Condition → Condition → Bool
same_condition c d = same_field c.field d.field && same_test c.test d.test

abbrev same_choice : Choice → Choice → Bool
same_choice c d = same_flag (chooses c) (chooses d)

abbrev same_statement : Statement → Statement → Bool
same_statement s t = same_choice s.choice t.choice && pointwise same_condition s.conditions t.conditions

abbrev same_all : Option Choice → Option Choice → Bool
same_all None None = true
same_all (Some c) (Some d) = same_choice c d
same_all None (Some d) = false
same_all (Some c) None = false

abbrev pub same_rules : Rules → Rules → Bool
same_rules r s = pointwise same_statement r.statements s.statements && same_all r.all s.all

abbrev pub same_part : KeyPart → KeyPart → Bool
same_part (Field t at descend absval) (Field u offset other_descend other_absval) =
    same_type t u && (at == offset) && same_flag descend other_descend && same_flag absval other_absval
same_part Absent Absent = true
same_part (Field t at descend absval) Absent = false
same_part Absent (Field u offset descend absval) = false

abbrev pub same_format : PathFormat → PathFormat → Bool
same_format f g = (f.member == g.member) && same_rules f.rules g.rules && pointwise same_field f.fields g.fields && pointwise same_part f.key g.key

abbrev pub same_path : PathSpec → PathSpec → Bool
same_path p q = pointwise same_format p.formats q.formats && same_flag p.unique q.unique && same_flag (falls p.ties) (falls q.ties)

-- how many different paths these are
abbrev pub count_paths : List PathSpec → ℕ
count_paths [] = 0
count_paths (path ∷ paths) = if list_any (same_path path) paths then count_paths paths else count_paths paths + 1
