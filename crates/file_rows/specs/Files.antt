-- What the files of the rows are made of: fields, images, members and paths.
use Rattle.std.specs.Prelude.{ℕ, Bool, true, false, List, [], ◌∷◌, ◌++◌, map, None, pos}
use Rattle.field_types.specs.declared.kinds.Kind.TheVariants.{Char, Packed}
use Rattle.field_types.specs.declared.kinds.FieldType.{FieldType}
use Rattle.field_types.specs.declared.values.Value.{Value}
use Rattle.field_types.specs.declared.values.Value.TheVariants.{Chars, Number}
use Rattle.field_values.specs.Digits.{digits_in}
use Rattle.field_values.specs.Packed.{packed_bytes}
use Rattle.key_spec.specs.declared.KeyPart.{KeyPart}
use Rattle.key_spec.specs.declared.KeyPart.TheVariants.{Field, Absent}
use Rattle.key_spec.specs.declared.Ties.{Ties}
use Rattle.key_spec.specs.declared.Ties.TheVariants.{Rising}
use Rattle.member_slots.specs.declared.slot.Slot.{Slot}
use Rattle.member_slots.specs.declared.slot.Slot.TheVariants.{Live}
use Rattle.member_slots.specs.Member.{MemberState}
use Rattle.member_slots.specs.Members.{Numbered, NumberedMembers}
use Rattle.file_model.specs.declared.views.ViewField.{ViewField}
use Rattle.file_model.specs.declared.views.FieldSource.TheVariants.{Copied}
use Rattle.file_model.specs.declared.rules.Rules.{Rules}
use Rattle.file_model.specs.declared.paths.PathFormat.{PathFormat}
use Rattle.file_model.specs.declared.paths.PathSpec.{PathSpec}

-- ---- fields, values and images

-- packed, three digits in two bytes
abbrev pub three_digits : FieldType
three_digits = record { kind = Packed; length = 3; decimals = 0 }

abbrev pub characters : ℕ → FieldType
characters length = record { kind = Char; length = length; decimals = 0 }

abbrev pub number : ℕ → List ℕ
number n = packed_bytes (digits_in 10 3 n) 15

abbrev pub minus : ℕ → List ℕ
minus n = packed_bytes (digits_in 10 3 n) 13

abbrev pub whole : ℕ → Value
whole n = Number (record { units = pos n; scale = 0 })

abbrev pub text : List ℕ → Value
text bytes = Chars bytes

-- a field of the record itself
abbrev pub field_at : FieldType → ℕ → ViewField
field_at t offset = record { ty = t; source = Copied offset }

-- ---- members

abbrev pub member_with : List Slot → MemberState
member_with slots = record { record_length = 0; slots = slots }

-- the member with this number
abbrev pub of_slots : ℕ → List Slot → Numbered MemberState
of_slots n slots = record { number = n; item = member_with slots }

-- the member with this number, without deleted records
abbrev pub of_records : ℕ → List (List ℕ) → Numbered MemberState
of_records n images = of_slots n (map Live images)

-- ---- paths

abbrev pub all_records : Rules
all_records = record { statements = []; all = None }

-- an ascending position
abbrev pub part_at : FieldType → ℕ → KeyPart
part_at t offset = Field t offset false false

abbrev pub format_of : ℕ → Rules → List ViewField → List KeyPart → PathFormat
format_of member rules fields key = record { member = member; rules = rules; fields = fields; key = key }

abbrev pub one_format : (unique : Bool) → Ties → PathFormat → PathSpec
one_format unique ties format = record { formats = format ∷ []; unique = unique; ties = ties }

-- the records of member 1, which begin with a number, by that number
abbrev pub by_number : (descend absval : Bool) → Ties → PathSpec
by_number descend absval ties = one_format false ties (format_of 1 all_records (field_at three_digits 0 ∷ []) (Field three_digits 0 descend absval ∷ []))

-- numbers 10, 20 and 30
abbrev pub tens : NumberedMembers
tens = of_records 1 (number 10 ∷ number 20 ∷ number 30 ∷ []) ∷ []

-- ---- headers and details

-- headers, which have no line: member 1; details: member 2
abbrev pub headers_and_details : Ties → PathSpec
headers_and_details ties = record {
  formats = format_of 1 all_records (field_at three_digits 0 ∷ []) (part_at three_digits 0 ∷ Absent ∷ [])
      ∷ format_of 2 all_records (field_at three_digits 0 ∷ field_at three_digits 2 ∷ []) (part_at three_digits 0 ∷ part_at three_digits 2 ∷ []) ∷ [];
  unique = false;
  ties = ties;
}

-- a member by a number that descends, member 1 so, and member 2, which has *NONE there
abbrev pub keyed_over : ℕ → PathFormat
keyed_over member = format_of member all_records (field_at three_digits 0 ∷ []) (Field three_digits 0 true false ∷ [])

abbrev pub keyed : PathFormat
keyed = keyed_over 1

abbrev pub unkeyed : PathFormat
unkeyed = format_of 2 all_records [] (Absent ∷ [])

abbrev pub two_formats : (first second : PathFormat) → PathSpec
two_formats first second = record { formats = first ∷ second ∷ []; unique = false; ties = Rising }

-- headers 1 and 2, details (1, 2), (1, 1) and (2, 1)
abbrev pub orders_with_lines : NumberedMembers
orders_with_lines =
    of_records 1 (number 1 ∷ number 2 ∷ []) ∷ of_records 2 ((number 1 ++ number 2) ∷ (number 1 ++ number 1) ∷ (number 2 ++ number 1) ∷ []) ∷ []
