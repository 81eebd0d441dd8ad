-- Records of the files that are there, each file's in the member that has its number here.
use Rattle.std.specs.Prelude.{ℕ, nat_eq, List, [], ◌∷◌, ◌++◌, map, codes, if◌then◌else◌}
use Rattle.std.specs.Cmp.Lexicographic.{pointwise}
use Rattle.record_fmt.specs.declared.formats.Field.{Field}
use Rattle.dds_physical.specs.declared.physical_files.PhysicalSpec.{PhysicalSpec}
use Rattle.field_values.specs.FieldBytes.{written}
use Rattle.member_slots.specs.declared.slot.Slot.TheVariants.{Live}
use Rattle.member_slots.specs.Member.{MemberState}
use Rattle.member_slots.specs.Members.{Numbered, NumberedMembers}
use Rattle.file_model.specs.Paths.{PathEntry}
use Rattle.file_model.specs.Positions.{Reading}
use Rattle.logical_model.specs.Bases.{Base}
use Rattle.logical_rows.specs.Sources.{packed, whole, cust, headers, details, orders}

abbrev pub base : (member : ℕ) → PhysicalSpec → Base
base member spec = record { member = member; fields = spec.format.fields }

-- the base files: CUST is over member 1, ORDERS over 2, HEADERS over 3, DETAILS over 4
abbrev pub bases : List ℕ → Base
bases name =
    if pointwise nat_eq name (codes "CUST") then base 1 cust
    else (if pointwise nat_eq name (codes "ORDERS") then base 2 orders
    else (if pointwise nat_eq name (codes "HEADERS") then base 3 headers
    else base 4 details))

-- a number of three digits, packed
abbrev pub number : ℕ → List ℕ
number n = written (packed 3 0) (whole n)

-- a customer: five characters, and a number
abbrev pub customer : List ℕ → ℕ → List ℕ
customer name n = name ++ number n

-- the letters A to E, and B with blanks behind it, by code page 037
abbrev pub letters : List ℕ
letters = 0xC1 ∷ 0xC2 ∷ 0xC3 ∷ 0xC4 ∷ 0xC5 ∷ []

abbrev pub b_alone : List ℕ
b_alone = 0xC2 ∷ 0x40 ∷ 0x40 ∷ 0x40 ∷ 0x40 ∷ []

-- an order of a customer, of this amount, with the code X
abbrev pub order : (customer amount : ℕ) → List ℕ
order customer amount = number customer ++ number amount ++ 0xE7 ∷ []

-- two customers, of whom the first has two orders; two headers, and three lines
abbrev pub member : ℕ → (record_length : ℕ) → List (List ℕ) → Numbered MemberState
member number record_length images = record { number = number; item = record { record_length = record_length; slots = map Live images } }

abbrev pub members : NumberedMembers
members =
    member 1 7 (customer letters 1 ∷ customer b_alone 2 ∷ []) ∷
    member 2 5 (order 1 30 ∷ order 1 10 ∷ []) ∷
    member 3 2 (number 7 ∷ number 5 ∷ []) ∷
    member 4 4 ((number 5 ++ number 2) ∷ (number 7 ++ number 1) ∷ (number 5 ++ number 1) ∷ []) ∷
    []

-- the formats and the relative record numbers of what is read, in its order
pub record Place : Type 0 where
  pub format : ℕ
  pub rrn : ℕ

abbrev pub places : Reading PathEntry → List Place
places reading = map (λ entry. record { format = entry.format; rrn = entry.rrn }) reading.items

abbrev pub at : (format rrn : ℕ) → Place
at format rrn = record { format = format; rrn = rrn }
