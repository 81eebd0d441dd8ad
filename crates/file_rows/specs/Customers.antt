-- The join files of the rows: customers and their orders; three files in a chain.
use Rattle.std.specs.Prelude.{ℕ, Bool, true, false, List, [], ◌∷◌, ◌++◌}
use Rattle.key_spec.specs.declared.KeyPart.{KeyPart}
use Rattle.key_spec.specs.declared.KeyPart.TheVariants.{Field, Absent}
use Rattle.key_spec.specs.declared.Ties.TheVariants.{Rising}
use Rattle.member_slots.specs.declared.slot.Slot.TheVariants.{Live, Deleted}
use Rattle.member_slots.specs.Members.{NumberedMembers}
use Rattle.file_model.specs.declared.joins.JoinPair.{JoinPair}
use Rattle.file_model.specs.declared.joins.Secondary.{Secondary}
use Rattle.file_model.specs.declared.joins.JoinField.{JoinField}
use Rattle.file_model.specs.declared.joins.JoinSpec.{JoinSpec}
use Rattle.file_model.specs.declared.views.ViewField.{ViewField}
use Rattle.file_rows.specs.Files.{three_digits, characters, field_at, number, by_number, of_records, of_slots}

-- fields of one value
abbrev pub pair_of : ViewField → ViewField → JoinPair
pair_of from to = record { from = from; to = to }

-- a field of a file by its place in JFILE
abbrev pub of_file : ℕ → ViewField → JoinField
of_file file field = record { file = file; field = field }

-- orders: a customer's number and an amount; member 2
abbrev pub orders : (sequence : KeyPart) → Secondary
orders sequence = record {
  member = 2;
  from = 0;
  pairs = pair_of (field_at three_digits 0) (field_at three_digits 0) ∷ [];
  sequence = sequence;
  default = number 0 ++ number 0;
}

-- customers by their numbers, with the amounts of their orders
abbrev pub with_orders : (sequence : KeyPart) → (keeps_missing : Bool) → JoinSpec
with_orders sequence keeps_missing = record {
  primary = by_number false false Rising;
  secondaries = orders sequence ∷ [];
  keeps_missing = keeps_missing;
  fields = of_file 0 (field_at three_digits 0) ∷ of_file 1 (field_at three_digits 2) ∷ [];
}

-- JDUPSEQ(AMT *DESCEND)
abbrev pub greatest_first : KeyPart
greatest_first = Field three_digits 2 true false

-- customers 1 and 2, orders (1, 10) and (1, 30)
abbrev pub customers : NumberedMembers
customers = of_records 1 (number 1 ∷ number 2 ∷ []) ∷ of_records 2 ((number 1 ++ number 10) ∷ (number 1 ++ number 30) ∷ []) ∷ []

-- customers 2 and 1, and three orders of one amount, the first of customer 2 and the rest of customer 1
abbrev pub with_equal_orders : NumberedMembers
with_equal_orders =
    of_records 1 (number 2 ∷ number 1 ∷ [])
    ∷ of_slots 2 (Live (number 2 ++ number 10) ∷ Live (number 1 ++ number 10) ∷ Deleted ∷ Live (number 1 ++ number 10) ∷ []) ∷ []

-- a second file by number, whose letters a third one has
abbrev pub chained : (keeps_missing : Bool) → JoinSpec
chained keeps_missing = record {
  primary = by_number false false Rising;
  secondaries =
      record { member = 2; from = 0; pairs = pair_of (field_at three_digits 0) (field_at three_digits 0) ∷ []; sequence = Absent; default = number 0 ++ (0x40 ∷ []) }
      ∷ record { member = 3; from = 1; pairs = pair_of (field_at (characters 1) 2) (field_at (characters 1) 0) ∷ []; sequence = Absent; default = 0x40 ∷ number 0 }
      ∷ [];
  keeps_missing = keeps_missing;
  fields = of_file 0 (field_at three_digits 0) ∷ of_file 1 (field_at (characters 1) 2) ∷ of_file 2 (field_at three_digits 1) ∷ [];
}

-- the first file has 1, the second (1, 'A'), and the third these
abbrev pub three_files : List (List ℕ) → NumberedMembers
three_files third = of_records 1 (number 1 ∷ []) ∷ of_records 2 ((number 1 ++ (0xC1 ∷ [])) ∷ []) ∷ of_records 3 third ∷ []
