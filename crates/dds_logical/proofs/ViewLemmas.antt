-- How many positions the key of a file has.
use Rattle.std.proofs.Common.{◌≡◌, ◌∙◌, ap, refl, ℕ, inl, inr, List, [], ◌∷◌, length, nat_lt, arith}
use Rattle.std.proofs.lemmas.Bool.Decides.{nat_tests}
use Rattle.std.proofs.lemmas.Bool.{cases_Bool}
use Rattle.dds_physical.below.dds_source.specs.declared.specifications.Specification.{Specification}
use Rattle.dds_physical.specs.Reading.{is_record}
use Rattle.dds_logical.specs.FormatLines.{formats_in}
use Rattle.dds_logical.specs.LineOrder.{later_of}
use Rattle.dds_logical.specs.Logical.{most_parts}
use Rattle.dds_logical.specs.JudgedKeys.{parts_at}

pub later_first : (a b c : ℕ) → later_of (later_of a b) c ≡ later_of a (later_of b c)
later_first a b c = grind (arith, nat_tests)

pub later_none : (n : ℕ) → later_of 0 n ≡ n
later_none n = grind (arith, nat_tests)

pub parts_more : (s : Specification) (ss : List Specification) → later_of (parts_at s ss) (most_parts (formats_in ss)) ≡ most_parts (formats_in (s ∷ ss))
parts_more s ss = elim (cases_Bool (is_record s.kind)) [ inl h ↦ rw h refl | inr h ↦ rw h (later_none (most_parts (formats_in ss))) ]
