-- Which lines of a logical file stand out of order? (DDS for Physical and Logical Files, "Positional entries for physical
-- and logical files", position 17.)
use Rattle.std.specs.Prelude.{ℕ, Bool, not, ◌&&◌, ◌||◌, nat_lt, List, [], ◌∷◌, ◌++◌, map, flat_map, if◌then◌else◌}
use Rattle.dds_physical.below.dds_source.specs.declared.faults.DdsFault.{DdsFault}
use Rattle.dds_physical.below.dds_source.specs.declared.faults.DdsCause.TheVariants.{OutOfOrder}
use Rattle.dds_physical.below.dds_source.specs.declared.specifications.Specification.{Specification}
use Rattle.dds_physical.below.dds_source.specs.declared.specifications.SpecificationKind.{SpecificationKind}
use Rattle.dds_physical.below.dds_source.specs.declared.specifications.SpecificationKind.TheVariants as kinds
use Rattle.dds_physical.specs.Entries.{when}
use Rattle.dds_physical.specs.Reading.{is_selection}
use Rattle.dds_physical.specs.Places.{fault_at}
use Rattle.dds_physical.specs.WholeFile.{is_field_kind}
use Rattle.dds_logical.specs.FormatLines.{FormatLines, is_join_kind, lines_ahead}

-- at the name of a field, else in position 17
abbrev pub out_of_order : Specification → DdsFault
out_of_order s = fault_at s (if is_field_kind s.kind then 19 else 17) OutOfOrder

-- in a format joins come first, then fields, then keys, then selects and omits
abbrev pub stage : SpecificationKind → ℕ
stage kinds.Record = 0
stage kinds.Join = 1
stage kinds.Field = 2
stage kinds.Key = 3
stage kinds.Select = 4
stage kinds.Omit = 4
stage kinds.And = 4

abbrev pub later_of : ℕ → ℕ → ℕ
later_of a b = if nat_lt a b then b else a

-- a line behind one of a later stage
abbrev pub stage_faults : (reached : ℕ) → List Specification → List DdsFault
stage_faults reached [] = []
stage_faults reached (s ∷ ss) = when (nat_lt (stage s.kind) reached) (out_of_order s) ++ stage_faults (later_of reached (stage s.kind)) ss

-- a select or omit in a join file, a join in another one
abbrev pub kind_faults : (is_join : Bool) → Specification → List DdsFault
kind_faults is_join s = when ((is_join && is_selection s.kind) || (not is_join && is_join_kind s.kind)) (out_of_order s)

-- a second record format in a join file
abbrev pub second_format_faults : (is_join : Bool) → List FormatLines → List DdsFault
second_format_faults is_join [] = []
second_format_faults is_join (f ∷ fs) = if is_join then map (λ other. out_of_order other.head) fs else []

-- what stands out of order: lines before the first record format, and those above
abbrev pub order_faults : (is_join : Bool) → List Specification → List FormatLines → List DdsFault
order_faults is_join ss fs =
    map out_of_order (lines_ahead ss)
    ++ flat_map (λ f. stage_faults 0 f.body ++ flat_map (kind_faults is_join) f.body) fs
    ++ second_format_faults is_join fs
