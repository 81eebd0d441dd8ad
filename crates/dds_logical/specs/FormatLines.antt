-- Which lines belong to which format, and what kind of logical file is it? (DDS for Physical and Logical Files, "Record
-- format level", PFILE and JFILE. That of PFILE and JFILE the first in the file decides is this project's own.)
use Rattle.std.specs.Prelude.{Bool, true, false, ◌||◌, nat_lt, List, [], ◌∷◌, length, filter, Option, Some, None, if◌then◌else◌, codes}
use Rattle.std.specs.List.{before_first}
use Rattle.dds_physical.below.dds_source.specs.declared.keywords.Keyword.{Keyword}
use Rattle.dds_physical.below.dds_source.specs.declared.specifications.Specification.{Specification}
use Rattle.dds_physical.below.dds_source.specs.declared.specifications.SpecificationKind.{SpecificationKind}
use Rattle.dds_physical.below.dds_source.specs.declared.specifications.SpecificationKind.TheVariants as kinds
use Rattle.dds_physical.specs.Reading.{is_record, is_condition}
use Rattle.dds_physical.specs.Keywords.{has_name}
use Rattle.dds_physical.specs.WholeFile.{is_field_kind, is_key_kind}

-- the line of a record format, and the lines behind it up to the next one
pub record FormatLines : Type 0 where
  pub head : Specification
  pub body : List Specification

abbrev pub formats_in : List Specification → List FormatLines
formats_in [] = []
formats_in (s ∷ ss) = if is_record s.kind then record { head = s; body = before_first (λ other. is_record other.kind) ss } ∷ formats_in ss else formats_in ss

-- the lines before the first record format
abbrev pub lines_ahead : List Specification → List Specification
lines_ahead ss = before_first (λ s. is_record s.kind) ss

abbrev pub is_join_kind : SpecificationKind → Bool
is_join_kind kinds.Record = false
is_join_kind kinds.Field = false
is_join_kind kinds.Key = false
is_join_kind kinds.Select = false
is_join_kind kinds.Omit = false
is_join_kind kinds.And = false
is_join_kind kinds.Join = true

abbrev pub field_lines : FormatLines → List Specification
field_lines f = filter (λ s. is_field_kind s.kind) f.body

abbrev pub key_lines : FormatLines → List Specification
key_lines f = filter (λ s. is_key_kind s.kind) f.body

-- selects, omits and their further conditions
abbrev pub selection_lines : FormatLines → List Specification
selection_lines f = filter (λ s. is_condition s.kind) f.body

abbrev pub join_lines : FormatLines → List Specification
join_lines f = filter (λ s. is_join_kind s.kind) f.body

-- the first of PFILE and JFILE
abbrev pub based_on : List Keyword → Option Keyword
based_on [] = None
based_on (k ∷ ks) = if has_name (codes "PFILE") k || has_name (codes "JFILE") k then Some k else based_on ks

abbrev pub is_join_keyword : Option Keyword → Bool
is_join_keyword None = false
is_join_keyword (Some k) = has_name (codes "JFILE") k

-- the first format is over JFILE
abbrev pub is_join_file : List FormatLines → Bool
is_join_file [] = false
is_join_file (f ∷ fs) = is_join_keyword (based_on f.head.keywords)

-- several formats
abbrev pub is_multi_format : List FormatLines → Bool
is_multi_format fs = nat_lt 1 (length fs)
