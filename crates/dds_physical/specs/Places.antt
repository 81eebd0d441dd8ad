-- Where a fault stands: at an entry of a line, or at a keyword.
-- (DDS for Physical and Logical Files, "Positional entries" and "Keyword entries".)
use Rattle.std.specs.Prelude.{ℕ, List, [], ◌∷◌, Option, Some, None, Result, Ok, Err}
use Rattle.field_types.specs.declared.kinds.FieldType.{FieldType}
use Rattle.dds_source.specs.declared.faults.DdsFault.{DdsFault}
use Rattle.dds_source.specs.declared.faults.DdsCause.{DdsCause}
use Rattle.dds_source.specs.declared.keywords.Keyword.{Keyword}
use Rattle.dds_source.specs.declared.specifications.Specification.{Specification}

-- at the entry of a line that begins in this column
abbrev pub fault_at : Specification → ℕ → DdsCause → DdsFault
fault_at s column cause = record { line = s.line; column = column; cause = cause }

-- at the first character of a keyword
abbrev pub fault_of_keyword : DdsCause → Keyword → DdsFault
fault_of_keyword cause k = record { line = k.line; column = k.column; cause = cause }

-- there, if there is one
abbrev pub at_keyword : DdsCause → Option Keyword → List DdsFault
at_keyword cause None = []
at_keyword cause (Some k) = fault_of_keyword cause k ∷ []

-- why there is no type
abbrev pub error_list : Result FieldType DdsFault → List DdsFault
error_list (Ok t) = []
error_list (Err fault) = fault ∷ []
