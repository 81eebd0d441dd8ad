-- Sources in the order of a text: none of their faults is missed, though only the lines up to the first at fault are judged.
use Rattle.std.specs.Prelude.{ℕ, ◌+◌, ◌<◌, ◌≤◌, List, [], ◌∷◌, ◌++◌, Option}
use Rattle.record_fmt.specs.declared.formats.Format.{Format}
use Rattle.dds_source.specs.declared.faults.DdsFault.{DdsFault}
use Rattle.dds_source.specs.declared.keywords.Keyword.{Keyword}
use Rattle.dds_source.specs.declared.specifications.Source.{Source}
use Rattle.dds_source.specs.declared.specifications.Specification.{Specification}
use Rattle.dds_physical.specs.declared.draft.Draft.{Draft}
use Rattle.dds_physical.specs.References.{reference_file}
use Rattle.dds_physical.specs.Draft.{nothing}
use Rattle.dds_physical.specs.Lines.{line_faults, described}
use Rattle.dds_physical.specs.WholeFile.{file_faults, whole_faults}

-- All faults.

-- what is wrong with every line
abbrev pub all_line_faults : (List ℕ → Option Format) → Option (List ℕ) → Draft → List Specification → List DdsFault
all_line_faults formats file d [] = []
all_line_faults formats file d (s ∷ ss) = line_faults formats file d s ++ all_line_faults formats file (described formats file d s) ss

-- what all lines describe
abbrev pub all_described : (List ℕ → Option Format) → Option (List ℕ) → Draft → List Specification → Draft
all_described formats file d [] = d
all_described formats file d (s ∷ ss) = all_described formats file (described formats file d s) ss

-- all that is wrong with a source, of whose lines each is judged
unfoldable pub all_faults : (List ℕ → Option Format) → Source → List DdsFault
all_faults formats source =
    all_line_faults formats (reference_file source.file) nothing source.specifications
    ++ file_faults formats source.file source.specifications
    ++ whole_faults source.last_line source.specifications (all_described formats (reference_file source.file) nothing source.specifications)

-- The order of a text.

-- they stand on lines from one number on and before another
abbrev pub KeywordsWithin : ℕ → ℕ → List Keyword → Type 0
KeywordsWithin from to [] = Unit {0}
KeywordsWithin from to (k ∷ ks) = (from ≤ k.line) × (k.line < to) × KeywordsWithin from to ks

-- a specification and its keywords do
pub record IsWithin (from to : ℕ) (s : Specification) : Type 0 where
  pub at_least : from ≤ s.line
  pub before : s.line < to
  pub keywords : KeywordsWithin from to s.keywords

-- each stands before the next, and the last up to the source's last line
abbrev pub AreInOrder : ℕ → ℕ → List Specification → Type 0
AreInOrder from last [] = Unit {0}
AreInOrder from last (s ∷ []) = IsWithin from (last + 1) s
AreInOrder from last (s ∷ t ∷ ss) = IsWithin from t.line s × AreInOrder t.line last (t ∷ ss)
