-- The line that is too many is found.
use Rattle.std.proofs.Common.{◌≡◌, ◌∙◌, ◌<◌, ℕ, suc, ap, sym, true, List, length, drop, get_or, Option, Some}
use Rattle.dds_physical.below.dds_source.specs.declared.specifications.Specification.{Specification}
use Rattle.dds_logical.specs.declared.format_lines.LineKind.{LineKind}
use Rattle.dds_logical.specs.Judged.{lines_of, first_line, is_beyond}
use Rattle.dds_logical.proofs.LineLemmas.{beyond_here}
use Rattle.dds_logical.proofs.LoopLemmas.{drop-here}

pub beyond-found : (kind : LineKind) (lines : List Specification) (i : ℕ) (s : Specification) (n : ℕ) (total : Option Specification) → i < length lines → s ≡ get_or lines i s → is_beyond kind s n ≡ true
    → first_line (drop n (lines_of kind (drop i lines))) ≡ total → Some s ≡ total
beyond-found kind lines i s n total lt is one before =
    sym (ap (λ (ss : List Specification). first_line (drop n (lines_of kind ss))) (drop-here lines i s lt is) ∙ beyond_here kind s (drop (suc i) lines) n one) ∙ before
