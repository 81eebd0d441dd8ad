-- Formats among the lines of a source.
use Rattle.std.proofs.Common.{◌≤◌, ◌<◌, ◌≡◌, ◌∙◌, ◌==◌, ◌||◌, ◌++◌, ℕ, suc, ap, sym, refl, Bool, not, inl, inr, List, [], ◌∷◌, length, filter, map, Option, Some, None, flat_map, take, drop, get_or, arith}
use Rattle.std.specs.List.{list_any, cons_option, before_first, prefix_len}
use Rattle.std.proofs.lemmas.List.Sums.{prefix_len-le-length}
use Rattle.std.proofs.lemmas.Bool.{cases_Bool, ne_eqb}
use Rattle.dds_physical.below.dds_source.specs.declared.faults.DdsFault.{DdsFault}
use Rattle.dds_physical.below.dds_source.specs.declared.specifications.Specification.{Specification}
use Rattle.dds_physical.specs.Reading.{is_record}
use Rattle.dds_physical.specs.declared.physical_files.PhysicalSpec.{PhysicalSpec}
use Rattle.dds_logical.specs.declared.format_lines.LineKind.{LineKind}
use Rattle.dds_logical.specs.declared.format_lines.LineKind.TheVariants as line_kinds
use Rattle.dds_logical.specs.FormatLines.{FormatLines, field_lines, formats_in}
use Rattle.dds_logical.specs.WholeFile.{is_no_base}
use Rattle.dds_logical.specs.Judged.{is_fieldless_at, stands_within, is_of, lines_of, faults_at, is_missing_base}

pub formats_count : (ss : List Specification) → length (formats_in ss) ≡ length (filter (λ s. is_record s.kind) ss)
formats_count [] = refl
formats_count (s ∷ ss) = elim (cases_Bool (is_record s.kind)) [ inl h ↦ rw h (ap suc (formats_count ss)) | inr h ↦ rw h (formats_count ss) ]

pub heads_are : (ss : List Specification) → map (λ f. f.head) (formats_in ss) ≡ lines_of line_kinds.Record ss
heads_are [] = refl
heads_are (s ∷ ss) = elim (cases_Bool (is_record s.kind)) [ inl h ↦ rw h (ap (λ (ts : List Specification). s ∷ ts) (heads_are ss)) | inr h ↦ rw h (heads_are ss) ]

pub no_formats : (ss : List Specification) → not (list_any (λ s. is_of line_kinds.Record s.kind) ss) ≡ (length (formats_in ss) == 0)
no_formats [] = refl
no_formats (s ∷ ss) = elim (cases_Bool (is_record s.kind)) [ inl h ↦ rw h (sym (ne_eqb (suc (length (formats_in ss))) 0 (λ e. absurd (omega (arith, e))))) | inr h ↦ rw h (no_formats ss) ]

-- of each format what is wrong with it
pub faults_more : (wrong : FormatLines → List DdsFault) (s : Specification) (ss : List Specification)
    → faults_at wrong s ss ++ flat_map wrong (formats_in ss) ≡ flat_map wrong (formats_in (s ∷ ss))
unfolding faults_at
faults_more wrong s ss = elim (cases_Bool (is_record s.kind)) [ inl h ↦ rw h refl | inr h ↦ rw h refl ]

pub missing_cons : (bases : List ℕ → Option PhysicalSpec) (m : Option (List ℕ)) (ns : List (List ℕ))
    → list_any (is_no_base bases) (cons_option m ns) ≡ (is_missing_base bases m || list_any (is_no_base bases) ns)
missing_cons bases None ns = refl
missing_cons bases (Some n) ns = refl

pub ahead_is : (ss : List Specification) → take (prefix_len stands_within ss) ss ≡ before_first (λ s. is_record s.kind) ss
unfolding stands_within
ahead_is ss = refl

pub ahead_short : (ss : List Specification) → prefix_len stands_within ss ≤ length ss
ahead_short ss = prefix_len-le-length stands_within ss

pub no_lines : (kind : LineKind) (ss : List Specification) → not (list_any (λ s. is_of kind s.kind) ss) ≡ (length (lines_of kind ss) == 0)
no_lines kind [] = refl
no_lines kind (s ∷ ss) = elim (cases_Bool (is_of kind s.kind)) [ inl h ↦ rw h (sym (ne_eqb (suc (length (lines_of kind ss))) 0 (λ e. absurd (omega (arith, e))))) | inr h ↦ rw h (no_lines kind ss) ]

pub fieldless_more : (s : Specification) (ss : List Specification)
    → (is_fieldless_at s ss || list_any (λ f. length (field_lines f) == 0) (formats_in ss)) ≡ list_any (λ f. length (field_lines f) == 0) (formats_in (s ∷ ss))
unfolding is_fieldless_at
fieldless_more s ss = elim (cases_Bool (is_record s.kind)) [ inl h ↦ rw h refl | inr h ↦ rw h refl ]

-- the first of a list was asked, and those behind it are left
pub found-split : (step : Specification → List Specification → Bool) (all : List Specification → Bool) → ((s : Specification) (ss : List Specification) → (step s ss || all ss) ≡ all (s ∷ ss))
    → (ss here more : List Specification) (s : Specification) (result total : Bool) → 0 < length ss → here ≡ take 1 ss → more ≡ drop 1 ss → s ≡ get_or here 0 s
    → result ≡ step s more → all ss ≡ total → (result || all more) ≡ total
found-split step all joins [] here more s result total some front back is asked before = absurd (omega arith)
found-split step all joins (t ∷ ts) here more s result total some front back is asked before =
    let same : s ≡ t = is ∙ ap (λ (hs : List Specification). get_or hs 0 s) front in
    let parts : s ∷ more ≡ t ∷ ts = ap (λ (u : Specification). u ∷ more) same ∙ ap (λ (us : List Specification). t ∷ us) back in
    ap (λ (b : Bool). b || all more) asked ∙ joins s more ∙ ap all parts ∙ before
