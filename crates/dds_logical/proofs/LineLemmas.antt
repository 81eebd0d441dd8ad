-- Lines of a kind among others.
use Rattle.std.proofs.Common.{◌<◌, ◌+◌, suc, length, get_or, add-one, sym, cond, true, false, ◌&&◌, ◌==◌, ◌-◌, ◌≡◌, ◌∙◌, ap, refl, Bool, inl, inr, List, [], ◌∷◌, ◌++◌, drop, ℕ, Option, Some, None, flat_map, if◌then◌else◌}
use Rattle.std.proofs.lemmas.Bool.{cases_Bool, and_parts, eqb-true}
use Rattle.dds_physical.below.dds_source.specs.declared.faults.DdsFault.{DdsFault}
use Rattle.dds_physical.below.dds_source.specs.declared.faults.DdsCause.TheVariants.{TooLarge}
use Rattle.dds_physical.below.dds_source.specs.declared.specifications.Specification.{Specification}
use Rattle.dds_physical.specs.Places.{fault_at}
use Rattle.dds_logical.specs.declared.format_lines.LineKind.{LineKind}
use Rattle.dds_logical.specs.Fields.{too_many_faults, first_too_many}
use Rattle.dds_physical.below.dds_source.specs.declared.keywords.Keyword.{Keyword}
use Rattle.dds_logical.specs.declared.keyword_places.KeywordPlace.{KeywordPlace}
use Rattle.dds_logical.specs.KeywordRules.{stands_at, logical_keyword_faults}
use Rattle.dds_logical.proofs.ListLemmas.{drop_less}
use Rattle.dds_logical.proofs.LoopLemmas.{drop-here}
use Rattle.dds_logical.specs.Judged.{one_keyword_faults, is_beyond, left_behind, is_of, lines_of, line_faults_of, first_line}

-- of each line what is wrong with it, if it is of the kind
pub faults_of_kind : (kind : LineKind) (wrong : Specification → List DdsFault) (ss : List Specification) → flat_map (line_faults_of kind wrong) ss ≡ flat_map wrong (lines_of kind ss)
unfolding line_faults_of
faults_of_kind kind wrong [] = refl
faults_of_kind kind wrong (s ∷ ss) = elim (cases_Bool (is_of kind s.kind))
    [ inl h ↦ rw h (ap (λ (fs : List DdsFault). wrong s ++ fs) (faults_of_kind kind wrong ss)) | inr h ↦ rw h (faults_of_kind kind wrong ss) ]

abbrev pub beyond : Option Specification → List DdsFault
beyond None = []
beyond (Some s) = fault_at s 19 TooLarge ∷ []

pub too_many_is : (ss : List Specification) → beyond (first_line ss) ≡ first_too_many ss
too_many_is [] = refl
too_many_is (s ∷ ss) = refl

-- what is wrong with a keyword, and with those behind it
pub keywords_more : (is_join : Bool) (place : KeywordPlace) (k : Keyword) (ks : List Keyword)
    → one_keyword_faults (stands_at is_join place k) k ks ++ logical_keyword_faults is_join place ks ≡ logical_keyword_faults is_join place (k ∷ ks)
unfolding one_keyword_faults
keywords_more is_join place k ks = refl

-- ---- the line that is too many

pub beyond_here : (kind : LineKind) (s : Specification) (ss : List Specification) (n : ℕ) → is_beyond kind s n ≡ true → first_line (drop n (lines_of kind (s ∷ ss))) ≡ Some s
unfolding is_beyond
beyond_here kind s ss n h =
    let both = and_parts (is_of kind s.kind) (n == 0) h in
    ap (λ (b : Bool). first_line (drop n (cond b (s ∷ lines_of kind ss) (lines_of kind ss)))) both.0 ∙ ap (λ (m : ℕ). first_line (drop m (s ∷ lines_of kind ss))) (eqb-true n 0 both.1)

pub beyond_more : (kind : LineKind) (s : Specification) (ss : List Specification) (n : ℕ) → is_beyond kind s n ≡ false
    → first_line (drop (left_behind kind s n) (lines_of kind ss)) ≡ first_line (drop n (lines_of kind (s ∷ ss)))
unfolding is_beyond left_behind
beyond_more kind s ss n h = elim (cases_Bool (is_of kind s.kind)) [
  | inl of ↦ ap (λ (b : Bool). first_line (drop (cond b (n - 1) n) (lines_of kind ss))) of
      ∙ ap first_line (drop_less n s (lines_of kind ss) (ap (λ (b : Bool). b && (n == 0)) (sym of) ∙ h))
      ∙ sym (ap (λ (b : Bool). first_line (drop n (cond b (s ∷ lines_of kind ss) (lines_of kind ss)))) of)
  | inr of ↦ ap (λ (b : Bool). first_line (drop (cond b (n - 1) n) (lines_of kind ss))) of
      ∙ sym (ap (λ (b : Bool). first_line (drop n (cond b (s ∷ lines_of kind ss) (lines_of kind ss)))) of)
]

pub beyond-step : (kind : LineKind) (lines : List Specification) (i : ℕ) (s : Specification) (n new : ℕ) (total : Option Specification) → i < length lines → s ≡ get_or lines i s → is_beyond kind s n ≡ false
    → new ≡ left_behind kind s n → first_line (drop n (lines_of kind (drop i lines))) ≡ total → first_line (drop new (lines_of kind (drop (i + 1) lines))) ≡ total
beyond-step kind lines i s n new total lt is none left before =
    ap (λ (k : ℕ). first_line (drop new (lines_of kind (drop k lines)))) (add-one i)
    ∙ ap (λ (m : ℕ). first_line (drop m (lines_of kind (drop (suc i) lines)))) left
    ∙ beyond_more kind s (drop (suc i) lines) n none
    ∙ ap (λ (ss : List Specification). first_line (drop n (lines_of kind ss))) (sym (drop-here lines i s lt is)) ∙ before
