-- The formats of a file, one after another.
use Rattle.std.proofs.Common.{◌≡◌, ℕ, refl, subst, ap, cond, Bool, true, false, None, inl, inr, List, ◌∷◌, ◌++◌, map, Option}
use Rattle.std.proofs.lemmas.Bool.{cases_Bool}
use Rattle.dds_physical.below.dds_source.specs.declared.specifications.Specification.{Specification}
use Rattle.dds_physical.specs.Reading.{is_record}
use Rattle.dds_logical.specs.declared.views.View.{View}
use Rattle.dds_physical.below.dds_source.specs.declared.specifications.Source.{Source}
use Rattle.dds_physical.specs.Faults.{first_after}
use Rattle.dds_logical.specs.FormatLines.{FormatLines, formats_in, is_join_file}
use Rattle.dds_logical.specs.Logical.{logical_of, logical_faults, logical_specification, unless_fault, described_by, faults_over}
use Rattle.dds_physical.specs.declared.physical_files.PhysicalSpec.{PhysicalSpec}
use Rattle.dds_logical.specs.Judged.{format_of}
use Rattle.dds_logical.specs.JoinWhole.{IsFirstComplete, IsJoinComplete}
use Rattle.dds_logical.specs.Complete.{IsComplete, AreComplete, AreCompleteFrom, views_at}

pub views_more : (described : FormatLines → View) (s : Specification) (ss : List Specification)
    → views_at described s ss ++ map described (formats_in ss) ≡ map described (formats_in (s ∷ ss))
views_more described s ss = elim (cases_Bool (is_record s.kind)) [ inl h ↦ rw h refl | inr h ↦ rw h refl ]

-- ---- complete formats

pub complete_at : (bases : List ℕ → Option PhysicalSpec) (s : Specification) (ss : List Specification) → is_record s.kind ≡ true → AreCompleteFrom bases s ss → IsComplete bases (format_of s ss)
complete_at bases s ss h all = (subst (λ (b : Bool). AreComplete bases (cond b (format_of s ss ∷ formats_in ss) (formats_in ss))) h all).0

pub complete_rest : (bases : List ℕ → Option PhysicalSpec) (s : Specification) (ss : List Specification) → AreCompleteFrom bases s ss → AreComplete bases (formats_in ss)
complete_rest bases s ss all = elim (cases_Bool (is_record s.kind)) [
  | inl h ↦ (subst (λ (b : Bool). AreComplete bases (cond b (format_of s ss ∷ formats_in ss) (formats_in ss))) h all).1
  | inr h ↦ subst (λ (b : Bool). AreComplete bases (cond b (format_of s ss ∷ formats_in ss) (formats_in ss))) h all
]

-- the first format of a join
pub first_complete : (bases : List ℕ → Option PhysicalSpec) (s : Specification) (ss : List Specification) → is_record s.kind ≡ true → IsFirstComplete bases (formats_in (s ∷ ss))
    → IsJoinComplete bases (format_of s ss)
first_complete bases s ss h first = subst (λ (b : Bool). IsFirstComplete bases (cond b (format_of s ss ∷ formats_in ss) (formats_in ss))) h first

pub behind_line : (s : Specification) (ss : List Specification) → is_record s.kind ≡ false → formats_in (s ∷ ss) ≡ formats_in ss
behind_line s ss h = ap (λ (b : Bool). cond b (format_of s ss ∷ formats_in ss) (formats_in ss)) h

pub first_is : (s : Specification) (ss : List Specification) → is_record s.kind ≡ true → formats_in (s ∷ ss) ≡ format_of s ss ∷ formats_in ss
first_is s ss h = ap (λ (b : Bool). cond b (format_of s ss ∷ formats_in ss) (formats_in ss)) h

-- ---- a source

pub faults_are : (bases : List ℕ → Option PhysicalSpec) (source : Source)
    → faults_over bases source (is_join_file (formats_in source.specifications)) (formats_in source.specifications) ≡ logical_faults bases source
unfolding logical_faults
faults_are bases source = refl

pub answered : (bases : List ℕ → Option PhysicalSpec) (source : Source)
    → logical_of bases source ≡ unless_fault (described_by bases source (formats_in source.specifications)) (first_after None (logical_faults bases source))
unfolding logical_of logical_specification
answered bases source = refl
