-- The records of a described file of one format without a key stand by their rising numbers.
use Rattle.std.proofs.Common.{◌≡◌, ℕ, ◌+◌, ◌-◌, ◌==◌, ◌&&◌, not, Bool, true, false, if◌then◌else◌, Option, None, Ok, List, [], ◌∷◌, length, map, replicate, ap, subst, arith, length-append}
use Rattle.std.proofs.lemmas.Bool.{cond_both}
use Rattle.std.proofs.lemmas.Bool.Decides.{nat_tests}
use Rattle.std.proofs.lemmas.List.{length-replicate}
use Rattle.key_spec.specs.declared.KeyPart.{KeyPart}
use Rattle.key_spec.specs.declared.KeyPart.TheVariants.{Absent}
use Rattle.key_spec.specs.declared.Ties.TheVariants.{Rising}
use Rattle.dds_source.specs.declared.faults.DdsFault.{DdsFault}
use Rattle.dds_source.specs.declared.keywords.Keyword.{Keyword}
use Rattle.dds_source.specs.declared.specifications.Source.{Source}
use Rattle.dds_source.specs.Faults.{first_after}
use Rattle.library_steps.specs.Physical.{ties_of}
use Rattle.library_steps.below.dds_physical.specs.declared.physical_files.PhysicalSpec.{PhysicalSpec}
use Rattle.library_steps.below.dds_logical.specs.declared.views.LogicalSpec.{LogicalSpec}
use Rattle.library_steps.specs.FormatLines.{FormatLines, formats_in, is_join_file, is_multi_format}
use Rattle.library_steps.specs.Keys.{padded}
use Rattle.library_steps.specs.Logical.{format_parts, most_parts, view_described, one_or_several, join_described_by, described_by, faults_over, logical_specification, logical_faults, logical_of, ties_with}
use Rattle.view_records.proofs.DescribedLemmas.{found-right}
use Rattle.parts_model.specs.Indexed.{RisesIfKeyless}

none-padded : (count : ℕ) (ps : List KeyPart) → padded count ps ≡ [] → count ≡ 0
none-padded count ps none =
    let whole : length (padded count ps) ≡ length ps + length {A = KeyPart} (replicate (count - length ps) Absent) = length-append ps (replicate (count - length ps) Absent) in
    let long : length {A = KeyPart} (replicate (count - length ps) Absent) ≡ count - length ps = length-replicate (count - length ps) Absent in
    let nothing : length (padded count ps) ≡ 0 = ap length none in
    omega (arith, whole, long, nothing)

keyless-rises : (count : ℕ) (ks : List Keyword) → count ≡ 0 → ties_with (not false && (count == 0)) ks ≡ Rising
keyless-rises count ks none = ap (λ (b : Bool). if b then Rising else ties_of ks) (let e : (count == 0) ≡ true = grind (arith, nat_tests) in e)

views-rise : (described : List ℕ → Option PhysicalSpec) (ks : List Keyword) (fs : List FormatLines) → RisesIfKeyless (one_or_several (map (view_described described ks (is_multi_format fs) (most_parts fs)) fs))
views-rise described ks [] = tt
views-rise described ks (f ∷ []) = λ empty. keyless-rises (most_parts (f ∷ [])) ks (none-padded (most_parts (f ∷ [])) (format_parts described f) empty)
views-rise described ks (f ∷ g ∷ fs) = tt

join-rises : (described : List ℕ → Option PhysicalSpec) (ks : List Keyword) (fs : List FormatLines) → RisesIfKeyless (join_described_by described ks fs)
join-rises described ks [] = tt
join-rises described ks (f ∷ fs) = tt

file-rises : (described : List ℕ → Option PhysicalSpec) (source : Source) (fs : List FormatLines) → RisesIfKeyless (described_by described source fs)
file-rises described source fs =
    cond_both (is_join_file fs) (join_described_by described source.file fs) (one_or_several (map (view_described described source.file (is_multi_format fs) (most_parts fs)) fs)) RisesIfKeyless
    (λ _. join-rises described source.file fs) (λ _. views-rise described source.file fs)

pub described-rises : (described : List ℕ → Option PhysicalSpec) (source : Source) (spec : LogicalSpec) → logical_of described source ≡ Ok spec → RisesIfKeyless spec
unfolding logical_of logical_specification logical_faults
described-rises described source spec h =
    let fs : List FormatLines = formats_in source.specifications in
    let faults : List DdsFault = faults_over described source (is_join_file fs) fs in
    let right = found-right spec (described_by described source fs) (first_after None faults) h in
    subst RisesIfKeyless right.1 (file-rises described source fs)
