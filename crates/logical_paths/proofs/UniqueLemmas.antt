-- A described file in which no two records may have one key has a key.
use Rattle.std.proofs.Common.{◌≡◌, ℕ, suc, ◌+◌, ◌-◌, ◌≤◌, nat_lt, Bool, true, false, not, cond, ◌&&◌, ◌||◌, codes, inl, inr, Option, Some, None, is_some}
use Rattle.std.proofs.Common.{Ok, List, [], ◌∷◌, length, map, filter, take, replicate}
use Rattle.std.proofs.Common.{refl, sym, ◌∙◌, ap, subst, arith, length-append}
use Rattle.std.specs.List.{AllByRecursion, list_any, before_first, prefix_len}
use Rattle.std.proofs.lemmas.Bool.{and_parts, cases_Bool, cond_both, ltb-false}
use Rattle.key_spec.specs.declared.KeyPart.{KeyPart}
use Rattle.key_spec.specs.declared.KeyPart.TheVariants.{Absent}
use Rattle.dds_source.specs.declared.faults.DdsFault.{DdsFault}
use Rattle.dds_source.specs.declared.faults.DdsCause.TheVariants.{Conflict}
use Rattle.dds_source.specs.declared.keywords.Keyword.{Keyword}
use Rattle.dds_source.specs.declared.specifications.Source.{Source}
use Rattle.dds_source.specs.declared.specifications.Specification.{Specification}
use Rattle.dds_source.specs.declared.specifications.SpecificationKind.{SpecificationKind}
use Rattle.dds_source.specs.declared.specifications.SpecificationKind.TheVariants as kinds
use Rattle.dds_source.specs.Faults.{first_after}
use Rattle.dds_source.specs.Reading.{is_record}
use Rattle.dds_physical.specs.declared.physical_files.PhysicalSpec.{PhysicalSpec}
use Rattle.dds_physical.specs.Keywords.{first_named, is_there}
use Rattle.dds_physical.specs.Places.{at_keyword}
use Rattle.dds_physical.specs.WholeFile.{has_key, is_key_kind}
use Rattle.dds_physical.proofs.FaultLemmas.{nothing_noted}
use Rattle.dds_logical.specs.declared.views.LogicalSpec.{LogicalSpec}
use Rattle.dds_logical.specs.declared.views.View.{View}
use Rattle.dds_logical.specs.FormatLines.{FormatLines, formats_in, key_lines, lines_ahead, is_join_file, is_multi_format}
use Rattle.dds_logical.specs.JoinViews.{join_format_fields}
use Rattle.dds_logical.specs.Keys.{padded}
use Rattle.dds_logical.specs.KeywordRules.{file_conflicts, refused_unique}
use Rattle.dds_logical.specs.LineOrder.{order_faults, out_of_order}
use Rattle.dds_logical.specs.Logical.{format_fields, format_parts, most_parts, view_described, one_or_several, join_described_by, described_by, formats_at_fault}
use Rattle.dds_logical.specs.Logical.{faults_over, logical_specification, logical_faults, logical_of}
use Rattle.dds_logical.specs.WholeFile.{formats_faults}
use Rattle.dds_logical.proofs.CompleteLemmas.{nothing_in}
use Rattle.logical_paths.specs.KeyedViews.{HasKeyIfUnique}
use Rattle.logical_paths.proofs.DescribedLemmas.{found-right}
use Rattle.logical_paths.proofs.PartLemmas.{lines-long}

-- ---- where key lines stand

-- no lines but those of a later record format stand outside of a format
rest-before : (ss : List Specification) → length (formats_in ss) ≡ 0 → before_first (λ s. is_record s.kind) ss ≡ ss
rest-before [] none = refl
rest-before (s ∷ ss) none =
    elim (cases_Bool (is_record s.kind)) [
      | inl h ↦ absurd (let some : suc (length (formats_in ss)) ≡ 0 = rw h at none in omega (arith, some))
      | inr h ↦
          let n : ℕ = prefix_len (λ (t : Specification). not (is_record t.kind)) ss in
          let next : 1 + n ≡ suc n = omega arith in
          let one : cond (not (is_record s.kind)) (1 + n) 0 ≡ suc n = ap (λ (b : Bool). cond (not b) (1 + n) 0) h ∙ next in
          let less : length (formats_in ss) ≡ 0 = rw h at none in
          ap (λ (k : ℕ). take k (s ∷ ss)) one ∙ ap (λ (ts : List Specification). s ∷ ts) (rest-before ss less)
    ]

some-keys : (ss : List Specification) → list_any (λ s. is_key_kind s.kind) ss ≡ true → 1 ≤ length (filter (λ s. is_key_kind s.kind) ss)
some-keys [] any = absurd cc
some-keys (s ∷ ss) any =
    cond_both (is_key_kind s.kind) (s ∷ filter (λ (t : Specification). is_key_kind t.kind) ss) (filter (λ (t : Specification). is_key_kind t.kind) ss) (λ (ts : List Specification). 1 ≤ length ts)
    (λ h. more (length (filter (λ (t : Specification). is_key_kind t.kind) ss)))
    (λ h. some-keys ss (subst (λ (b : Bool). (b || list_any (λ (t : Specification). is_key_kind t.kind) ss) ≡ true) h any))
  where
    more : (n : ℕ) → 1 ≤ suc n
    more n = omega arith

record-no-key : (k : SpecificationKind) → is_record k ≡ true → is_key_kind k ≡ false
record-no-key kinds.Record h = refl
record-no-key kinds.Field h = refl
record-no-key kinds.Key h = absurd cc
record-no-key kinds.Select h = refl
record-no-key kinds.Omit h = refl
record-no-key kinds.And h = refl
record-no-key kinds.Join h = refl

no-formats : (fs : List FormatLines) → length fs ≡ 0 → AllByRecursion (λ f. 1 ≤ length (key_lines f)) fs
no-formats [] none = tt
no-formats (f ∷ fs) none = absurd (omega (arith, none))

-- a line before the first record format is out of order
none-ahead : (s : Specification) (ss : List Specification) → map out_of_order (lines_ahead (s ∷ ss)) ≡ [] → is_record s.kind ≡ false → ⊥
none-ahead s ss ahead h =
    let n : ℕ = prefix_len (λ (t : Specification). not (is_record t.kind)) ss in
    let next : 1 + n ≡ suc n = omega arith in
    let one : cond (not (is_record s.kind)) (1 + n) 0 ≡ suc n = ap (λ (b : Bool). cond (not b) (1 + n) 0) h ∙ next in
    let some : out_of_order s ∷ map out_of_order (take n ss) ≡ [] = subst (λ (k : ℕ). map out_of_order (take k (s ∷ ss)) ≡ []) one ahead in
    absurd cc

one-keyed : (ss : List Specification) → map out_of_order (lines_ahead ss) ≡ [] → length (formats_in ss) ≤ 1 → has_key ss ≡ true → AllByRecursion (λ f. 1 ≤ length (key_lines f)) (formats_in ss)
one-keyed [] ahead few key = tt
one-keyed (s ∷ ss) ahead few key =
    cond_both (is_record s.kind) (_ ∷ formats_in ss) (formats_in ss) (AllByRecursion (λ f. 1 ≤ length (key_lines f)))
    (λ h.
    let low : suc (length (formats_in ss)) ≤ 1 = rw h at few in
    let none : length (formats_in ss) ≡ 0 = omega (arith, low) in
    let any : list_any (λ (t : Specification). is_key_kind t.kind) ss ≡ true =
    subst (λ (b : Bool). (b || list_any (λ (t : Specification). is_key_kind t.kind) ss) ≡ true) (record-no-key s.kind h) key in
    (subst (λ (ts : List Specification). 1 ≤ length (filter (λ (t : Specification). is_key_kind t.kind) ts)) (sym (rest-before ss none)) (some-keys ss any), no-formats (formats_in ss) none))
    (λ h. absurd (none-ahead s ss ahead h))

-- ---- UNIQUE

unique-refused : (b : Bool) (o : Option Keyword) → at_keyword Conflict (cond b None o) ≡ [] → is_some o ≡ true → b ≡ true
unique-refused true o none there = refl
unique-refused false None none there = absurd cc
unique-refused false (Some k) none there = absurd cc

-- where it stands, there is one format, and it has a key line
record AreUnique (ks : List Keyword) (fs : List FormatLines) : Type 0 where
  few : is_there (codes "UNIQUE") ks ≡ true → length fs ≤ 1
  keyed : is_there (codes "UNIQUE") ks ≡ true → AllByRecursion (λ f. 1 ≤ length (key_lines f)) fs

one-format : (n : ℕ) → not (nat_lt 1 n) ≡ true → n ≤ 1
one-format n h = ltb-false 1 n (by (nat_lt 1 n) h)
  where
    by : (b : Bool) → not b ≡ true → b ≡ false
    by true e = absurd cc
    by false e = refl

are-unique : (described : List ℕ → Option PhysicalSpec) (source : Source) (is_join : Bool) → faults_over described source is_join (formats_in source.specifications) ≡ []
    → AreUnique source.file (formats_in source.specifications)
are-unique described source is_join none =
    let ss : List Specification = source.specifications in
    let fs : List FormatLines = formats_in ss in
    let before = nothing_in _ (formats_at_fault described source is_join fs) (nothing_in _ _ none).0 in
    let order = nothing_in _ (order_faults is_join ss fs) (nothing_in _ (formats_faults fs) before.0).0 in
    let ahead : map out_of_order (lines_ahead ss) ≡ [] = (nothing_in (map out_of_order (lines_ahead ss)) _ (nothing_in _ _ order.1).0).0 in
    let conflicts = nothing_in _ (file_conflicts (has_key ss) (is_multi_format fs) source.file) (nothing_in _ _ order.0).0 in
    let refused : at_keyword Conflict (refused_unique (has_key ss) (is_multi_format fs) source.file) ≡ [] =
    (nothing_in _ (at_keyword Conflict (refused_unique (has_key ss) (is_multi_format fs) source.file)) conflicts.1).1 in
    let both : is_there (codes "UNIQUE") source.file ≡ true → (has_key ss ≡ true) × (not (is_multi_format fs) ≡ true) =
    λ there. and_parts (has_key ss) (not (is_multi_format fs)) (unique-refused (has_key ss && not (is_multi_format fs)) (first_named (codes "UNIQUE") source.file) refused there) in
    record {
      few = λ there. one-format (length fs) (both there).1;
      keyed = λ there. one-keyed ss ahead (one-format (length fs) (both there).1) (both there).0;
    }

-- ---- files

padded-long : (count : ℕ) (ps : List KeyPart) → length ps ≤ length (padded count ps)
padded-long count ps =
    let whole : length (padded count ps) ≡ length ps + length {A = KeyPart} (replicate (count - length ps) Absent) = length-append ps (replicate (count - length ps) Absent) in
    omega (arith, whole)

never-unique : (described : List ℕ → Option PhysicalSpec) (ks : List Keyword) (is_multi : Bool) (positions : ℕ) (fs : List FormatLines) → is_there (codes "UNIQUE") ks ≡ false
    → AllByRecursion (λ (view : View). view.keys.unique ≡ false) (map (view_described described ks is_multi positions) fs)
never-unique described ks is_multi positions [] not_there = tt
never-unique described ks is_multi positions (f ∷ fs) not_there = (not_there, never-unique described ks is_multi positions fs not_there)

not-several : (b : Bool) (n : ℕ) → (b ≡ true → suc (suc n) ≤ 1) → b ≡ false
not-several true n few = (let low : suc (suc n) ≤ 1 = few refl in absurd (omega (arith, low)))
not-several false n few = refl

views-unique : (described : List ℕ → Option PhysicalSpec) (ks : List Keyword) (is_multi : Bool) (positions : ℕ) (fs : List FormatLines) → AreUnique ks fs
    → HasKeyIfUnique (one_or_several (map (view_described described ks is_multi positions) fs))
views-unique described ks is_multi positions [] are = tt
views-unique described ks is_multi positions (f ∷ []) are = λ unique.
    let lines : 1 ≤ length (key_lines f) = (are.keyed unique).0 in
    let same : length (format_parts described f) ≡ length (key_lines f) = lines-long (format_fields described f) (key_lines f) in
    let long : length (format_parts described f) ≤ length (padded positions (format_parts described f)) = padded-long positions (format_parts described f) in
    omega (arith, lines, same, long)
views-unique described ks is_multi positions (f ∷ g ∷ fs) are =
    never-unique described ks is_multi positions (f ∷ g ∷ fs) (not-several (is_there (codes "UNIQUE") ks) (length fs) are.few)

join-unique : (described : List ℕ → Option PhysicalSpec) (ks : List Keyword) (fs : List FormatLines) → AreUnique ks fs → HasKeyIfUnique (join_described_by described ks fs)
join-unique described ks [] are = tt
join-unique described ks (f ∷ fs) are = λ unique.
    let lines : 1 ≤ length (key_lines f) = (are.keyed unique).0 in
    subst (λ (n : ℕ). 1 ≤ n) (sym (lines-long (join_format_fields described f) (key_lines f))) lines

file-unique : (described : List ℕ → Option PhysicalSpec) (source : Source) (fs : List FormatLines) → AreUnique source.file fs → HasKeyIfUnique (described_by described source fs)
file-unique described source fs are =
    cond_both (is_join_file fs) (join_described_by described source.file fs) (one_or_several (map (view_described described source.file (is_multi_format fs) (most_parts fs)) fs)) HasKeyIfUnique
    (λ _. join-unique described source.file fs are) (λ _. views-unique described source.file (is_multi_format fs) (most_parts fs) fs are)

pub described-unique : (described : List ℕ → Option PhysicalSpec) (source : Source) (spec : LogicalSpec) → logical_of described source ≡ Ok spec → HasKeyIfUnique spec
unfolding logical_of logical_specification logical_faults
described-unique described source spec h =
    let fs : List FormatLines = formats_in source.specifications in
    let faults : List DdsFault = faults_over described source (is_join_file fs) fs in
    let right = found-right spec (described_by described source fs) (first_after None faults) h in
    subst HasKeyIfUnique right.1 (file-unique described source fs (are-unique described source (is_join_file fs) (nothing_noted None faults right.0)))
