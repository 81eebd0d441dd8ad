-- A physical file that a source describes has a field, and each field a byte.
use Rattle.std.proofs.Common.{◌≡◌, ℕ, ◌+◌, ◌≤◌, ◌||◌, not, nat_lt, if◌then◌else◌, Bool, true, false, Option, Some, None, length, Result, Ok, Err, List, [], ◌∷◌, ◌++◌, refl, sym, subst, arith}
use Rattle.std.proofs.lemmas.Bool.{or_parts}
use Rattle.std.specs.Option.{is_none}
use Rattle.field_types.specs.declared.kinds.Kind.{Kind}
use Rattle.field_types.specs.declared.kinds.Kind.TheVariants.{Char, Zoned, Packed, Binary, Date, Time, Stamp}
use Rattle.field_types.specs.declared.kinds.FieldType.{FieldType}
use Rattle.field_values.specs.FieldTypes.{IsFieldType, is_allowed, width, width_of}
use Rattle.record_fmt.specs.declared.formats.Field.{Field}
use Rattle.record_fmt.specs.declared.formats.Format.{Format}
use Rattle.record_fmt.specs.Layout.{record_length}
use Rattle.record_fmt.proofs.LayoutLemmas.{record_length-append}
use Rattle.dds_source.specs.declared.faults.DdsFault.{DdsFault}
use Rattle.dds_source.specs.declared.keywords.Keyword.{Keyword}
use Rattle.dds_source.specs.declared.specifications.Source.{Source}
use Rattle.dds_source.specs.declared.specifications.Specification.{Specification}
use Rattle.dds_source.specs.declared.specifications.SpecificationKind.{SpecificationKind}
use Rattle.dds_source.specs.declared.specifications.SpecificationKind.TheVariants as kinds
use Rattle.dds_source.specs.Faults.{first_after}
use Rattle.dds_physical.specs.declared.physical_files.PhysicalSpec.{PhysicalSpec}
use Rattle.dds_physical.specs.Draft.{nothing}
use Rattle.dds_physical.specs.Names.{name_of}
use Rattle.dds_physical.specs.Lines.{described, described_of, line_faults, line_faults_of, lines_described, lines_faults, or_those, place_faults, type_faults, unless_faulty, with_field, with_named_field, with_key}
use Rattle.dds_physical.specs.Physical.{draft_of, faults_of, finished, physical_of, specification}
use Rattle.dds_physical.specs.References.{reference_file, typed}
use Rattle.dds_physical.specs.WholeFile.{has_field, is_field_kind, whole_faults}
use Rattle.dds_physical.proofs.FaultLemmas.{nothing_noted}
use Rattle.library_kept.proofs.DefaultLemmas.{none-left, none-right, not-said}
use Rattle.library_kept.proofs.FieldLemmas.{typed-allowed, unless-ok}

-- ---- a field has a byte

width_of-some : (kind : Kind) (n d : ℕ) → is_allowed kind n d ≡ true → 1 ≤ width_of kind n
width_of-some Char n d allowed = grind arith
width_of-some Zoned n d allowed = grind arith
width_of-some Packed n d allowed = grind arith
width_of-some Binary n d allowed = grind arith
width_of-some Date n d allowed = grind arith
width_of-some Time n d allowed = grind arith
width_of-some Stamp n d allowed = grind arith

width-some : (t : FieldType) → IsFieldType t → 1 ≤ width t
width-some t allowed = width_of-some t.kind t.length t.decimals allowed

byte-added : (fields : List Field) (f : Field) → 1 ≤ width f.ty → 1 ≤ record_length (fields ++ f ∷ [])
byte-added fields f byte =
    let more = record_length-append fields (f ∷ []) in
    let one : record_length (f ∷ []) ≡ width f.ty + 0 = refl in
    omega (arith, more, one, byte)

wide-added : (fields : List Field) (f : Field) → 1 ≤ record_length fields → 1 ≤ record_length (fields ++ f ∷ [])
wide-added fields f wide = let more = record_length-append fields (f ∷ []) in omega (arith, more, wide)

-- ---- a line of a field that isn't at fault describes one

named-wide : (d : _) (name : Option (List ℕ)) (r : Result FieldType DdsFault) (ks : List Keyword) → is_none name ≡ false → type_faults r ks ≡ [] → ((t : FieldType) → r ≡ Ok t → IsFieldType t)
    → 1 ≤ record_length (finished (with_named_field d name r ks) []).format.fields
named-wide d None r ks some none allowed = absurd cc
named-wide d (Some name) (Err fault) ks some none allowed = absurd cc
named-wide d (Some name) (Ok t) ks some none allowed = byte-added d.fields _ (width-some t (allowed t refl))

field-wide : (d : _) (name : Option (List ℕ)) (r : Result FieldType DdsFault) (ks : List Keyword) → nat_lt (length (finished d []).format.fields) 1000 ≡ true → is_none name ≡ false
    → type_faults r ks ≡ [] → ((t : FieldType) → r ≡ Ok t → IsFieldType t) → 1 ≤ record_length (finished (with_field d name r ks) []).format.fields
field-wide d name r ks few some none allowed =
    subst (λ (b : Bool). 1 ≤ record_length (if not b then d else with_named_field d name r ks).fields) (sym few) (named-wide d name r ks some none allowed)

not-false : (b : Bool) → not b ≡ false → b ≡ true
not-false true h = refl
not-false false h = absurd cc

-- ---- and no line takes a field away

named-keeps : (d : _) (name : Option (List ℕ)) (r : Result FieldType DdsFault) (ks : List Keyword) → 1 ≤ record_length (finished d []).format.fields
    → 1 ≤ record_length (finished (with_named_field d name r ks) []).format.fields
named-keeps d None r ks wide = wide
named-keeps d (Some name) (Err fault) ks wide = wide
named-keeps d (Some name) (Ok t) ks wide = wide-added d.fields _ wide

field-keeps : (d : _) (name : Option (List ℕ)) (r : Result FieldType DdsFault) (ks : List Keyword) → 1 ≤ record_length (finished d []).format.fields
    → 1 ≤ record_length (finished (with_field d name r ks) []).format.fields
field-keeps d name r ks wide =
    elim (nat_lt (length d.fields) 1000) as (λ b. 1 ≤ record_length (if not b then d else with_named_field d name r ks).fields) [
      | true ↦ named-keeps d name r ks wide
      | false ↦ wide
    ]

key-keeps : (d : _) (name : Option (List ℕ)) (ks : List Keyword) → 1 ≤ record_length (finished d []).format.fields → 1 ≤ record_length (finished (with_key d name ks) []).format.fields
key-keeps d None ks wide = wide
key-keeps d (Some name) ks wide = wide

module _ (formats : List ℕ → Option Format) (file : Option (List ℕ)) where
  line-keeps : (d : _) (s : Specification) (kind : SpecificationKind) → 1 ≤ record_length (finished d []).format.fields
      → 1 ≤ record_length (finished (described_of formats file d s kind) []).format.fields
  line-keeps d s kinds.Record wide = wide
  line-keeps d s kinds.Field wide = field-keeps d (name_of s.name) (typed formats file d.fields s) s.keywords wide
  line-keeps d s kinds.Key wide = key-keeps d (name_of s.name) s.keywords wide
  line-keeps d s kinds.Select wide = wide
  line-keeps d s kinds.Omit wide = wide
  line-keeps d s kinds.And wide = wide
  line-keeps d s kinds.Join wide = wide

  one-keeps : (d : _) (s : Specification) → 1 ≤ record_length (finished d []).format.fields → 1 ≤ record_length (finished (described formats file d s) []).format.fields
  unfolding described
  one-keeps d s wide = line-keeps d s s.kind wide

  all-keep : (d : _) (ss : List Specification) → 1 ≤ record_length (finished d []).format.fields → 1 ≤ record_length (finished (lines_described formats file d ss) []).format.fields
  all-keep d [] wide = wide
  all-keep d (s ∷ ss) wide =
      let here = one-keeps d s wide in
      elim (line_faults formats file d s) as (λ fs. 1 ≤ record_length (unless_faulty fs (described formats file d s) (lines_described formats file (described formats file d s) ss)).fields) [
        | [] ↦ all-keep (described formats file d s) ss here
        | f ∷ fs ↦ here
      ]

  line-wide : (d : _) (s : Specification) (kind : SpecificationKind) → line_faults_of formats file d s kind ≡ [] → is_field_kind kind ≡ true
      → 1 ≤ record_length (finished (described_of formats file d s kind) []).format.fields
  line-wide d s kinds.Record none its = absurd cc
  line-wide d s kinds.Field none its =
      let front = none-left _ _ none in
      let places : place_faults d s ≡ [] = none-left _ _ (none-left _ _ (none-left _ _ (none-left _ _ front))) in
      let few = not-false (nat_lt (length d.fields) 1000) (not-said _ _ (none-right _ _ none)) in
      let some = not-said (is_none (name_of s.name)) _ (none-right _ _ (none-left _ _ places)) in
      field-wide d (name_of s.name) (typed formats file d.fields s) s.keywords few some (none-right _ (type_faults (typed formats file d.fields s) s.keywords) front)
      (λ t e. typed-allowed formats file d.fields s t e)
  line-wide d s kinds.Key none its = absurd cc
  line-wide d s kinds.Select none its = absurd cc
  line-wide d s kinds.Omit none its = absurd cc
  line-wide d s kinds.And none its = absurd cc
  line-wide d s kinds.Join none its = absurd cc

  one-wide : (d : _) (s : Specification) → line_faults formats file d s ≡ [] → is_field_kind s.kind ≡ true → 1 ≤ record_length (finished (described formats file d s) []).format.fields
  unfolding line_faults described
  one-wide d s none its = line-wide d s s.kind none its

  all-wide : (d : _) (ss : List Specification) → lines_faults formats file d ss ≡ [] → has_field ss ≡ true → 1 ≤ record_length (finished (lines_described formats file d ss) []).format.fields
  all-wide d [] none some = absurd cc
  all-wide d (s ∷ ss) none some =
      elim (line_faults formats file d s) as (λ fs. line_faults formats file d s ≡ fs → or_those fs (lines_faults formats file (described formats file d s) ss) ≡ []
      → 1 ≤ record_length (unless_faulty fs (described formats file d s) (lines_described formats file (described formats file d s) ss)).fields) [
        | [] ↦ λ clear later.
            elim (is_field_kind s.kind) as (λ b. is_field_kind s.kind ≡ b → (b || has_field ss) ≡ true → 1 ≤ record_length (lines_described formats file (described formats file d s) ss).fields) [
              | true ↦ λ its any. all-keep (described formats file d s) ss (one-wide d s clear its)
              | false ↦ λ other any. all-wide (described formats file d s) ss later any
            ] refl some
        | f ∷ fs ↦ λ is later. absurd cc
      ] refl none

draft-wide : (formats : List ℕ → Option Format) (source : Source) → faults_of formats source ≡ [] → 1 ≤ record_length (draft_of formats source).fields
unfolding faults_of draft_of
draft-wide formats source none =
    let lines = none-left (lines_faults formats (reference_file source.file) nothing source.specifications) _
    (none-left _ (whole_faults source.last_line source.specifications (lines_described formats (reference_file source.file) nothing source.specifications)) none) in
    let whole = none-right _ (whole_faults source.last_line source.specifications (lines_described formats (reference_file source.file) nothing source.specifications)) none in
    let there = or_parts _ (not (has_field source.specifications)) (not-said _ _ (none-right _ _ whole)) in
    all-wide formats (reference_file source.file) nothing source.specifications lines (not-false (has_field source.specifications) there.1)

-- whatever a source describes, its records have a byte
pub physical-wide : (formats : List ℕ → Option Format) (source : Source) (spec : PhysicalSpec) → physical_of formats source ≡ Ok spec → 1 ≤ record_length spec.format.fields
unfolding physical_of specification
physical-wide formats source spec h =
    let good = unless-ok (specification formats source) spec (first_after None (faults_of formats source)) h in
    let none = nothing_noted None (faults_of formats source) good.0 in
    subst (λ (p : PhysicalSpec). 1 ≤ record_length p.format.fields) good.1 (draft-wide formats source none)
