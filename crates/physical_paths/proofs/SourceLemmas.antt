-- A source describes fields that lie one behind another, and a key by some of them.
use Rattle.std.proofs.Common.{◌≡◌, ℕ, ◌≤◌, ◌<◌, ◌&&◌, ◌||◌, nat_lt, nat_eq, not, cond, if◌then◌else◌, Bool, true, false, Option, Some, None, is_some, Result, Ok, Err}
use Rattle.std.proofs.Common.{List, [], ◌∷◌, ◌++◌, length, length-append, refl, sym, subst, arith, inl, inr}
use lib.Pointwise.{pointwise}
use Rattle.std.specs.Prelude.{codes}
use Rattle.std.specs.List.{AllByRecursion}
use Rattle.std.proofs.lemmas.Bool.{cond_both, ltb-true, ltb-false, or_parts, not-false}
use Rattle.std.proofs.lemmas.List.Elements.{All-from_recursion}
use Rattle.field_types.specs.declared.kinds.Kind.{Kind}
use Rattle.field_types.specs.declared.kinds.FieldType.{FieldType}
use Rattle.field_values.specs.FieldTypes.{IsFieldType, is_allowed, is_numeric, width}
use Rattle.record_fmt.specs.declared.formats.Field.{Field}
use Rattle.record_fmt.specs.declared.formats.Format.{Format}
use Rattle.record_fmt.specs.Layout.{record_length, lies_from}
use Rattle.key_spec.specs.declared.KeyPart.{KeyPart}
use Rattle.key_spec.specs.declared.KeyPart.TheVariants.{Field as KeyField, Absent}
use Rattle.access_path.below.key_order.specs.declared.widths.TheConstants.{MOST_POSITIONS}
use Rattle.file_model.proofs.PathLemmas.{weaker, all-append}
use Rattle.dds_source.specs.declared.faults.DdsFault.{DdsFault}
use Rattle.dds_source.specs.declared.faults.DdsCause.TheVariants.{Conflict}
use Rattle.dds_source.specs.declared.keywords.Keyword.{Keyword}
use Rattle.dds_source.specs.declared.specifications.Source.{Source}
use Rattle.dds_source.specs.declared.specifications.Specification.{Specification}
use Rattle.dds_source.specs.declared.specifications.SpecificationKind.{SpecificationKind}
use Rattle.dds_source.specs.declared.specifications.SpecificationKind.TheVariants as kinds
use Rattle.dds_source.specs.Entries.{when}
use Rattle.dds_physical.specs.declared.physical_files.PhysicalSpec.{PhysicalSpec}
use Rattle.dds_physical.specs.Attributes.{kind_of, are_decimals_wrong, sized, attributes_of_kind, attributes, length_of, decimals_of}
use Rattle.dds_physical.specs.Names.{name_of, field_named, is_field}
use Rattle.dds_physical.specs.References.{typed, typed_by, referenced, reference_file}
use Rattle.dds_physical.specs.Described.{IsDescribed}
use Rattle.dds_physical.specs.Draft.{nothing, key_part, key_length}
use Rattle.dds_physical.specs.Lines.{key_place_faults, with_field, with_named_field, with_key, line_faults, line_faults_of, described, described_of}
use Rattle.dds_physical.specs.Lines.{or_those, unless_faulty, lines_faults, lines_described}
use Rattle.dds_physical.specs.Keywords.{first_named, is_there}
use Rattle.dds_physical.specs.Places.{at_keyword}
use Rattle.dds_physical.specs.WholeFile.{file_faults, has_key, is_key_kind, keyless_unique, whole_faults}
use Rattle.dds_physical.specs.Physical.{physical_of, faults_of, draft_of, finished, specification}
use Rattle.dds_physical.proofs.DescribedLemmas.{IsDescribed-more}
use Rattle.dds_physical.proofs.FirstLemmas.{found_is}
use Rattle.physical_paths.specs.KeyedFiles.{IsKeyed, IsFieldPart}
use Rattle.physical_paths.proofs.FieldLemmas.{AnyOf, IsThere, IsPartOf, of-part, width-some, lies-in}

-- ---- the type of a field that is described

cond-ok : {A E : Type 0} (b : Bool) (e : E) (r : Result A E) (x : A) → cond b (Err e) r ≡ Ok x → (b ≡ false) × (r ≡ Ok x)
cond-ok true e r x h = absurd cc
cond-ok false e r x h = (refl, h)

typed-equal : (t u : FieldType) → ◌≡◌ {A = Result FieldType DdsFault} (Ok t) (Ok u) → t ≡ u
typed-equal t u e = cc

sized-allowed : (s : Specification) (kind : Kind) (long decimals : ℕ) (t : FieldType) → sized s kind long decimals ≡ Ok t → IsFieldType t
sized-allowed s kind long decimals t h =
    let first = cond-ok (not (is_allowed kind long 0)) _ _ t h in
    let second = cond-ok (are_decimals_wrong (is_some s.columns.decimals) kind long decimals) _ _ t first.1 in
    let right = or_parts (is_some s.columns.decimals && not (is_numeric kind)) (not (is_allowed kind long decimals)) second.0 in
    subst IsFieldType (typed-equal _ t second.1) (not-false (is_allowed kind long decimals) right.1)

attributes-allowed : (s : Specification) (copied : Option FieldType) (t : FieldType) → attributes s copied ≡ Ok t → IsFieldType t
attributes-allowed s copied t h = by (kind_of s.columns.data_type s.columns.decimals copied) h
  where
    by : (kind : Option Kind) → attributes_of_kind s copied kind ≡ Ok t → IsFieldType t
    by None e = absurd cc
    by (Some kind) e = sized-allowed s kind (length_of s.columns.length s.columns.data_type kind copied) (decimals_of s.columns.decimals kind copied) t e

typed_by-allowed : (s : Specification) (r : Result FieldType DdsFault) (t : FieldType) → typed_by s r ≡ Ok t → IsFieldType t
typed_by-allowed s (Ok u) t h = attributes-allowed s (Some u) t h
typed_by-allowed s (Err fault) t h = absurd cc

typed-allowed : (formats : List ℕ → Option Format) (file : Option (List ℕ)) (own : List Field) (s : Specification) (t : FieldType) → typed formats file own s ≡ Ok t → IsFieldType t
typed-allowed formats file own s t h =
    elim s.columns.reference as (λ b. cond b (typed_by s (referenced formats file own s)) (attributes s None) ≡ Ok t → IsFieldType t) [
      | true ↦ λ e. typed_by-allowed s (referenced formats file own s) t e
      | false ↦ λ e. attributes-allowed s None t e
    ] h

-- ---- lists without faults

none-left : {A : Type 0} (xs ys : List A) → xs ++ ys ≡ [] → xs ≡ []
none-left [] ys e = refl
none-left (x ∷ xs) ys e = absurd cc

none-right : {A : Type 0} (xs ys : List A) → xs ++ ys ≡ [] → ys ≡ []
none-right [] ys e = e
none-right (x ∷ xs) ys e = absurd cc

not-said : (b : Bool) (f : DdsFault) → when b f ≡ [] → b ≡ false
not-said true f e = absurd cc
not-said false f e = refl

-- ---- fields and positions

-- of what lines describe
record AreKeyed (fields : List Field) (parts : List KeyPart) : Type 0 where
  described : IsDescribed fields
  positions : AllByRecursion (IsPartOf fields) parts

any-more : {A : Type 0} (P : A → Type 0) (xs : List A) (x : A) → AnyOf P xs → AnyOf P (xs ++ x ∷ [])
any-more P [] x some = absurd some
any-more P (y ∷ ys) x (inl here) = inl here
any-more P (y ∷ ys) x (inr more) = inr (any-more P ys x more)

-- among fields with one more behind them, or before them
part-more : (fields : List Field) (f : Field) (p : KeyPart) → IsPartOf fields p → IsPartOf (fields ++ f ∷ []) p
part-more fields f (KeyField t offset descend absval) is = any-more (IsThere t offset) fields f is
part-more fields f Absent is = absurd is

part-behind : (fields : List Field) (f : Field) (p : KeyPart) → IsPartOf fields p → IsPartOf (f ∷ fields) p
part-behind fields f (KeyField t offset descend absval) is = inr is
part-behind fields f Absent is = absurd is

-- a field that is named is one of them
named-part : (name : List ℕ) (fields : List Field) (ks : List Keyword) → is_some (field_named name fields) ≡ true → IsPartOf fields (key_part (field_named name fields) ks)
named-part name [] ks there = absurd cc
named-part name (f ∷ fields) ks there =
    cond_both (pointwise nat_eq f.name name) (Some f) (field_named name fields) (λ (o : Option Field). is_some o ≡ true → IsPartOf (f ∷ fields) (key_part o ks))
    (λ same some. inl (refl, refl))
    (λ other some. part-behind fields f (key_part (field_named name fields) ks) (named-part name fields ks some)) there

-- ---- what lines describe

named-keyed : (d : _) (name : Option (List ℕ)) (r : Result FieldType DdsFault) (ks : List Keyword) → length (finished d []).format.fields < 1000
    → ((t : FieldType) → r ≡ Ok t → IsFieldType t) → AreKeyed (finished d []).format.fields (finished d []).keys.parts
    → AreKeyed (finished (with_named_field d name r ks) []).format.fields (finished (with_named_field d name r ks) []).keys.parts
named-keyed d None r ks few allowed keyed = keyed
named-keyed d (Some name) (Err fault) ks few allowed keyed = keyed
named-keyed d (Some name) (Ok t) ks few allowed keyed = record {
  described = IsDescribed-more d.fields _ keyed.described few refl (allowed t refl);
  positions = weaker (IsPartOf d.fields) _ (λ p is. part-more d.fields _ p is) d.key_parts keyed.positions;
}

field-keyed : (d : _) (name : Option (List ℕ)) (r : Result FieldType DdsFault) (ks : List Keyword) → ((t : FieldType) → r ≡ Ok t → IsFieldType t)
    → AreKeyed (finished d []).format.fields (finished d []).keys.parts
    → AreKeyed (finished (with_field d name r ks) []).format.fields (finished (with_field d name r ks) []).keys.parts
field-keyed d name r ks allowed keyed =
    elim (nat_lt (length d.fields) 1000) as (λ b. nat_lt (length d.fields) 1000 ≡ b
    → AreKeyed (if not b then d else with_named_field d name r ks).fields (if not b then d else with_named_field d name r ks).key_parts) [
      | true ↦ λ few. named-keyed d name r ks (ltb-true (length d.fields) 1000 few) allowed keyed
      | false ↦ λ many. keyed
    ] refl

key-keyed : (d : _) (name : Option (List ℕ)) (ks : List Keyword) → is_field name (finished d []).format.fields ≡ true → AreKeyed (finished d []).format.fields (finished d []).keys.parts
    → AreKeyed (finished (with_key d name ks) []).format.fields (finished (with_key d name ks) []).keys.parts
key-keyed d None ks there keyed = keyed
key-keyed d (Some name) ks there keyed = record {
  described = keyed.described;
  positions = all-append (IsPartOf d.fields) d.key_parts (key_part (field_named name d.fields) ks ∷ []) keyed.positions (named-part name d.fields ks there, tt);
}

-- ---- how many positions there are

no-less : (n : ℕ) → n ≤ n
no-less n = omega arith

named-longer : (d : _) (name : Option (List ℕ)) (r : Result FieldType DdsFault) (ks : List Keyword)
    → length (finished d []).keys.parts ≤ length (finished (with_named_field d name r ks) []).keys.parts
named-longer d None r ks = no-less (length d.key_parts)
named-longer d (Some name) (Err fault) ks = no-less (length d.key_parts)
named-longer d (Some name) (Ok t) ks = no-less (length d.key_parts)

field-longer : (d : _) (name : Option (List ℕ)) (r : Result FieldType DdsFault) (ks : List Keyword)
    → length (finished d []).keys.parts ≤ length (finished (with_field d name r ks) []).keys.parts
field-longer d name r ks =
    elim (nat_lt (length d.fields) 1000) as (λ b. length d.key_parts ≤ length (if not b then d else with_named_field d name r ks).key_parts) [
      | true ↦ named-longer d name r ks
      | false ↦ no-less (length d.key_parts)
    ]

key-longer : (d : _) (name : Option (List ℕ)) (ks : List Keyword) → length (finished d []).keys.parts ≤ length (finished (with_key d name ks) []).keys.parts
key-longer d None ks = no-less (length d.key_parts)
key-longer d (Some name) ks = (let more = length-append d.key_parts (key_part (field_named name d.fields) ks ∷ []) in omega (arith, more))

key-first : (d : _) (name : Option (List ℕ)) (ks : List Keyword) → is_field name (finished d []).format.fields ≡ true → 1 ≤ length (finished (with_key d name ks) []).keys.parts
key-first d None ks there = absurd cc
key-first d (Some name) ks there = (let more = length-append d.key_parts (key_part (field_named name d.fields) ks ∷ []) in omega (arith, more))

module _ (formats : List ℕ → Option Format) (file : Option (List ℕ)) where
  -- the field of a key's line is there
  key-there : (d : _) (s : Specification) → line_faults_of formats file d s kinds.Key ≡ [] → is_field (name_of s.name) (finished d []).format.fields ≡ true
  key-there d s none =
      let place : key_place_faults d s ≡ [] = none-left (key_place_faults d s) _ (none-left _ _ (none-left _ _ none)) in
      not-false (is_field (name_of s.name) d.fields) (not-said (not (is_field (name_of s.name) d.fields)) _ (none-right _ _ place))

  line-of : (d : _) (s : Specification) (kind : SpecificationKind) → line_faults_of formats file d s kind ≡ [] → AreKeyed (finished d []).format.fields (finished d []).keys.parts
      → AreKeyed (finished (described_of formats file d s kind) []).format.fields (finished (described_of formats file d s kind) []).keys.parts
  line-of d s kinds.Record none keyed = keyed
  line-of d s kinds.Field none keyed = field-keyed d (name_of s.name) (typed formats file d.fields s) s.keywords (λ t e. typed-allowed formats file d.fields s t e) keyed
  line-of d s kinds.Key none keyed = key-keyed d (name_of s.name) s.keywords (key-there d s none) keyed
  line-of d s kinds.Select none keyed = keyed
  line-of d s kinds.Omit none keyed = keyed
  line-of d s kinds.And none keyed = keyed
  line-of d s kinds.Join none keyed = keyed

  one-line : (d : _) (s : Specification) → line_faults formats file d s ≡ [] → AreKeyed (finished d []).format.fields (finished d []).keys.parts
      → AreKeyed (finished (described formats file d s) []).format.fields (finished (described formats file d s) []).keys.parts
  unfolding line_faults described
  one-line d s none keyed = line-of d s s.kind none keyed

  all-lines : (d : _) (ss : List Specification) → lines_faults formats file d ss ≡ [] → AreKeyed (finished d []).format.fields (finished d []).keys.parts
      → AreKeyed (finished (lines_described formats file d ss) []).format.fields (finished (lines_described formats file d ss) []).keys.parts
  all-lines d [] none keyed = keyed
  all-lines d (s ∷ ss) none keyed =
      elim (line_faults formats file d s) as (λ fs. line_faults formats file d s ≡ fs → or_those fs (lines_faults formats file (described formats file d s) ss) ≡ []
      → AreKeyed (unless_faulty fs (described formats file d s) (lines_described formats file (described formats file d s) ss)).fields
      (unless_faulty fs (described formats file d s) (lines_described formats file (described formats file d s) ss)).key_parts) [
        | [] ↦ λ clear later. all-lines (described formats file d s) ss later (one-line d s clear keyed)
        | f ∷ fs ↦ λ is later. absurd cc
      ] refl none

  -- ---- a key's line gives a position, which later lines leave

  line-longer : (d : _) (s : Specification) (kind : SpecificationKind) → length (finished d []).keys.parts ≤ length (finished (described_of formats file d s kind) []).keys.parts
  line-longer d s kinds.Record = no-less (length d.key_parts)
  line-longer d s kinds.Field = field-longer d (name_of s.name) (typed formats file d.fields s) s.keywords
  line-longer d s kinds.Key = key-longer d (name_of s.name) s.keywords
  line-longer d s kinds.Select = no-less (length d.key_parts)
  line-longer d s kinds.Omit = no-less (length d.key_parts)
  line-longer d s kinds.And = no-less (length d.key_parts)
  line-longer d s kinds.Join = no-less (length d.key_parts)

  one-longer : (d : _) (s : Specification) → length (finished d []).keys.parts ≤ length (finished (described formats file d s) []).keys.parts
  unfolding described
  one-longer d s = line-longer d s s.kind

  lines-longer : (d : _) (ss : List Specification) → lines_faults formats file d ss ≡ []
      → length (finished d []).keys.parts ≤ length (finished (lines_described formats file d ss) []).keys.parts
  lines-longer d [] none = no-less (length d.key_parts)
  lines-longer d (s ∷ ss) none =
      elim (line_faults formats file d s) as (λ fs. or_those fs (lines_faults formats file (described formats file d s) ss) ≡ []
      → length d.key_parts ≤ length (unless_faulty fs (described formats file d s) (lines_described formats file (described formats file d s) ss)).key_parts) [
        | [] ↦ λ later. (let first = one-longer d s in let rest = lines-longer (described formats file d s) ss later in omega (arith, first, rest))
        | f ∷ fs ↦ λ later. absurd cc
      ] none

  line-first : (d : _) (s : Specification) (kind : SpecificationKind) → line_faults_of formats file d s kind ≡ [] → is_key_kind kind ≡ true
      → 1 ≤ length (finished (described_of formats file d s kind) []).keys.parts
  line-first d s kinds.Record none key = absurd cc
  line-first d s kinds.Field none key = absurd cc
  line-first d s kinds.Key none key = key-first d (name_of s.name) s.keywords (key-there d s none)
  line-first d s kinds.Select none key = absurd cc
  line-first d s kinds.Omit none key = absurd cc
  line-first d s kinds.And none key = absurd cc
  line-first d s kinds.Join none key = absurd cc

  one-first : (d : _) (s : Specification) → line_faults formats file d s ≡ [] → is_key_kind s.kind ≡ true → 1 ≤ length (finished (described formats file d s) []).keys.parts
  unfolding line_faults described
  one-first d s none key = line-first d s s.kind none key

  lines-first : (d : _) (ss : List Specification) → lines_faults formats file d ss ≡ [] → has_key ss ≡ true → 1 ≤ length (finished (lines_described formats file d ss) []).keys.parts
  lines-first d [] none key = absurd cc
  lines-first d (s ∷ ss) none key =
      elim (line_faults formats file d s) as (λ fs. line_faults formats file d s ≡ fs → or_those fs (lines_faults formats file (described formats file d s) ss) ≡ []
      → 1 ≤ length (unless_faulty fs (described formats file d s) (lines_described formats file (described formats file d s) ss)).key_parts) [
        | [] ↦ λ clear later. either clear later (λ any. lines-first (described formats file d s) ss later any) (is_key_kind s.kind) refl key
        | f ∷ fs ↦ λ is later. absurd cc
      ] refl none
    where
      either : line_faults formats file d s ≡ [] → lines_faults formats file (described formats file d s) ss ≡ []
          → (has_key ss ≡ true → 1 ≤ length (finished (lines_described formats file (described formats file d s) ss) []).keys.parts)
          → (b : Bool) → is_key_kind s.kind ≡ b → (b || has_key ss) ≡ true → 1 ≤ length (finished (lines_described formats file (described formats file d s) ss) []).keys.parts
      either clear later rest true here any =
          let first = one-first d s clear here in
          let more = lines-longer (described formats file d s) ss later in
          omega (arith, first, more)
      either clear later rest false here any = rest any

-- UNIQUE stands in a file with a key
unique-keyed : (has : Bool) (ks : List Keyword) → at_keyword Conflict (keyless_unique has ks) ≡ [] → is_there (codes "UNIQUE") ks ≡ true → has ≡ true
unique-keyed true ks none there = refl
unique-keyed false ks none there = by (first_named (codes "UNIQUE") ks) none there
  where
    by : (o : Option Keyword) → at_keyword Conflict o ≡ [] → is_some o ≡ true → false ≡ true
    by None none there = absurd cc
    by (Some k) none there = absurd cc

-- ---- the file

-- each position has a byte
parts-short : (fields : List Field) → lies_from 0 fields ≡ true → (parts : List KeyPart) → AllByRecursion (IsPartOf fields) parts → length parts ≤ key_length parts
parts-short fields lies [] all = omega arith
parts-short fields lies (KeyField t offset descend absval ∷ parts) all =
    let some : 1 ≤ width t = width-some t (lies-in 0 fields t offset lies all.0).allowed in
    let rest : length parts ≤ key_length parts = parts-short fields lies parts all.1 in
    omega (arith, some, rest)
parts-short fields lies (Absent ∷ parts) all = absurd all.0

few-positions : (n most : ℕ) → n ≤ most → most ≤ 120 → n ≤ MOST_POSITIONS
few-positions n most less low = let few : n ≤ 65535 = omega (arith, less, low) in few

file-keyed : (spec : PhysicalSpec) → AreKeyed spec.format.fields spec.keys.parts → record_length spec.format.fields ≤ 32766 → key_length spec.keys.parts ≤ 120
    → (spec.keys.unique ≡ true → 1 ≤ length spec.keys.parts) → IsKeyed spec
file-keyed spec keyed narrow short some = record {
  laid = record { few = keyed.described.few; narrow = narrow; lies = keyed.described.lies };
  parts = All-from_recursion (IsFieldPart spec.format.fields) spec.keys.parts
      (weaker (IsPartOf spec.format.fields) (IsFieldPart spec.format.fields) (of-part spec.format.fields) spec.keys.parts keyed.positions);
  few = few-positions (length spec.keys.parts) (key_length spec.keys.parts) (parts-short spec.format.fields keyed.described.lies spec.keys.parts keyed.positions) short;
  some = some;
}

nothing-keyed : AreKeyed [] []
nothing-keyed = record { described = record { few = omega arith; lies = refl }; positions = tt }

source-keyed : (formats : List ℕ → Option Format) (source : Source) → faults_of formats source ≡ [] → IsKeyed (specification formats source)
unfolding faults_of specification draft_of
source-keyed formats source none =
    let lines : lines_faults formats (reference_file source.file) nothing source.specifications ≡ [] = none-left _ _ (none-left _ _ none) in
    let whole : whole_faults source.last_line source.specifications (draft_of formats source) ≡ [] = none-right _ _ none in
    let keyed : AreKeyed (draft_of formats source).fields (draft_of formats source).key_parts =
    all-lines formats (reference_file source.file) nothing source.specifications lines nothing-keyed in
    let file : file_faults formats source.file source.specifications ≡ [] = none-right _ _ (none-left _ _ none) in
    let keyless : at_keyword Conflict (keyless_unique (has_key source.specifications) source.file) ≡ [] = none-right _ _ (none-left _ _ file) in
    let narrow : nat_lt 32766 (record_length (draft_of formats source).fields) ≡ false = not-said _ _ (none-left _ _ (none-left _ _ whole)) in
    let short : nat_lt 120 (key_length (draft_of formats source).key_parts) ≡ false = not-said _ _ (none-right _ _ (none-left _ _ whole)) in
    file-keyed (finished (draft_of formats source) source.file) keyed
    (ltb-false 32766 (record_length (draft_of formats source).fields) narrow) (ltb-false 120 (key_length (draft_of formats source).key_parts) short)
    (λ unique. lines-first formats (reference_file source.file) nothing source.specifications lines (unique-keyed (has_key source.specifications) source.file keyless unique))

pub described-keyed : (formats : List ℕ → Option Format) (source : Source) (spec : PhysicalSpec) → physical_of formats source ≡ Ok spec → IsKeyed spec
described-keyed formats source spec h =
    let good : (faults_of formats source ≡ []) × (spec ≡ specification formats source) = found_is formats source (Ok spec) h in
    subst IsKeyed (sym good.1) (source-keyed formats source good.0)
