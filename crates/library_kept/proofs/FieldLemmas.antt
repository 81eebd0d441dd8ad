-- A record that was packed has a value in each field, and the bytes of its fields; a source describes fields that lie one behind the other.
use Rattle.std.proofs.Common.{◌≡◌, ℕ, ◌+◌, ◌≤◌, ◌<◌, ◌&&◌, nat_lt, not, cond, if◌then◌else◌, Bool, true, false, Option, Some, None, is_some, IfSome, Result, Ok, Err, List, [], ◌∷◌, ◌++◌, length, take, drop, length-append, refl, sym, ◌∙◌, ap, subst, arith}
use Rattle.std.proofs.lemmas.Bool.{ltb-true, ltb-false, or_parts, not-false}
use Rattle.std.proofs.lemmas.List.{take-append-drop}
use Rattle.field_types.specs.declared.values.Value.{Value}
use Rattle.field_types.specs.declared.kinds.Kind.{Kind}
use Rattle.field_types.specs.declared.kinds.FieldType.{FieldType}
use Rattle.field_values.specs.FieldTypes.{IsFieldType, is_allowed, is_numeric, width}
use Rattle.field_values.specs.FieldBytes.{held}
use Rattle.member_slots.specs.declared.slot.Slot.{Slot}
use Rattle.member_slots.specs.declared.slot.Slot.TheVariants.{Live, Deleted}
use Rattle.member_slots.specs.Member.{FitsSlot}
use Rattle.record_fmt.specs.declared.formats.Field.{Field}
use Rattle.record_fmt.specs.declared.formats.Format.{Format}
use Rattle.record_fmt.specs.Layout.{record_length, IsLaidOut}
use Rattle.record_fmt.specs.Records.{both, fields_held, record_held, record_given}
use Rattle.record_fmt.proofs.HeldLemmas.{held-length}
use Rattle.record_laws.proofs.HeldLemmas.{new-record, changed-record}
use Rattle.dds_source.specs.declared.faults.DdsFault.{DdsFault}
use Rattle.dds_source.specs.declared.keywords.Keyword.{Keyword}
use Rattle.dds_source.specs.declared.specifications.Source.{Source}
use Rattle.dds_source.specs.declared.specifications.Specification.{Specification}
use Rattle.dds_source.specs.declared.specifications.SpecificationKind.{SpecificationKind}
use Rattle.dds_source.specs.declared.specifications.SpecificationKind.TheVariants as kinds
use Rattle.dds_source.specs.Faults.{first_after}
use Rattle.library_steps.below.dds_physical.specs.declared.physical_files.PhysicalSpec.{PhysicalSpec}
use Rattle.library_steps.specs.Attributes.{kind_of, are_decimals_wrong, sized, attributes_of_kind, attributes, length_of, decimals_of}
use Rattle.library_steps.specs.Names.{name_of}
use Rattle.library_steps.specs.References.{typed, typed_by, referenced, reference_file}
use Rattle.library_steps.specs.Described.{IsDescribed}
use Rattle.library_steps.specs.Lines.{with_field, with_named_field, with_key, described, described_of, lines_described, unless_faulty, line_faults, lines_faults}
use Rattle.library_steps.specs.Physical.{physical_of, faults_of, draft_of, finished, specification, specification_unless}
use Rattle.library_steps.proofs.DescribedLemmas.{IsDescribed-more}
use Rattle.library_steps.proofs.FaultLemmas.{nothing_noted, first_after_append, clear_before}
use Rattle.library_steps.specs.Draft.{nothing}
use Rattle.library_steps.specs.WholeFile.{whole_faults, file_faults}
use Rattle.lawful_states.specs.Lawful.{HoldsValues}

-- ---- the bytes of a record

both-first : (v : Option Value) (o : Option (List Value)) → is_some (both v o) ≡ true → is_some v ≡ true
both-first None o h = h
both-first (Some v) o h = refl

both-rest : (v : Option Value) (o : Option (List Value)) → is_some (both v o) ≡ true → is_some o ≡ true
both-rest None o h = absurd cc
both-rest (Some v) None h = h
both-rest (Some v) (Some vs) h = refl

length-held : (fs : List Field) (image : List ℕ) → is_some (fields_held fs image) ≡ true → length image ≡ record_length fs
length-held [] [] h = refl
length-held [] (b ∷ image) h = absurd cc
length-held (f ∷ fs) image h =
    let w = width f.ty in
    let front : length (take w image) ≡ w = held-length f.ty (take w image) (both-first (held f.ty (take w image)) (fields_held fs (drop w image)) h) in
    let back : length (drop w image) ≡ record_length fs = length-held fs (drop w image) (both-rest (held f.ty (take w image)) (fields_held fs (drop w image)) h) in
    ap (λ (bytes : List ℕ). length bytes) (sym (take-append-drop w image)) ∙ length-append (take w image) (drop w image) ∙ (λ i. front i + back i)

-- a record with a value in each field has the bytes of the fields
pub length-record : (fs : List Field) (image : List ℕ) → is_some (record_held fs image) ≡ true → length image ≡ record_length fs
unfolding record_held
length-record fs image h = length-held fs image h

pub FitsSlot-held : (fs : List Field) (slot : Slot) → HoldsValues fs slot → FitsSlot (record_length fs) slot
FitsSlot-held fs (Live image) holds = length-record fs image holds
FitsSlot-held fs Deleted holds = tt

some-of : {A : Type 0} (o : Option A) → is_some o ≡ true → (a : A) × (o ≡ Some a)
some-of None there = absurd cc
some-of (Some a) there = (a, refl)

-- packed anew, or over a record with a value in each field
pub given-held : (fs : List Field) (given : List (Option Value)) (old : Option (List ℕ)) (image : List ℕ) → IsLaidOut fs → IfSome old (λ bytes. is_some (record_held fs bytes) ≡ true)
    → record_given fs given old ≡ Ok image → is_some (record_held fs image) ≡ true
given-held fs given None image laid there h = ap is_some (new-record fs given image laid h)
given-held fs given (Some old) image laid there h =
    let values = some-of (record_held fs old) there in ap is_some (changed-record fs given old image values.0 laid values.1 h)

-- ---- the type of a field that is described

cond-ok : {A E : Type 0} (b : Bool) (e : E) (r : Result A E) (x : A) → cond b (Err e) r ≡ Ok x → (b ≡ false) × (r ≡ Ok x)
cond-ok true e r x h = absurd cc
cond-ok false e r x h = (refl, h)

typed-equal : (t u : FieldType) → ◌≡◌ {A = Result FieldType DdsFault} (Ok t) (Ok u) → t ≡ u
typed-equal t u e = cc

sized-allowed : (s : Specification) (kind : Kind) (long decimals : ℕ) (t : FieldType) → sized s kind long decimals ≡ Ok t → IsFieldType t
sized-allowed s kind long decimals t h =
    let first = cond-ok (not (is_allowed kind long 0)) _ _ t h in
    let second = cond-ok (are_decimals_wrong (is_some s.columns.decimals) kind long decimals) _ _ t first.1 in
    let right = or_parts (is_some s.columns.decimals && not (is_numeric kind)) (not (is_allowed kind long decimals)) second.0 in
    subst IsFieldType (typed-equal _ t second.1) (not-false (is_allowed kind long decimals) right.1)

attributes-allowed : (s : Specification) (copied : Option FieldType) (t : FieldType) → attributes s copied ≡ Ok t → IsFieldType t
attributes-allowed s copied t h = by (kind_of s.columns.data_type s.columns.decimals copied) h
  where
    by : (kind : Option Kind) → attributes_of_kind s copied kind ≡ Ok t → IsFieldType t
    by None e = absurd cc
    by (Some kind) e = sized-allowed s kind (length_of s.columns.length s.columns.data_type kind copied) (decimals_of s.columns.decimals kind copied) t e

typed_by-allowed : (s : Specification) (r : Result FieldType DdsFault) (t : FieldType) → typed_by s r ≡ Ok t → IsFieldType t
typed_by-allowed s (Ok u) t h = attributes-allowed s (Some u) t h
typed_by-allowed s (Err fault) t h = absurd cc

pub typed-allowed : (formats : List ℕ → Option Format) (file : Option (List ℕ)) (own : List Field) (s : Specification) (t : FieldType) → typed formats file own s ≡ Ok t → IsFieldType t
typed-allowed formats file own s t h =
    elim s.columns.reference as (λ b. cond b (typed_by s (referenced formats file own s)) (attributes s None) ≡ Ok t → IsFieldType t) [
      | true ↦ λ e. typed_by-allowed s (referenced formats file own s) t e
      | false ↦ λ e. attributes-allowed s None t e
    ] h

-- ---- the fields that lines describe

named-field : (d : _) (name : Option (List ℕ)) (r : Result FieldType DdsFault) (ks : List Keyword) → length (finished d []).format.fields < 1000
    → ((t : FieldType) → r ≡ Ok t → IsFieldType t) → IsDescribed (finished d []).format.fields
    → IsDescribed (finished (with_named_field d name r ks) []).format.fields
named-field d None r ks few allowed is = is
named-field d (Some name) (Err fault) ks few allowed is = is
named-field d (Some name) (Ok t) ks few allowed is = IsDescribed-more d.fields _ is few refl (allowed t refl)

one-field : (d : _) (name : Option (List ℕ)) (r : Result FieldType DdsFault) (ks : List Keyword) → ((t : FieldType) → r ≡ Ok t → IsFieldType t) → IsDescribed (finished d []).format.fields
    → IsDescribed (finished (with_field d name r ks) []).format.fields
one-field d name r ks allowed is =
    elim (nat_lt (length d.fields) 1000) as (λ b. nat_lt (length d.fields) 1000 ≡ b → IsDescribed (if not b then d else with_named_field d name r ks).fields) [
      | true ↦ λ e. named-field d name r ks (ltb-true (length d.fields) 1000 e) allowed is
      | false ↦ λ e. is
    ] refl

one-key : (d : _) (name : Option (List ℕ)) (ks : List Keyword) → IsDescribed (finished d []).format.fields → IsDescribed (finished (with_key d name ks) []).format.fields
one-key d None ks is = is
one-key d (Some name) ks is = is

line-of : (formats : List ℕ → Option Format) (file : Option (List ℕ)) (d : _) (s : Specification) (kind : SpecificationKind) → IsDescribed (finished d []).format.fields
    → IsDescribed (finished (described_of formats file d s kind) []).format.fields
line-of formats file d s kinds.Record is = is
line-of formats file d s kinds.Field is = one-field d (name_of s.name) (typed formats file d.fields s) s.keywords (λ t e. typed-allowed formats file d.fields s t e) is
line-of formats file d s kinds.Key is = one-key d (name_of s.name) s.keywords is
line-of formats file d s kinds.Select is = is
line-of formats file d s kinds.Omit is = is
line-of formats file d s kinds.And is = is
line-of formats file d s kinds.Join is = is

one-line : (formats : List ℕ → Option Format) (file : Option (List ℕ)) (d : _) (s : Specification) → IsDescribed (finished d []).format.fields
    → IsDescribed (finished (described formats file d s) []).format.fields
unfolding described
one-line formats file d s is = line-of formats file d s s.kind is

all-lines : (formats : List ℕ → Option Format) (file : Option (List ℕ)) (d : _) (ss : List Specification) → IsDescribed (finished d []).format.fields
    → IsDescribed (finished (lines_described formats file d ss) []).format.fields
all-lines formats file d [] is = is
all-lines formats file d (s ∷ ss) is =
    let here = one-line formats file d s is in
    elim (line_faults formats file d s) as (λ fs. IsDescribed (unless_faulty fs (described formats file d s) (lines_described formats file (described formats file d s) ss)).fields) [
      | [] ↦ all-lines formats file (described formats file d s) ss here
      | f ∷ fs ↦ here
    ]

draft-described : (formats : List ℕ → Option Format) (source : Source) → IsDescribed (draft_of formats source).fields
unfolding draft_of
draft-described formats source = all-lines formats (reference_file source.file) nothing source.specifications (record { few = omega arith; lies = refl })

-- no record is too long
narrow-of : (formats : List ℕ → Option Format) (source : Source) → first_after None (faults_of formats source) ≡ None → record_length (draft_of formats source).fields ≤ 32766
unfolding faults_of
narrow-of formats source none =
    let before = lines_faults formats (reference_file source.file) nothing source.specifications ++ file_faults formats source.file source.specifications in
    let whole = whole_faults source.last_line source.specifications (draft_of formats source) in
    let last : first_after (first_after None before) whole ≡ None = sym (first_after_append None before whole) ∙ none in
    let wide : first_after None whole ≡ None = ap (λ (best : Option DdsFault). first_after best whole) (sym (clear_before (first_after None before) whole last)) ∙ last in
    let none_wide = nothing_noted None whole wide in
    ltb-false 32766 (record_length (draft_of formats source).fields) (by (nat_lt 32766 (record_length (draft_of formats source).fields)) _ _ _ none_wide)
  where
    by : (b : Bool) (f : DdsFault) (more last : List DdsFault) → (cond b (f ∷ []) [] ++ more) ++ last ≡ [] → b ≡ false
    by true f more last e = absurd cc
    by false f more last e = refl

pub unless-ok : (spec wanted : PhysicalSpec) (fault : Option DdsFault) → specification_unless spec fault ≡ Ok wanted → (fault ≡ None) × (spec ≡ wanted)
unless-ok spec wanted None h = (refl, let e : spec ≡ wanted = cc in e)
unless-ok spec wanted (Some fault) h = absurd cc

-- whatever a source describes, its fields lie one behind the other
pub physical-laid : (formats : List ℕ → Option Format) (source : Source) (spec : PhysicalSpec) → physical_of formats source ≡ Ok spec → IsLaidOut spec.format.fields
unfolding physical_of specification
physical-laid formats source spec h =
    let good = unless-ok (specification formats source) spec (first_after None (faults_of formats source)) h in
    let is = draft-described formats source in
    subst (λ (p : PhysicalSpec). IsLaidOut p.format.fields) good.1 (record { few = is.few; narrow = narrow-of formats source good.0; lies = is.lies })
