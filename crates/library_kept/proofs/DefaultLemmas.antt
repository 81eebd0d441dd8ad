-- The default value of each field that a source describes may stand in it.
use Rattle.std.proofs.Common.{◌≡◌, ℕ, ◌*◌, ◌^◌, ◌≤◌, ◌/◌, ◌%◌, ◌==◌, not, nat_lt, nat_le, pos, if◌then◌else◌, codes, Bool, true, false, Option, Some, None, is_some, length, Result, Ok, Err, List, [], ◌∷◌, ◌++◌, refl, sym, ap, subst, arith}
use Rattle.std.proofs.lemmas.Bool.{and_parts, eqb-true}
use Rattle.std.proofs.lemmas.Bool.Decides.{nat_tests}
use Rattle.std.proofs.Math.Nat.{one-le-pow}
use Rattle.field_types.specs.declared.kinds.Kind.{Kind}
use Rattle.field_types.specs.declared.kinds.Kind.TheVariants.{Char, Zoned, Packed, Binary, Date, Time, Stamp}
use Rattle.field_types.specs.declared.kinds.FieldType.{FieldType}
use Rattle.field_types.specs.declared.values.Value.{Value}
use Rattle.field_types.specs.declared.faults.ValueFault.TheVariants.{TooManyDecimals, TooWide}
use Rattle.field_values.specs.FieldTypes.{IsFieldType, is_allowed}
use Rattle.field_values.specs.Digits.{is_negative, signed}
use Rattle.field_values.specs.FieldBytes.{fault_of, number_fault, text_fault, is_too_wide}
use Rattle.ebc_text.specs.CodePage.{ebcdic_of}
use Rattle.record_fmt.specs.declared.formats.Field.{Field}
use Rattle.record_fmt.specs.declared.formats.Format.{Format}
use Rattle.dds_source.specs.Entries.{when}
use Rattle.dds_source.specs.Faults.{first_after}
use Rattle.dds_source.specs.declared.faults.DdsFault.{DdsFault}
use Rattle.dds_source.specs.declared.keywords.Keyword.{Keyword}
use Rattle.dds_source.specs.declared.specifications.Source.{Source}
use Rattle.dds_source.specs.declared.specifications.Specification.{Specification}
use Rattle.dds_source.specs.declared.specifications.SpecificationKind.{SpecificationKind}
use Rattle.dds_source.specs.declared.specifications.SpecificationKind.TheVariants as kinds
use Rattle.library_steps.below.dds_physical.specs.declared.physical_files.PhysicalSpec.{PhysicalSpec}
use Rattle.library_steps.specs.Defaults.{default_of, default_faults, default_keyword_faults, given_default, in_code_page, is_refused, literal_of, unspecified, value_or}
use Rattle.library_steps.specs.Draft.{nothing}
use Rattle.library_steps.specs.Keywords.{arguments_of, first_named}
use Rattle.library_steps.specs.Names.{name_of}
use Rattle.library_steps.specs.Lines.{described, described_of, line_faults, line_faults_of, lines_described, lines_faults, or_those, type_faults, unless_faulty, with_field, with_named_field, with_key}
use Rattle.library_steps.specs.Physical.{draft_of, faults_of, finished, physical_of, specification}
use Rattle.library_steps.specs.References.{reference_file, typed}
use Rattle.library_steps.specs.WholeFile.{whole_faults}
use Rattle.library_steps.proofs.FaultLemmas.{nothing_noted}
use Rattle.joint_state.specs.Mapped.{HoldDefaults}
use Rattle.library_kept.proofs.FieldLemmas.{typed-allowed, unless-ok}
use Rattle.library_kept.proofs.ListLemmas.{each-append}

-- ---- blanks, zeros and the first moment fit

many-none : (digits : ℕ) → nat_le (10 ^ digits) 0 ≡ false
many-none digits = let some : 1 ≤ 10 ^ digits = one-le-pow digits 10 (omega arith) in grind (arith, nat_tests, some)

zero-fits : (digits decimals : ℕ) → number_fault digits decimals (record { units = pos 0; scale = 0 }) ≡ None
zero-fits digits decimals =
    let none : 0 * 10 ^ decimals ≡ 0 = omega arith in
    subst (λ (k : ℕ). (if not (k % 10 ^ 0 == 0) then Some TooManyDecimals else (if is_too_wide digits (signed (is_negative (pos 0)) (k / 10 ^ 0)) then Some TooWide else None)) ≡ None) (sym none)
    (ap (λ (b : Bool). if b then Some TooWide else None) (many-none digits))

none-wide : (n : ℕ) → nat_lt n 0 ≡ false
none-wide n = grind (arith, nat_tests)

unspecified-fits : (t : FieldType) → IsFieldType t → fault_of t (unspecified t.kind) ≡ None
unfolding fault_of ebcdic_of
unspecified-fits t is = by t.kind t.length t.decimals is
  where
    by : (kind : Kind) (n d : ℕ) → is_allowed kind n d ≡ true → fault_of (record { kind = kind; length = n; decimals = d }) (unspecified kind) ≡ None
    by Char n d allowed = ap (λ (b : Bool). if b then Some TooWide else None) (none-wide n)
    by Zoned n d allowed = zero-fits n d
    by Packed n d allowed = zero-fits n d
    by Binary n d allowed = zero-fits n d
    by Date n d allowed =
        let is_ten = eqb-true n 10 (and_parts (n == 10) (d == 0) allowed).0 in
        subst (λ (k : ℕ). text_fault Date k (in_code_page (codes "0001-01-01")) ≡ None) (sym is_ten) refl
    by Time n d allowed =
        let is_eight = eqb-true n 8 (and_parts (n == 8) (d == 0) allowed).0 in
        subst (λ (k : ℕ). text_fault Time k (in_code_page (codes "00.00.00")) ≡ None) (sym is_eight) refl
    by Stamp n d allowed =
        let is_long = eqb-true n 26 (and_parts (n == 26) (d == 0) allowed).0 in
        subst (λ (k : ℕ). text_fault Stamp k (in_code_page (codes "0001-01-01-00.00.00.000000")) ≡ None) (sym is_long) refl

-- ---- what DFT says fits

pub none-left : {A : Type 0} (xs ys : List A) → xs ++ ys ≡ [] → xs ≡ []
none-left [] ys e = refl
none-left (x ∷ xs) ys e = absurd cc

pub none-right : {A : Type 0} (xs ys : List A) → xs ++ ys ≡ [] → ys ≡ []
none-right [] ys e = e
none-right (x ∷ xs) ys e = absurd cc

pub not-said : (b : Bool) (f : DdsFault) → when b f ≡ [] → b ≡ false
not-said true f e = absurd cc
not-said false f e = refl

not-some : {A : Type 0} (o : Option A) → is_some o ≡ false → o ≡ None
not-some None e = refl
not-some (Some a) e = absurd cc

literal-fits : (t : FieldType) (o : Option Value) → IsFieldType t → is_refused t o ≡ false → fault_of t (value_or o (unspecified t.kind)) ≡ None
literal-fits t None is fits = unspecified-fits t is
literal-fits t (Some v) is fits = not-some (fault_of t v) fits

keyword-fits : (t : FieldType) (o : Option Keyword) → IsFieldType t → default_keyword_faults t o ≡ [] → fault_of t (value_or (given_default o) (unspecified t.kind)) ≡ None
keyword-fits t None is none = unspecified-fits t is
keyword-fits t (Some k) is none = literal-fits t (literal_of (arguments_of k)) is (not-said (is_refused t (literal_of (arguments_of k))) _ none)

default-fits : (t : FieldType) (ks : List Keyword) → IsFieldType t → default_faults t ks ≡ [] → fault_of t (default_of t.kind ks) ≡ None
default-fits t ks is none = keyword-fits t (first_named (codes "DFT") ks) is none

-- ---- the fields that lines without a fault describe

field-holds : (d : _) (name : Option (List ℕ)) (r : Result FieldType DdsFault) (ks : List Keyword) → ((t : FieldType) → r ≡ Ok t → IsFieldType t) → type_faults r ks ≡ []
    → HoldDefaults (finished d []).format.fields → HoldDefaults (finished (with_named_field d name r ks) []).format.fields
field-holds d None r ks allowed none all = all
field-holds d (Some name) (Err fault) ks allowed none all = all
field-holds d (Some name) (Ok t) ks allowed none all = each-append (λ (f : Field). fault_of f.ty f.default ≡ None) d.fields _ all (default-fits t ks (allowed t refl) none, tt)

one-holds : (d : _) (name : Option (List ℕ)) (r : Result FieldType DdsFault) (ks : List Keyword) → ((t : FieldType) → r ≡ Ok t → IsFieldType t) → type_faults r ks ≡ []
    → HoldDefaults (finished d []).format.fields → HoldDefaults (finished (with_field d name r ks) []).format.fields
one-holds d name r ks allowed none all =
    elim (nat_lt (length d.fields) 1000) as (λ b. HoldDefaults (if not b then d else with_named_field d name r ks).fields) [
      | true ↦ field-holds d name r ks allowed none all
      | false ↦ all
    ]

key-holds : (d : _) (name : Option (List ℕ)) (ks : List Keyword) → HoldDefaults (finished d []).format.fields → HoldDefaults (finished (with_key d name ks) []).format.fields
key-holds d None ks all = all
key-holds d (Some name) ks all = all

module _ (formats : List ℕ → Option Format) (file : Option (List ℕ)) where
  line-of : (d : _) (s : Specification) (kind : SpecificationKind) → line_faults_of formats file d s kind ≡ [] → HoldDefaults (finished d []).format.fields
      → HoldDefaults (finished (described_of formats file d s kind) []).format.fields
  line-of d s kinds.Record none all = all
  line-of d s kinds.Field none all =
      one-holds d (name_of s.name) (typed formats file d.fields s) s.keywords (λ t e. typed-allowed formats file d.fields s t e)
      (none-right _ (type_faults (typed formats file d.fields s) s.keywords) (none-left _ _ none)) all
  line-of d s kinds.Key none all = key-holds d (name_of s.name) s.keywords all
  line-of d s kinds.Select none all = all
  line-of d s kinds.Omit none all = all
  line-of d s kinds.And none all = all
  line-of d s kinds.Join none all = all

  one-line : (d : _) (s : Specification) → line_faults formats file d s ≡ [] → HoldDefaults (finished d []).format.fields → HoldDefaults (finished (described formats file d s) []).format.fields
  unfolding line_faults described
  one-line d s none all = line-of d s s.kind none all

  all-lines : (d : _) (ss : List Specification) → lines_faults formats file d ss ≡ [] → HoldDefaults (finished d []).format.fields
      → HoldDefaults (finished (lines_described formats file d ss) []).format.fields
  all-lines d [] none all = all
  all-lines d (s ∷ ss) none all =
      elim (line_faults formats file d s) as (λ fs. line_faults formats file d s ≡ fs → or_those fs (lines_faults formats file (described formats file d s) ss) ≡ []
      → HoldDefaults (unless_faulty fs (described formats file d s) (lines_described formats file (described formats file d s) ss)).fields) [
        | [] ↦ λ clear later. all-lines (described formats file d s) ss later (one-line d s clear all)
        | f ∷ fs ↦ λ is later. absurd cc
      ] refl none

draft-holds : (formats : List ℕ → Option Format) (source : Source) → lines_faults formats (reference_file source.file) nothing source.specifications ≡ []
    → HoldDefaults (draft_of formats source).fields
unfolding draft_of
draft-holds formats source none = all-lines formats (reference_file source.file) nothing source.specifications none tt

lines-clear : (formats : List ℕ → Option Format) (source : Source) → faults_of formats source ≡ [] → lines_faults formats (reference_file source.file) nothing source.specifications ≡ []
unfolding faults_of
lines-clear formats source none = none-left (lines_faults formats (reference_file source.file) nothing source.specifications) _ (none-left _ (whole_faults source.last_line source.specifications (draft_of formats source)) none)

-- whatever a source describes, the default values of its fields may stand in them
pub physical-defaults : (formats : List ℕ → Option Format) (source : Source) (spec : PhysicalSpec) → physical_of formats source ≡ Ok spec → HoldDefaults spec.format.fields
unfolding physical_of specification
physical-defaults formats source spec h =
    let good = unless-ok (specification formats source) spec (first_after None (faults_of formats source)) h in
    let none = nothing_noted None (faults_of formats source) good.0 in
    subst (λ (p : PhysicalSpec). HoldDefaults p.format.fields) good.1 (draft-holds formats source (lines-clear formats source none))
