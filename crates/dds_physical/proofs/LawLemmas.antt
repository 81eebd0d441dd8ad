-- A source that names each field of a file again describes the same format.
use Rattle.std.proofs.Common.{◌≡◌, ◌<◌, ◌≤◌, ◌+◌, ℕ, Bool, true, false, ◌==◌, nat_lt, nat_le, nat_eq, List, [], ◌∷◌, ◌++◌, length, Option, Some, None, is_some, Ok, refl, sym, ◌∙◌, ap, subst, arith, inl, inr, length-append}
use Rattle.std.proofs.lemmas.Bool.{cases_Bool, and_parts, eqb-true}
use lib.Pointwise.{pointwise}
use Rattle.field_types.specs.declared.kinds.Kind.{Kind}
use Rattle.field_types.specs.declared.kinds.Kind.TheVariants.{Char, Zoned, Packed, Binary, Date, Time, Stamp}
use Rattle.field_types.specs.declared.kinds.FieldType.{FieldType}
use Rattle.record_fmt.specs.FieldTypes.{IsFieldType, is_allowed, is_between, width}
use Rattle.record_fmt.specs.declared.formats.Field.{Field}
use Rattle.record_fmt.specs.declared.formats.Format.{Format}
use Rattle.record_fmt.specs.Layout.{record_length, lies_from}
use Rattle.record_fmt.proofs.LayoutLemmas.{lies-parts, record_length-append}
use Rattle.dds_source.specs.declared.faults.DdsFault.{DdsFault}
use Rattle.dds_source.specs.Faults.{first_after}
use Rattle.dds_physical.specs.declared.draft.Draft.{Draft}
use Rattle.dds_physical.specs.Names.{field_named, is_field}
use Rattle.field_types.specs.declared.values.Value.{Value}
use Rattle.dds_source.specs.declared.faults.DdsCause.TheVariants.{UnknownReference}
use Rattle.dds_physical.specs.Places.{fault_at}
use Rattle.dds_physical.specs.Defaults.{unspecified}
use Rattle.dds_physical.specs.WholeFile.{has_field, has_key, keyless_unique}
use Rattle.dds_physical.specs.Attributes.{attributes}
use Rattle.dds_physical.specs.References.{type_in_file, type_in_format, type_of_field, found_or, typed_by, typed}
use Rattle.dds_physical.specs.Lines.{line_faults, described, lines_faults, lines_described, or_those, unless_faulty}
use Rattle.dds_physical.specs.Physical.{physical_of, faults_of, draft_of, specification, specification_unless, finished}
use Rattle.dds_physical.specs.Laws.{field_line, field_lines, reference_to, source_again, file_again, ArePlain, Differ, IsCopied}

-- The attributes of a field, copied.

attributes-copied : (line : ℕ) (name : List ℕ) (k : Kind) (n d : ℕ) → is_allowed k n d ≡ true
    → attributes (field_line line name) (Some (record { kind = k; length = n; decimals = d })) ≡ Ok (record { kind = k; length = n; decimals = d })
attributes-copied line name Char n d h = let p = and_parts (is_between 1 32766 n) (d == 0) h in let e : d ≡ 0 = eqb-true d 0 p.1 in rw (p.0, e) refl
attributes-copied line name Zoned n d h = let p = and_parts (is_between 1 31 n) (nat_le d n) h in let least : nat_le 0 n ≡ true = grind arith in rw (p.0, p.1, least) refl
attributes-copied line name Packed n d h = let p = and_parts (is_between 1 31 n) (nat_le d n) h in let least : nat_le 0 n ≡ true = grind arith in rw (p.0, p.1, least) refl
attributes-copied line name Binary n d h = let p = and_parts (is_between 1 18 n) (nat_le d n) h in let least : nat_le 0 n ≡ true = grind arith in rw (p.0, p.1, least) refl
attributes-copied line name Date n d h = let p = and_parts (n == 10) (d == 0) h in let e : d ≡ 0 = eqb-true d 0 p.1 in rw (p.0, e) refl
attributes-copied line name Time n d h = let p = and_parts (n == 8) (d == 0) h in let e : d ≡ 0 = eqb-true d 0 p.1 in rw (p.0, e) refl
attributes-copied line name Stamp n d h = let p = and_parts (n == 26) (d == 0) h in let e : d ≡ 0 = eqb-true d 0 p.1 in rw (p.0, e) refl

-- The field of a name.

same-name : (name : List ℕ) → pointwise nat_eq name name ≡ true
same-name [] = refl
same-name (c ∷ cs) = let e : nat_eq c c ≡ true = grind arith in rw (e, same-name cs) refl

-- no field before has the name
field_named-behind : (name : List ℕ) (before rest : List Field) → is_some (field_named name before) ≡ false → field_named name (before ++ rest) ≡ field_named name rest
field_named-behind name [] rest h = refl
field_named-behind name (f ∷ fs) rest h = elim (cases_Bool (pointwise nat_eq f.name name)) [
  | inl b ↦ absurd (let e : true ≡ false = rw b at h in cc)
  | inr b ↦ rw b (field_named-behind name fs rest (rw b at h))
]

field_named-here : (before rest : List Field) (f : Field) → is_field (Some f.name) before ≡ false → field_named f.name (before ++ f ∷ rest) ≡ Some f
field_named-here before rest f h = field_named-behind f.name before (f ∷ rest) h ∙ (let e = same-name f.name in rw e refl)

-- Lines that copy.

-- what a record format and fields describe
abbrev at : List ℕ → List Field → Draft
at name fields = record { name = Some name; fields = fields; key_names = []; key_parts = [] }

snoc : (xs ys : List Field) (y : Field) → (xs ++ y ∷ []) ++ ys ≡ xs ++ y ∷ ys
snoc [] ys y = refl
snoc (x ∷ xs) ys y = ap (λ (zs : List Field). x ∷ zs) (snoc xs ys y)

no_more : (xs : List Field) → xs ++ [] ≡ xs
no_more [] = refl
no_more (x ∷ xs) = ap (λ (zs : List Field). x ∷ zs) (no_more xs)

typed-copied : (formats : List ℕ → Option Format) (file : List ℕ) (format : Format) (line : ℕ) (before rest : List Field) (f : Field) → formats file ≡ Some format → format.fields ≡ before ++ f ∷ rest
    → is_field (Some f.name) before ≡ false → IsFieldType f.ty → typed formats (Some file) before (field_line line f.name) ≡ Ok f.ty
typed-copied formats file format line before rest f there fields fresh allowed =
    let named : field_named f.name format.fields ≡ Some f = ap (λ (fs : List Field). field_named f.name fs) fields ∙ field_named-here before rest f fresh in
    let found : type_in_file formats (Some file) (Some f.name) ≡ Some f.ty = ap (λ (g : Option Format). type_in_format f.name g) there ∙ ap (λ (g : Option Field). type_of_field g) named in
    ap (λ (t : Option FieldType). typed_by (field_line line f.name) (found_or t (fault_at (field_line line f.name) 29 UnknownReference))) found
    ∙ attributes-copied line f.name f.ty.kind f.ty.length f.ty.decimals allowed

clear-line : (formats : List ℕ → Option Format) (file name : List ℕ) (line : ℕ) (before : List Field) (f : Field) → is_field (Some f.name) before ≡ false → nat_lt (length before) 1000 ≡ true
    → typed formats (Some file) before (field_line line f.name) ≡ Ok f.ty → line_faults formats (Some file) (at name before) (field_line line f.name) ≡ []
unfolding line_faults
clear-line formats file name line before f fresh few is = rw (fresh, few, is) refl

copied-line : (formats : List ℕ → Option Format) (file name : List ℕ) (line : ℕ) (before : List Field) (f : Field) → nat_lt (length before) 1000 ≡ true
    → typed formats (Some file) before (field_line line f.name) ≡ Ok f.ty → f.offset ≡ record_length before → f.default ≡ unspecified f.ty.kind → f.text ≡ []
    → described formats (Some file) (at name before) (field_line line f.name) ≡ at name (before ++ f ∷ [])
unfolding described
copied-line formats file name line before f few is place default text =
    let made : ℕ → Value → List ℕ → Field = λ o v t. record { name = f.name; ty = f.ty; offset = o; default = v; text = t } in
    let same : made (record_length before) (unspecified f.ty.kind) [] ≡ f =
    ap (λ o. made o (unspecified f.ty.kind) []) (sym place) ∙ ap (λ (v : Value). made f.offset v []) (sym default) ∙ ap (λ (t : List ℕ). made f.offset f.default t) (sym text) in
    let added : described formats (Some file) (at name before) (field_line line f.name) ≡ at name (before ++ made (record_length before) (unspecified f.ty.kind) [] ∷ []) = rw (few, is) refl in
    added ∙ ap (λ (g : Field). at name (before ++ g ∷ [])) same

field_lines-copied : (formats : List ℕ → Option Format) (file name : List ℕ) (format : Format) (line : ℕ) (before fs : List Field) → formats file ≡ Some format → format.fields ≡ before ++ fs → length (before ++ fs) ≤ 1000
    → lies_from (record_length before) fs ≡ true → ArePlain fs → Differ before fs
    → (lines_faults formats (Some file) (at name before) (field_lines line fs) ≡ []) × (lines_described formats (Some file) (at name before) (field_lines line fs) ≡ at name (before ++ fs))
field_lines-copied formats file name format line before [] there fields few lies plain differ = (refl, ap (λ (gs : List Field). at name gs) (sym (no_more before)))
field_lines-copied formats file name format line before (f ∷ fs) there fields few lies plain differ =
    let parts = lies-parts (record_length before) f fs lies in
    let long : length (before ++ f ∷ fs) ≡ length before + length (f ∷ fs) = length-append before (f ∷ fs) in
    let room : nat_lt (length before) 1000 ≡ true = grind (arith, long, few) in
    let is = typed-copied formats file format line before fs f there fields differ.0 parts.1 in
    let clear = clear-line formats file name line before f differ.0 room is in
    let added = copied-line formats file name line before f room is parts.0 plain.0 plain.1 in
    let further : lies_from (record_length (before ++ f ∷ [])) fs ≡ true =
    (let ends : record_length (before ++ f ∷ []) ≡ record_length before + width f.ty = record_length-append before (f ∷ []) ∙ omega arith in ap (λ n. lies_from n fs) ends ∙ parts.2) in
    let rest = field_lines-copied formats file name format (line + 1) (before ++ f ∷ []) fs there (fields ∙ sym (snoc before fs f)) (subst (λ (gs : List Field). length gs ≤ 1000) (sym (snoc before fs f)) few) further plain.2 differ.1 in (
      ap (λ (l : List DdsFault). or_those l (lines_faults formats (Some file) (described formats (Some file) (at name before) (field_line line f.name)) (field_lines (line + 1) fs))) clear
          ∙ ap (λ (d : Draft). lines_faults formats (Some file) d (field_lines (line + 1) fs)) added ∙ rest.0,
      ap (λ (l : List DdsFault). unless_faulty l (described formats (Some file) (at name before) (field_line line f.name)) (lines_described formats (Some file) (described formats (Some file) (at name before) (field_line line f.name)) (field_lines (line + 1) fs))) clear
          ∙ ap (λ (d : Draft). lines_described formats (Some file) d (field_lines (line + 1) fs)) added ∙ rest.1 ∙ ap (λ (gs : List Field). at name gs) (snoc before fs f),
    )

-- The whole source.

has_field-lines : (line : ℕ) (fs : List Field) → 0 < length fs → has_field (field_lines line fs) ≡ true
has_field-lines line [] some = absurd (omega arith)
has_field-lines line (f ∷ fs) some = refl

keyless-again : (b : Bool) (file : List ℕ) → keyless_unique b (reference_to file ∷ []) ≡ None
keyless-again true file = refl
keyless-again false file = refl

draft-again : (formats : List ℕ → Option Format) (file : List ℕ) (format : Format) → IsCopied formats file format → draft_of formats (source_again file format) ≡ at format.name format.fields
unfolding draft_of line_faults described
draft-again formats file format copied =
    let lines = field_lines-copied formats file format.name format 3 [] format.fields copied.there refl copied.laid.few copied.laid.lies copied.plain copied.differ in lines.1

faults-again : (formats : List ℕ → Option Format) (file : List ℕ) (format : Format) → IsCopied formats file format → faults_of formats (source_again file format) ≡ []
unfolding faults_of line_faults described
faults-again formats file format copied =
    let lines = field_lines-copied formats file format.name format 3 [] format.fields copied.there refl copied.laid.few copied.laid.lies copied.plain copied.differ in
    let draft = draft-again formats file format copied in
    let narrow : nat_lt 32766 (record_length format.fields) ≡ false = grind (arith, copied.laid.narrow) in
    let some = has_field-lines 3 format.fields copied.some in
    let keyless = keyless-again (has_key (field_lines 3 format.fields)) file in
    let there = copied.there in
    rw (lines.0, draft, there, keyless, narrow, some) refl

pub references_copy : (formats : List ℕ → Option Format) (file : List ℕ) (format : Format) → IsCopied formats file format → physical_of formats (source_again file format) ≡ Ok (file_again format)
unfolding physical_of specification
references_copy formats file format copied =
    ap (λ (fs : List DdsFault). specification_unless (finished (draft_of formats (source_again file format)) (reference_to file ∷ [])) (first_after None fs)) (faults-again formats file format copied)
    ∙ ap (λ (d : Draft). Ok (finished d (reference_to file ∷ []))) (draft-again formats file format copied)
