-- Fields that lie one behind the other, and how many bytes they have.
use Rattle.std.proofs.Common.{◌≡◌, ℕ, zero, suc, ◌+◌, ◌*◌, ◌<◌, ◌≤◌, true, ◌&&◌, ◌==◌, List, [], ◌∷◌, ◌++◌, length, take, get_or, refl, sym, ◌∙◌, ap, arith, length-append, add-zero}
use Rattle.std.proofs.lemmas.List.{take_more}
use Rattle.std.proofs.lemmas.Bool.{and_parts, and_from, eq-eqb}
use Rattle.field_types.specs.declared.kinds.Kind.{Kind}
use Rattle.field_types.specs.declared.kinds.Kind.TheVariants.{Char, Zoned, Packed, Binary, Date, Time, Stamp}
use Rattle.field_types.specs.declared.kinds.FieldType.{FieldType}
use Rattle.record_fmt.specs.FieldTypes.{IsFieldType, is_allowed, width, width_of}
use Rattle.record_fmt.specs.declared.formats.Field.{Field}
use Rattle.record_fmt.specs.Layout.{record_length, lies_from}
use Rattle.record_fmt.proofs.LayoutLemmas.{lies-parts}
use Rattle.dds_physical.specs.Described.{IsDescribed}

-- no field has more bytes than a record
pub width_of-most : (kind : Kind) (n d : ℕ) → is_allowed kind n d ≡ true → width_of kind n ≤ 32766
width_of-most Char n d h = grind arith
width_of-most Zoned n d h = grind arith
width_of-most Packed n d h = grind arith
width_of-most Binary n d h = grind arith
width_of-most Date n d h = grind arith
width_of-most Time n d h = grind arith
width_of-most Stamp n d h = grind arith

pub width-most : (t : FieldType) → IsFieldType t → width t ≤ 32766
width-most t h = width_of-most t.kind t.length t.decimals h

pub record_length-most : (start : ℕ) (fs : List Field) → lies_from start fs ≡ true → record_length fs ≤ 32766 * length fs
record_length-most start [] lies = omega arith
record_length-most start (f ∷ fs) lies =
    let parts = lies-parts start f fs lies in
    let here : width f.ty ≤ 32766 = width_of-most f.ty.kind f.ty.length f.ty.decimals parts.1 in
    let rest : record_length fs ≤ 32766 * length fs = record_length-most (start + width f.ty) fs parts.2 in
    omega (arith, here, rest)

-- a field may be added behind the others
lies-more : (start : ℕ) (fs : List Field) (f : Field) → lies_from start fs ≡ true → f.offset ≡ start + record_length fs → IsFieldType f.ty → lies_from start (fs ++ f ∷ []) ≡ true
lies-more start [] f lies place allowed =
    and_from ((f.offset == start) && is_allowed f.ty.kind f.ty.length f.ty.decimals) true
    (and_from (f.offset == start) (is_allowed f.ty.kind f.ty.length f.ty.decimals) (eq-eqb f.offset start (place ∙ add-zero start)) allowed) refl
lies-more start (g ∷ gs) f lies place allowed =
    let parts = and_parts ((g.offset == start) && is_allowed g.ty.kind g.ty.length g.ty.decimals) (lies_from (start + width g.ty) gs) lies in
    and_from ((g.offset == start) && is_allowed g.ty.kind g.ty.length g.ty.decimals) (lies_from (start + width g.ty) (gs ++ f ∷ [])) parts.0
    (lies-more (start + width g.ty) gs f parts.1 (place ∙ omega arith) allowed)

pub IsDescribed-more : (fs : List Field) (f : Field) → IsDescribed fs → length fs < 1000 → f.offset ≡ record_length fs → IsFieldType f.ty → IsDescribed (fs ++ f ∷ [])
IsDescribed-more fs f laid few place allowed = record {
  few = rw (length-append fs (f ∷ [])) (omega arith);
  lies = lies-more 0 fs f laid.lies (place ∙ omega arith) allowed;
}

-- a field begins behind those before it
pub offset-at : (start : ℕ) (fs : List Field) (i : ℕ) (f : Field) → lies_from start fs ≡ true → i < length fs → f ≡ get_or fs i f → f.offset ≡ start + record_length (take i fs)
offset-at start [] i f lies lt is = absurd (omega arith)
offset-at start (g ∷ gs) zero f lies lt is = ap (λ (h : Field). h.offset) is ∙ (lies-parts start g gs lies).0 ∙ sym (add-zero start)
offset-at start (g ∷ gs) (suc i) f lies lt is = offset-at (start + width g.ty) gs i f (lies-parts start g gs lies).2 (omega arith) is ∙ omega arith

-- a copy of the next field that is added to those before it
pub take-next : (fs old new : List Field) (i : ℕ) (f copy : Field) → lies_from 0 fs ≡ true → i < length fs → f ≡ get_or fs i f → old ≡ take i fs → copy ≡ f
    → new ≡ old ++ (record { name = copy.name; ty = copy.ty; offset = record_length old; default = copy.default; text = copy.text }) ∷ [] → new ≡ take (i + 1) fs
take-next fs old new i f copy lies lt is before copied pushed =
    let place : f.offset ≡ record_length (take i fs) = offset-at 0 fs i f lies lt is ∙ omega arith in
    let at : Field → ℕ → Field = λ g n. record { name = g.name; ty = g.ty; offset = n; default = g.default; text = g.text } in
    let same : at copy (record_length old) ≡ f = ap (λ (g : Field). at g (record_length old)) copied ∙ ap (λ n. at f n) (ap record_length before ∙ sym place) in
    pushed ∙ ap (λ (g : Field). old ++ g ∷ []) same ∙ ap (λ (gs : List Field). gs ++ f ∷ []) before ∙ ap (λ (g : Field). take i fs ++ g ∷ []) is ∙ sym (take_more fs i f lt)
