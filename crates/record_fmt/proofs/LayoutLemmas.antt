-- Where the fields of a record lie, one behind the other.
use Rattle.std.proofs.Common.{◌≡◌, ℕ, zero, suc, ◌+◌, ◌-◌, ◌<◌, ◌≤◌, true, ◌&&◌, ◌==◌, List, [], ◌∷◌, ◌++◌, length, take, drop, get_or, refl, sym, ◌∙◌, ap, subst, arith, length-append, add-zero}
use Rattle.std.proofs.lemmas.List.{take-append-drop, length-take-le, length-drop, take_more}
use Rattle.std.proofs.lemmas.Bool.{and_parts, and_from, eqb-true, eq-eqb}
use Rattle.std.proofs.Math.Seq.{drop-cons}
use Rattle.field_values.specs.FieldTypes.{IsFieldType, is_allowed, width}
use Rattle.field_values.specs.FirstBad.{part}
use Rattle.record_fmt.specs.declared.formats.Field.{Field}
use Rattle.record_fmt.specs.Layout.{record_length, lies_from, IsLaidOut}

pub record_length-append : (fs gs : List Field) → record_length (fs ++ gs) ≡ record_length fs + record_length gs
record_length-append [] gs = omega arith
record_length-append (f ∷ fs) gs = (let rest : record_length (fs ++ gs) ≡ record_length fs + record_length gs = record_length-append fs gs in omega arith)

-- a field more of those that are taken
pub record_length-more : (fs : List Field) (i : ℕ) (f : Field) → i < length fs → f ≡ get_or fs i f → record_length (take (i + 1) fs) ≡ record_length (take i fs) + width f.ty
record_length-more fs i f lt is =
    let split : take (i + 1) fs ≡ take i fs ++ f ∷ [] = take_more fs i f lt ∙ ap (λ (g : Field). take i fs ++ g ∷ []) (sym is) in
    ap record_length split ∙ record_length-append (take i fs) (f ∷ []) ∙ (let one : record_length (f ∷ []) ≡ width f.ty = add-zero (width f.ty) in ap (λ n. record_length (take i fs) + n) one)

-- the first fields are no longer than all
pub record_length-take : (fs : List Field) (i : ℕ) → record_length (take i fs) ≤ record_length fs
record_length-take fs i = (let whole : record_length (take i fs ++ drop i fs) ≡ record_length (take i fs) + record_length (drop i fs) = record_length-append (take i fs) (drop i fs) in omega (arith, whole, ap record_length (take-append-drop i fs)))

-- the first field and those behind it
pub lies-parts : (start : ℕ) (f : Field) (fs : List Field) → lies_from start (f ∷ fs) ≡ true → (f.offset ≡ start) × IsFieldType f.ty × (lies_from (start + width f.ty) fs ≡ true)
lies-parts start f fs lies =
    let all = and_parts ((f.offset == start) && is_allowed f.ty.kind f.ty.length f.ty.decimals) (lies_from (start + width f.ty) fs) lies in
    let first = and_parts (f.offset == start) (is_allowed f.ty.kind f.ty.length f.ty.decimals) all.0 in
    (eqb-true f.offset start first.0, first.1, all.1)

-- each field has a type that a data description can give
pub allowed-at : (start : ℕ) (fs : List Field) (i : ℕ) (f : Field) → lies_from start fs ≡ true → i < length fs → f ≡ get_or fs i f → IsFieldType f.ty
allowed-at start [] i f lies lt is = absurd (omega arith)
allowed-at start (g ∷ gs) zero f lies lt is = subst (λ (h : Field). IsFieldType h.ty) (sym is) (lies-parts start g gs lies).1
allowed-at start (g ∷ gs) (suc i) f lies lt is = allowed-at (start + width g.ty) gs i f (lies-parts start g gs lies).2 (omega arith) is

-- a field begins behind those before it
offset-at : (start : ℕ) (fs : List Field) (i : ℕ) (f : Field) → lies_from start fs ≡ true → i < length fs → f ≡ get_or fs i f → f.offset ≡ start + record_length (take i fs)
offset-at start [] i f lies lt is = absurd (omega arith)
offset-at start (g ∷ gs) zero f lies lt is = ap (λ (h : Field). h.offset) is ∙ (lies-parts start g gs lies).0 ∙ sym (add-zero start)
offset-at start (g ∷ gs) (suc i) f lies lt is = offset-at (start + width g.ty) gs i f (lies-parts start g gs lies).2 (omega arith) is ∙ omega arith

-- the later fields lie one behind the other too
pub lies-drop : (start : ℕ) (fs : List Field) (i : ℕ) → lies_from start fs ≡ true → (other : ℕ) × (lies_from other (drop i fs) ≡ true)
lies-drop start fs zero lies = (start, lies)
lies-drop start [] (suc i) lies = (start, refl)
lies-drop start (f ∷ fs) (suc i) lies = lies-drop (start + width f.ty) fs i (lies-parts start f fs lies).2

pub split-fields : (fs : List Field) (i : ℕ) (f : Field) → i < length fs → f ≡ get_or fs i f → drop i fs ≡ f ∷ drop (suc i) fs
split-fields fs i f lt is = drop-cons fs i f lt ∙ ap (λ (g : Field). g ∷ drop (suc i) fs) (sym is)

-- a field may be added behind the others
lies-more : (start : ℕ) (fs : List Field) (f : Field) → lies_from start fs ≡ true → f.offset ≡ start + record_length fs → IsFieldType f.ty → lies_from start (fs ++ f ∷ []) ≡ true
lies-more start [] f lies place allowed =
    and_from ((f.offset == start) && is_allowed f.ty.kind f.ty.length f.ty.decimals) true
    (and_from (f.offset == start) (is_allowed f.ty.kind f.ty.length f.ty.decimals) (eq-eqb f.offset start (place ∙ add-zero start)) allowed) refl
lies-more start (g ∷ gs) f lies place allowed =
    let parts = and_parts ((g.offset == start) && is_allowed g.ty.kind g.ty.length g.ty.decimals) (lies_from (start + width g.ty) gs) lies in
    and_from ((g.offset == start) && is_allowed g.ty.kind g.ty.length g.ty.decimals) (lies_from (start + width g.ty) (gs ++ f ∷ [])) parts.0
    (lies-more (start + width g.ty) gs f parts.1 (place ∙ omega arith) allowed)

pub IsLaidOut-more : (fs : List Field) (f : Field) → IsLaidOut fs → length fs < 1000 → record_length fs + width f.ty ≤ 32766 → f.offset ≡ record_length fs → IsFieldType f.ty → IsLaidOut (fs ++ f ∷ [])
IsLaidOut-more fs f laid few narrow place allowed = record {
  few = rw (length-append fs (f ∷ [])) (omega arith);
  narrow = rw (record_length-append fs (f ∷ [])) (omega arith);
  lies = lies-more 0 fs f laid.lies (place ∙ omega arith) allowed;
}

-- the field of this number, counted from 0, and an image as long as a record
pub record IsFieldOf (fs : List Field) (i : ℕ) (f : Field) (image : List ℕ) : Type 0 where
  pub within : i < length fs
  pub is : f ≡ get_or fs i f
  pub laid : IsLaidOut fs
  pub long : length image ≡ record_length fs

-- the same of a list that equals the format's fields
pub IsFieldOf-same : (all fs : List Field) (i : ℕ) (f : Field) (image : List ℕ) → fs ≡ all → IsLaidOut all → length image ≡ record_length all → i < length fs → f ≡ get_or fs i f → IsFieldOf fs i f image
IsFieldOf-same all fs i f image same laid long within is = record {
  within = within;
  is = is;
  laid = subst (λ (gs : List Field). IsLaidOut gs) (sym same) laid;
  long = long ∙ ap record_length (sym same);
}

pub field-allowed : {fs : List Field} {i : ℕ} {f : Field} {image : List ℕ} → IsFieldOf fs i f image → IsFieldType f.ty
field-allowed {fs = fs} {i = i} {f = f} here = allowed-at 0 fs i f here.laid.lies here.within here.is

pub field-offset : {fs : List Field} {i : ℕ} {f : Field} {image : List ℕ} → IsFieldOf fs i f image → f.offset ≡ record_length (take i fs)
field-offset {fs = fs} {i = i} {f = f} here = (let place : f.offset ≡ 0 + record_length (take i fs) = offset-at 0 fs i f here.laid.lies here.within here.is in omega arith)

-- a field lies within its record
pub field-room : {fs : List Field} {i : ℕ} {f : Field} {image : List ℕ} → IsFieldOf fs i f image → f.offset + width f.ty ≤ length image
field-room {fs = fs} {i = i} {f = f} {image = image} here =
    let place : f.offset ≡ record_length (take i fs) = field-offset here in
    let long : length image ≡ record_length fs = here.long in
    let more = record_length-more fs i f here.within here.is in
    let within = record_length-take fs (i + 1) in
    omega (arith, more, within)

-- its bytes are as many as its type says
pub field-part : {fs : List Field} {i : ℕ} {f : Field} {image : List ℕ} → IsFieldOf fs i f image → length (part f.offset (width f.ty) image) ≡ width f.ty
field-part {f = f} {image = image} here =
    let room : f.offset + width f.ty ≤ length image = field-room here in
    let behind : length (drop f.offset image) ≡ length image - f.offset = length-drop f.offset image in
    length-take-le (width f.ty) (drop f.offset image) (omega arith)
