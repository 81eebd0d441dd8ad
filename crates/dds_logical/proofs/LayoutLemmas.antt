-- Fields of a format, laid out one after another.
use Rattle.std.proofs.Common.{◌≡◌, ◌∙◌, ◌≤◌, ◌<◌, ◌+◌, ℕ, zero, suc, List, [], ◌∷◌, ◌++◌, length, take, get_or, ap, sym, refl, add-zero, arith}
use Rattle.std.proofs.lemmas.List.{take_more}
use Rattle.field_types.specs.declared.values.Value.{Value}
use Rattle.record_fmt.specs.FieldTypes.{width}
use Rattle.record_fmt.specs.declared.formats.Field.{Field}
use Rattle.record_fmt.specs.Layout.{record_length}
use Rattle.dds_physical.specs.Defaults.{unspecified}
use Rattle.dds_logical.specs.declared.named_fields.NamedField.{NamedField}
use Rattle.dds_logical.specs.Fields.{laid_out}
use Rattle.dds_logical.specs.JudgedKeys.{bytes_of}
use Rattle.dds_logical.proofs.KeyLemmas.{record_length_by_name}

pub length-laid_out : (at i : ℕ) (fs : List NamedField) → length (laid_out at (take i fs)) ≤ i
length-laid_out at zero fs = omega arith
length-laid_out at (suc i) [] = omega arith
length-laid_out at (suc i) (f ∷ fs) = let more = length-laid_out (at + width f.shown.field.ty) i fs in omega (arith, more)

-- a field behind others
abbrev field_at : NamedField → ℕ → Field
field_at f at = record { name = f.name; ty = f.shown.field.ty; offset = at; default = unspecified f.shown.field.ty.kind; text = f.text }

laid_out-end : (at : ℕ) (fs : List NamedField) (f : NamedField) → laid_out at (fs ++ f ∷ []) ≡ laid_out at fs ++ field_at f (at + bytes_of fs) ∷ []
laid_out-end at [] f = ap (λ (n : ℕ). field_at f n ∷ []) (sym (add-zero at))
laid_out-end at (g ∷ fs) f =
    ap (λ (gs : List Field). field_at g at ∷ gs) (laid_out-end (at + width g.shown.field.ty) fs f
    ∙ ap (λ (n : ℕ). laid_out (at + width g.shown.field.ty) fs ++ field_at f n ∷ []) (omega arith))

bytes_of-end : (fs : List NamedField) (f : NamedField) → bytes_of (fs ++ f ∷ []) ≡ bytes_of fs + width f.shown.field.ty
bytes_of-end [] f = omega arith
bytes_of-end (g ∷ fs) f = let more = bytes_of-end fs f in omega (arith, more)

bytes_of-take : (i : ℕ) (fs : List NamedField) → bytes_of (take i fs) ≤ bytes_of fs
bytes_of-take zero fs = omega arith
bytes_of-take (suc i) [] = omega arith
bytes_of-take (suc i) (f ∷ fs) = let more = bytes_of-take i fs in omega (arith, more)

next_is : (fs : List NamedField) (i : ℕ) (f : NamedField) → i < length fs → f ≡ get_or fs i f → take (i + 1) fs ≡ take i fs ++ f ∷ []
next_is fs i f lt is = take_more fs i f lt ∙ ap (λ (g : NamedField). take i fs ++ g ∷ []) (sym is)

pub narrow_next : (fs : List NamedField) (i : ℕ) (f : NamedField) → i < length fs → f ≡ get_or fs i f → record_length (laid_out 0 (take i fs)) + width f.shown.field.ty ≤ bytes_of fs
narrow_next fs i f lt is =
    let here = record_length_by_name 0 (take i fs) in
    let next = ap bytes_of (next_is fs i f lt is) ∙ bytes_of-end (take i fs) f in
    let most = bytes_of-take (i + 1) fs in
    omega (arith, here, next, most)

-- one more field was pushed behind those before it
pub laid_out-next : (fs : List NamedField) (old new : List Field) (i : ℕ) (f : NamedField) (default : Value) (text : List ℕ) → i < length fs → f ≡ get_or fs i f → old ≡ laid_out 0 (take i fs)
    → default ≡ unspecified f.shown.field.ty.kind → text ≡ f.text
    → new ≡ old ++ (record { name = f.name; ty = f.shown.field.ty; offset = record_length old; default = default; text = text }) ∷ [] → new ≡ laid_out 0 (take (i + 1) fs)
laid_out-next fs old new i f default text lt is before valued copied pushed =
    let at : ℕ → Value → List ℕ → Field = λ n v t. record { name = f.name; ty = f.shown.field.ty; offset = n; default = v; text = t } in
    let place : record_length old ≡ bytes_of (take i fs) = ap record_length before ∙ record_length_by_name 0 (take i fs) in
    let same : at (record_length old) default text ≡ field_at f (0 + bytes_of (take i fs)) =
    ap (λ n. at n default text) (place ∙ omega arith) ∙ ap (λ (v : Value). at (0 + bytes_of (take i fs)) v text) valued ∙ ap (λ (t : List ℕ). at (0 + bytes_of (take i fs)) (unspecified f.shown.field.ty.kind) t) copied in
    pushed ∙ ap (λ (g : Field). old ++ g ∷ []) same ∙ ap (λ (gs : List Field). gs ++ field_at f (0 + bytes_of (take i fs)) ∷ []) before
    ∙ sym (laid_out-end 0 (take i fs) f) ∙ sym (ap (laid_out 0) (next_is fs i f lt is))
