-- How many bytes keys have.
use Rattle.std.proofs.Common.{◌≡◌, ℕ, ◌+◌, ◌≤◌, Bool, cond, Option, None, List, [], ◌∷◌, length, refl, ◌∙◌, ap, arith, length-append}
use Rattle.std.specs.List.{AllByRecursion}
use Rattle.std.proofs.lemmas.List.Elements.{recursion_from_All}
use Rattle.field_types.specs.declared.kinds.FieldType.{FieldType}
use Rattle.field_types.specs.declared.values.Value.{Value}
use Rattle.field_laws.specs.FieldTypes.{width}
use Rattle.field_laws.specs.FieldBytes.{held, as_held}
use Rattle.field_laws.specs.FirstBad.{part}
use Rattle.key_spec.specs.declared.KeyPart.{KeyPart}
use Rattle.key_spec.specs.declared.KeyPart.TheVariants.{Field, Absent}
use Rattle.file_model.specs.KeyOrder.{absolute, ordered, at_position, key_value, given_value}
use Rattle.key_order.specs.KeyBytes.{digits_of, position_bytes, value_bytes, turned, encoded, encoded_values}
use Rattle.key_order.specs.KeyFields.{HasPosition, HasKey, value_width, position_width, key_width}
use Rattle.key_order.specs.GivenValues.{part_fault, value_fault, key_fault}
use Rattle.key_order.proofs.FitLemmas.{IsSized, sized-held, sized-as_held, sized-counted, value-length}
use Rattle.key_order.proofs.KeyLemmas.{first-fits, none-at-fault}
use Rattle.key_order.proofs.ValueLemmas.{ordered-bytes, length-turned, some-there}

sized-length : (t : FieldType) (descend absval : Bool) (v : Value) → IsSized t v → length (position_bytes t.length (ordered descend absval v)) ≡ 1 + value_width t
sized-length t descend absval v sized =
    let behind : length (turned descend (value_bytes t.length (cond absval (absolute v) v))) ≡ value_width t =
    length-turned descend (value_bytes t.length (cond absval (absolute v) v)) ∙ value-length t (cond absval (absolute v) v) (sized-counted t absval v sized) in
    ap length (ordered-bytes t.length descend absval v) ∙ omega arith

position-length : (p : KeyPart) (image : List ℕ) → HasPosition p image → length (position_bytes (digits_of p) (key_value p image)) ≡ position_width p
position-length Absent image has = refl
position-length (Field t offset descend absval) image has =
    let some = some-there (held t (part offset (width t) image)) has.there in
    ap (λ (o : Option Value). length (position_bytes t.length (at_position descend absval o))) some.1
    ∙ sized-length t descend absval some.0 (sized-held t some.0 (part offset (width t) image) some.1)

keys-length : (parts : List KeyPart) (image : List ℕ) → AllByRecursion (λ p. HasPosition p image) parts → length (encoded parts image) ≡ key_width parts
keys-length [] image has = refl
keys-length (p ∷ parts) image has =
    let first = position-length p image has.0 in
    let rest = keys-length parts image has.1 in
    length-append (position_bytes (digits_of p) (key_value p image)) (encoded parts image) ∙ omega (arith, first, rest)

pub length-encoded : (parts : List KeyPart) (image : List ℕ) → HasKey parts image → length (encoded parts image) ≡ key_width parts
length-encoded parts image has = keys-length parts image (recursion_from_All (λ p. HasPosition p image) parts has)

given-length : (p : KeyPart) (v : Value) → part_fault p v ≡ None → length (position_bytes (digits_of p) (given_value p v)) ≡ position_width p
given-length Absent v h = refl
given-length (Field t offset descend absval) v h = sized-length t descend absval (as_held t v) (sized-as_held t v h)

values-length : (number : ℕ) (parts : List KeyPart) (values : List Value) → value_fault number parts values ≡ None → length (encoded_values parts values) ≤ key_width parts
values-length number [] values h = omega arith
values-length number (p ∷ parts) [] h = omega arith
values-length number (p ∷ parts) (v ∷ values) h =
    let each = first-fits number (part_fault p v) (value_fault (number + 1) parts values) h in
    let first = given-length p v each.0 in
    let rest = values-length (number + 1) parts values each.1 in
    omega (arith, first, rest, length-append (position_bytes (digits_of p) (given_value p v)) (encoded_values parts values))

pub length-encoded_values : (parts : List KeyPart) (values : List Value) → key_fault parts values ≡ None → length (encoded_values parts values) ≤ key_width parts
length-encoded_values parts values h = values-length 1 parts values (none-at-fault parts values h)
