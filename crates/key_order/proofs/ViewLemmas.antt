-- What a logical file shows of bytes is bytes.
use Rattle.std.proofs.Common.{◌≡◌, ℕ, zero, suc, ◌-◌, ◌*◌, ◌/◌, ◌^◌, ◌<◌, Option, Some, None, ℤ, unsigned_abs, List, [], ◌∷◌, length, refl, arith, lit<}
use Rattle.std.specs.Prelude.{replicate, flat_map}
use Rattle.std.specs.List.{AllByRecursion}
use Rattle.std.proofs.Math.Nat.{mod-lt}
use Rattle.field_types.specs.declared.kinds.Kind.{Kind}
use Rattle.field_types.specs.declared.kinds.Kind.TheVariants.{Char, Zoned, Packed, Binary, Date, Time, Stamp}
use Rattle.field_types.specs.declared.kinds.FieldType.{FieldType}
use Rattle.field_types.specs.declared.values.Value.{Value}
use Rattle.field_types.specs.declared.values.Value.TheVariants.{Chars, Number}
use Rattle.field_laws.specs.FieldTypes.{width, packed_width, binary_width}
use Rattle.field_laws.specs.Digits.{digits_in, sign_of, is_negative}
use Rattle.field_laws.specs.Zoned.{zoned_bytes}
use Rattle.field_laws.specs.Packed.{packed_bytes}
use Rattle.field_laws.specs.FieldBytes.{held, written, filled, number_written, units_at}
use Rattle.field_laws.specs.FirstBad.{part}
use Rattle.field_laws.proofs.WrittenLemmas.{sign-small}
use Rattle.file_model.specs.declared.views.Piece.{Piece}
use Rattle.file_model.specs.declared.views.FieldSource.{FieldSource}
use Rattle.file_model.specs.declared.views.FieldSource.TheVariants.{Copied, Converted, Concatenated, Substring}
use Rattle.file_model.specs.declared.views.ViewField.{ViewField}
use Rattle.file_model.specs.Views.{written_as, piece_of, shown, field_image, view_of}
use Rattle.key_order.proofs.ListOrder.{digits-bytes}
use Rattle.key_order.proofs.FitLemmas.{Bytes, OfBytes, Bytes-append, Bytes-part, Bytes-replicate, bytes-held}

abbrev Digits : List ℕ → Type 0
Digits ds = AllByRecursion (λ d. d < 10) ds

are-digits : (n x : ℕ) → Digits (digits_in 10 n x)
are-digits zero x = tt
are-digits (suc n) x = (mod-lt (x / 10 ^ n) (lit< tt), are-digits n x)

zoned-small : (ds : List ℕ) (sign : ℕ) → sign < 16 → Digits ds → Bytes (zoned_bytes ds sign)
zoned-small [] sign small digits = tt
zoned-small (d ∷ []) sign small digits = ((let low = digits.0 in omega arith), tt)
zoned-small (d ∷ e ∷ ds) sign small digits = ((let low = digits.0 in omega arith), zoned-small (e ∷ ds) sign small digits.1)

packed-small : (ds : List ℕ) (sign : ℕ) → sign < 16 → Digits ds → Bytes (packed_bytes ds sign)
packed-small [] sign small digits = tt
packed-small (d ∷ []) sign small digits = ((let low = digits.0 in omega arith), tt)
packed-small (d ∷ e ∷ ds) sign small digits = ((let low = digits.0 in let next = digits.1.0 in omega arith), packed-small ds sign small digits.1.1)

number-small : (kind : Kind) (n : ℕ) (units : ℤ) → Bytes (number_written kind n units)
number-small Char n units = Bytes-replicate n
number-small Zoned n units = zoned-small (digits_in 10 n (unsigned_abs units)) (sign_of (is_negative units)) (sign-small (is_negative units)) (are-digits n (unsigned_abs units))
number-small Packed n units =
    packed-small (digits_in 10 (2 * packed_width n - 1) (unsigned_abs units)) (sign_of (is_negative units)) (sign-small (is_negative units)) (are-digits (2 * packed_width n - 1) (unsigned_abs units))
number-small Binary n units = digits-bytes (binary_width n) _
number-small Date n units = Bytes-replicate n
number-small Time n units = Bytes-replicate n
number-small Stamp n units = Bytes-replicate n

filled-bytes : (n : ℕ) (text : List ℕ) → Bytes text → Bytes (filled n text)
filled-bytes n text bytes = Bytes-append text (replicate (n - length text) 0x40) bytes (Bytes-replicate (n - length text))

written-bytes : (t : FieldType) (v : Value) → OfBytes v → Bytes (written t v)
unfolding written
written-bytes t (Chars text) bytes = filled-bytes (width t) text bytes
written-bytes t (Number n) bytes = number-small t.kind t.length (units_at t.decimals n)

pieces-bytes : (image : List ℕ) (pieces : List Piece) → Bytes image → Bytes (flat_map (piece_of image) pieces)
pieces-bytes image [] bytes = tt
pieces-bytes image (p ∷ pieces) bytes = Bytes-append (piece_of image p) (flat_map (piece_of image) pieces) (Bytes-part p.offset p.length image bytes) (pieces-bytes image pieces bytes)

converted-bytes : (t from : FieldType) (w : List ℕ) → Bytes w → (there : Option Value) → held from w ≡ there → Bytes (written_as t there)
converted-bytes t from w bytes None is = tt
converted-bytes t from w bytes (Some v) is = written-bytes t v (bytes-held from v w bytes is)

shown-bytes : (t : FieldType) (source : FieldSource) (image : List ℕ) → Bytes image → Bytes (shown t source image)
shown-bytes t (Copied offset) image bytes = Bytes-part offset (width t) image bytes
shown-bytes t (Converted from offset) image bytes =
    converted-bytes t from (part offset (width from) image) (Bytes-part offset (width from) image bytes) (held from (part offset (width from) image)) refl
shown-bytes t (Concatenated pieces) image bytes = filled-bytes (width t) (flat_map (piece_of image) pieces) (pieces-bytes image pieces bytes)
shown-bytes t (Substring piece) image bytes = filled-bytes (width t) (piece_of image piece) (Bytes-part piece.offset piece.length image bytes)

pub view-bytes : (fields : List ViewField) (image : List ℕ) → Bytes image → Bytes (view_of fields image)
view-bytes [] image bytes = tt
view-bytes (f ∷ fields) image bytes = Bytes-append (field_image image f) (view_of fields image) (shown-bytes f.ty f.source image bytes) (view-bytes fields image bytes)
