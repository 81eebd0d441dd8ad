-- What is read back from the bytes of a key is what they were written for.
use Rattle.std.proofs.Common.{◌≡◌, ℕ, suc, ◌+◌, ◌-◌, ◌*◌, ◌^◌, ◌<◌, ◌≤◌, Bool, true, false, ℤ, pos, negsuc, unsigned_abs, List, [], ◌∷◌, ◌++◌, length, take, drop, refl, sym, ◌∙◌, ap, subst, arith, lit<}
use Rattle.std.specs.List.{AllByRecursion}
use Rattle.std.proofs.lemmas.Bool.{le-leb, lt-leb}
use Rattle.std.proofs.Math.Seq.{take-append_seam, drop-append_seam}
use Rattle.field_types.specs.declared.kinds.FieldType.{FieldType}
use Rattle.field_types.specs.declared.values.Value.{Value}
use Rattle.field_types.specs.declared.values.Value.TheVariants.{Chars, Number}
use Rattle.field_values.specs.FieldTypes.{packed_width}
use Rattle.field_values.specs.Digits.{number_in}
use Rattle.field_values.proofs.DigitLemmas.{number_in-digits_in_all}
use Rattle.key_spec.specs.declared.KeyPart.{KeyPart}
use Rattle.key_spec.specs.declared.KeyPart.TheVariants.{Field, Absent}
use Rattle.key_order.specs.KeyOrder.{KeyValue, Missing, Ascending, Descending}
use Rattle.key_order.specs.KeyBytes.{middle, from_middle, number_bytes, value_bytes, turned, digits_of, position_bytes, key_bytes}
use Rattle.key_order.specs.KeyFields.{value_width}
use Rattle.key_order.specs.GivenValues.{IsOfBytes}
use Rattle.key_order.proofs.NumberOrder.{middle-room, middle-half, number-bytes}
use Rattle.key_order.proofs.FitLemmas.{Bytes, OfBytes, Fits, value-length}
use Rattle.key_order.proofs.KeyLemmas.{FitsAt, AreFit, of-bytes}
use Rattle.key_order.proofs.ValueLemmas.{length-turned}
use Rattle.key_values.specs.KeyValues.{units_from, value_in, directed, values_in, IsAmong, AreAmong}

-- ---- numbers

units-read : (m : ℕ) (z : ℤ) → unsigned_abs z < m → units_from m (from_middle m z) ≡ z
units-read m (pos n) small = rw (le-leb m (m + n) (omega arith)) (ap pos (let e : m + n - m ≡ n = omega arith in e))
units-read m (negsuc n) small = rw (lt-leb m (m - suc n) (omega arith)) (ap negsuc (let e : m - (m - suc n) - 1 ≡ n = omega arith in e))

from_middle-small : (m : ℕ) (z : ℤ) → unsigned_abs z < m → from_middle m z < 2 * m
from_middle-small m (pos n) small = omega arith
from_middle-small m (negsuc n) small = omega arith

number-read : (digits : ℕ) (z : ℤ) → unsigned_abs z < 10 ^ digits → units_from (middle digits) (number_in 256 (number_bytes digits z)) ≡ z
unfolding number_bytes
number-read digits z small =
    let room : 10 ^ digits ≤ middle digits = middle-room digits in
    let half : 256 ^ packed_width digits ≡ 2 * middle digits = middle-half digits in
    let below : unsigned_abs z < middle digits = omega (arith, room) in
    let fits : from_middle (middle digits) z < 256 ^ packed_width digits = rw half (from_middle-small (middle digits) z below) in
    ap (units_from (middle digits)) (number_in-digits_in_all 256 (packed_width digits) (from_middle (middle digits) z) (lit< tt) fits) ∙ units-read (middle digits) z below

number-same : (u w : ℤ) (s d : ℕ) → u ≡ w → s ≡ d → ◌≡◌ {A = Value} (Number (record { units = u; scale = s })) (Number (record { units = w; scale = d }))
number-same u w s d e f = rw (e, f) refl

-- ---- values

value-read : (t : FieldType) (v : Value) → Fits t v → value_in t (value_bytes t.length v) ≡ v
value-read t (Chars text) fits = rw fits.sized.0 refl
value-read t (Number n) fits =
    let units : units_from (middle t.length) (number_in 256 (number_bytes t.length n.units)) ≡ n.units = number-read t.length n.units fits.sized.2 in
    rw fits.sized.0 (number-same (units_from (middle t.length) (number_in 256 (number_bytes t.length n.units))) n.units t.decimals n.scale units (sym fits.sized.1))

bytes-of : (t : FieldType) (v : Value) → Fits t v → Bytes (value_bytes t.length v)
bytes-of t (Chars text) fits = fits.bytes
bytes-of t (Number n) fits = number-bytes t.length n.units

-- bytes that are turned round twice
turned-back : (descend : Bool) (bytes : List ℕ) → Bytes bytes → turned descend (turned descend bytes) ≡ bytes
turned-back false bytes small = refl
turned-back true [] small = refl
turned-back true (b ∷ bytes) small =
    let first : 255 - (255 - b) ≡ b = (let low : b < 256 = small.0 in omega arith) in
    let rest : turned true (turned true bytes) ≡ bytes = turned-back true bytes small.1 in
    ap (λ (n : ℕ). n ∷ turned true (turned true bytes)) first ∙ ap (λ (w : List ℕ). b ∷ w) rest

-- ---- positions

front : (n : ℕ) (bytes rest : List ℕ) → length bytes ≡ n → take n (bytes ++ rest) ≡ bytes
front n bytes rest long = subst (λ (m : ℕ). take m (bytes ++ rest) ≡ bytes) long (take-append_seam bytes rest)

behind : (n : ℕ) (bytes rest : List ℕ) → length bytes ≡ n → drop n (bytes ++ rest) ≡ rest
behind n bytes rest long = subst (λ (m : ℕ). drop m (bytes ++ rest) ≡ rest) long (drop-append_seam bytes rest)

-- a value with others behind it, by the position of its own format
own-read : (t : FieldType) (place : ℕ) (descend counted : Bool) (v : Value) (file : List KeyPart) (rest : List ℕ) → Fits t v
    → values_in (Field t place descend counted ∷ file) (1 ∷ (turned descend (value_bytes t.length v) ++ rest)) ≡ directed descend v ∷ values_in file rest
own-read t place descend counted v file rest fits =
    let long : length (turned descend (value_bytes t.length v)) ≡ value_width t = length-turned descend (value_bytes t.length v) ∙ value-length t v fits.sized in
    let first : take (value_width t) (turned descend (value_bytes t.length v) ++ rest) ≡ turned descend (value_bytes t.length v) =
    front (value_width t) (turned descend (value_bytes t.length v)) rest long in
    let others : drop (value_width t) (turned descend (value_bytes t.length v) ++ rest) ≡ rest = behind (value_width t) (turned descend (value_bytes t.length v)) rest long in
    let again : turned descend (turned descend (value_bytes t.length v)) ≡ value_bytes t.length v = turned-back descend (value_bytes t.length v) (bytes-of t v fits) in
    ap (λ (w : List ℕ). directed descend (value_in t (turned descend w)) ∷ values_in file (drop (value_width t) (turned descend (value_bytes t.length v) ++ rest))) first
    ∙ ap (λ (w : List ℕ). directed descend (value_in t w) ∷ values_in file (drop (value_width t) (turned descend (value_bytes t.length v) ++ rest))) again
    ∙ ap (λ (x : Value). directed descend x ∷ values_in file (drop (value_width t) (turned descend (value_bytes t.length v) ++ rest))) (value-read t v fits)
    ∙ ap (λ (w : List ℕ). directed descend v ∷ values_in file w) others

-- by another in the same type and direction
other-read : (t u : FieldType) (place : ℕ) (descend falls counted : Bool) (v : Value) (file : List KeyPart) (rest : List ℕ) → t ≡ u → descend ≡ falls → Fits t v
    → values_in (Field u place falls counted ∷ file) (1 ∷ (turned descend (value_bytes t.length v) ++ rest)) ≡ directed descend v ∷ values_in file rest
other-read t u place descend falls counted v file rest same also fits =
    subst (λ (s : FieldType). values_in (Field s place falls counted ∷ file) (1 ∷ (turned descend (value_bytes t.length v) ++ rest)) ≡ directed descend v ∷ values_in file rest) same
    (subst (λ (b : Bool). values_in (Field t place b counted ∷ file) (1 ∷ (turned descend (value_bytes t.length v) ++ rest)) ≡ directed descend v ∷ values_in file rest) also
    (own-read t place descend counted v file rest fits))

first-read : (p q : KeyPart) (v : KeyValue) (file : List KeyPart) (rest : List ℕ) → IsAmong p q → FitsAt p v → values_in (q ∷ file) (position_bytes (digits_of p) v ++ rest) ≡ v ∷ values_in file rest
first-read p (Field u place falls counted) Missing file rest among fits = refl
first-read p Absent Missing file rest among fits = refl
first-read Absent q (Ascending v) file rest among fits = absurd fits
first-read Absent q (Descending v) file rest among fits = absurd fits
first-read (Field t offset descend absval) Absent (Ascending v) file rest among fits = absurd among
first-read (Field t offset descend absval) Absent (Descending v) file rest among fits = absurd among
first-read (Field t offset descend absval) (Field u place falls counted) (Ascending v) file rest among fits =
    other-read t u place false falls counted v file rest among.0 (sym fits.0 ∙ among.1) fits.1
first-read (Field t offset descend absval) (Field u place falls counted) (Descending v) file rest among fits =
    other-read t u place true falls counted v file rest among.0 (sym fits.0 ∙ among.1) fits.1

-- ---- keys

pub values-read : (own file : List KeyPart) (values : List KeyValue) → AreAmong own file → AreFit own values → values_in file (key_bytes own values) ≡ values
values-read [] [] [] among fits = refl
values-read [] (q ∷ file) [] among fits = refl
values-read [] file (v ∷ values) among fits = absurd fits
values-read (p ∷ own) [] values among fits = absurd among
values-read (p ∷ own) (q ∷ file) [] among fits = refl
values-read (p ∷ own) (q ∷ file) (v ∷ values) among fits =
    first-read p q v file (key_bytes own values) among.0 fits.0 ∙ ap (λ (w : List KeyValue). v ∷ w) (values-read own file values among.1 fits.1)

pub all-of-bytes : (values : List Value) → AllByRecursion IsOfBytes values → AllByRecursion OfBytes values
all-of-bytes [] bytes = tt
all-of-bytes (v ∷ values) bytes = (of-bytes v bytes.0, all-of-bytes values bytes.1)
