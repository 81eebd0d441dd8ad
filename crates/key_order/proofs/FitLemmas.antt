-- Which values stand at a position of a key: those of an image, and those that a request gives.
use Rattle.std.proofs.Common.{◌≡◌, ℕ, zero, suc, ◌-◌, ◌^◌, ◌<◌, ◌≤◌, Bool, true, false, cond, not, ◌&&◌, ◌==◌, nat_lt, Option, Some, None, ℤ, pos, negsuc, unsigned_abs, List, [], ◌∷◌, ◌++◌, length, take, drop, map, refl, sym, ◌∙◌, ap, subst, arith, lit<, length-append}
use Rattle.std.specs.Prelude.{replicate}
use Rattle.std.specs.List.{AllByRecursion, list_all}
use Rattle.std.specs.Ordering.{nat_cmp, ordering_reverse}
use Rattle.std.specs.Cmp.Lexicographic.{slice_cmp}
use Rattle.std.proofs.lemmas.Bool.{ltb-false}
use Rattle.std.proofs.lemmas.List.{length-replicate}
use Rattle.field_types.specs.declared.kinds.Kind.{Kind}
use Rattle.field_types.specs.declared.kinds.Kind.TheVariants.{Char, Zoned, Packed, Binary, Date, Time, Stamp}
use Rattle.field_types.specs.declared.kinds.FieldType.{FieldType}
use Rattle.field_types.specs.declared.values.Value.{Value}
use Rattle.field_types.specs.declared.values.Value.TheVariants.{Chars, Number}
use Rattle.field_types.specs.declared.faults.ValueFault.{ValueFault}
use Rattle.field_types.specs.declared.faults.ValueFault.TheVariants.{WrongKind, TooWide, BadDate}
use Rattle.field_laws.specs.FieldTypes.{width, packed_width, binary_width, is_numeric, is_moment_kind}
use Rattle.field_laws.specs.FieldBytes.{held, as_held, fault_of, number_fault}
use Rattle.field_laws.specs.Digits.{number_in, signed, is_minus, high_half, low_half, last_byte}
use Rattle.field_laws.specs.Zoned.{is_zoned}
use Rattle.field_laws.specs.Packed.{is_packed, is_spare_clear, packed_digits}
use Rattle.field_laws.specs.Binary.{is_byte, twos_complement}
use Rattle.field_laws.specs.Moments.{is_moment, is_date, is_time, is_timestamp}
use Rattle.field_laws.proofs.FieldLemmas.{field}
use Rattle.field_laws.proofs.WrittenLemmas.{number-small}
use Rattle.field_laws.proofs.OneImageLemmas.{from-number, from-moment, from-text}
use Rattle.field_laws.proofs.AcceptedLemmas.{IsKept, held-kept}
use Rattle.file_model.specs.KeyOrder.{compare_values, absolute}
use Rattle.key_order.specs.KeyBytes.{value_bytes, complement}
use Rattle.key_order.specs.KeyFields.{value_width}
use Rattle.key_order.proofs.ListOrder.{IsParted, IsParted-same, complement-cmp, length-complement}
use Rattle.key_order.proofs.NumberOrder.{number-cmp, length-number_bytes, number-bytes, compare_numbers-units}

abbrev pub Bytes : List ℕ → Type 0
Bytes xs = AllByRecursion (λ b. b < 256) xs

abbrev pub OfBytes : Value → Type 0
OfBytes (Chars text) = Bytes text
OfBytes (Number n) = Unit {0}

-- the value is one that a field of the type holds
abbrev pub IsSized : FieldType → Value → Type 0
IsSized t (Chars text) = (is_numeric t.kind ≡ false) × (length text ≡ width t)
IsSized t (Number n) = (is_numeric t.kind ≡ true) × (n.scale ≡ t.decimals) × (unsigned_abs n.units < 10 ^ t.length)

pub record Fits (t : FieldType) (v : Value) : Type 0 where
  pub sized : IsSized t v
  pub bytes : OfBytes v

-- ---- the bytes of such values

apart : {A : Type 0} (b : Bool) → b ≡ false → b ≡ true → A
apart b off on = absurd (let e : false ≡ true = sym off ∙ on in cc)

pub value-length : (t : FieldType) (v : Value) → IsSized t v → length (value_bytes t.length v) ≡ value_width t
value-length t (Chars text) fits = rw fits.0 fits.1
value-length t (Number n) fits = rw fits.0 (length-number_bytes t.length n.units)

value-bytes : (t : FieldType) (v : Value) → Fits t v → Bytes (value_bytes t.length v)
value-bytes t (Chars text) fits = fits.bytes
value-bytes t (Number n) fits = number-bytes t.length n.units

value-cmp : (t : FieldType) (a b : Value) → Fits t a → Fits t b → slice_cmp nat_cmp (value_bytes t.length a) (value_bytes t.length b) ≡ compare_values a b
value-cmp t (Chars a) (Chars b) fits also = refl
value-cmp t (Chars a) (Number b) fits also = apart (is_numeric t.kind) fits.sized.0 also.sized.0
value-cmp t (Number a) (Chars b) fits also = apart (is_numeric t.kind) also.sized.0 fits.sized.0
value-cmp t (Number a) (Number b) fits also = number-cmp t.length a.units b.units fits.sized.2 also.sized.2 ∙ sym (compare_numbers-units a b (fits.sized.1 ∙ sym also.sized.1))

same-length : (t : FieldType) (a b : Value) → Fits t a → Fits t b → length (value_bytes t.length a) ≡ length (value_bytes t.length b)
same-length t a b fits also = value-length t a fits.sized ∙ sym (value-length t b also.sized)

pub parted-rising : (t : FieldType) (a b : Value) → Fits t a → Fits t b → IsParted (1 ∷ value_bytes t.length a) (1 ∷ value_bytes t.length b) (compare_values a b)
parted-rising t a b fits also =
    IsParted-same (1 ∷ value_bytes t.length a) (1 ∷ value_bytes t.length b) (compare_values a b) (ap suc (same-length t a b fits also)) (value-cmp t a b fits also)

pub parted-falling : (t : FieldType) (a b : Value) → Fits t a → Fits t b
    → IsParted (1 ∷ complement (value_bytes t.length a)) (1 ∷ complement (value_bytes t.length b)) (ordering_reverse (compare_values a b))
parted-falling t a b fits also =
    let same : length (complement (value_bytes t.length a)) ≡ length (complement (value_bytes t.length b)) =
    length-complement (value_bytes t.length a) ∙ same-length t a b fits also ∙ sym (length-complement (value_bytes t.length b)) in
    IsParted-same (1 ∷ complement (value_bytes t.length a)) (1 ∷ complement (value_bytes t.length b)) (ordering_reverse (compare_values a b)) (ap suc same)
    (complement-cmp (value_bytes t.length a) (value_bytes t.length b) (value-bytes t a fits) (value-bytes t b also) (same-length t a b fits also)
    ∙ ap ordering_reverse (value-cmp t a b fits also))

-- ---- lists of bytes

pub Bytes-append : (a b : List ℕ) → Bytes a → Bytes b → Bytes (a ++ b)
Bytes-append [] b first second = second
Bytes-append (x ∷ a) b first second = (first.0, Bytes-append a b first.1 second)

pub Bytes-replicate : (n : ℕ) → Bytes (replicate n 0x40)
Bytes-replicate zero = tt
Bytes-replicate (suc n) = (lit< tt, Bytes-replicate n)

Bytes-take : (n : ℕ) (a : List ℕ) → Bytes a → Bytes (take n a)
Bytes-take zero a h = tt
Bytes-take (suc n) [] h = tt
Bytes-take (suc n) (x ∷ a) h = (h.0, Bytes-take n a h.1)

Bytes-drop : (n : ℕ) (a : List ℕ) → Bytes a → Bytes (drop n a)
Bytes-drop zero a h = h
Bytes-drop (suc n) [] h = tt
Bytes-drop (suc n) (x ∷ a) h = Bytes-drop n a h.1

pub Bytes-part : (i n : ℕ) (a : List ℕ) → Bytes a → Bytes (take n (drop i a))
Bytes-part i n a h = Bytes-take n (drop i a) (Bytes-drop i a h)

-- ---- values that a field doesn't refuse

text-accepted : (numeric wide bad : Bool) → cond numeric (Some WrongKind) (cond wide (Some TooWide) (cond bad (Some BadDate) None)) ≡ None → (numeric ≡ false) × (wide ≡ false)
text-accepted true wide bad h = absurd (let e : ◌≡◌ {A = Option ValueFault} (Some WrongKind) None = h in cc)
text-accepted false true bad h = absurd (let e : ◌≡◌ {A = Option ValueFault} (Some TooWide) None = h in cc)
text-accepted false false bad h = (refl, refl)

number-accepted : (numeric : Bool) (fault : Option ValueFault) → cond numeric fault (Some WrongKind) ≡ None → (numeric ≡ true) × (fault ≡ None)
number-accepted true fault h = (refl, h)
number-accepted false fault h = absurd (let e : ◌≡◌ {A = Option ValueFault} (Some WrongKind) None = h in cc)

pub sized-as_held : (t : FieldType) (v : Value) → fault_of t v ≡ None → IsSized t (as_held t v)
unfolding fault_of as_held
sized-as_held t (Chars text) h =
    let is = text-accepted (is_numeric t.kind) (nat_lt (width t) (length text)) (is_moment_kind t.kind && not (is_moment t.kind text)) h in
    let short : length text ≤ width t = ltb-false (width t) (length text) is.1 in
    (is.0, rw (length-append text (replicate (width t - length text) 64), length-replicate {A = ℕ} (width t - length text) 64) (omega arith))
sized-as_held t (Number n) h =
    let is = number-accepted (is_numeric t.kind) (number_fault t.length t.decimals n) h in
    (is.0, refl, number-small t.length t.decimals n is.1)

pub short-text : (t : FieldType) (text : List ℕ) → fault_of t (Chars text) ≡ None → (is_numeric t.kind ≡ false) × (length text ≤ width t)
unfolding fault_of
short-text t text h =
    let is = text-accepted (is_numeric t.kind) (nat_lt (width t) (length text)) (is_moment_kind t.kind && not (is_moment t.kind text)) h in
    (is.0, ltb-false (width t) (length text) is.1)

bytes-as_held : (t : FieldType) (v : Value) → OfBytes v → OfBytes (as_held t v)
unfolding as_held
bytes-as_held t (Chars text) bytes = Bytes-append text (replicate (width t - length text) 64) bytes (Bytes-replicate (width t - length text))
bytes-as_held t (Number n) bytes = tt

pub fits-as_held : (t : FieldType) (v : Value) → fault_of t v ≡ None → OfBytes v → Fits t (as_held t v)
fits-as_held t v h bytes = record { sized = sized-as_held t v h; bytes = bytes-as_held t v bytes }

-- ---- values of an image

of-kind : (kind : Kind) (n d : ℕ) (v : Value) (w : List ℕ) → Bytes w → held (field kind n d) w ≡ Some v → OfBytes v
unfolding held
of-kind Char n d v w bytes h = let is = from-text (length w == n) w v h in rw is.1 bytes
of-kind Zoned n d v w bytes h =
    let is = from-number (length w == n) (is_zoned w) d (signed (is_minus (high_half (last_byte w))) (number_in 10 (map low_half w))) v h in rw is.2 tt
of-kind Packed n d v w bytes h =
    let is = from-number (length w == packed_width n) (is_packed w && is_spare_clear n w) d (signed (is_minus (low_half (last_byte w))) (number_in 10 (packed_digits w))) v h in rw is.2 tt
of-kind Binary n d v w bytes h =
    let z = twos_complement (length w) (number_in 256 w) in
    let is = from-number (length w == binary_width n) (list_all is_byte w && nat_lt (unsigned_abs z) (10 ^ n)) d z v h in rw is.2 tt
of-kind Date n d v w bytes h = let is = from-moment (length w == n) (is_date w) w v h in rw is.2 bytes
of-kind Time n d v w bytes h = let is = from-moment (length w == n) (is_time w) w v h in rw is.2 bytes
of-kind Stamp n d v w bytes h = let is = from-moment (length w == n) (is_timestamp w) w v h in rw is.2 bytes

pub sized-held : (t : FieldType) (v : Value) (w : List ℕ) → held t w ≡ Some v → IsSized t v
sized-held t v w h =
    let kept : IsKept t v = held-kept t v w h in
    subst (IsSized t) kept.same (sized-as_held t v kept.accepted)

pub bytes-held : (t : FieldType) (v : Value) (w : List ℕ) → Bytes w → held t w ≡ Some v → OfBytes v
bytes-held t v w bytes h = of-kind t.kind t.length t.decimals v w bytes h

pub fits-held : (t : FieldType) (v : Value) (w : List ℕ) → Bytes w → held t w ≡ Some v → Fits t v
fits-held t v w bytes h = record { sized = sized-held t v w h; bytes = bytes-held t v w bytes h }

-- without the sign too
unsigned-again : (z : ℤ) → unsigned_abs (pos (unsigned_abs z)) ≡ unsigned_abs z
unsigned-again (pos n) = refl
unsigned-again (negsuc n) = refl

sized-absolute : (t : FieldType) (v : Value) → IsSized t v → IsSized t (absolute v)
sized-absolute t (Chars text) sized = sized
sized-absolute t (Number n) sized = (sized.0, sized.1, rw (unsigned-again n.units) sized.2)

pub sized-counted : (t : FieldType) (absval : Bool) (v : Value) → IsSized t v → IsSized t (cond absval (absolute v) v)
sized-counted t true v sized = sized-absolute t v sized
sized-counted t false v sized = sized

bytes-counted : (absval : Bool) (v : Value) → OfBytes v → OfBytes (cond absval (absolute v) v)
bytes-counted true (Chars text) bytes = bytes
bytes-counted true (Number n) bytes = tt
bytes-counted false v bytes = bytes

pub fits-counted : (t : FieldType) (absval : Bool) (v : Value) → Fits t v → Fits t (cond absval (absolute v) v)
fits-counted t absval v fits = record { sized = sized-counted t absval v fits.sized; bytes = bytes-counted absval v fits.bytes }
