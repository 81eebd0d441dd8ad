-- The values that stand in fields and those that are given, as the code counts them.
use Rattle.std.proofs.Common.{◌≡◌, ℕ, zero, suc, ◌+◌, ◌-◌, ◌*◌, ◌%◌, ◌^◌, ◌<◌, ◌≤◌, Bool, true, false, cond, nat_le, Option, Some, None, is_some, ℤ, pos, negsuc, unsigned_abs, List, [], ◌∷◌, ◌++◌, length, take, drop, refl, sym, ◌∙◌, ap, subst, arith, lit<, append_assoc}
use Rattle.std.specs.Prelude.{replicate}
use Rattle.std.specs.Ordering.{nat_cmp, int_cmp}
use Rattle.std.specs.Cmp.Lexicographic.{slice_cmp}
use Rattle.std.proofs.lemmas.Bool.{and_parts, leb-true, ltb-true}
use lib.Signed.{lt_z}
use Rattle.std.proofs.Math.Nat.{pow-le-pow_right, mod-eq_of_lt}
use Rattle.field_types.specs.declared.kinds.Kind.{Kind}
use Rattle.field_types.specs.declared.kinds.Kind.TheVariants.{Char, Zoned, Packed, Binary, Date, Time, Stamp}
use Rattle.field_types.specs.declared.kinds.FieldType.{FieldType}
use Rattle.field_types.specs.declared.values.Dec.{Dec}
use Rattle.field_types.specs.declared.values.Value.{Value}
use Rattle.field_types.specs.declared.values.Value.TheVariants.{Chars, Number}
use Rattle.field_laws.specs.FieldTypes.{IsFieldType, is_allowed, is_between, width, packed_width, is_numeric}
use Rattle.field_laws.specs.FieldBytes.{held, as_held, fault_of, decimal, filled}
use Rattle.field_laws.specs.FirstBad.{part}
use Rattle.field_laws.proofs.FieldLemmas.{stands-text}
use Rattle.field_laws.proofs.BinaryLemmas.{middle-bits, bytes_high_first-digits_in}
use Rattle.field_laws.specs.Digits.{digits_in}
use Rattle.field_laws.proofs.DigitLemmas.{length-digits_in}
use Rattle.std.proofs.lemmas.List.{take_all}
use Rattle.key_spec.specs.declared.KeyPart.{KeyPart}
use Rattle.key_spec.specs.declared.KeyPart.TheVariants.{Field}
use Rattle.file_model.specs.KeyOrder.{absolute, ordered, at_position, key_value, given_value, compare_values}
use Rattle.key_order.specs.KeyBytes.{middle, from_middle, number_bytes, value_bytes, turned, position_bytes, encoded_values}
use Rattle.key_order.specs.KeyFields.{value_width}
use Rattle.key_order.proofs.NumberOrder.{middle-room, middle-half, compare_numbers-units}
use Rattle.key_order.proofs.FitLemmas.{IsSized, sized-held, sized-as_held}
use Rattle.std.specs.Int.{bytes_high_first}

-- ---- numbers

-- the number that stands there is one of the field
pub number-sized : (t : FieldType) (n : Dec) (w : List ℕ) → held t w ≡ Some (Number n) → IsSized t (Number n)
number-sized t n w h = sized-held t (Number n) w h

digits-of-kind : (kind : Kind) (n d : ℕ) → is_allowed kind n d ≡ true → is_numeric kind ≡ true → n ≤ 31
digits-of-kind Zoned n d allowed numeric = leb-true n 31 (and_parts (nat_le 1 n) (nat_le n 31) (and_parts (is_between 1 31 n) (nat_le d n) allowed).0).1
digits-of-kind Packed n d allowed numeric = leb-true n 31 (and_parts (nat_le 1 n) (nat_le n 31) (and_parts (is_between 1 31 n) (nat_le d n) allowed).0).1
digits-of-kind Binary n d allowed numeric = (let few : n ≤ 18 = leb-true n 18 (and_parts (nat_le 1 n) (nat_le n 18) (and_parts (is_between 1 18 n) (nat_le d n) allowed).0).1 in omega arith)
digits-of-kind Char n d allowed numeric = cc
digits-of-kind Date n d allowed numeric = cc
digits-of-kind Time n d allowed numeric = cc
digits-of-kind Stamp n d allowed numeric = cc

pub few-digits : (t : FieldType) → IsFieldType t → is_numeric t.kind ≡ true → t.length ≤ 31
few-digits t allowed numeric = digits-of-kind t.kind t.length t.decimals allowed numeric

pub small-number : (digits magnitude : ℕ) → digits ≤ 31 → magnitude < 10 ^ digits → magnitude < 170141183460469231731687303715884105728
small-number digits magnitude few small =
    let most : 10 ^ digits ≤ 10 ^ 31 = pow-le-pow_right (lit< tt) few in
    omega arith

number-same : (u w : ℤ) (s d : ℕ) → u ≡ w → s ≡ d → ◌≡◌ {A = Value} (Number (record { units = u; scale = s })) (Number (record { units = w; scale = d }))
number-same u w s d e f = rw (e, f) refl

-- a number as it is counted
pub counted-number : (absval : Bool) (d : ℕ) (n : Dec) (v : Value) (r : ℤ) → ◌≡◌ {A = Option Value} (Some (Number n)) (Some v) → n.scale ≡ d → r ≡ cond absval (pos (unsigned_abs n.units)) n.units
    → cond absval (absolute v) v ≡ decimal d r
counted-number absval d n v r is scale counted =
    let same : Number n ≡ v = cc in
    subst (λ (x : Value). cond absval (absolute x) x ≡ decimal d r) same (by absval counted)
  where
    by : (a : Bool) → r ≡ cond a (pos (unsigned_abs n.units)) n.units → cond a (absolute (Number n)) (Number n) ≡ decimal d r
    by true e = number-same (pos (unsigned_abs n.units)) r n.scale d (sym e) scale
    by false e = number-same n.units r n.scale d (sym e) scale

unsigned-counted : (absval : Bool) (z : ℤ) → unsigned_abs (cond absval (pos (unsigned_abs z)) z) ≡ unsigned_abs z
unsigned-counted true (pos n) = refl
unsigned-counted true (negsuc n) = refl
unsigned-counted false z = refl

pub small-counted : (absval : Bool) (z r : ℤ) (most : ℕ) → r ≡ cond absval (pos (unsigned_abs z)) z → unsigned_abs z < most → unsigned_abs r < most
small-counted absval z r most is small = rw (is, unsigned-counted absval z) small

-- the order of two numbers that are counted
pub counted-cmp : (d : ℕ) (v w : Value) (a b : ℤ) → v ≡ decimal d a → w ≡ decimal d b → int_cmp a b ≡ compare_values v w
counted-cmp d v w a b first second =
    rw (first, second) (sym (compare_numbers-units (record { units = a; scale = d }) (record { units = b; scale = d }) refl))

-- ---- texts

text-counted : (absval : Bool) (text : List ℕ) → cond absval (absolute (Chars text)) (Chars text) ≡ Chars text
text-counted true text = refl
text-counted false text = refl

pub text-there : (t : FieldType) (w : List ℕ) (v : Value) → is_numeric t.kind ≡ false → is_some (held t w) ≡ true → held t w ≡ Some v → v ≡ Chars w
text-there t w v text there h =
    let is : held t w ≡ Some (Chars w) = stands-text t w text there in cc

pub texts-cmp : (t : FieldType) (absval : Bool) (a b : List ℕ) (v w : Value) → is_numeric t.kind ≡ false
    → is_some (held t a) ≡ true → is_some (held t b) ≡ true → held t a ≡ Some v → held t b ≡ Some w
    → slice_cmp nat_cmp a b ≡ compare_values (cond absval (absolute v) v) (cond absval (absolute w) w)
texts-cmp t absval a b v w text there also h k =
    rw (text-there t a v text there h, text-there t b w text also k, text-counted absval a, text-counted absval b) refl

-- ---- the middle of a number's bytes

pub middle-shift : (digits wide : ℕ) → digits ≤ 31 → wide ≡ packed_width digits → (1 * 2 ^ (8 * wide - 1)) % 340282366920938463463374607431768211456 ≡ middle digits
middle-shift digits wide few is =
    let half : 256 ^ wide ≡ 2 * 2 ^ (8 * wide - 1) = middle-bits wide (omega arith) in
    let same : 256 ^ wide ≡ 2 * middle digits = ap (λ (n : ℕ). 256 ^ n) is ∙ middle-half digits in
    let most : 256 ^ wide ≤ 256 ^ 16 = pow-le-pow_right (lit< tt) (let le : wide ≤ 16 = omega arith in le) in
    let exact : 1 * 2 ^ (8 * wide - 1) ≡ middle digits = omega arith in
    rw exact (mod-eq_of_lt (let lt : middle digits < 340282366920938463463374607431768211456 = omega arith in lt))

-- numbers of a field lie within
pub middle-wide : (digits magnitude : ℕ) → digits ≤ 31 → magnitude < 10 ^ digits → (magnitude ≤ middle digits) × (middle digits + magnitude < 340282366920938463463374607431768211456)
middle-wide digits magnitude few small =
    let room : 10 ^ digits ≤ middle digits = middle-room digits in
    let half : 256 ^ packed_width digits ≡ 2 * middle digits = middle-half digits in
    let most : 256 ^ packed_width digits ≤ 256 ^ 16 = pow-le-pow_right (lit< tt) (let le : packed_width digits ≤ 16 = omega arith in le) in
    (omega (arith, room), omega (arith, room, half, most))

pub from_middle-below : (m : ℕ) (z : ℤ) → lt_z z (pos 0) ≡ true → m - unsigned_abs z ≡ from_middle m z
from_middle-below m (pos n) below = absurd (omega (arith, ltb-true n 0 below))
from_middle-below m (negsuc n) below = refl

pub from_middle-above : (m : ℕ) (z : ℤ) → lt_z z (pos 0) ≡ false → m + unsigned_abs z ≡ from_middle m z
from_middle-above m (pos n) above = refl
from_middle-above m (negsuc n) above = cc

-- the last digits of a number are those of fewer
drop-digits : (k n x : ℕ) → drop k (digits_in 256 (k + n) x) ≡ digits_in 256 n x
drop-digits zero n x = ap (λ (m : ℕ). digits_in 256 m x) (let e : 0 + n ≡ n = omega arith in e)
drop-digits (suc k) n x = ap (λ (m : ℕ). drop (suc k) (digits_in 256 m x)) (let e : suc k + n ≡ suc (k + n) = omega arith in e) ∙ drop-digits k n x

pub last-digits : (n x : ℕ) → n ≤ 16 → drop (16 - n) (bytes_high_first 16 x) ≡ digits_in 256 n x
last-digits n x few =
    ap (drop (16 - n)) (bytes_high_first-digits_in 16 x ∙ ap (λ (m : ℕ). digits_in 256 m x) (let e : 16 ≡ (16 - n) + n = omega arith in e)) ∙ drop-digits (16 - n) n x

-- ---- bytes by their direction

pub turned-append : (descend : Bool) (a b : List ℕ) → turned descend (a ++ b) ≡ turned descend a ++ turned descend b
turned-append false a b = refl
turned-append true [] b = refl
turned-append true (x ∷ a) b = ap (λ (w : List ℕ). (255 - x) ∷ w) (turned-append true a b)

pub length-turned : (descend : Bool) (a : List ℕ) → length (turned descend a) ≡ length a
length-turned false a = refl
length-turned true [] = refl
length-turned true (x ∷ a) = ap suc (length-turned true a)

pub replicate-more : (n x : ℕ) → replicate (n + 1) x ≡ replicate n x ++ x ∷ []
replicate-more zero x = refl
replicate-more (suc n) x = ap (λ (m : ℕ). replicate m x) (let e : suc n + 1 ≡ suc (n + 1) = omega arith in e) ∙ ap (λ (w : List ℕ). x ∷ w) (replicate-more n x)

pub ordered-bytes : (digits : ℕ) (descend absval : Bool) (v : Value) → position_bytes digits (ordered descend absval v) ≡ 1 ∷ turned descend (value_bytes digits (cond absval (absolute v) v))
ordered-bytes digits true absval v = refl
ordered-bytes digits false absval v = refl

-- ---- positions

pub some-there : {A : Type 0} (o : Option A) → is_some o ≡ true → (x : A) × (o ≡ Some x)
some-there None h = cc
some-there (Some x) h = (x, refl)

pub number-position : (t : FieldType) (offset : ℕ) (descend absval : Bool) (image : List ℕ) (r : ℤ) → is_some (held t (part offset (width t) image)) ≡ true
    → ((v : Value) → held t (part offset (width t) image) ≡ Some v → cond absval (absolute v) v ≡ decimal t.decimals r)
    → position_bytes t.length (key_value (Field t offset descend absval) image) ≡ 1 ∷ turned descend (number_bytes t.length r)
number-position t offset descend absval image r there value =
    let some = some-there (held t (part offset (width t) image)) there in
    ap (λ (o : Option Value). position_bytes t.length (at_position descend absval o)) some.1
    ∙ ordered-bytes t.length descend absval some.0
    ∙ ap (λ (x : Value). 1 ∷ turned descend (value_bytes t.length x)) (value some.0 some.1)

pub text-position : (t : FieldType) (offset : ℕ) (descend absval : Bool) (image : List ℕ) → is_numeric t.kind ≡ false → is_some (held t (part offset (width t) image)) ≡ true
    → position_bytes t.length (key_value (Field t offset descend absval) image) ≡ 1 ∷ turned descend (part offset (width t) image)
text-position t offset descend absval image text there =
    ap (λ (o : Option Value). position_bytes t.length (at_position descend absval o)) (stands-text t (part offset (width t) image) text there)
    ∙ ordered-bytes t.length descend absval (Chars (part offset (width t) image))
    ∙ ap (λ (x : Value). 1 ∷ turned descend (value_bytes t.length x)) (text-counted absval (part offset (width t) image))

pub number-given : (t : FieldType) (offset : ℕ) (descend absval : Bool) (v : Value) (r : ℤ) → cond absval (absolute (as_held t v)) (as_held t v) ≡ decimal t.decimals r
    → position_bytes t.length (given_value (Field t offset descend absval) v) ≡ 1 ∷ turned descend (number_bytes t.length r)
number-given t offset descend absval v r value =
    ordered-bytes t.length descend absval (as_held t v) ∙ ap (λ (x : Value). 1 ∷ turned descend (value_bytes t.length x)) value

pub text-given : (t : FieldType) (offset : ℕ) (descend absval : Bool) (text : List ℕ)
    → position_bytes t.length (given_value (Field t offset descend absval) (Chars text)) ≡ 1 ∷ turned descend (filled (width t) text)
unfolding as_held
text-given t offset descend absval text =
    ordered-bytes t.length descend absval (Chars (filled (width t) text))
    ∙ ap (λ (x : Value). 1 ∷ turned descend (value_bytes t.length x)) (text-counted absval (filled (width t) text))

pub given-numeric : (t : FieldType) (n : Dec) → fault_of t (Number n) ≡ None → is_numeric t.kind ≡ true
unfolding as_held
given-numeric t n h = (sized-as_held t (Number n) h).0

pub width-numeric : (t : FieldType) → is_numeric t.kind ≡ true → value_width t ≡ packed_width t.length
width-numeric t numeric = ap (λ (b : Bool). cond b (packed_width t.length) (width t)) numeric

pub width-text : (t : FieldType) → is_numeric t.kind ≡ false → value_width t ≡ width t
width-text t text = ap (λ (b : Bool). cond b (packed_width t.length) (width t)) text

-- ---- what the code writes

pub number-written : (digits : ℕ) (units : ℤ) (wide x : ℕ) (bytes : List ℕ) → digits ≤ 31 → wide ≡ packed_width digits → bytes ≡ bytes_high_first 16 x → x ≡ from_middle (middle digits) units
    → take (16 - (16 - wide)) (drop (16 - wide) bytes) ≡ number_bytes digits units
unfolding number_bytes
number-written digits units wide x bytes few is written counted =
    let fit : wide ≤ 16 = omega arith in
    let last : drop (16 - wide) bytes ≡ digits_in 256 wide x = ap (drop (16 - wide)) written ∙ last-digits wide x fit in
    let long : length (digits_in 256 wide x) ≡ wide = length-digits_in 256 wide x in
    ap (take (16 - (16 - wide))) last ∙ take_all (16 - (16 - wide)) (digits_in 256 wide x) (omega arith)
    ∙ ap (λ (n : ℕ). digits_in 256 n x) is ∙ ap (digits_in 256 (packed_width digits)) counted

-- a position behind what stood there
pub put-behind : (old middle new bytes position : List ℕ) → new ≡ middle ++ bytes → middle ≡ old ++ 1 ∷ [] → position ≡ 1 ∷ bytes → new ≡ old ++ position
put-behind old middle new bytes position all first is =
    all ∙ ap (λ (w : List ℕ). w ++ bytes) first ∙ append_assoc old (1 ∷ []) bytes ∙ ap (λ (w : List ℕ). old ++ w) (sym is)

pub no-values : (parts : List KeyPart) → encoded_values parts [] ≡ []
no-values [] = refl
no-values (p ∷ parts) = refl
