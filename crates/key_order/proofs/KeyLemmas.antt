-- The bytes of keys stand in the order of the keys.
use Rattle.std.proofs.Common.{◌≡◌, ℕ, zero, suc, ◌+◌, ◌<◌, Bool, true, false, cond, nat_lt, Option, Some, None, List, [], ◌∷◌, ◌++◌, length, take, refl, sym, ◌∙◌, ap, subst, arith, ◌<◌}
use Rattle.std.specs.Prelude.{All, AllPairs}
use Rattle.std.specs.List.{AllByRecursion}
use Rattle.std.proofs.lemmas.List.Elements.{recursion_from_All}
use Rattle.std.specs.declared.cmp.Ordering.TheVariants.{Less, Greater}
use Rattle.std.specs.Ordering.{nat_cmp, ordering_then, ordering_reverse}
use Rattle.std.specs.Cmp.Lexicographic.{slice_cmp}
use Rattle.field_types.specs.declared.kinds.FieldType.{FieldType}
use Rattle.field_types.specs.declared.values.Value.{Value}
use Rattle.field_types.specs.declared.values.Value.TheVariants.{Chars, Number}
use Rattle.field_types.specs.declared.faults.ValueFault.{ValueFault}
use Rattle.field_types.specs.declared.faults.ValueFault.TheVariants.{WrongKind}
use Rattle.field_types.specs.declared.faults.RecordFault.{RecordFault}
use Rattle.field_types.specs.declared.faults.RecordFault.TheVariants.{Count, BadField}
use Rattle.field_laws.specs.FieldTypes.{width}
use Rattle.field_laws.specs.FieldBytes.{held, as_held}
use Rattle.field_laws.specs.FirstBad.{part}
use Rattle.key_spec.specs.declared.KeyPart.{KeyPart}
use Rattle.key_spec.specs.declared.KeyPart.TheVariants.{Field, Absent}
use Rattle.file_model.specs.KeyOrder.{KeyValue, Missing, Ascending, Descending, compare_key_values, compare_values, compare_keys, compare_with, at_position, ordered, key_of, given_value, given_key, either_part, either_parts, merged_parts}
use Rattle.key_order.specs.KeyBytes.{encoded, encoded_values, digits_of, position_bytes, key_bytes, value_bytes, complement}
use Rattle.key_order.specs.KeyFields.{MatchesAt, Matches, AreBytes}
use Rattle.key_order.specs.GivenValues.{IsOfBytes, part_fault, fault_before, value_fault, key_fault}
use Rattle.key_order.proofs.ListOrder.{IsParted}
use Rattle.key_order.proofs.FitLemmas.{Bytes, Bytes-part, OfBytes, Fits, fits-held, fits-as_held, fits-counted, parted-rising, parted-falling}

-- the value is one of the position
abbrev pub FitsAt : KeyPart → KeyValue → Type 0
FitsAt p Missing = Unit {0}
FitsAt (Field t offset descend absval) (Ascending v) = (descend ≡ false) × Fits t v
FitsAt (Field t offset descend absval) (Descending v) = (descend ≡ true) × Fits t v
FitsAt Absent (Ascending v) = ⊥
FitsAt Absent (Descending v) = ⊥

-- the values are those of the first positions
abbrev pub AreFit : List KeyPart → List KeyValue → Type 0
AreFit [] [] = Unit {0}
AreFit [] (v ∷ values) = ⊥
AreFit (p ∷ parts) [] = Unit {0}
AreFit (p ∷ parts) (v ∷ values) = FitsAt p v × AreFit parts values

-- ---- positions

turns : {A : Type 0} (down falls : Bool) → down ≡ false → falls ≡ true → down ≡ falls → A
turns down falls off on same = absurd (let e : false ≡ true = sym off ∙ same ∙ on in cc)

parted : (p q : KeyPart) (a b : KeyValue) → MatchesAt p q → FitsAt p a → FitsAt q b
    → IsParted (position_bytes (digits_of p) a) (position_bytes (digits_of q) b) (compare_key_values a b)
parted p q Missing Missing match fits also = record { whole = λ x y. refl; cut = λ x y. refl }
parted p q Missing (Ascending b) match fits also = record { whole = λ x y. refl; cut = λ x y. refl }
parted p q Missing (Descending b) match fits also = record { whole = λ x y. refl; cut = λ x y. refl }
parted p q (Ascending a) Missing match fits also = record { whole = λ x y. refl; cut = λ x y. refl }
parted p q (Descending a) Missing match fits also = record { whole = λ x y. refl; cut = λ x y. refl }
parted Absent q (Ascending a) (Ascending b) match fits also = absurd fits
parted (Field t i d c) Absent (Ascending a) (Ascending b) match fits also = absurd also
parted (Field t i d c) (Field u j e f) (Ascending a) (Ascending b) match fits also =
    subst (λ (s : FieldType). IsParted (1 ∷ value_bytes t.length a) (1 ∷ value_bytes s.length b) (compare_values a b)) match.0
    (parted-rising t a b fits.1 (subst (λ (s : FieldType). Fits s b) (sym match.0) also.1))
parted Absent q (Ascending a) (Descending b) match fits also = absurd fits
parted (Field t i d c) Absent (Ascending a) (Descending b) match fits also = absurd also
parted (Field t i d c) (Field u j e f) (Ascending a) (Descending b) match fits also = turns d e fits.0 also.0 match.1
parted Absent q (Descending a) (Ascending b) match fits also = absurd fits
parted (Field t i d c) Absent (Descending a) (Ascending b) match fits also = absurd also
parted (Field t i d c) (Field u j e f) (Descending a) (Ascending b) match fits also = turns e d also.0 fits.0 (sym match.1)
parted Absent q (Descending a) (Descending b) match fits also = absurd fits
parted (Field t i d c) Absent (Descending a) (Descending b) match fits also = absurd also
parted (Field t i d c) (Field u j e f) (Descending a) (Descending b) match fits also =
    subst (λ (s : FieldType). IsParted (1 ∷ complement (value_bytes t.length a)) (1 ∷ complement (value_bytes s.length b)) (ordering_reverse (compare_values a b))) match.0
    (parted-falling t a b fits.1 (subst (λ (s : FieldType). Fits s b) (sym match.0) also.1))

-- ---- keys

before-some : (digits : ℕ) (v : KeyValue) (rest : List ℕ) → slice_cmp nat_cmp [] (position_bytes digits v ++ rest) ≡ Less
before-some digits Missing rest = refl
before-some digits (Ascending v) rest = refl
before-some digits (Descending v) rest = refl

after-none : (digits : ℕ) (v : KeyValue) (rest : List ℕ) → slice_cmp nat_cmp (position_bytes digits v ++ rest) [] ≡ Greater
after-none digits Missing rest = refl
after-none digits (Ascending v) rest = refl
after-none digits (Descending v) rest = refl

take-none : (n : ℕ) → take {A = ℕ} n [] ≡ []
take-none zero = refl
take-none (suc n) = refl

pub keys-cmp : (parts others : List KeyPart) (a b : List KeyValue) → Matches parts others → AreFit parts a → AreFit others b
    → slice_cmp nat_cmp (key_bytes parts a) (key_bytes others b) ≡ compare_keys a b
keys-cmp [] [] [] [] match fits also = refl
keys-cmp [] [] [] (w ∷ b) match fits also = absurd also
keys-cmp [] [] (v ∷ a) b match fits also = absurd fits
keys-cmp [] (q ∷ others) [] [] match fits also = refl
keys-cmp [] (q ∷ others) [] (w ∷ b) match fits also = before-some (digits_of q) w (key_bytes others b)
keys-cmp [] (q ∷ others) (v ∷ a) b match fits also = absurd fits
keys-cmp (p ∷ parts) [] [] [] match fits also = refl
keys-cmp (p ∷ parts) [] (v ∷ a) [] match fits also = after-none (digits_of p) v (key_bytes parts a)
keys-cmp (p ∷ parts) [] a (w ∷ b) match fits also = absurd also
keys-cmp (p ∷ parts) (q ∷ others) [] [] match fits also = refl
keys-cmp (p ∷ parts) (q ∷ others) [] (w ∷ b) match fits also = before-some (digits_of q) w (key_bytes others b)
keys-cmp (p ∷ parts) (q ∷ others) (v ∷ a) [] match fits also = after-none (digits_of p) v (key_bytes parts a)
keys-cmp (p ∷ parts) (q ∷ others) (v ∷ a) (w ∷ b) match fits also =
    (parted p q v w match.0 fits.0 also.0).whole (key_bytes parts a) (key_bytes others b)
    ∙ ap (ordering_then (compare_key_values v w)) (keys-cmp parts others a b match.1 fits.1 also.1)

-- a key, cut to the bytes of given values, against them
pub keys-cut : (parts others : List KeyPart) (a b : List KeyValue) → Matches parts others → AreFit parts a → AreFit others b
    → slice_cmp nat_cmp (take (length (key_bytes others b)) (key_bytes parts a)) (key_bytes others b) ≡ compare_with b a
keys-cut parts [] a [] match fits also = refl
keys-cut parts [] a (w ∷ b) match fits also = absurd also
keys-cut parts (q ∷ others) a [] match fits also = refl
keys-cut [] (q ∷ others) [] (w ∷ b) match fits also =
    rw (take-none (length (position_bytes (digits_of q) w ++ key_bytes others b))) (before-some (digits_of q) w (key_bytes others b))
keys-cut [] (q ∷ others) (v ∷ a) (w ∷ b) match fits also = absurd fits
keys-cut (p ∷ parts) (q ∷ others) [] (w ∷ b) match fits also =
    rw (take-none (length (position_bytes (digits_of q) w ++ key_bytes others b))) (before-some (digits_of q) w (key_bytes others b))
keys-cut (p ∷ parts) (q ∷ others) (v ∷ a) (w ∷ b) match fits also =
    (parted p q v w match.0 fits.0 also.0).cut (key_bytes parts a) (key_bytes others b)
    ∙ ap (ordering_then (compare_key_values v w)) (keys-cut parts others a b match.1 fits.1 also.1)

-- ---- the keys of images and of requests

ordered-fits : (t : FieldType) (offset : ℕ) (descend absval : Bool) (v : Value) → Fits t v → FitsAt (Field t offset descend absval) (ordered descend absval v)
ordered-fits t offset true absval v fits = (refl, fits-counted t absval v fits)
ordered-fits t offset false absval v fits = (refl, fits-counted t absval v fits)

at-fits : (t : FieldType) (offset : ℕ) (descend absval : Bool) (w : List ℕ) → Bytes w → (there : Option Value) → held t w ≡ there
    → FitsAt (Field t offset descend absval) (at_position descend absval there)
at-fits t offset descend absval w bytes None is = tt
at-fits t offset descend absval w bytes (Some v) is = ordered-fits t offset descend absval v (fits-held t v w bytes is)

pub image-fits : (parts : List KeyPart) (image : List ℕ) → Bytes image → AreFit parts (key_of parts image)
image-fits [] image bytes = tt
image-fits (Absent ∷ parts) image bytes = (tt, image-fits parts image bytes)
image-fits (Field t offset descend absval ∷ parts) image bytes =
    (at-fits t offset descend absval (part offset (width t) image) (Bytes-part offset (width t) image bytes) (held t (part offset (width t) image)) refl, image-fits parts image bytes)

pub first-fits : (number : ℕ) (fault : Option ValueFault) (rest : Option RecordFault) → fault_before number fault rest ≡ None → (fault ≡ None) × (rest ≡ None)
first-fits number None rest h = (refl, h)
first-fits number (Some cause) rest h = absurd (let e : ◌≡◌ {A = Option RecordFault} (Some (BadField number cause)) None = h in cc)

given-at : (p : KeyPart) (v : Value) → part_fault p v ≡ None → OfBytes v → FitsAt p (given_value p v)
given-at (Field t offset descend absval) v h bytes = ordered-fits t offset descend absval (as_held t v) (fits-as_held t v h bytes)
given-at Absent v h bytes = absurd (let e : ◌≡◌ {A = Option ValueFault} (Some WrongKind) None = h in cc)

pub given-fits : (number : ℕ) (parts : List KeyPart) (values : List Value) → value_fault number parts values ≡ None → AllByRecursion OfBytes values
    → AreFit parts (given_key parts values)
given-fits number [] values h bytes = tt
given-fits number (p ∷ parts) [] h bytes = tt
given-fits number (p ∷ parts) (v ∷ values) h bytes =
    let each = first-fits number (part_fault p v) (value_fault (number + 1) parts values) h in
    (given-at p v each.0 bytes.0, given-fits (number + 1) parts values each.1 bytes.1)

pub of-bytes : (v : Value) → IsOfBytes v → OfBytes v
of-bytes (Chars text) bytes = recursion_from_All (λ b. b < 256) text bytes
of-bytes (Number n) bytes = tt

all-of-bytes : (values : List Value) → AllByRecursion IsOfBytes values → AllByRecursion OfBytes values
all-of-bytes [] bytes = tt
all-of-bytes (v ∷ values) bytes = (of-bytes v bytes.0, all-of-bytes values bytes.1)

pub none-at-fault : (parts : List KeyPart) (values : List Value) → key_fault parts values ≡ None → value_fault 1 parts values ≡ None
none-at-fault parts values h = in-count (nat_lt (length parts) (length values)) (value_fault 1 parts values) h
  where
    in-count : (many : Bool) (fault : Option RecordFault) → cond many (Some Count) fault ≡ None → fault ≡ None
    in-count true fault h = absurd (let e : ◌≡◌ {A = Option RecordFault} (Some Count) None = h in cc)
    in-count false fault h = h

pub given-cut : (parts others : List KeyPart) (image : List ℕ) (values : List Value) → Matches parts others → AreBytes image → key_fault others values ≡ None → All IsOfBytes values
    → slice_cmp nat_cmp (take (length (encoded_values others values)) (encoded parts image)) (encoded_values others values) ≡ compare_with (given_key others values) (key_of parts image)
given-cut parts others image values match bytes none given =
    keys-cut parts others (key_of parts image) (given_key others values) match
    (image-fits parts image (recursion_from_All (λ b. b < 256) image bytes))
    (given-fits 1 others values (none-at-fault others values none) (all-of-bytes values (recursion_from_All IsOfBytes values given)))

-- ---- formats

pub Matches-itself : (parts : List KeyPart) → Matches parts parts
Matches-itself [] = tt
Matches-itself (Absent ∷ parts) = (tt, Matches-itself parts)
Matches-itself (Field t offset descend absval ∷ parts) = ((refl, refl), Matches-itself parts)

matches-back : (p q : KeyPart) → MatchesAt p q → MatchesAt q p
matches-back Absent Absent h = tt
matches-back Absent (Field t offset descend absval) h = tt
matches-back (Field t offset descend absval) Absent h = tt
matches-back (Field t offset descend absval) (Field u place falls counted) h = (sym h.0, sym h.1)

pub Matches-back : (parts others : List KeyPart) → Matches parts others → Matches others parts
Matches-back [] [] h = tt
Matches-back [] (q ∷ others) h = tt
Matches-back (p ∷ parts) [] h = tt
Matches-back (p ∷ parts) (q ∷ others) h = (matches-back p q h.0, Matches-back parts others h.1)

-- a format and the positions of it and others together
either-itself : (parts others : List KeyPart) → Matches parts (either_parts parts others)
either-itself [] others = tt
either-itself (p ∷ parts) [] = Matches-itself (p ∷ parts)
either-itself (Absent ∷ parts) (q ∷ others) = (tt, either-itself parts others)
either-itself (Field t offset descend absval ∷ parts) (q ∷ others) = ((refl, refl), either-itself parts others)

either-part : (x p q : KeyPart) → MatchesAt x p → MatchesAt x q → MatchesAt x (either_part p q)
either-part x Absent q first second = second
either-part x (Field t offset descend absval) q first second = first

either-match : (format parts others : List KeyPart) → Matches format parts → Matches format others → Matches format (either_parts parts others)
either-match format [] others first second = second
either-match format (p ∷ parts) [] first second = first
either-match [] (p ∷ parts) (q ∷ others) first second = tt
either-match (x ∷ format) (p ∷ parts) (q ∷ others) first second = (either-part x p q first.0 second.0, either-match format parts others first.1 second.1)

with-first : (parts : List KeyPart) (merged : List KeyPart) (formats : List (List KeyPart)) → AllByRecursion (Matches parts) formats → AllByRecursion (λ format. Matches format merged) formats
    → AllByRecursion (λ format. Matches format (either_parts parts merged)) formats
with-first parts merged [] first rest = tt
with-first parts merged (format ∷ formats) first rest =
    (either-match format parts merged (Matches-back parts format first.0) rest.0, with-first parts merged formats first.1 rest.1)

pub merged-match : (formats : List (List KeyPart)) → AllPairs Matches formats → AllByRecursion (λ format. Matches format (merged_parts formats)) formats
merged-match [] pairs = tt
merged-match (parts ∷ formats) pairs =
    let others : AllByRecursion (Matches parts) formats = recursion_from_All (Matches parts) formats (λ k d lt. pairs 0 (suc k) d (omega arith) (omega arith)) in
    let rest = merged-match formats (λ i j d lt within. pairs (suc i) (suc j) d (omega arith) (omega arith)) in
    (either-itself parts (merged_parts formats), with-first parts (merged_parts formats) formats others rest)
