-- Each value of a field fits one of another type that doesn't narrow it.
use Rattle.std.proofs.Common.{◌≡◌, ℕ, ◌+◌, ◌-◌, ◌*◌, ◌^◌, ◌<◌, ◌≤◌, Bool, true, false, not, cond, ◌&&◌, ◌==◌, nat_lt, nat_le, ℤ, unsigned_abs, Option}
use Rattle.std.proofs.Common.{Some, None, List, length, refl, sym, ◌∙◌, ap, subst, arith, lit<}
use Rattle.std.proofs.lemmas.Bool.{and_parts, eqb-true, le-ltb, leb-true, lt-leb, ltb-false}
use Rattle.std.proofs.lemmas.Nat.{pow-add}
use Rattle.std.proofs.Math.Nat.{pow-le-pow_right, mul_assoc, mul-lt-mul_of_pos_right}
use Rattle.field_types.specs.declared.kinds.Kind.{Kind}
use Rattle.field_types.specs.declared.kinds.Kind.TheVariants.{Char, Zoned, Packed, Binary, Date, Time, Stamp}
use Rattle.field_types.specs.declared.kinds.FieldType.{FieldType}
use Rattle.field_types.specs.declared.values.Dec.{Dec}
use Rattle.field_types.specs.declared.values.Value.{Value}
use Rattle.field_types.specs.declared.values.Value.TheVariants.{Chars, Number}
use Rattle.field_types.specs.declared.faults.ValueFault.{ValueFault}
use Rattle.field_types.specs.declared.faults.ValueFault.TheVariants.{WrongKind, TooWide, BadDate}
use Rattle.field_values.specs.FieldTypes.{IsFieldType, is_allowed, is_between, is_numeric, is_moment_kind, width, width_of}
use Rattle.field_values.specs.FieldBytes.{held, as_held, fault_of, number_fault, units_at}
use Rattle.field_values.specs.Moments.{is_moment}
use Rattle.field_values.proofs.ScaleLemmas.{some-power, number_fault-Ok}
use Rattle.logical_laws.proofs.AcceptedLemmas.{held-kept}
use Rattle.logical_laws.proofs.WrittenLemmas.{number-small}
use Rattle.dds_logical.specs.Fields.{kind_letter, are_alike}

-- ---- kinds

kind_of : ℕ → Kind
kind_of letter =
    cond (letter == 65) Char (cond (letter == 83) Zoned (cond (letter == 80) Packed (cond (letter == 66) Binary (cond (letter == 76) Date (cond (letter == 84) Time Stamp)))))

kind-back : (k : Kind) → kind_of (kind_letter k) ≡ k
unfolding kind_of
kind-back Char = refl
kind-back Zoned = refl
kind-back Packed = refl
kind-back Binary = refl
kind-back Date = refl
kind-back Time = refl
kind-back Stamp = refl

pub same-kind : (k l : Kind) → (kind_letter k == kind_letter l) ≡ true → k ≡ l
same-kind k l h = sym (kind-back k) ∙ ap kind_of (eqb-true (kind_letter k) (kind_letter l) h) ∙ kind-back l

-- of two alike types both are of numbers, or both are of one kind
alike-number : (t from : FieldType) → are_alike t from ≡ true → is_numeric from.kind ≡ true → is_numeric t.kind ≡ true
alike-number t from alike number = by t.kind alike
  where
    by : (k : Kind) → cond (is_numeric k) (is_numeric from.kind) (kind_letter k == kind_letter from.kind) ≡ true → is_numeric k ≡ true
    by Char h = ap is_numeric (same-kind Char from.kind h) ∙ number
    by Zoned h = refl
    by Packed h = refl
    by Binary h = refl
    by Date h = ap is_numeric (same-kind Date from.kind h) ∙ number
    by Time h = ap is_numeric (same-kind Time from.kind h) ∙ number
    by Stamp h = ap is_numeric (same-kind Stamp from.kind h) ∙ number

pub alike-text : (t from : FieldType) → are_alike t from ≡ true → is_numeric from.kind ≡ false → t.kind ≡ from.kind
alike-text t from alike text = by t.kind alike
  where
    by : (k : Kind) → cond (is_numeric k) (is_numeric from.kind) (kind_letter k == kind_letter from.kind) ≡ true → k ≡ from.kind
    by Char h = same-kind Char from.kind h
    by Zoned h = absurd (let both : false ≡ true = sym text ∙ h in cc)
    by Packed h = absurd (let both : false ≡ true = sym text ∙ h in cc)
    by Binary h = absurd (let both : false ≡ true = sym text ∙ h in cc)
    by Date h = same-kind Date from.kind h
    by Time h = same-kind Time from.kind h
    by Stamp h = same-kind Stamp from.kind h

text-decimals : (k : Kind) (n d : ℕ) → is_allowed k n d ≡ true → is_numeric k ≡ false → d ≡ 0
text-decimals Char n d allowed text = eqb-true d 0 (and_parts (is_between 1 32766 n) (d == 0) allowed).1
text-decimals Zoned n d allowed text = absurd cc
text-decimals Packed n d allowed text = absurd cc
text-decimals Binary n d allowed text = absurd cc
text-decimals Date n d allowed text = eqb-true d 0 (and_parts (n == 10) (d == 0) allowed).1
text-decimals Time n d allowed text = eqb-true d 0 (and_parts (n == 8) (d == 0) allowed).1
text-decimals Stamp n d allowed text = eqb-true d 0 (and_parts (n == 26) (d == 0) allowed).1

text-width : (k : Kind) (n : ℕ) → is_numeric k ≡ false → width_of k n ≡ n
text-width Char n text = refl
text-width Zoned n text = absurd cc
text-width Packed n text = absurd cc
text-width Binary n text = absurd cc
text-width Date n text = refl
text-width Time n text = refl
text-width Stamp n text = refl

low-decimals : (a : Bool) (d n : ℕ) → (a && nat_le d n) ≡ true → d ≤ n
low-decimals a d n h = leb-true d n (and_parts a (nat_le d n) h).1

number-decimals : (k : Kind) (n d : ℕ) → is_allowed k n d ≡ true → is_numeric k ≡ true → d ≤ n
number-decimals Char n d allowed number = absurd cc
number-decimals Zoned n d allowed number = low-decimals (is_between 1 31 n) d n allowed
number-decimals Packed n d allowed number = low-decimals (is_between 1 31 n) d n allowed
number-decimals Binary n d allowed number = low-decimals (is_between 1 18 n) d n allowed
number-decimals Date n d allowed number = absurd cc
number-decimals Time n d allowed number = absurd cc
number-decimals Stamp n d allowed number = absurd cc

-- ---- texts

text-taken : (numeric wide moment : Bool) → cond numeric (Some WrongKind) (cond wide (Some TooWide) (cond moment (Some BadDate) None)) ≡ None
    → (numeric ≡ false) × (wide ≡ false) × (moment ≡ false)
text-taken true wide moment none = absurd cc
text-taken false true moment none = absurd cc
text-taken false false true none = absurd cc
text-taken false false false none = (refl, refl, refl)

text-fits : (t : FieldType) (text : List ℕ) → fault_of t (Chars text) ≡ None
    → (is_numeric t.kind ≡ false) × (nat_lt (width t) (length text) ≡ false) × ((is_moment_kind t.kind && not (is_moment t.kind text)) ≡ false)
unfolding fault_of
text-fits t text none = text-taken (is_numeric t.kind) (nat_lt (width t) (length text)) (is_moment_kind t.kind && not (is_moment t.kind text)) none

text-put : (t : FieldType) (text : List ℕ) → is_numeric t.kind ≡ false → nat_lt (width t) (length text) ≡ false → (is_moment_kind t.kind && not (is_moment t.kind text)) ≡ false
    → fault_of t (Chars text) ≡ None
unfolding fault_of
text-put t text number wide moment = rw (number, wide, moment) refl

text-widened : (t from : FieldType) (text : List ℕ) → IsFieldType from → are_alike t from ≡ true → from.length - from.decimals ≤ t.length - t.decimals → fault_of from (Chars text) ≡ None
    → fault_of t (Chars text) ≡ None
text-widened t from text allowed alike room none =
    let fits = text-fits from text none in
    let kind : t.kind ≡ from.kind = alike-text t from alike fits.0 in
    let scale : from.decimals ≡ 0 = text-decimals from.kind from.length from.decimals allowed fits.0 in
    let number : is_numeric t.kind ≡ false = ap is_numeric kind ∙ fits.0 in
    let own : width from ≡ from.length = text-width from.kind from.length fits.0 in
    let wide : width t ≡ t.length = text-width t.kind t.length number in
    let low : length text ≤ width from = ltb-false (width from) (length text) fits.1 in
    text-put t text number (le-ltb (width t) (length text) (omega (arith, low, own, wide, scale, room)))
    (ap (λ (k : Kind). is_moment_kind k && not (is_moment k text)) kind ∙ fits.2)

-- ---- numbers

number-taken : (b : Bool) (o : Option ValueFault) → cond b o (Some WrongKind) ≡ None → (b ≡ true) × (o ≡ None)
number-taken true o none = (refl, none)
number-taken false o none = absurd cc

number-fits : (t : FieldType) (n : Dec) → fault_of t (Number n) ≡ None → (is_numeric t.kind ≡ true) × (number_fault t.length t.decimals n ≡ None)
unfolding fault_of
number-fits t n none = number-taken (is_numeric t.kind) (number_fault t.length t.decimals n) none

number-put : (t : FieldType) (n : Dec) → is_numeric t.kind ≡ true → number_fault t.length t.decimals n ≡ None → fault_of t (Number n) ≡ None
unfolding fault_of
number-put t n number none = rw (number, none) refl

-- a number as it is held has the decimals of its field
held-decimals : (t : FieldType) (n : Dec) → as_held t (Number n) ≡ Number n → (n.scale ≡ t.decimals) × (units_at t.decimals n ≡ n.units)
unfolding as_held
held-decimals t n same =
    (ap (λ (v : Value). scale-of v) (sym same), ap (λ (v : Value). units-of v) same)
  where
    scale-of : Value → ℕ
    scale-of (Chars text) = 0
    scale-of (Number m) = m.scale

    units-of : Value → ℤ
    units-of (Chars text) = n.units
    units-of (Number m) = m.units

-- digits behind a number keep it below the power of as many more
more-digits : (m n e : ℕ) → m < 10 ^ n → m * 10 ^ e < 10 ^ (n + e)
more-digits m n e low = subst (λ (k : ℕ). m * 10 ^ e < k) (sym (pow-add 10 n e)) (mul-lt-mul_of_pos_right low (some-power e))

number-scaled : (m d more : ℕ) → (m * 10 ^ more) * 10 ^ d ≡ m * 10 ^ (more + d)
number-scaled m d more = mul_assoc m (10 ^ more) (10 ^ d) ∙ ap (λ (k : ℕ). m * k) (sym (pow-add 10 more d))

below-all : (k a b : ℕ) → k < a → a ≤ b → k < b
below-all k a b low high = omega (arith, low, high)

number-widened : (t from : FieldType) (n : Dec) (more : ℕ) → is_numeric t.kind ≡ true → more + from.decimals ≡ t.decimals → from.length - from.decimals ≤ t.length - t.decimals
    → from.decimals ≤ from.length → t.decimals ≤ t.length → n.scale ≡ from.decimals → unsigned_abs n.units < 10 ^ from.length → fault_of t (Number n) ≡ None
number-widened t from n more number scale room own wide is small =
    let all : more + n.scale ≡ t.decimals = omega (arith, scale, is) in
    let same : (unsigned_abs n.units * 10 ^ more) * 10 ^ n.scale ≡ unsigned_abs n.units * 10 ^ t.decimals =
    number-scaled (unsigned_abs n.units) n.scale more ∙ ap (λ (d : ℕ). unsigned_abs n.units * 10 ^ d) all in
    let low : unsigned_abs n.units * 10 ^ more < 10 ^ (from.length + more) = more-digits (unsigned_abs n.units) from.length more small in
    let digits : from.length + more ≤ t.length = omega (arith, scale, room, own, wide) in
    let high : 10 ^ (from.length + more) ≤ 10 ^ t.length = pow-le-pow_right (lit< tt) digits in
    let below : unsigned_abs n.units * 10 ^ more < 10 ^ t.length = below-all (unsigned_abs n.units * 10 ^ more) (10 ^ (from.length + more)) (10 ^ t.length) low high in
    number-put t n number (number_fault-Ok t.length t.decimals (unsigned_abs n.units * 10 ^ more) n same
    ∙ ap (λ (b : Bool). cond b (Some TooWide) None) (lt-leb (10 ^ t.length) (unsigned_abs n.units * 10 ^ more) below))

-- ---- each value

pub widened : (t from : FieldType) → IsFieldType t → IsFieldType from → are_alike t from ≡ true → from.decimals ≤ t.decimals → from.length - from.decimals ≤ t.length - t.decimals
    → (image : List ℕ) (v : Value) → held from image ≡ Some v → fault_of t v ≡ None
widened t from allowed also alike scale room image (Chars text) stands = text-widened t from text also alike room (held-kept from (Chars text) image stands).accepted
widened t from allowed also alike scale room image (Number n) stands =
    let kept = held-kept from (Number n) image stands in
    let fits = number-fits from n kept.accepted in
    let number : is_numeric t.kind ≡ true = alike-number t from alike fits.0 in
    let is = held-decimals from n kept.same in
    let small : unsigned_abs n.units < 10 ^ from.length =
    subst (λ (z : ℤ). unsigned_abs z < 10 ^ from.length) is.1 (number-small from.length from.decimals n fits.1) in
    let more : t.decimals - from.decimals + from.decimals ≡ t.decimals = omega (arith, scale) in
    number-widened t from n (t.decimals - from.decimals) number more room
    (number-decimals from.kind from.length from.decimals also fits.0) (number-decimals t.kind t.length t.decimals allowed number) is.0 small
