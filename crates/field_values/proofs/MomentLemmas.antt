-- Parts of a text: characters that spell numbers, and where a text stops being the beginning of a date or a time.
use Rattle.std.proofs.Common.{◌≡◌, ℕ, zero, suc, ◌+◌, ◌-◌, ◌/◌, ◌%◌, ◌<◌, ◌≤◌, Bool, true, ◌&&◌, ◌==◌, nat_lt, Option, Some, None, List, [], ◌∷◌, ◌++◌, length, take, drop, map, get_or, slice_index, Fits, w8, refl, sym, ◌∙◌, ap, subst, arith}
use Rattle.std.specs.List.{list_all}
use Rattle.std.proofs.lemmas.List.{length-map, length-take-le, length-drop, take-append-drop}
use Rattle.std.proofs.lemmas.List.{append-nil}
use Rattle.std.proofs.lemmas.Bool.{and_parts, and_from, eqb-true, eq-eqb, ltb-true, lt-ltb}
use Rattle.std.proofs.Math.Seq.{drop-cons}
use Rattle.std.proofs.Math.Nat.{add-sub_cancel_left}
use Rattle.field_values.specs.FieldTypes.{is_between}
use Rattle.field_values.specs.Digits.{number_in, low_half}
use Rattle.field_values.specs.Zoned.{is_zone_digit}
use Rattle.field_values.specs.Binary.{is_byte}
use Rattle.field_values.specs.Bounds.{spells_between, digit_from}
use Rattle.field_values.specs.Moments.{spells, spells_in, spelled}
use Rattle.field_values.specs.FirstBad.{IsFirstBad, TellsFirstBad, IsBadPart, part}
use Rattle.field_values.proofs.BinaryLemmas.{all-bytes}
use Rattle.field_values.proofs.FirstBadLemmas.{IsFirstBad-head, IsFirstBad-after, IsFirstBad-piece}

-- a byte is a digit in zone F where it is 0 to 9 above the digit 0
zone-from : (b : ℕ) → b < 256 → digit_from 240 b < 10 → (is_zone_digit b ≡ true) × (low_half b ≡ digit_from 240 b)
zone-from b byte lt =
    let low : b % 16 < 10 = omega arith in
    let high : b / 16 ≡ 15 = omega arith in
    let same : b % 16 ≡ (b + 16) % 256 = omega arith in
    (and_from (nat_lt (b % 16) 10) (b / 16 == 15) (lt-ltb (b % 16) 10 low) (eq-eqb (b / 16) 15 high), same)

zone-back : (b : ℕ) → is_zone_digit b ≡ true → (nat_lt (digit_from 240 b) 10 ≡ true) × (low_half b ≡ digit_from 240 b)
zone-back b h =
    let parts : (nat_lt (b % 16) 10 ≡ true) × ((b / 16 == 15) ≡ true) = and_parts (nat_lt (b % 16) 10) (b / 16 == 15) h in
    let low : b % 16 < 10 = ltb-true (b % 16) 10 parts.0 in
    let high : b / 16 ≡ 15 = eqb-true (b / 16) 15 parts.1 in
    let small : (b + 16) % 256 < 10 = omega arith in
    let same : b % 16 ≡ (b + 16) % 256 = omega arith in
    (lt-ltb ((b + 16) % 256) 10 small, same)

-- the byte of a digit
abbrev above : ℕ → ℕ
above d = 240 + d

written-above : (r : List ℕ) → list_all (λ d. nat_lt d 10) r ≡ true → (list_all is_zone_digit (map above r) ≡ true) × (map low_half (map above r) ≡ r)
written-above [] h = (refl, refl)
written-above (d ∷ ds) h =
    let parts : (nat_lt d 10 ≡ true) × (list_all (λ e. nat_lt e 10) ds ≡ true) = and_parts (nat_lt d 10) (list_all (λ e. nat_lt e 10) ds) h in
    let digit : d < 10 = ltb-true d 10 parts.0 in
    let there : (is_zone_digit (240 + d) ≡ true) × (low_half (240 + d) ≡ digit_from 240 (240 + d)) = zone-from (240 + d) (omega arith) (omega arith) in
    let same : (240 + d) % 16 ≡ d = omega arith in
    let rest : (list_all is_zone_digit (map above ds) ≡ true) × (map low_half (map above ds) ≡ ds) = written-above ds parts.1 in
    (and_from (is_zone_digit (240 + d)) (list_all is_zone_digit (map above ds)) there.0 rest.0, rw (same, rest.1) refl)

-- bytes that are digits, and more digits behind them
decode : (xs r : List ℕ) → list_all is_byte xs ≡ true → list_all (λ d. nat_lt d 10) (map (digit_from 240) xs ++ r) ≡ true →
    (list_all is_zone_digit (xs ++ map above r) ≡ true) × (map low_half (xs ++ map above r) ≡ map (digit_from 240) xs ++ r)
decode [] r bytes h = written-above r h
decode (x ∷ xs) r bytes h =
    let byte : (nat_lt x 256 ≡ true) × (list_all is_byte xs ≡ true) = and_parts (nat_lt x 256) (list_all is_byte xs) bytes in
    let parts : (nat_lt (digit_from 240 x) 10 ≡ true) × (list_all (λ d. nat_lt d 10) (map (digit_from 240) xs ++ r) ≡ true) = and_parts (nat_lt (digit_from 240 x) 10) (list_all (λ d. nat_lt d 10) (map (digit_from 240) xs ++ r)) h in
    let there : (is_zone_digit x ≡ true) × (low_half x ≡ digit_from 240 x) = zone-from x (ltb-true x 256 byte.0) (ltb-true (digit_from 240 x) 10 parts.0) in
    let rest : (list_all is_zone_digit (xs ++ map above r) ≡ true) × (map low_half (xs ++ map above r) ≡ map (digit_from 240) xs ++ r) = decode xs r byte.1 parts.1 in
    (and_from (is_zone_digit x) (list_all is_zone_digit (xs ++ map above r)) there.0 rest.0, rw (there.1, rest.1) refl)

encode : (w : List ℕ) → list_all is_zone_digit w ≡ true → (list_all (λ d. nat_lt d 10) (map (digit_from 240) w) ≡ true) × (map low_half w ≡ map (digit_from 240) w)
encode [] h = (refl, refl)
encode (x ∷ xs) h =
    let parts : (is_zone_digit x ≡ true) × (list_all is_zone_digit xs ≡ true) = and_parts (is_zone_digit x) (list_all is_zone_digit xs) h in
    let there : (nat_lt (digit_from 240 x) 10 ≡ true) × (low_half x ≡ digit_from 240 x) = zone-back x parts.0 in
    let rest : (list_all (λ d. nat_lt d 10) (map (digit_from 240) xs) ≡ true) × (map low_half xs ≡ map (digit_from 240) xs) = encode xs parts.1 in
    (and_from (nat_lt (digit_from 240 x) 10) (list_all (λ d. nat_lt d 10) (map (digit_from 240) xs)) there.0 rest.0, rw (there.1, rest.1) refl)

-- what characters spell, digit for digit
spells-digits : (low high n : ℕ) (w : List ℕ) → spells_in low high n w ≡ true → spells_between 10 low high n (map (digit_from 240) w) ≡ true
spells-digits low high n w h =
    let parts : ((length w == n) ≡ true) × (spells low high w ≡ true) = and_parts (length w == n) (spells low high w) h in
    let inner : (list_all is_zone_digit w ≡ true) × (is_between low high (spelled w) ≡ true) = and_parts (list_all is_zone_digit w) (is_between low high (spelled w)) parts.1 in
    let there : (list_all (λ d. nat_lt d 10) (map (digit_from 240) w) ≡ true) × (map low_half w ≡ map (digit_from 240) w) = encode w inner.0 in
    let long : length (map (digit_from 240) w) ≡ n = length-map w (digit_from 240) ∙ eqb-true (length w) n parts.0 in
    let range : is_between low high (number_in 10 (map (digit_from 240) w)) ≡ true = subst (λ (ds : List ℕ). is_between low high (number_in 10 ds) ≡ true) there.1 inner.1 in
    and_from ((length (map (digit_from 240) w) == n) && list_all (λ d. nat_lt d 10) (map (digit_from 240) w)) (is_between low high (number_in 10 (map (digit_from 240) w)))
    (and_from (length (map (digit_from 240) w) == n) (list_all (λ d. nat_lt d 10) (map (digit_from 240) w)) (eq-eqb (length (map (digit_from 240) w)) n long) there.0) range

spells-bytes : (low high n : ℕ) (xs r : List ℕ) → list_all is_byte xs ≡ true → spells_between 10 low high n (map (digit_from 240) xs ++ r) ≡ true → spells_in low high n (xs ++ map above r) ≡ true
spells-bytes low high n xs r bytes h =
    let outer : (((length (map (digit_from 240) xs ++ r) == n) && list_all (λ d. nat_lt d 10) (map (digit_from 240) xs ++ r)) ≡ true) × (is_between low high (number_in 10 (map (digit_from 240) xs ++ r)) ≡ true) =
    and_parts ((length (map (digit_from 240) xs ++ r) == n) && list_all (λ d. nat_lt d 10) (map (digit_from 240) xs ++ r)) (is_between low high (number_in 10 (map (digit_from 240) xs ++ r))) h in
    let inner : ((length (map (digit_from 240) xs ++ r) == n) ≡ true) × (list_all (λ d. nat_lt d 10) (map (digit_from 240) xs ++ r) ≡ true) =
    and_parts (length (map (digit_from 240) xs ++ r) == n) (list_all (λ d. nat_lt d 10) (map (digit_from 240) xs ++ r)) outer.0 in
    let there : (list_all is_zone_digit (xs ++ map above r) ≡ true) × (map low_half (xs ++ map above r) ≡ map (digit_from 240) xs ++ r) = decode xs r bytes inner.1 in
    let long : length (xs ++ map above r) ≡ n =
    sym (length-map (xs ++ map above r) low_half) ∙ ap length there.1 ∙ eqb-true (length (map (digit_from 240) xs ++ r)) n inner.0 in
    let range : is_between low high (spelled (xs ++ map above r)) ≡ true = subst (λ (e : List ℕ). is_between low high (number_in 10 e) ≡ true) (sym there.1) outer.1 in
    and_from (length (xs ++ map above r) == n) (spells low high (xs ++ map above r)) (eq-eqb (length (xs ++ map above r)) n long)
    (and_from (list_all is_zone_digit (xs ++ map above r)) (is_between low high (spelled (xs ++ map above r))) there.0 range)

bytes-take : (k : ℕ) (xs : List ℕ) → list_all is_byte xs ≡ true → list_all is_byte (take k xs) ≡ true
bytes-take zero xs h = refl
bytes-take (suc k) [] h = refl
bytes-take (suc k) (x ∷ xs) h =
    let parts : (nat_lt x 256 ≡ true) × (list_all is_byte xs ≡ true) = and_parts (nat_lt x 256) (list_all is_byte xs) h in
    and_from (nat_lt x 256) (list_all is_byte (take k xs)) parts.0 (bytes-take k xs parts.1)

digits-take : (k : ℕ) (xs : List ℕ) → take k (map (digit_from 240) xs) ≡ map (digit_from 240) (take k xs)
digits-take zero xs = refl
digits-take (suc k) [] = refl
digits-take (suc k) (x ∷ xs) = ap (λ w. digit_from 240 x ∷ w) (digits-take k xs)

digits-append : (xs ys : List ℕ) → map (digit_from 240) (xs ++ ys) ≡ map (digit_from 240) xs ++ map (digit_from 240) ys
digits-append [] ys = refl
digits-append (x ∷ xs) ys = ap (λ w. digit_from 240 x ∷ w) (digits-append xs ys)

-- what is told of digits is told of the characters that spell them
pub TellsFirstBad-spelled : (low high n : ℕ) (text : List ℕ) (place : Option ℕ) → list_all is_byte text ≡ true →
    TellsFirstBad (spells_between 10 low high n) (map (digit_from 240) text) place → TellsFirstBad (spells_in low high n) text place
TellsFirstBad-spelled low high n text None bytes h =
    rw append-nil at (spells-bytes low high n text [] bytes (rw (append-nil (map (digit_from 240) text)) h))
TellsFirstBad-spelled low high n text (Some k) bytes h = record {
  within = subst (λ (m : ℕ). k < m) (length-map text (digit_from 240)) h.within;
  rest = map above h.rest;
  good = spells-bytes low high n (take k text) h.rest (bytes-take k text bytes) (subst (λ (w : List ℕ). spells_between 10 low high n (w ++ h.rest) ≡ true) (digits-take k text) h.good);
  bad = λ other e. h.bad (map (digit_from 240) other)
      (subst (λ (w : List ℕ). spells_between 10 low high n w ≡ true) (digits-append (take (k + 1) text) other ∙ ap (λ w. w ++ map (digit_from 240) other) (sym (digits-take (k + 1) text)))
      (spells-digits low high n (take (k + 1) text ++ other) e));
}

three-parts : (i n : ℕ) (text : List ℕ) → text ≡ take i text ++ (part i n text ++ drop n (drop i text))
three-parts i n text = sym (ap (λ w. take i text ++ w) (take-append-drop n (drop i text)) ∙ take-append-drop i text)

-- the first bad place of a part, where each text that passes has such a part there and each such part goes on
pub IsFirstBad-part : (test piece : List ℕ → Bool) (i n : ℕ) (text : List ℕ) (at : ℕ) → i + n ≤ length text →
    ((w : List ℕ) → test (take i text ++ w) ≡ true → piece (take n w) ≡ true) →
    ((p : List ℕ) → piece p ≡ true → (rest : List ℕ) × (test (take i text ++ (p ++ rest)) ≡ true)) →
    IsBadPart piece i n text at → IsFirstBad test text at
IsFirstBad-part test piece i n text at le asks goes h =
    let front : length (take i text) ≡ i = length-take-le i text (omega arith) in
    let behind : length (drop i text) ≡ length text - i = length-drop i text in
    let long : length (part i n text) ≡ n = length-take-le n (drop i text) (omega arith) in
    let inner : IsFirstBad (λ w. test (take i text ++ w)) (part i n text ++ drop n (drop i text)) h.inner =
    IsFirstBad-piece (λ w. test (take i text ++ w)) piece (part i n text) (drop n (drop i text)) h.inner (λ w e. rw long (asks w e)) goes h.bad in
    let there : IsFirstBad test (take i text ++ (part i n text ++ drop n (drop i text))) (length (take i text) + h.inner) = IsFirstBad-after test (take i text) (part i n text ++ drop n (drop i text)) h.inner inner in
    let place : length (take i text) + h.inner ≡ at = ap (λ k. k + h.inner) front ∙ sym h.place in
    subst (λ (k : ℕ). IsFirstBad test text k) place (subst (λ (w : List ℕ). IsFirstBad test w (length (take i text) + h.inner)) (sym (three-parts i n text)) there)

-- a character that isn't the one that each text that passes has there
pub IsFirstBad-mark : (test : List ℕ → Bool) (i mark : ℕ) (text : List ℕ) → i < length text → (slice_index text i ≡ mark → ⊥) →
    ((w : List ℕ) → test (take i text ++ w) ≡ true → slice_index w 0 ≡ mark) →
    (rest : List ℕ) → test (take i text ++ rest) ≡ true → IsFirstBad test text i
IsFirstBad-mark test i mark text lt other asks rest good =
    let front : length (take i text) ≡ i = length-take-le i text (omega arith) in
    let split : take i text ++ (get_or text i 0 ∷ drop (suc i) text) ≡ text = ap (λ w. take i text ++ w) (sym (drop-cons text i 0 lt)) ∙ take-append-drop i text in
    let inner : IsFirstBad (λ w. test (take i text ++ w)) (get_or text i 0 ∷ drop (suc i) text) 0 =
    IsFirstBad-head (λ w. test (take i text ++ w)) (get_or text i 0) (drop (suc i) text) rest good (λ o e. other (asks (get_or text i 0 ∷ o) e)) in
    let there : IsFirstBad test (take i text ++ (get_or text i 0 ∷ drop (suc i) text)) (length (take i text) + 0) = IsFirstBad-after test (take i text) (get_or text i 0 ∷ drop (suc i) text) 0 inner in
    let place : length (take i text) + 0 ≡ i = omega arith in
    subst (λ (k : ℕ). IsFirstBad test text k) place (subst (λ (w : List ℕ). IsFirstBad test w (length (take i text) + 0)) split there)

bytes-drop : (k : ℕ) (xs : List ℕ) → list_all is_byte xs ≡ true → list_all is_byte (drop k xs) ≡ true
bytes-drop zero xs h = h
bytes-drop (suc k) [] h = refl
bytes-drop (suc k) (x ∷ xs) h = bytes-drop k xs (and_parts (nat_lt x 256) (list_all is_byte xs) h).1

part-bytes : (i n : ℕ) (text : List ℕ) → ((k : ℕ) → Fits w8 (get_or text k 0)) → list_all is_byte (part i n text) ≡ true
part-bytes i n text h = bytes-take n (drop i text) (bytes-drop i text (all-bytes text h))

pub part-length : (i n : ℕ) (text : List ℕ) → i + n ≤ length text → length (part i n text) ≡ n
part-length i n text le = (let behind : length (drop i text) ≡ length text - i = length-drop i text in length-take-le n (drop i text) (omega arith))

part-told : (low high i n : ℕ) (text here : List ℕ) (place : Option ℕ) → here ≡ part i n text → i + n ≤ length text → ((k : ℕ) → Fits w8 (get_or text k 0)) →
    TellsFirstBad (spells_between 10 low high (length here)) (map (digit_from 240) here) place → TellsFirstBad (spells_in low high n) (part i n text) place
part-told low high i n text here place same le bytes h =
    let one = subst (λ (w : List ℕ). TellsFirstBad (spells_between 10 low high (length w)) (map (digit_from 240) w) place) same h in
    let two = subst (λ (m : ℕ). TellsFirstBad (spells_between 10 low high m) (map (digit_from 240) (part i n text)) place) (part-length i n text le) one in
    TellsFirstBad-spelled low high n (part i n text) place (part-bytes i n text bytes) two

-- the first bad place of the digits is that of the part
pub IsBadPart-spelled : (low high i n : ℕ) (text here : List ℕ) (k : ℕ) → here ≡ part i n text → i + n ≤ length text → ((j : ℕ) → Fits w8 (get_or text j 0)) →
    IsFirstBad (spells_between 10 low high (length here)) (map (digit_from 240) here) k → IsBadPart (spells_in low high n) i n text (i + k)
IsBadPart-spelled low high i n text here k same le bytes h = record { inner = k; place = refl; bad = part-told low high i n text here (Some k) same le bytes h }

-- the part spells a number
pub spells-part : (low high i n : ℕ) (text here : List ℕ) → here ≡ part i n text → i + n ≤ length text → ((j : ℕ) → Fits w8 (get_or text j 0)) →
    spells_between 10 low high (length here) (map (digit_from 240) here) ≡ true → spells low high (part i n text) ≡ true
spells-part low high i n text here same le bytes h = (and_parts (length (part i n text) == n) (spells low high (part i n text)) (part-told low high i n text here None same le bytes h)).1

pub part-range : (i n : ℕ) (text : List ℕ) → take (i + n - i) (drop i text) ≡ part i n text
part-range i n text = ap (λ k. take k (drop i text)) (add-sub_cancel_left i n)
