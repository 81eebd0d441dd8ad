-- Where a text stops being the beginning of a timestamp.
use Rattle.std.proofs.Common.{◌≡◌, ℕ, suc, true, List, [], ◌∷◌, ◌++◌, length, slice_index, refl, arith}
use Rattle.std.proofs.lemmas.Bool.{and_parts, and_from, eqb-true, eq-eqb}
use Rattle.field_values.specs.Moments.{spells, spells_in, is_date, is_time, is_timestamp}
use Rattle.field_values.specs.FirstBad.{IsFirstBad, IsBadPart, part}
use Rattle.field_values.proofs.MomentLemmas.{IsFirstBad-part, IsFirstBad-mark}
use Rattle.field_values.proofs.DateLemmas.{front-spells, in-parts, ten, date-parts}
use Rattle.field_values.proofs.TimeLemmas.{eight, time-parts}

-- the parts of a timestamp
pub record StampParts (text : List ℕ) : Type 0 where
  pub long : length text ≡ 26
  pub date : is_date (part 0 10 text) ≡ true
  pub hyphen : slice_index text 10 ≡ 0x60
  pub time : is_time (part 11 8 text) ≡ true
  pub period : slice_index text 19 ≡ 0x4B
  pub fraction : spells 0 999999 (part 20 6 text) ≡ true

pub timestamp-from : (text : List ℕ) → StampParts text → is_timestamp text ≡ true
timestamp-from text p =
    and_from _ _ (and_from _ _ (and_from _ _ (and_from _ _ (and_from _ _ (eq-eqb (length text) 26 p.long) p.date) (eq-eqb (slice_index text 10) 0x60 p.hyphen)) p.time) (eq-eqb (slice_index text 19) 0x4B p.period)) p.fraction

pub timestamp-parts : (text : List ℕ) → is_timestamp text ≡ true → StampParts text
timestamp-parts text h =
    let a = and_parts _ _ h in
    let b = and_parts _ _ a.0 in
    let c = and_parts _ _ b.0 in
    let d = and_parts _ _ c.0 in
    let e = and_parts _ _ d.0 in
    record {
      long = eqb-true (length text) 26 e.0;
      date = e.1;
      hyphen = eqb-true (slice_index text 10) 0x60 d.1;
      time = c.1;
      period = eqb-true (slice_index text 19) 0x4B b.1;
      fraction = a.1;
    }

-- a text of 26 characters, one by one
twenty_six : (P : List ℕ → Type 0) → ((a b c d e f g h i j k l m n o p q r s t u v w x y z : ℕ) → P (a ∷ b ∷ c ∷ d ∷ e ∷ f ∷ g ∷ h ∷ i ∷ j ∷ k ∷ l ∷ m ∷ n ∷ o ∷ p ∷ q ∷ r ∷ s ∷ t ∷ u ∷ v ∷ w ∷ x ∷ y ∷ z ∷ [])) → (text : List ℕ) → length text ≡ 26 → P text
twenty_six P all (a ∷ b ∷ c ∷ d ∷ e ∷ f ∷ g ∷ h ∷ i ∷ j ∷ k ∷ l ∷ m ∷ n ∷ o ∷ p ∷ q ∷ r ∷ s ∷ t ∷ u ∷ v ∷ w ∷ x ∷ y ∷ z ∷ []) long = all a b c d e f g h i j k l m n o p q r s t u v w x y z
twenty_six P all _ long = absurd (omega arith)

six : (P : List ℕ → Type 0) → ((a b c d e f : ℕ) → P (a ∷ b ∷ c ∷ d ∷ e ∷ f ∷ [])) → (text : List ℕ) → length text ≡ 6 → P text
six P all (a ∷ b ∷ c ∷ d ∷ e ∷ f ∷ []) long = all a b c d e f
six P all _ long = absurd (omega arith)

pub timestamp-date : (text : List ℕ) → length text ≡ 26 → (at : ℕ) → IsBadPart is_date 0 10 text at → IsFirstBad is_timestamp text at
timestamp-date = twenty_six (λ text. (at : ℕ) → IsBadPart is_date 0 10 text at → IsFirstBad is_timestamp text at)
    (λ a b c d e f g h i j k l m n o p q r s t u v w x y z at bad.
    IsFirstBad-part is_timestamp is_date 0 10 (a ∷ b ∷ c ∷ d ∷ e ∷ f ∷ g ∷ h ∷ i ∷ j ∷ k ∷ l ∷ m ∷ n ∷ o ∷ p ∷ q ∷ r ∷ s ∷ t ∷ u ∷ v ∷ w ∷ x ∷ y ∷ z ∷ []) at (omega arith)
    (λ w t. (timestamp-parts (w) t).date)
    (λ p t. (
      96 ∷ 240 ∷ 240 ∷ 75 ∷ 240 ∷ 240 ∷ 75 ∷ 240 ∷ 240 ∷ 75 ∷ 240 ∷ 240 ∷ 240 ∷ 240 ∷ 240 ∷ 240 ∷ [],
      ten (λ q. is_date q ≡ true → is_timestamp ((q ++ (96 ∷ 240 ∷ 240 ∷ 75 ∷ 240 ∷ 240 ∷ 75 ∷ 240 ∷ 240 ∷ 75 ∷ 240 ∷ 240 ∷ 240 ∷ 240 ∷ 240 ∷ 240 ∷ []))) ≡ true)
          (λ x0 x1 x2 x3 x4 x5 x6 x7 x8 x9 sp. timestamp-from (x0 ∷ x1 ∷ x2 ∷ x3 ∷ x4 ∷ x5 ∷ x6 ∷ x7 ∷ x8 ∷ x9 ∷ 96 ∷ 240 ∷ 240 ∷ 75 ∷ 240 ∷ 240 ∷ 75 ∷ 240 ∷ 240 ∷ 75 ∷ 240 ∷ 240 ∷ 240 ∷ 240 ∷ 240 ∷ 240 ∷ []) (record { long = refl; date = sp; hyphen = refl; time = refl; period = refl; fraction = refl }))
          p (date-parts p t).long t,
    ))
    bad)

pub timestamp-hyphen : (text : List ℕ) → length text ≡ 26 → is_date (part 0 10 text) ≡ true → (slice_index text 10 ≡ 0x60 → ⊥) → IsFirstBad is_timestamp text 10
timestamp-hyphen = twenty_six (λ text. is_date (part 0 10 text) ≡ true → (slice_index text 10 ≡ 0x60 → ⊥) → IsFirstBad is_timestamp text 10)
    (λ a b c d e f g h i j k l m n o p q r s t u v w x y z day other.
    IsFirstBad-mark is_timestamp 10 0x60 (a ∷ b ∷ c ∷ d ∷ e ∷ f ∷ g ∷ h ∷ i ∷ j ∷ k ∷ l ∷ m ∷ n ∷ o ∷ p ∷ q ∷ r ∷ s ∷ t ∷ u ∷ v ∷ w ∷ x ∷ y ∷ z ∷ []) (omega arith) other
    (λ w t. (timestamp-parts (a ∷ b ∷ c ∷ d ∷ e ∷ f ∷ g ∷ h ∷ i ∷ j ∷ w) t).hyphen)
    (96 ∷ 240 ∷ 240 ∷ 75 ∷ 240 ∷ 240 ∷ 75 ∷ 240 ∷ 240 ∷ 75 ∷ 240 ∷ 240 ∷ 240 ∷ 240 ∷ 240 ∷ 240 ∷ [])
    (timestamp-from (a ∷ b ∷ c ∷ d ∷ e ∷ f ∷ g ∷ h ∷ i ∷ j ∷ 96 ∷ 240 ∷ 240 ∷ 75 ∷ 240 ∷ 240 ∷ 75 ∷ 240 ∷ 240 ∷ 75 ∷ 240 ∷ 240 ∷ 240 ∷ 240 ∷ 240 ∷ 240 ∷ []) (record { long = refl; date = day; hyphen = refl; time = refl; period = refl; fraction = refl })))

pub timestamp-time : (text : List ℕ) → length text ≡ 26 → (at : ℕ) → is_date (part 0 10 text) ≡ true → slice_index text 10 ≡ 0x60 → IsBadPart is_time 11 8 text at → IsFirstBad is_timestamp text at
timestamp-time = twenty_six (λ text. (at : ℕ) → is_date (part 0 10 text) ≡ true → slice_index text 10 ≡ 0x60 → IsBadPart is_time 11 8 text at → IsFirstBad is_timestamp text at)
    (λ a b c d e f g h i j k l m n o p q r s t u v w x y z at day hyphen bad.
    IsFirstBad-part is_timestamp is_time 11 8 (a ∷ b ∷ c ∷ d ∷ e ∷ f ∷ g ∷ h ∷ i ∷ j ∷ k ∷ l ∷ m ∷ n ∷ o ∷ p ∷ q ∷ r ∷ s ∷ t ∷ u ∷ v ∷ w ∷ x ∷ y ∷ z ∷ []) at (omega arith)
    (λ w t. (timestamp-parts (a ∷ b ∷ c ∷ d ∷ e ∷ f ∷ g ∷ h ∷ i ∷ j ∷ k ∷ w) t).time)
    (λ p t. (
      75 ∷ 240 ∷ 240 ∷ 240 ∷ 240 ∷ 240 ∷ 240 ∷ [],
      eight (λ q. is_time q ≡ true → is_timestamp (a ∷ b ∷ c ∷ d ∷ e ∷ f ∷ g ∷ h ∷ i ∷ j ∷ k ∷ (q ++ (75 ∷ 240 ∷ 240 ∷ 240 ∷ 240 ∷ 240 ∷ 240 ∷ []))) ≡ true)
          (λ x0 x1 x2 x3 x4 x5 x6 x7 sp. timestamp-from (a ∷ b ∷ c ∷ d ∷ e ∷ f ∷ g ∷ h ∷ i ∷ j ∷ k ∷ x0 ∷ x1 ∷ x2 ∷ x3 ∷ x4 ∷ x5 ∷ x6 ∷ x7 ∷ 75 ∷ 240 ∷ 240 ∷ 240 ∷ 240 ∷ 240 ∷ 240 ∷ []) (record { long = refl; date = day; hyphen = hyphen; time = sp; period = refl; fraction = refl }))
          p (time-parts p t).long t,
    ))
    bad)

pub timestamp-period : (text : List ℕ) → length text ≡ 26 → is_date (part 0 10 text) ≡ true → slice_index text 10 ≡ 0x60 → is_time (part 11 8 text) ≡ true → (slice_index text 19 ≡ 0x4B → ⊥) → IsFirstBad is_timestamp text 19
timestamp-period = twenty_six (λ text. is_date (part 0 10 text) ≡ true → slice_index text 10 ≡ 0x60 → is_time (part 11 8 text) ≡ true → (slice_index text 19 ≡ 0x4B → ⊥) → IsFirstBad is_timestamp text 19)
    (λ a b c d e f g h i j k l m n o p q r s t u v w x y z day hyphen clock other.
    IsFirstBad-mark is_timestamp 19 0x4B (a ∷ b ∷ c ∷ d ∷ e ∷ f ∷ g ∷ h ∷ i ∷ j ∷ k ∷ l ∷ m ∷ n ∷ o ∷ p ∷ q ∷ r ∷ s ∷ t ∷ u ∷ v ∷ w ∷ x ∷ y ∷ z ∷ []) (omega arith) other
    (λ w t. (timestamp-parts (a ∷ b ∷ c ∷ d ∷ e ∷ f ∷ g ∷ h ∷ i ∷ j ∷ k ∷ l ∷ m ∷ n ∷ o ∷ p ∷ q ∷ r ∷ s ∷ w) t).period)
    (75 ∷ 240 ∷ 240 ∷ 240 ∷ 240 ∷ 240 ∷ 240 ∷ [])
    (timestamp-from (a ∷ b ∷ c ∷ d ∷ e ∷ f ∷ g ∷ h ∷ i ∷ j ∷ k ∷ l ∷ m ∷ n ∷ o ∷ p ∷ q ∷ r ∷ s ∷ 75 ∷ 240 ∷ 240 ∷ 240 ∷ 240 ∷ 240 ∷ 240 ∷ []) (record { long = refl; date = day; hyphen = hyphen; time = clock; period = refl; fraction = refl })))

pub timestamp-fraction : (text : List ℕ) → length text ≡ 26 → (at : ℕ) → is_date (part 0 10 text) ≡ true → slice_index text 10 ≡ 0x60 → is_time (part 11 8 text) ≡ true → slice_index text 19 ≡ 0x4B → IsBadPart (spells_in 0 999999 6) 20 6 text at → IsFirstBad is_timestamp text at
timestamp-fraction = twenty_six (λ text. (at : ℕ) → is_date (part 0 10 text) ≡ true → slice_index text 10 ≡ 0x60 → is_time (part 11 8 text) ≡ true → slice_index text 19 ≡ 0x4B → IsBadPart (spells_in 0 999999 6) 20 6 text at → IsFirstBad is_timestamp text at)
    (λ a b c d e f g h i j k l m n o p q r s t u v w x y z at day hyphen clock period bad.
    IsFirstBad-part is_timestamp (spells_in 0 999999 6) 20 6 (a ∷ b ∷ c ∷ d ∷ e ∷ f ∷ g ∷ h ∷ i ∷ j ∷ k ∷ l ∷ m ∷ n ∷ o ∷ p ∷ q ∷ r ∷ s ∷ t ∷ u ∷ v ∷ w ∷ x ∷ y ∷ z ∷ []) at (omega arith)
    (λ w0 t0. (let p0 = timestamp-parts (a ∷ b ∷ c ∷ d ∷ e ∷ f ∷ g ∷ h ∷ i ∷ j ∷ k ∷ l ∷ m ∷ n ∷ o ∷ p ∷ q ∷ r ∷ s ∷ t ∷ w0) t0 in let lw : suc (suc (suc (suc (suc (suc (suc (suc (suc (suc (suc (suc (suc (suc (suc (suc (suc (suc (suc (suc (length w0)))))))))))))))))))) ≡ 26 = p0.long in front-spells 0 999999 6 w0 (omega arith) p0.fraction))
    (λ p0 t0. (let inner = in-parts 0 999999 6 p0 t0 in (
      [],
      six (λ q0. spells 0 999999 q0 ≡ true → is_timestamp (a ∷ b ∷ c ∷ d ∷ e ∷ f ∷ g ∷ h ∷ i ∷ j ∷ k ∷ l ∷ m ∷ n ∷ o ∷ p ∷ q ∷ r ∷ s ∷ t ∷ (q0 ++ [])) ≡ true)
          (λ x0 x1 x2 x3 x4 x5 sp. timestamp-from (a ∷ b ∷ c ∷ d ∷ e ∷ f ∷ g ∷ h ∷ i ∷ j ∷ k ∷ l ∷ m ∷ n ∷ o ∷ p ∷ q ∷ r ∷ s ∷ t ∷ x0 ∷ x1 ∷ x2 ∷ x3 ∷ x4 ∷ x5 ∷ []) (record { long = refl; date = day; hyphen = hyphen; time = clock; period = period; fraction = sp }))
          p0 inner.0 inner.1,
    )))
    bad)
