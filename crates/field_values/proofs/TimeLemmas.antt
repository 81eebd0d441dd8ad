-- Where a text stops being the beginning of a time.
use Rattle.std.proofs.Common.{◌≡◌, ℕ, suc, true, List, [], ◌∷◌, ◌++◌, length, slice_index, refl, arith}
use Rattle.std.proofs.lemmas.Bool.{and_parts, and_from, eqb-true, eq-eqb}
use Rattle.field_values.specs.Moments.{spells, spells_in, is_time}
use Rattle.field_values.specs.FirstBad.{IsFirstBad, IsBadPart, part}
use Rattle.field_values.proofs.MomentLemmas.{IsFirstBad-part, IsFirstBad-mark}
use Rattle.field_values.proofs.DateLemmas.{front-spells, in-parts, two}

-- the parts of a time
pub record TimeParts (text : List ℕ) : Type 0 where
  pub long : length text ≡ 8
  pub hour : spells 0 23 (part 0 2 text) ≡ true
  pub first_period : slice_index text 2 ≡ 0x4B
  pub minute : spells 0 59 (part 3 2 text) ≡ true
  pub second_period : slice_index text 5 ≡ 0x4B
  pub second : spells 0 59 (part 6 2 text) ≡ true

pub time-from : (text : List ℕ) → TimeParts text → is_time text ≡ true
time-from text p =
    and_from _ _ (and_from _ _ (and_from _ _ (and_from _ _ (and_from _ _ (eq-eqb (length text) 8 p.long) p.hour) (eq-eqb (slice_index text 2) 0x4B p.first_period)) p.minute) (eq-eqb (slice_index text 5) 0x4B p.second_period)) p.second

pub time-parts : (text : List ℕ) → is_time text ≡ true → TimeParts text
time-parts text h =
    let a = and_parts _ _ h in
    let b = and_parts _ _ a.0 in
    let c = and_parts _ _ b.0 in
    let d = and_parts _ _ c.0 in
    let e = and_parts _ _ d.0 in
    record {
      long = eqb-true (length text) 8 e.0;
      hour = e.1;
      first_period = eqb-true (slice_index text 2) 0x4B d.1;
      minute = c.1;
      second_period = eqb-true (slice_index text 5) 0x4B b.1;
      second = a.1;
    }

-- a text of eight characters, one by one
pub eight : (P : List ℕ → Type 0) → ((a b c d e f g h : ℕ) → P (a ∷ b ∷ c ∷ d ∷ e ∷ f ∷ g ∷ h ∷ [])) → (text : List ℕ) → length text ≡ 8 → P text
eight P all (a ∷ b ∷ c ∷ d ∷ e ∷ f ∷ g ∷ h ∷ []) long = all a b c d e f g h
eight P all _ long = absurd (omega arith)

pub time-hour : (text : List ℕ) → length text ≡ 8 → (at : ℕ) → IsBadPart (spells_in 0 23 2) 0 2 text at → IsFirstBad is_time text at
time-hour = eight (λ text. (at : ℕ) → IsBadPart (spells_in 0 23 2) 0 2 text at → IsFirstBad is_time text at)
    (λ a b c d e f g h at bad.
    IsFirstBad-part is_time (spells_in 0 23 2) 0 2 (a ∷ b ∷ c ∷ d ∷ e ∷ f ∷ g ∷ h ∷ []) at (omega arith)
    (λ w t. (let p = time-parts (w) t in let lw : length w ≡ 8 = p.long in front-spells 0 23 2 w (omega arith) p.hour))
    (λ p t. (let inner = in-parts 0 23 2 p t in (
      75 ∷ 240 ∷ 240 ∷ 75 ∷ 240 ∷ 240 ∷ [],
      two (λ q. spells 0 23 q ≡ true → is_time ((q ++ (75 ∷ 240 ∷ 240 ∷ 75 ∷ 240 ∷ 240 ∷ []))) ≡ true)
          (λ x y sp. time-from (x ∷ y ∷ 75 ∷ 240 ∷ 240 ∷ 75 ∷ 240 ∷ 240 ∷ []) (record { long = refl; hour = sp; first_period = refl; minute = refl; second_period = refl; second = refl }))
          p inner.0 inner.1,
    )))
    bad)

pub time-first_period : (text : List ℕ) → length text ≡ 8 → spells 0 23 (part 0 2 text) ≡ true → (slice_index text 2 ≡ 0x4B → ⊥) → IsFirstBad is_time text 2
time-first_period = eight (λ text. spells 0 23 (part 0 2 text) ≡ true → (slice_index text 2 ≡ 0x4B → ⊥) → IsFirstBad is_time text 2)
    (λ a b c d e f g h hour other.
    IsFirstBad-mark is_time 2 0x4B (a ∷ b ∷ c ∷ d ∷ e ∷ f ∷ g ∷ h ∷ []) (omega arith) other
    (λ w t. (time-parts (a ∷ b ∷ w) t).first_period)
    (75 ∷ 240 ∷ 240 ∷ 75 ∷ 240 ∷ 240 ∷ [])
    (time-from (a ∷ b ∷ 75 ∷ 240 ∷ 240 ∷ 75 ∷ 240 ∷ 240 ∷ []) (record { long = refl; hour = hour; first_period = refl; minute = refl; second_period = refl; second = refl })))

pub time-minute : (text : List ℕ) → length text ≡ 8 → (at : ℕ) → spells 0 23 (part 0 2 text) ≡ true → slice_index text 2 ≡ 0x4B → IsBadPart (spells_in 0 59 2) 3 2 text at → IsFirstBad is_time text at
time-minute = eight (λ text. (at : ℕ) → spells 0 23 (part 0 2 text) ≡ true → slice_index text 2 ≡ 0x4B → IsBadPart (spells_in 0 59 2) 3 2 text at → IsFirstBad is_time text at)
    (λ a b c d e f g h at hour period bad.
    IsFirstBad-part is_time (spells_in 0 59 2) 3 2 (a ∷ b ∷ c ∷ d ∷ e ∷ f ∷ g ∷ h ∷ []) at (omega arith)
    (λ w t. (let p = time-parts (a ∷ b ∷ c ∷ w) t in let lw : suc (suc (suc (length w))) ≡ 8 = p.long in front-spells 0 59 2 w (omega arith) p.minute))
    (λ p t. (let inner = in-parts 0 59 2 p t in (
      75 ∷ 240 ∷ 240 ∷ [],
      two (λ q. spells 0 59 q ≡ true → is_time (a ∷ b ∷ c ∷ (q ++ (75 ∷ 240 ∷ 240 ∷ []))) ≡ true)
          (λ x y sp. time-from (a ∷ b ∷ c ∷ x ∷ y ∷ 75 ∷ 240 ∷ 240 ∷ []) (record { long = refl; hour = hour; first_period = period; minute = sp; second_period = refl; second = refl }))
          p inner.0 inner.1,
    )))
    bad)

pub time-second_period : (text : List ℕ) → length text ≡ 8 → spells 0 23 (part 0 2 text) ≡ true → slice_index text 2 ≡ 0x4B → spells 0 59 (part 3 2 text) ≡ true → (slice_index text 5 ≡ 0x4B → ⊥) → IsFirstBad is_time text 5
time-second_period = eight (λ text. spells 0 23 (part 0 2 text) ≡ true → slice_index text 2 ≡ 0x4B → spells 0 59 (part 3 2 text) ≡ true → (slice_index text 5 ≡ 0x4B → ⊥) → IsFirstBad is_time text 5)
    (λ a b c d e f g h hour period minute other.
    IsFirstBad-mark is_time 5 0x4B (a ∷ b ∷ c ∷ d ∷ e ∷ f ∷ g ∷ h ∷ []) (omega arith) other
    (λ w t. (time-parts (a ∷ b ∷ c ∷ d ∷ e ∷ w) t).second_period)
    (75 ∷ 240 ∷ 240 ∷ [])
    (time-from (a ∷ b ∷ c ∷ d ∷ e ∷ 75 ∷ 240 ∷ 240 ∷ []) (record { long = refl; hour = hour; first_period = period; minute = minute; second_period = refl; second = refl })))

pub time-second : (text : List ℕ) → length text ≡ 8 → (at : ℕ) → spells 0 23 (part 0 2 text) ≡ true → slice_index text 2 ≡ 0x4B → spells 0 59 (part 3 2 text) ≡ true → slice_index text 5 ≡ 0x4B → IsBadPart (spells_in 0 59 2) 6 2 text at → IsFirstBad is_time text at
time-second = eight (λ text. (at : ℕ) → spells 0 23 (part 0 2 text) ≡ true → slice_index text 2 ≡ 0x4B → spells 0 59 (part 3 2 text) ≡ true → slice_index text 5 ≡ 0x4B → IsBadPart (spells_in 0 59 2) 6 2 text at → IsFirstBad is_time text at)
    (λ a b c d e f g h at hour period minute period2 bad.
    IsFirstBad-part is_time (spells_in 0 59 2) 6 2 (a ∷ b ∷ c ∷ d ∷ e ∷ f ∷ g ∷ h ∷ []) at (omega arith)
    (λ w t. (let p = time-parts (a ∷ b ∷ c ∷ d ∷ e ∷ f ∷ w) t in let lw : suc (suc (suc (suc (suc (suc (length w)))))) ≡ 8 = p.long in front-spells 0 59 2 w (omega arith) p.second))
    (λ p t. (let inner = in-parts 0 59 2 p t in (
      [],
      two (λ q. spells 0 59 q ≡ true → is_time (a ∷ b ∷ c ∷ d ∷ e ∷ f ∷ (q ++ [])) ≡ true)
          (λ x y sp. time-from (a ∷ b ∷ c ∷ d ∷ e ∷ f ∷ x ∷ y ∷ []) (record { long = refl; hour = hour; first_period = period; minute = minute; second_period = period2; second = sp }))
          p inner.0 inner.1,
    )))
    bad)
