-- Where a text stops being the beginning of a date.
use Rattle.std.proofs.Common.{◌≡◌, ℕ, suc, ◌≤◌, true, ◌||◌, ◌==◌, List, [], ◌∷◌, ◌++◌, length, take, slice_index, refl, arith, cond}
use Rattle.std.proofs.lemmas.List.{length-take-le}
use Rattle.std.proofs.lemmas.Bool.{and_parts, and_from, eqb-true, eq-eqb, le-leb, cond_both}
use Rattle.field_values.specs.Moments.{spells, spells_in, spelled, is_date, days_in_month, is_leap_year}
use Rattle.field_values.specs.FirstBad.{IsFirstBad, IsBadPart, part}
use Rattle.field_values.proofs.MomentLemmas.{IsFirstBad-part, IsFirstBad-mark}

-- the parts of a date
pub record DateParts (text : List ℕ) : Type 0 where
  pub long : length text ≡ 10
  pub year : spells 1 9999 (part 0 4 text) ≡ true
  pub first_hyphen : slice_index text 4 ≡ 0x60
  pub month : spells 1 12 (part 5 2 text) ≡ true
  pub second_hyphen : slice_index text 7 ≡ 0x60
  pub day : spells 1 (days_in_month (spelled (part 0 4 text)) (spelled (part 5 2 text))) (part 8 2 text) ≡ true

pub date-from : (text : List ℕ) → DateParts text → is_date text ≡ true
date-from text p =
    and_from _ _ (and_from _ _ (and_from _ _ (and_from _ _ (and_from _ _ (eq-eqb (length text) 10 p.long) p.year) (eq-eqb (slice_index text 4) 0x60 p.first_hyphen)) p.month) (eq-eqb (slice_index text 7) 0x60 p.second_hyphen)) p.day

pub date-parts : (text : List ℕ) → is_date text ≡ true → DateParts text
date-parts text h =
    let a = and_parts _ _ h in
    let b = and_parts _ _ a.0 in
    let c = and_parts _ _ b.0 in
    let d = and_parts _ _ c.0 in
    let e = and_parts _ _ d.0 in
    record {
      long = eqb-true (length text) 10 e.0;
      year = e.1;
      first_hyphen = eqb-true (slice_index text 4) 0x60 d.1;
      month = c.1;
      second_hyphen = eqb-true (slice_index text 7) 0x60 b.1;
      day = a.1;
    }

pub days-some : (year month : ℕ) → 28 ≤ days_in_month year month
days-some year month =
    cond_both (month == 2) (cond (is_leap_year year) 29 28) (cond ((month == 4) || (month == 6) || (month == 9) || (month == 11)) 30 31) (λ n. 28 ≤ n)
    (λ e. cond_both (is_leap_year year) 29 28 (λ n. 28 ≤ n) (λ f. omega arith) (λ f. omega arith))
    (λ e. cond_both ((month == 4) || (month == 6) || (month == 9) || (month == 11)) 30 31 (λ n. 28 ≤ n) (λ f. omega arith) (λ f. omega arith))

first-day : (year month : ℕ) → spells 1 (days_in_month year month) (240 ∷ 241 ∷ []) ≡ true
first-day year month = le-leb 1 (days_in_month year month) (let some : 28 ≤ days_in_month year month = days-some year month in omega arith)

-- a text of ten characters, one by one
pub ten : (P : List ℕ → Type 0) → ((a b c d e f g h i j : ℕ) → P (a ∷ b ∷ c ∷ d ∷ e ∷ f ∷ g ∷ h ∷ i ∷ j ∷ [])) → (text : List ℕ) → length text ≡ 10 → P text
ten P all (a ∷ b ∷ c ∷ d ∷ e ∷ f ∷ g ∷ h ∷ i ∷ j ∷ []) long = all a b c d e f g h i j
ten P all _ long = absurd (omega arith)

pub two : (P : List ℕ → Type 0) → ((a b : ℕ) → P (a ∷ b ∷ [])) → (text : List ℕ) → length text ≡ 2 → P text
two P all (a ∷ b ∷ []) long = all a b
two P all _ long = absurd (omega arith)

four : (P : List ℕ → Type 0) → ((a b c d : ℕ) → P (a ∷ b ∷ c ∷ d ∷ [])) → (text : List ℕ) → length text ≡ 4 → P text
four P all (a ∷ b ∷ c ∷ d ∷ []) long = all a b c d
four P all _ long = absurd (omega arith)

-- the n characters at the front of a longer text spell a number
pub front-spells : (low high n : ℕ) (w : List ℕ) → n ≤ length w → spells low high (take n w) ≡ true → spells_in low high n (take n w) ≡ true
front-spells low high n w le h = and_from (length (take n w) == n) (spells low high (take n w)) (eq-eqb (length (take n w)) n (length-take-le n w le)) h

pub in-parts : (low high n : ℕ) (w : List ℕ) → spells_in low high n w ≡ true → (length w ≡ n) × (spells low high w ≡ true)
in-parts low high n w h =
    let parts : ((length w == n) ≡ true) × (spells low high w ≡ true) = and_parts (length w == n) (spells low high w) h in
    (eqb-true (length w) n parts.0, parts.1)

pub date-year : (text : List ℕ) → length text ≡ 10 → (at : ℕ) → IsBadPart (spells_in 1 9999 4) 0 4 text at → IsFirstBad is_date text at
date-year text long at h =
    IsFirstBad-part is_date (spells_in 1 9999 4) 0 4 text at (omega arith)
    (λ w e. (let p = date-parts w e in let lw : length w ≡ 10 = p.long in front-spells 1 9999 4 w (omega arith) p.year))
    (λ p e. (let inner = in-parts 1 9999 4 p e in (
      96 ∷ 240 ∷ 241 ∷ 96 ∷ 240 ∷ 241 ∷ [],
      four (λ q. spells 1 9999 q ≡ true → is_date (q ++ (96 ∷ 240 ∷ 241 ∷ 96 ∷ 240 ∷ 241 ∷ [])) ≡ true)
          (λ a b c d s. date-from (a ∷ b ∷ c ∷ d ∷ 96 ∷ 240 ∷ 241 ∷ 96 ∷ 240 ∷ 241 ∷ []) (record { long = refl; year = s; first_hyphen = refl; month = refl; second_hyphen = refl; day = first-day (spelled (a ∷ b ∷ c ∷ d ∷ [])) 1 }))
          p inner.0 inner.1,
    )))
    h

pub date-first_hyphen : (text : List ℕ) → length text ≡ 10 → spells 1 9999 (part 0 4 text) ≡ true → (slice_index text 4 ≡ 0x60 → ⊥) → IsFirstBad is_date text 4
date-first_hyphen = ten (λ text. spells 1 9999 (part 0 4 text) ≡ true → (slice_index text 4 ≡ 0x60 → ⊥) → IsFirstBad is_date text 4)
    (λ a b c d e f g h i j year other.
    IsFirstBad-mark is_date 4 0x60 (a ∷ b ∷ c ∷ d ∷ e ∷ f ∷ g ∷ h ∷ i ∷ j ∷ []) (omega arith) other
    (λ w t. (date-parts (a ∷ b ∷ c ∷ d ∷ w) t).first_hyphen)
    (96 ∷ 240 ∷ 241 ∷ 96 ∷ 240 ∷ 241 ∷ [])
    (date-from (a ∷ b ∷ c ∷ d ∷ 96 ∷ 240 ∷ 241 ∷ 96 ∷ 240 ∷ 241 ∷ []) (record { long = refl; year = year; first_hyphen = refl; month = refl; second_hyphen = refl; day = first-day (spelled (a ∷ b ∷ c ∷ d ∷ [])) 1 })))

pub date-month : (text : List ℕ) → length text ≡ 10 → (at : ℕ) → spells 1 9999 (part 0 4 text) ≡ true → slice_index text 4 ≡ 0x60 → IsBadPart (spells_in 1 12 2) 5 2 text at → IsFirstBad is_date text at
date-month = ten (λ text. (at : ℕ) → spells 1 9999 (part 0 4 text) ≡ true → slice_index text 4 ≡ 0x60 → IsBadPart (spells_in 1 12 2) 5 2 text at → IsFirstBad is_date text at)
    (λ a b c d e f g h i j at year hyphen bad.
    IsFirstBad-part is_date (spells_in 1 12 2) 5 2 (a ∷ b ∷ c ∷ d ∷ e ∷ f ∷ g ∷ h ∷ i ∷ j ∷ []) at (omega arith)
    (λ w t. (let p = date-parts (a ∷ b ∷ c ∷ d ∷ e ∷ w) t in let lw : suc (suc (suc (suc (suc (length w))))) ≡ 10 = p.long in front-spells 1 12 2 w (omega arith) p.month))
    (λ p t. (let inner = in-parts 1 12 2 p t in (
      96 ∷ 240 ∷ 241 ∷ [],
      two (λ q. spells 1 12 q ≡ true → is_date (a ∷ b ∷ c ∷ d ∷ e ∷ (q ++ (96 ∷ 240 ∷ 241 ∷ []))) ≡ true)
          (λ x y s. date-from (a ∷ b ∷ c ∷ d ∷ e ∷ x ∷ y ∷ 96 ∷ 240 ∷ 241 ∷ []) (record { long = refl; year = year; first_hyphen = hyphen; month = s; second_hyphen = refl; day = first-day (spelled (a ∷ b ∷ c ∷ d ∷ [])) (spelled (x ∷ y ∷ [])) }))
          p inner.0 inner.1,
    )))
    bad)

pub date-second_hyphen : (text : List ℕ) → length text ≡ 10 → spells 1 9999 (part 0 4 text) ≡ true → slice_index text 4 ≡ 0x60 → spells 1 12 (part 5 2 text) ≡ true → (slice_index text 7 ≡ 0x60 → ⊥) → IsFirstBad is_date text 7
date-second_hyphen = ten (λ text. spells 1 9999 (part 0 4 text) ≡ true → slice_index text 4 ≡ 0x60 → spells 1 12 (part 5 2 text) ≡ true → (slice_index text 7 ≡ 0x60 → ⊥) → IsFirstBad is_date text 7)
    (λ a b c d e f g h i j year hyphen month other.
    IsFirstBad-mark is_date 7 0x60 (a ∷ b ∷ c ∷ d ∷ e ∷ f ∷ g ∷ h ∷ i ∷ j ∷ []) (omega arith) other
    (λ w t. (date-parts (a ∷ b ∷ c ∷ d ∷ e ∷ f ∷ g ∷ w) t).second_hyphen)
    (96 ∷ 240 ∷ 241 ∷ [])
    (date-from (a ∷ b ∷ c ∷ d ∷ e ∷ f ∷ g ∷ 96 ∷ 240 ∷ 241 ∷ []) (record { long = refl; year = year; first_hyphen = hyphen; month = month; second_hyphen = refl; day = first-day (spelled (a ∷ b ∷ c ∷ d ∷ [])) (spelled (f ∷ g ∷ [])) })))

pub date-day : (text : List ℕ) → length text ≡ 10 → (at : ℕ) → spells 1 9999 (part 0 4 text) ≡ true → slice_index text 4 ≡ 0x60 → spells 1 12 (part 5 2 text) ≡ true → slice_index text 7 ≡ 0x60 →
    IsBadPart (spells_in 1 (days_in_month (spelled (part 0 4 text)) (spelled (part 5 2 text))) 2) 8 2 text at → IsFirstBad is_date text at
date-day = ten (λ text. (at : ℕ) → spells 1 9999 (part 0 4 text) ≡ true → slice_index text 4 ≡ 0x60 → spells 1 12 (part 5 2 text) ≡ true → slice_index text 7 ≡ 0x60 →
    IsBadPart (spells_in 1 (days_in_month (spelled (part 0 4 text)) (spelled (part 5 2 text))) 2) 8 2 text at → IsFirstBad is_date text at)
    (λ a b c d e f g h i j at year hyphen month second bad.
    IsFirstBad-part is_date (spells_in 1 (days_in_month (spelled (a ∷ b ∷ c ∷ d ∷ [])) (spelled (f ∷ g ∷ []))) 2) 8 2 (a ∷ b ∷ c ∷ d ∷ e ∷ f ∷ g ∷ h ∷ i ∷ j ∷ []) at (omega arith)
    (λ w t. (let p = date-parts (a ∷ b ∷ c ∷ d ∷ e ∷ f ∷ g ∷ h ∷ w) t in let lw : suc (suc (suc (suc (suc (suc (suc (suc (length w)))))))) ≡ 10 = p.long in
    front-spells 1 (days_in_month (spelled (a ∷ b ∷ c ∷ d ∷ [])) (spelled (f ∷ g ∷ []))) 2 w (omega arith) p.day))
    (λ p t. (let inner = in-parts 1 (days_in_month (spelled (a ∷ b ∷ c ∷ d ∷ [])) (spelled (f ∷ g ∷ []))) 2 p t in (
      [],
      two (λ q. spells 1 (days_in_month (spelled (a ∷ b ∷ c ∷ d ∷ [])) (spelled (f ∷ g ∷ []))) q ≡ true → is_date (a ∷ b ∷ c ∷ d ∷ e ∷ f ∷ g ∷ h ∷ (q ++ [])) ≡ true)
          (λ x y s. date-from (a ∷ b ∷ c ∷ d ∷ e ∷ f ∷ g ∷ h ∷ x ∷ y ∷ []) (record { long = refl; year = year; first_hyphen = hyphen; month = month; second_hyphen = second; day = s }))
          p inner.0 inner.1,
    )))
    bad)
