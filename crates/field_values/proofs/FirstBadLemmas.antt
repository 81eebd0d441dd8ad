-- Where bytes stop being the beginning of a list that passes a test: byte by byte, and part by part.
use Rattle.std.proofs.Common.{◌≡◌, ℕ, zero, suc, ◌+◌, ◌-◌, ◌<◌, ◌≤◌, Bool, true, false, not, cond, nat_lt, Option, Some, None, List, [], ◌∷◌, ◌++◌, length, take, drop, refl, sym, ◌∙◌, ap, arith, length-append, append_assoc, position, option_map, if◌then◌else◌, subst, inl, inr, Result, Ok, Err, is_ok}
use Rattle.std.specs.Result.{result_err}
use Rattle.std.specs.List.{position_or_len}
use Rattle.std.proofs.lemmas.List.{take-append-le, length-take-le, take-append-drop}
use Rattle.std.proofs.lemmas.Bool.{cases_Bool}
use Rattle.std.proofs.lemmas.Bool.Decides.{nat_tests}
use Rattle.std.proofs.Math.Nat.{suc-add, zero-add, sub-zero}
use Rattle.field_values.specs.FirstBad.{IsFirstBad, TellsFirstBad}

-- no list that passes begins with the first byte
pub IsFirstBad-head : (test : List ℕ → Bool) (x : ℕ) (xs rest : List ℕ) → test rest ≡ true → ((other : List ℕ) → test (x ∷ other) ≡ true → ⊥) → IsFirstBad test (x ∷ xs) 0
IsFirstBad-head test x xs rest good bad = record { within = omega arith; rest = rest; good = good; bad = bad }

-- the place is behind the first byte
pub IsFirstBad-behind : (test : List ℕ → Bool) (x : ℕ) (xs : List ℕ) (k : ℕ) → IsFirstBad (λ w. test (x ∷ w)) xs k → IsFirstBad test (x ∷ xs) (suc k)
IsFirstBad-behind test x xs k h = record {
  within = let lt : k < length xs = h.within in omega arith;
  rest = h.rest;
  good = h.good;
  bad = λ other e. h.bad other (rw (suc-add k 1) at e);
}

-- what is told of the bytes behind the first one
pub TellsFirstBad-behind : (test : List ℕ → Bool) (x : ℕ) (xs : List ℕ) (place : Option ℕ) → TellsFirstBad (λ w. test (x ∷ w)) xs place → TellsFirstBad test (x ∷ xs) (option_map suc place)
TellsFirstBad-behind test x xs None h = h
TellsFirstBad-behind test x xs (Some k) h = IsFirstBad-behind test x xs k h

-- the place is behind a front
pub IsFirstBad-after : (test : List ℕ → Bool) (front xs : List ℕ) (k : ℕ) → IsFirstBad (λ w. test (front ++ w)) xs k → IsFirstBad test (front ++ xs) (length front + k)
IsFirstBad-after test [] xs k h = rw (zero-add k) h
IsFirstBad-after test (x ∷ front) xs k h =
    rw (suc-add (length front) k) (IsFirstBad-behind test x (front ++ xs) (length front + k) (IsFirstBad-after (λ w. test (x ∷ w)) front xs k h))

-- two tests that agree
pub IsFirstBad-same : (one two : List ℕ → Bool) (xs : List ℕ) (k : ℕ) → ((w : List ℕ) → one w ≡ two w) → IsFirstBad one xs k → IsFirstBad two xs k
IsFirstBad-same one two xs k same h = record {
  within = h.within;
  rest = h.rest;
  good = sym (same (take k xs ++ h.rest)) ∙ h.good;
  bad = λ other e. h.bad other (same (take (k + 1) xs ++ other) ∙ e);
}

pub TellsFirstBad-same : (one two : List ℕ → Bool) (xs : List ℕ) (place : Option ℕ) → ((w : List ℕ) → one w ≡ two w) → TellsFirstBad one xs place → TellsFirstBad two xs place
TellsFirstBad-same one two xs None same h = sym (same xs) ∙ h
TellsFirstBad-same one two xs (Some k) same h = IsFirstBad-same one two xs k same h

take-beyond : (n : ℕ) (a b : List ℕ) → length a ≤ n → take n (a ++ b) ≡ a ++ take (n - length a) b
take-beyond n [] b h = rw (sub-zero n) refl
take-beyond zero (x ∷ a) b h = absurd (omega arith)
take-beyond (suc n) (x ∷ a) b h = ap (λ w. x ∷ w) (take-beyond n a b (omega arith) ∙ ap (λ k. a ++ take k b) (let e : n - length a ≡ suc n - suc (length a) = omega arith in e))

-- a first part that each list that passes begins with, and that goes on to one that passes
pub IsFirstBad-piece : (test piece : List ℕ → Bool) (xs ys : List ℕ) (k : ℕ) →
    ((w : List ℕ) → test w ≡ true → piece (take (length xs) w) ≡ true) →
    ((p : List ℕ) → piece p ≡ true → (rest : List ℕ) × (test (p ++ rest) ≡ true)) →
    IsFirstBad piece xs k → IsFirstBad test (xs ++ ys) k
IsFirstBad-piece test piece xs ys k asks goes h =
    let lt : k < length xs = h.within in
    let more : (rest : List ℕ) × (test ((take k xs ++ h.rest) ++ rest) ≡ true) = goes (take k xs ++ h.rest) h.good in
    let front : take k (xs ++ ys) ≡ take k xs = take-append-le k xs ys (omega arith) in
    let longer : take (k + 1) (xs ++ ys) ≡ take (k + 1) xs = take-append-le (k + 1) xs ys (omega arith) in
    let short : length (take (k + 1) xs) ≤ length xs = rw (length-take-le (k + 1) xs (omega arith)) (omega arith) in
    record {
      within = rw (length-append xs ys) (omega arith);
      rest = h.rest ++ more.0;
      good = rw (front, ← append_assoc (take k xs) h.rest more.0) more.1;
      bad = λ other e. h.bad (take (length xs - length (take (k + 1) xs)) other)
          (rw (← take-beyond (length xs) (take (k + 1) xs) other short) (asks (take (k + 1) xs ++ other) (rw longer at e)));
    }

-- the first byte that does not pass
abbrev pub first_failing : (ℕ → Bool) → List ℕ → Option ℕ
first_failing test [] = None
first_failing test (b ∷ bs) = if test b then option_map suc (first_failing test bs) else Some 0

shift : (b : Bool) (k n : ℕ) → cond (nat_lt (cond b (1 + k) 0) (suc n)) (Some (cond b (1 + k) 0)) None ≡ cond b (option_map suc (cond (nat_lt k n) (Some k) None)) (Some 0)
shift true k n = grind (arith, nat_tests)
shift false k n = grind (arith, nat_tests)

not_not : (b : Bool) → not (not b) ≡ b
not_not true = refl
not_not false = refl

pub position-first_failing : (test : ℕ → Bool) (xs : List ℕ) → position (λ b. not (test b)) xs ≡ first_failing test xs
position-first_failing test [] = refl
position-first_failing test (x ∷ xs) =
    let rest : cond (nat_lt (position_or_len (λ b. not (test b)) xs) (length xs)) (Some (position_or_len (λ b. not (test b)) xs)) None ≡ first_failing test xs = position-first_failing test xs in
    rw (not_not (test x)) (shift (test x) (position_or_len (λ b. not (test b)) xs) (length xs) ∙ rw rest refl)

-- a call that ends with the place
pub TellsFirstBad-err : {T : Type 0} (test : List ℕ → Bool) (bytes : List ℕ) (r : Result T ℕ) (at : ℕ) → r ≡ Err at → IsFirstBad test bytes at → TellsFirstBad test bytes (result_err r)
TellsFirstBad-err {T = T} test bytes r at e h = subst (λ (s : Result T ℕ). TellsFirstBad test bytes (result_err s)) (sym e) h

-- bytes that have a first bad place do not pass
pub IsFirstBad-false : (test : List ℕ → Bool) (bytes : List ℕ) (at : ℕ) → IsFirstBad test bytes at → test bytes ≡ false
IsFirstBad-false test bytes at h =
    elim (cases_Bool (test bytes)) [
      | inl passes ↦ absurd (h.bad (drop (at + 1) bytes) (rw (take-append-drop (at + 1) bytes) passes))
      | inr fails ↦ fails
    ]

pub TellsFirstBad-is_ok : {T : Type 0} (test : List ℕ → Bool) (bytes : List ℕ) (r : Result T ℕ) → TellsFirstBad test bytes (result_err r) → is_ok r ≡ test bytes
TellsFirstBad-is_ok test bytes (Ok x) h = sym h
TellsFirstBad-is_ok test bytes (Err at) h = sym (IsFirstBad-false test bytes at h)
