-- Joined lines, and the text of a line.
use Rattle.std.proofs.Common.{◌≡◌, ℕ, suc, ◌+◌, ◌-◌, ◌<◌, ◌≤◌, true, false, List, [], ◌∷◌, ◌++◌, length, take, drop, get_or, refl, sym, ap, ◌∙◌, arith}
use Rattle.std.proofs.Common.{inl, inr, zero}
use Rattle.std.proofs.lemmas.Bool.{cases_lt}
use Rattle.std.proofs.lemmas.List.{drop_more, append_assoc}
use Rattle.dds_source.specs.declared.lines.Line.{Line}
use Rattle.dds_source.specs.declared.characters.SourceCharacter.{SourceCharacter}
use Rattle.dds_source.specs.Continuation.{is_continued_by, joined, placed}

abbrev pub no_line : Line
no_line = record { number = 0; entries = []; keywords = [] }

-- each of the first lines goes on with the next
abbrev pub AreJoined : List Line → ℕ → Type 0
AreJoined lines n = (k : ℕ) → suc k < n → is_continued_by (get_or lines k no_line) (get_or lines (suc k) no_line) ≡ true

-- one more does
pub AreJoined-more : (lines : List Line) (n : ℕ) → 0 < n → AreJoined lines n → is_continued_by (get_or lines (n - 1) no_line) (get_or lines n no_line) ≡ true → AreJoined lines (n + 1)
AreJoined-more lines n some h step k below = elim (cases_lt (suc k) n) [
  | inl lt ↦ h k lt
  | inr le ↦
      let last : n ≡ suc k = omega arith in
      let front : n - 1 ≡ k = omega arith in
      rw (front, last) at step
]

-- lines that are joined, up to one that isn't
pub joined-first : (lines : List Line) (n : ℕ) → 0 < n → n ≤ length lines → AreJoined lines n
    → ((k : ℕ) → suc k ≡ n → n < length lines → is_continued_by (get_or lines k no_line) (get_or lines (suc k) no_line) ≡ false) → joined lines ≡ take n lines ∷ joined (drop n lines)
joined-first [] n some within h stop = absurd (omega arith)
joined-first (l ∷ ls) zero some within h stop = absurd (omega arith)
joined-first (l ∷ []) (suc zero) some within h stop = refl
joined-first (l ∷ []) (suc (suc n)) some within h stop = absurd (omega arith)
joined-first (l ∷ m ∷ ls) (suc zero) some within h stop = rw (stop 0 refl (omega arith)) refl
joined-first (l ∷ m ∷ ls) (suc (suc n)) some within h stop =
    let rest = joined-first (m ∷ ls) (suc n) (omega arith) (omega arith) (λ k lt. h (suc k) (omega arith)) (λ k e lt. stop (suc k) (omega arith) (omega arith)) in
    rw (h 0 (omega arith), rest) refl

-- one more character of a line
pub placed_more : (line column i end : ℕ) (cs : List ℕ) (front total : List SourceCharacter) → i < end → end ≤ length cs
    → front ++ placed line (column + i) (take (end - i) (drop i cs)) ≡ total
    → (front ++ (let c : SourceCharacter = record { byte = get_or cs i 0; line = line; column = column + i } in c) ∷ []) ++ placed line (column + (i + 1)) (take (end - (i + 1)) (drop (i + 1) cs)) ≡ total
placed_more line column i end cs front total lt within h =
    let c : SourceCharacter = record { byte = get_or cs i 0; line = line; column = column + i } in
    let rest : List ℕ = take (end - (i + 1)) (drop (i + 1) cs) in
    let here : drop i cs ≡ get_or cs i 0 ∷ drop (i + 1) cs = drop_more cs i 0 (omega arith) in
    let left : end - i ≡ suc (end - (i + 1)) = omega arith in
    let parts : take (end - i) (drop i cs) ≡ get_or cs i 0 ∷ rest = rw (here, left) refl in
    let next : column + i + 1 ≡ column + (i + 1) = omega arith in
    append_assoc front (c ∷ []) (placed line (column + (i + 1)) rest)
    ∙ ap (λ (n : ℕ). front ++ (c ∷ placed line n rest)) (sym next)
    ∙ sym (ap (λ (xs : List ℕ). front ++ placed line (column + i) xs) parts) ∙ h
