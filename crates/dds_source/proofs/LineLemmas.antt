-- Cutting a text into lines, and a line into positions.
use Rattle.std.proofs.Common.{◌≡◌, ℕ, ◌+◌, ◌-◌, ◌<◌, ◌≤◌, List, [], ◌∷◌, ◌++◌, length, take, drop, map, replicate, set, get_or, refl, sym, ap, ◌∙◌, arith, length-take, length-drop}
use Rattle.std.proofs.Common.{filter}
use Rattle.dds_source.specs.declared.lines.Line.{Line}
use Rattle.dds_source.specs.Lines.{positions, line_of, next_number, counts, numbered}
use Rattle.text_lines.specs.Characters.{folded}
use Rattle.text_lines.specs.Lines.{lines_of}
use Rattle.std.proofs.lemmas.Bool.{cases_Bool}
use Rattle.std.proofs.Common.{inl, inr}
use Rattle.std.proofs.lemmas.List.{take_all, take_rest, map_more, append_assoc, drop_more, set_at, get_or_at, length-map, drop-replicate}

-- a short line with blanks behind it
pub padded_is : (kept new : List ℕ) → new ≡ kept → new ++ drop (length kept) (replicate 80 32) ≡ kept ++ replicate (80 - length kept) 32
padded_is kept new h = rw (h, drop-replicate {X = ℕ} (length kept) 80 32) refl

-- one more letter in upper case
pub fold_more : (f : ℕ → ℕ) (xs text : List ℕ) (i y : ℕ) → i < length xs → text ≡ map f (take i xs) ++ drop i xs → y ≡ f (get_or text i 0) → set text i y ≡ map f (take (i + 1) xs) ++ drop (i + 1) xs
fold_more f xs text i y lt h e =
    let a : List ℕ = map f (take i xs) in
    let x : ℕ = get_or xs i 0 in
    let rest : List ℕ = drop (i + 1) xs in
    let k : length a ≡ i = simp (length-map, length-take) (omega arith) in
    let t : text ≡ a ++ (x ∷ rest) = h ∙ ap (λ (r : List ℕ). a ++ r) (drop_more xs i 0 lt) in
    let s : set text i y ≡ a ++ (y ∷ rest) = ap (λ (t : List ℕ). set t i y) t ∙ set_at a x rest y i k in
    let g : y ≡ f x = e ∙ ap (λ (t : List ℕ). f (get_or t i 0)) t ∙ ap f (get_or_at a x rest 0 i k) in
    s ∙ ap (λ (z : ℕ). a ++ (z ∷ rest)) g ∙ sym (append_assoc a (f x ∷ []) rest) ∙ ap (λ (l : List ℕ). l ++ rest) (sym (map_more f xs i 0 lt))

-- the positions from 45 on, as a slice
pub last_36 : (p : List ℕ) → length p ≡ 80 → take (length p - 44) (drop 44 p) ≡ drop 44 p
last_36 p h = take_rest p 44

-- a line's parts, as they are copied
pub line_is : (number : ℕ) (text : List ℕ) → length (positions text) ≡ 80
    → (let l : Line = record { number = number; entries = map folded (take 44 (positions text)); keywords = take 36 (drop 44 (positions text)) } in l) ≡ line_of number text
unfolding line_of
line_is number text h =
    let fits : length (drop 44 (positions text)) ≤ 36 = simp length-drop (omega arith) in
    ap (λ (ks : List ℕ). let l : Line = record { number = number; entries = map folded (take 44 (positions text)); keywords = ks } in l) (take_all 36 (drop 44 (positions text)) fits)

-- one line of a text is read
filter_first : (line : Line) (lines : List Line) → filter counts (line ∷ lines) ≡ filter counts (line ∷ []) ++ filter counts lines
filter_first line lines = elim (cases_Bool (counts line)) [ inl h ↦ rw (h) refl | inr h ↦ rw (h) refl ]

pub lines_more : (lines : List Line) (number : ℕ) (text first more : List ℕ) (total : List Line)
    → lines_of text ≡ first ∷ lines_of more
    → lines ++ filter counts (numbered number (lines_of text)) ≡ total
    → (lines ++ filter counts (line_of number first ∷ [])) ++ filter counts (numbered (next_number number) (lines_of more)) ≡ total
lines_more lines number text first more total s h =
    append_assoc lines _ _
    ∙ ap (λ (ls : List Line). lines ++ ls) (sym (filter_first (line_of number first) (numbered (next_number number) (lines_of more))))
    ∙ sym (ap (λ (ts : List (List ℕ)). lines ++ filter counts (numbered number ts)) s) ∙ h
