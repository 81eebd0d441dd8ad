-- Words one after another: where the first ends, and what is behind it.
use Rattle.std.proofs.Common.{◌≡◌, ℕ, suc, ◌+◌, ◌<◌, Bool, true, false, cond, ◌&&◌, List, [], ◌∷◌, length, take, drop, refl, ap, ◌∙◌, sym, arith, length-drop}
use Rattle.std.specs.List.{prefix_len, filter}
use Rattle.std.proofs.lemmas.Bool.{and_parts, cond-true, cond-false}
use Rattle.text_lines.specs.Lines.{is_blank, onto_first}
use Rattle.statement_reader.specs.declared.words.Nesting.{Nesting}
use Rattle.statement_reader.specs.Words.{after, is_outside, outside, pieces, piece_length, has_text, words, unindented}

-- the pieces behind the first
abbrev pub behind_first : List ℕ → List (List ℕ)
behind_first [] = []
behind_first (b ∷ text) = pieces outside text

-- one more character before the first piece and what is behind it
longer : (c n : ℕ) (text : List ℕ) (all : List (List ℕ)) → all ≡ take n text ∷ behind_first (drop n text) → onto_first c all ≡ take (1 + n) (c ∷ text) ∷ behind_first (drop (1 + n) (c ∷ text))
longer c n text all h =
    let one : 1 + n ≡ suc n = omega arith in
    ap (onto_first c) h ∙ rw one refl

-- the first piece goes up to the first blank that separates
pub pieces-cut : (nesting : Nesting) (text : List ℕ) → pieces nesting text ≡ take (piece_length nesting text) text ∷ behind_first (drop (piece_length nesting text) text)
pieces-cut nesting [] = refl
pieces-cut nesting (c ∷ text) =
    let others = pieces-cut (after nesting c) text in
    elim (is_outside nesting && is_blank c) as (λ v. cond v ([] ∷ pieces outside text) (onto_first c (pieces (after nesting c) text)) ≡ take (cond v 0 (1 + piece_length (after nesting c) text)) (c ∷ text) ∷ behind_first (drop (cond v 0 (1 + piece_length (after nesting c) text)) (c ∷ text)))
    [ true ↦ refl | false ↦ longer c (piece_length (after nesting c) text) text (pieces (after nesting c) text) others ]

-- a blank before the words
pub words-blank : (c : ℕ) (text : List ℕ) → is_blank c ≡ true → words (c ∷ text) ≡ words text
unfolding words
words-blank c text blank = ap (filter has_text) (cond-true (is_blank c) ([] ∷ pieces outside text) (onto_first c (pieces (after outside c) text)) blank)

-- the words of what is behind a piece
pub words-behind : (nesting : Nesting) (text : List ℕ) → filter has_text (behind_first (drop (piece_length nesting text) text)) ≡ words (drop (piece_length nesting text) text)
unfolding words
words-behind nesting [] = refl
words-behind nesting (c ∷ text) =
    let others = words-behind (after nesting c) text in
    let one : 1 + piece_length (after nesting c) text ≡ suc (piece_length (after nesting c) text) = omega arith in
    let at_blank : is_outside nesting && is_blank c ≡ true → filter has_text (pieces outside text) ≡ words (c ∷ text) =
    λ both. sym (words-blank c text (and_parts (is_outside nesting) (is_blank c) both).1) in
    let decided : (v : Bool) → is_outside nesting && is_blank c ≡ v → filter has_text (behind_first (drop (cond v 0 (1 + piece_length (after nesting c) text)) (c ∷ text))) ≡ words (drop (cond v 0 (1 + piece_length (after nesting c) text)) (c ∷ text)) =
    λ v is. (elim v as (λ w. is_outside nesting && is_blank c ≡ w → filter has_text (behind_first (drop (cond w 0 (1 + piece_length (after nesting c) text)) (c ∷ text))) ≡ words (drop (cond w 0 (1 + piece_length (after nesting c) text)) (c ∷ text)))
    [ true ↦ at_blank | false ↦ λ _. rw one others ]) is in
    decided (is_outside nesting && is_blank c) refl

-- the first word, where no blank stands before it
words-here : (c : ℕ) (text : List ℕ) → is_blank c ≡ false → words (c ∷ text) ≡ take (piece_length outside (c ∷ text)) (c ∷ text) ∷ words (drop (piece_length outside (c ∷ text)) (c ∷ text))
unfolding words
words-here c text none =
    let length_is : piece_length outside (c ∷ text) ≡ suc (piece_length (after outside c) text) = cond-false (is_blank c) 0 (1 + piece_length (after outside c) text) none ∙ omega arith in
    ap (filter has_text) (pieces-cut outside (c ∷ text))
    ∙ ap (λ n. filter has_text (take n (c ∷ text) ∷ behind_first (drop (piece_length outside (c ∷ text)) (c ∷ text)))) length_is
    ∙ ap (λ n. take n (c ∷ text) ∷ filter has_text (behind_first (drop (piece_length outside (c ∷ text)) (c ∷ text)))) (sym length_is)
    ∙ ap (λ more. take (piece_length outside (c ∷ text)) (c ∷ text) ∷ more) (words-behind outside (c ∷ text))

-- what a text without blanks at its front begins with
abbrev pub BeginsWithWord : List ℕ → List ℕ → Type 0
BeginsWithWord text body = (words text ≡ take (piece_length outside body) body ∷ words (drop (piece_length outside body) body)) × (length (drop (piece_length outside body) body) < length text)

word-here : (c : ℕ) (text : List ℕ) → is_blank c ≡ false → BeginsWithWord (c ∷ text) (c ∷ text)
word-here c text none =
    let length_is : piece_length outside (c ∷ text) ≡ suc (piece_length (after outside c) text) = cond-false (is_blank c) 0 (1 + piece_length (after outside c) text) none ∙ omega arith in
    (words-here c text none, rw length_is (omega (arith, length-drop (piece_length (after outside c) text) text)))

-- the first word behind the blanks
pub first-word : (text : List ℕ) → 0 < length (unindented text) → BeginsWithWord text (unindented text)
first-word [] some = absurd (omega arith)
first-word (c ∷ text) some =
    let others = first-word text in
    let one : 1 + prefix_len is_blank text ≡ suc (prefix_len is_blank text) = omega arith in
    let decided : (v : Bool) → is_blank c ≡ v → 0 < length (drop (cond v (1 + prefix_len is_blank text) 0) (c ∷ text)) → BeginsWithWord (c ∷ text) (drop (cond v (1 + prefix_len is_blank text) 0) (c ∷ text)) =
    λ v is. (elim v as (λ w. is_blank c ≡ w → 0 < length (drop (cond w (1 + prefix_len is_blank text) 0) (c ∷ text)) → BeginsWithWord (c ∷ text) (drop (cond w (1 + prefix_len is_blank text) 0) (c ∷ text))) [
      | true ↦ λ blank more. rw one (let found = others (rw one at more) in (words-blank c text blank ∙ found.0, omega (arith, found.1)))
      | false ↦ λ none more. word-here c text none
    ]) is in
    decided (is_blank c) refl some

words-nil : words [] ≡ []
unfolding words
words-nil = refl

-- nothing but blanks
pub no-word : (text : List ℕ) → length (unindented text) ≡ 0 → words text ≡ []
no-word [] none = words-nil
no-word (c ∷ text) none =
    let one : 1 + prefix_len is_blank text ≡ suc (prefix_len is_blank text) = omega arith in
    let decided : (v : Bool) → is_blank c ≡ v → length (drop (cond v (1 + prefix_len is_blank text) 0) (c ∷ text)) ≡ 0 → words (c ∷ text) ≡ [] =
    λ v is. (elim v as (λ w. is_blank c ≡ w → length (drop (cond w (1 + prefix_len is_blank text) 0) (c ∷ text)) ≡ 0 → words (c ∷ text) ≡ []) [
      | true ↦ λ blank empty. words-blank c text blank ∙ no-word text (rw one at empty)
      | false ↦ λ other empty. absurd (omega arith)
    ]) is in
    decided (is_blank c) refl none

-- a word and what is behind it, as they are found
pub found-from : (text body word rest : List ℕ) (n : ℕ) → body ≡ unindented text → 0 < length body → n ≡ piece_length outside body → word ≡ take n body → rest ≡ drop n body → (words text ≡ word ∷ words rest) × (length rest < length text)
found-from text body word rest n is some length_is front back =
    let here : 0 < length (unindented text) = omega (arith, ap length is) in
    let cut : n ≡ piece_length outside (unindented text) = length_is ∙ ap (piece_length outside) is in
    rw (front, back, cut, is) (first-word text here)

pub nothing-from : (text body : List ℕ) → body ≡ unindented text → length body ≡ 0 → words text ≡ []
nothing-from text body is none = no-word text (sym (ap length is) ∙ none)
