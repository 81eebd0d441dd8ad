-- No source of an input is longer than the input.
use Rattle.std.proofs.Common.{◌≡◌, ℕ, ◌+◌, ◌≤◌, Option, Some, None, List, [], ◌∷◌, ◌++◌, length, eqb, refl, ◌∙◌, ⊎_elim, arith, length-append}
use Rattle.std.specs.List.{AllByRecursion, filter_map, cons_option}
use Rattle.std.specs.Option.{option_map}
use Rattle.std.proofs.lemmas.Bool.{cases_Bool, cond-true, cond-false}
use Rattle.text_lines.specs.Lines.{lines_of, onto_first, text_of_lines}
use Rattle.input_cards.specs.Cards.{is_card, card_of}
use Rattle.input_cards.specs.CardFaults.{source_name}
use Rattle.input_cards.specs.Sections.{Part, before_card, parts_from, parts_of}
use Rattle.input_reader.specs.Input.{input_of, source_in}
use Rattle.library_model.specs.declared.sources.NamedSource.{NamedSource}

-- the bytes of lines, each with its line feed
abbrev size : List (List ℕ) → ℕ
size [] = 0
size (line ∷ lines) = length line + 1 + size lines

text-size : (lines : List (List ℕ)) → length (text_of_lines lines) ≡ size lines
text-size [] = refl
text-size (line ∷ lines) =
    let here = length-append (line ++ 10 ∷ []) (text_of_lines lines) in
    let one = length-append line (10 ∷ []) in
    let more = text-size lines in
    here ∙ omega (arith, one, more)

onto-size : (b : ℕ) (bs : List ℕ) (lines : List (List ℕ)) → size lines ≤ length bs + 1 → size (onto_first b lines) ≤ length (b ∷ bs) + 1
onto-size b bs [] le = omega arith
onto-size b bs (line ∷ lines) le = omega (arith, le)

lines-size : (bytes : List ℕ) → size (lines_of bytes) ≤ length bytes + 1
lines-size [] = omega arith
lines-size (b ∷ bs) = ⊎_elim
    (λ feed. rw (cond-true (eqb b 10) ([] ∷ lines_of bs) (onto_first b (lines_of bs)) feed) (let more = lines-size bs in omega (arith, more)))
    (λ other. rw (cond-false (eqb b 10) ([] ∷ lines_of bs) (onto_first b (lines_of bs)) other) (onto-size b bs (lines_of bs) (lines-size bs)))
    (cases_Bool (eqb b 10))

before-size : (lines : List (List ℕ)) → size (before_card lines) ≤ size lines
before-size [] = omega arith
before-size (line ∷ lines) = ⊎_elim
    (λ card. rw (cond-true (is_card line) [] (line ∷ before_card lines) card) (omega arith))
    (λ none. rw (cond-false (is_card line) [] (line ∷ before_card lines) none) (let more = before-size lines in omega (arith, more)))
    (cases_Bool (is_card line))

parts-size : (most number : ℕ) (lines : List (List ℕ)) → size lines ≤ most → AllByRecursion (λ (part : Part). size part.lines ≤ most) (parts_from number lines)
unfolding parts_from
parts-size most number [] le = tt
parts-size most number (line ∷ lines) le = ⊎_elim
    (λ card. rw (cond-true (is_card line) (record { line = number; card = card_of line; lines = before_card lines } ∷ parts_from (number + 1) lines) (parts_from (number + 1) lines) card)
    (let its = before-size lines in (omega (arith, its, le), parts-size most (number + 1) lines (omega (arith, le)))))
    (λ none. rw (cond-false (is_card line) (record { line = number; card = card_of line; lines = before_card lines } ∷ parts_from (number + 1) lines) (parts_from (number + 1) lines) none)
    (parts-size most (number + 1) lines (omega (arith, le))))
    (cases_Bool (is_card line))

-- none of these is longer
abbrev AreWithin : (most : ℕ) → List NamedSource → Type 0
AreWithin most sources = AllByRecursion (λ source. length source.text ≤ most) sources

named-within : (most : ℕ) (parts : List Part) → AllByRecursion (λ (part : Part). size part.lines ≤ most) parts → AreWithin most (filter_map source_in parts)
named-within most [] all = tt
named-within most (part ∷ parts) all = one (source_name part.card) (named-within most parts all.1)
  where
    one : (name : Option (List ℕ)) → AreWithin most (filter_map source_in parts)
        → AreWithin most (cons_option (option_map (λ n. record { name = n; text = text_of_lines part.lines }) name) (filter_map source_in parts))
    one None rest = rest
    one (Some name) rest = (let its = all.0 in omega (arith, text-size part.lines, its), rest)

pub sources-within : (bytes : List ℕ) → AllByRecursion (λ source. length source.text ≤ length bytes + 1) (input_of (lines_of bytes)).sources
sources-within bytes = named-within (length bytes + 1) (parts_of (lines_of bytes)) (parts-size (length bytes + 1) 1 (lines_of bytes) (lines-size bytes))
