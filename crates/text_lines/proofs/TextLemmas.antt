-- The lines of a text have no line feed, and lines without one are the lines of their text.
use Rattle.std.proofs.Common.{◌≡◌, ℕ, Bool, true, false, not, ◌&&◌, List, [], ◌∷◌, ◌++◌, eqb, refl, ap, ◌∙◌, append_assoc, ⊎_elim}
use Rattle.std.specs.List.{list_all}
use Rattle.std.proofs.lemmas.Bool.{cases_Bool, and_parts, and_from, not-true, not_from_false, cond-false, cond-true}
use Rattle.text_lines.specs.Lines.{lines_of, onto_first, text_of_lines}

-- whether a line has no line feed
abbrev pub has_no_feed : List ℕ → Bool
has_no_feed line = list_all (λ b. not (eqb b 10)) line

onto_first-no_feed : (b : ℕ) (lines : List (List ℕ)) → eqb b 10 ≡ false → list_all has_no_feed lines ≡ true → list_all has_no_feed (onto_first b lines) ≡ true
onto_first-no_feed b [] other h = ap (λ v. (not v && true) && true) other
onto_first-no_feed b (line ∷ lines) other h =
    let parts = and_parts (has_no_feed line) (list_all has_no_feed lines) h in
    and_from (not (eqb b 10) && has_no_feed line) (list_all has_no_feed lines) (and_from (not (eqb b 10)) (has_no_feed line) (not_from_false (eqb b 10) other) parts.0) parts.1

pub lines_of-no_feed : (text : List ℕ) → list_all has_no_feed (lines_of text) ≡ true
lines_of-no_feed [] = refl
lines_of-no_feed (b ∷ bs) = ⊎_elim
    (λ feed. ap (list_all has_no_feed) (cond-true (eqb b 10) ([] ∷ lines_of bs) (onto_first b (lines_of bs)) feed) ∙ lines_of-no_feed bs)
    (λ other. ap (list_all has_no_feed) (cond-false (eqb b 10) ([] ∷ lines_of bs) (onto_first b (lines_of bs)) other) ∙ onto_first-no_feed b (lines_of bs) other (lines_of-no_feed bs))
    (cases_Bool (eqb b 10))

-- a line with its line feed before a text
lines_of-line : (line text : List ℕ) → has_no_feed line ≡ true → lines_of (line ++ 10 ∷ text) ≡ line ∷ lines_of text
lines_of-line [] text h = refl
lines_of-line (b ∷ line) text h =
    let parts = and_parts (not (eqb b 10)) (has_no_feed line) h in
    cond-false (eqb b 10) ([] ∷ lines_of (line ++ 10 ∷ text)) (onto_first b (lines_of (line ++ 10 ∷ text))) (not-true (eqb b 10) parts.0)
    ∙ ap (onto_first b) (lines_of-line line text parts.1)

pub lines_of-text : (lines : List (List ℕ)) → list_all has_no_feed lines ≡ true → lines_of (text_of_lines lines) ≡ lines
lines_of-text [] h = refl
lines_of-text (line ∷ lines) h =
    let parts = and_parts (has_no_feed line) (list_all has_no_feed lines) h in
    ap lines_of (append_assoc line (10 ∷ []) (text_of_lines lines)) ∙ lines_of-line line (text_of_lines lines) parts.0 ∙ ap (λ l. line ∷ l) (lines_of-text lines parts.1)
