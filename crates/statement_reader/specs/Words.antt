-- The words of a text: blanks separate them, but not between apostrophes and not in parentheses.
-- (CL reference, "Command syntax".)
use Rattle.std.specs.Prelude.{ℕ, ◌+◌, ◌-◌, Bool, true, false, not, ◌&&◌, ◌==◌, if◌then◌else◌, Option, Some, None, List, [], ◌∷◌, drop, filter}
use Rattle.std.specs.List.{prefix_len}
use Rattle.text_lines.specs.Lines.{is_blank, onto_first}
use Rattle.statement_reader.specs.declared.words.Nesting.{Nesting}

-- neither between apostrophes nor in parentheses
abbrev pub outside : Nesting
outside = record { quoted = false; depth = 0 }

abbrev pub is_outside : Nesting → Bool
is_outside nesting = not nesting.quoted && (nesting.depth == 0)

-- where the place behind a character lies: an apostrophe begins or ends a literal, in which no parenthesis counts
abbrev pub after : Nesting → ℕ → Nesting
after nesting character =
    if character == 39 then record { quoted = not nesting.quoted; depth = nesting.depth }
    else (if nesting.quoted then nesting
    else (if character == 40 then record { quoted = nesting.quoted; depth = nesting.depth + 1 }
    else (if character == 41 then record { quoted = nesting.quoted; depth = nesting.depth - 1 } else nesting)))

-- the pieces between the blanks that stand outside, of which some may be empty
abbrev pub pieces : Nesting → List ℕ → List (List ℕ)
pieces nesting [] = [] ∷ []
pieces nesting (c ∷ text) =
    if is_outside nesting && is_blank c then [] ∷ pieces outside text else onto_first c (pieces (after nesting c) text)

-- a text of one character or more
abbrev pub has_text : List ℕ → Bool
has_text [] = false
has_text (c ∷ text) = true

-- the words: the pieces that aren't empty
unfoldable pub words : List ℕ → List (List ℕ)
words text = filter has_text (pieces outside text)

-- what stands behind the blanks at the front of a text
abbrev pub unindented : List ℕ → List ℕ
unindented text = drop (prefix_len is_blank text) text

-- how many characters stand before the first blank that separates
abbrev pub piece_length : Nesting → List ℕ → ℕ
piece_length nesting [] = 0
piece_length nesting (c ∷ text) = if is_outside nesting && is_blank c then 0 else 1 + piece_length (after nesting c) text

-- the word of a list that has one alone
abbrev pub only : List (List ℕ) → Option (List ℕ)
only [] = None
only (word ∷ []) = Some word
only (word ∷ second ∷ more) = None

-- the words of a list that has three
abbrev pub three : List (List ℕ) → Option (List ℕ × List ℕ × List ℕ)
three [] = None
three (first ∷ []) = None
three (first ∷ second ∷ []) = None
three (first ∷ second ∷ third ∷ []) = Some (first, second, third)
three (first ∷ second ∷ third ∷ fourth ∷ more) = None
