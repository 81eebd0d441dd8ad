-- The lines of a text, and the words in a line.
-- (Our own; DDS for Physical and Logical Files has sources as records of a source file.)
use Rattle.std.specs.Prelude.{ℕ, Bool, if◌then◌else◌, ◌==◌, ◌||◌, ◌&&◌, Option, Some, None, List, [], ◌∷◌, ◌++◌, take, drop}
use Rattle.std.specs.List.{list_all, flat_map, position_or_len}
use Rattle.field_types.specs.SystemName.{is_name}

-- a byte at the front of the first line
abbrev pub onto_first : ℕ → List (List ℕ) → List (List ℕ)
onto_first b [] = (b ∷ []) ∷ []
onto_first b (line ∷ lines) = (b ∷ line) ∷ lines

-- the lines, each up to a line feed; a last line without one is a line
abbrev pub lines_of : List ℕ → List (List ℕ)
lines_of [] = []
lines_of (b ∷ bs) = if b == 10 then [] ∷ lines_of bs else onto_first b (lines_of bs)

-- these lines, each with a line feed behind it
abbrev pub text_of_lines : List (List ℕ) → List ℕ
text_of_lines lines = flat_map (λ line. line ++ 10 ∷ []) lines

-- a space or a tab
abbrev pub is_blank : ℕ → Bool
is_blank b = (b == 32) || (b == 9)

-- nothing but blanks
abbrev pub are_blanks : List ℕ → Bool
are_blanks text = list_all is_blank text

-- how many characters stand before the first blank
abbrev pub word_length : List ℕ → ℕ
word_length text = position_or_len is_blank text

-- the system name that stands at the front, with nothing but blanks behind it
abbrev pub name_alone : List ℕ → Option (List ℕ)
name_alone text =
    if are_blanks (drop (word_length text) text) && is_name (take (word_length text) text)
    then Some (take (word_length text) text) else None
