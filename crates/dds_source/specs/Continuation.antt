-- How keywords go on from line to line.
-- (DDS for Physical and Logical Files, "Continuation lines": + and - as the last character.)
use Rattle.std.specs.Prelude.{ℕ, ◌+◌, ◌-◌, Bool, false, not, ◌&&◌, ◌||◌, ◌==◌, List, [], ◌∷◌, ◌++◌, length, slice_index, slice_range, if◌then◌else◌}
use Rattle.std.specs.List.{onto_first, prefix_len, suffix_len}
use Rattle.dds_source.specs.declared.lines.Line.{Line}
use Rattle.dds_source.specs.declared.characters.SourceCharacter.{SourceCharacter}
use Rattle.text_lines.specs.Lines.{is_blank}
use Rattle.text_lines.specs.Characters.{folded}
use Rattle.dds_source.specs.Lines.{has_entries}

-- how many of the positions from 45 on are used, up to the last that isn't blank
abbrev pub used : Line → ℕ
used line = length line.keywords - suffix_len is_blank line.keywords

-- the last character that isn't blank
abbrev pub last_character : Line → ℕ
last_character line = slice_index line.keywords (used line - 1)

abbrev pub ends_in_plus : Line → Bool
ends_in_plus line = last_character line == 43

abbrev pub ends_in_minus : Line → Bool
ends_in_minus line = last_character line == 45

-- the keywords go on
abbrev pub goes_on : Line → Bool
goes_on line = ends_in_plus line || ends_in_minus line

-- they do on this line
abbrev pub is_continued_by : Line → Line → Bool
is_continued_by line next = goes_on line && not (has_entries next)

-- the lines, each behind the one that it continues
abbrev pub joined : List Line → List (List Line)
joined [] = []
joined (l ∷ []) = (l ∷ []) ∷ []
joined (l ∷ m ∷ ls) = if is_continued_by l m then onto_first l (joined (m ∷ ls)) else (l ∷ []) ∷ joined (m ∷ ls)

-- characters, the first of which stands in this line and column
abbrev pub placed : ℕ → ℕ → List ℕ → List SourceCharacter
placed line column [] = []
placed line column (c ∷ cs) = record { byte = c; line = line; column = column } ∷ placed line (column + 1) cs

-- where the text of a line ends: before the sign
abbrev pub text_end : Line → ℕ
text_end line = if goes_on line then used line - 1 else used line

-- where it begins: behind + at the first position that isn't blank, else at position 45
abbrev pub text_start : Bool → Line → ℕ
text_start behind_plus line = if behind_plus then prefix_len is_blank line.keywords else 0

-- the text that a line has in its keywords
unfoldable pub line_text : Bool → Line → List SourceCharacter
line_text behind_plus line =
    let start = text_start behind_plus line in
    placed line.number (45 + start) (slice_range line.keywords start (text_end line))

-- the text of joined lines, as it stands
abbrev pub raw_text : Bool → List Line → List SourceCharacter
raw_text behind_plus [] = []
raw_text behind_plus (line ∷ lines) = line_text behind_plus line ++ raw_text (ends_in_plus line) lines

-- an apostrophe begins or ends what stands in apostrophes
abbrev pub toggled : Bool → ℕ → Bool
toggled quoted c = if c == 39 then not quoted else quoted

-- letters outside apostrophes in upper case
abbrev pub folded_outside : Bool → List SourceCharacter → List SourceCharacter
folded_outside quoted [] = []
folded_outside quoted (c ∷ cs) = record c { byte = if quoted then c.byte else folded c.byte } ∷ folded_outside (toggled quoted c.byte) cs

-- the text of joined lines
unfoldable pub joined_text : List Line → List SourceCharacter
joined_text lines = folded_outside false (raw_text false lines)
