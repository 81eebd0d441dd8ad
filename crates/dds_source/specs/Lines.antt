-- What a text's lines are, which characters stand in their positions, and which lines count.
-- (DDS for Physical and Logical Files, "Positions 1 through 44".)
use Rattle.std.specs.Prelude.{ℕ, ◌+◌, ◌-◌, Bool, not, ◌&&◌, ◌||◌, ◌==◌, List, [], ◌∷◌, ◌++◌, length, take, drop, map, filter, replicate, slice_index, slice_range, if◌then◌else◌}
use Rattle.std.specs.Str.Lines.{strip_carriage_return}
use Rattle.dds_source.specs.declared.lines.Line.{Line}
use Rattle.text_lines.specs.Lines.{are_blanks, lines_of}
use Rattle.text_lines.specs.Characters.{folded}

-- the 80 positions of a line: without a carriage return at its end, cut at 80, with blanks behind a short one
unfoldable pub positions : List ℕ → List ℕ
positions text = let kept = take 80 (strip_carriage_return text) in kept ++ replicate (80 - length kept) 32

-- positions 1 to 44 hold the entries, in upper case, and 45 to 80 the keywords
unfoldable pub line_of : ℕ → List ℕ → Line
line_of number text = record { number = number; entries = map folded (take 44 (positions text)); keywords = drop 44 (positions text) }

-- lines are counted from 1; the count stands still at the last number of 32 bits
abbrev pub next_number : ℕ → ℕ
next_number n = if n == 0xffff_ffff then n else n + 1

abbrev pub numbered : ℕ → List (List ℕ) → List Line
numbered number [] = []
numbered number (text ∷ texts) = line_of number text ∷ numbered (next_number number) texts

-- the number of the line in which a text's last character stands, where its first one stands in the given line
abbrev pub last_number : ℕ → List ℕ → ℕ
last_number number [] = number
last_number number (c ∷ []) = number
last_number number (c ∷ d ∷ cs) = last_number (if c == 10 then next_number number else number) (d ∷ cs)

-- the number of a text's last line, 1 where it has none
unfoldable pub last_line : List ℕ → ℕ
last_line text = last_number 1 text

-- the character of a position up to 44
abbrev pub at : Line → ℕ → ℕ
at line column = slice_index line.entries (column - 1)

-- the characters of the positions from one up to another, up to 44
abbrev pub entry : Line → ℕ → ℕ → List ℕ
entry line first last = slice_range line.entries (first - 1) last

-- an asterisk in position 7
abbrev pub is_comment : Line → Bool
is_comment line = at line 7 == 42

-- nothing from position 7 on
abbrev pub is_empty : Line → Bool
is_empty line = are_blanks (entry line 7 44) && are_blanks line.keywords

-- comments and empty lines say nothing, and nothing in them is at fault
abbrev pub counts : Line → Bool
counts line = not (is_comment line || is_empty line)

-- the lines of a text that count
unfoldable pub counted_lines : List ℕ → List Line
counted_lines text = filter counts (numbered 1 (lines_of text))

-- an entry in positions 17 to 44: the line is a specification, and not more keywords for one
abbrev pub has_entries : Line → Bool
has_entries line = not (are_blanks (entry line 17 44))
