-- The texts of a job's statements: its lines, of which one goes on with the next where it ends in a plus sign.
-- (CL reference, "Continuation"; that blank lines and lines which begin with /* are skipped is our own.)
use Rattle.std.specs.Prelude.{ℕ, ◌+◌, ◌-◌, ◌==◌, Bool, true, false, if◌then◌else◌, ◌||◌, ◌&&◌, Option, Some, None, List, [], ◌∷◌, ◌++◌, take, length, reverse, slice_index}
use Rattle.std.specs.List.{prefix_len}
use Rattle.text_lines.specs.Lines.{is_blank, are_blanks}
use Rattle.statement_reader.specs.Words.{unindented}

-- a statement's text, the line on which it begins, and whether it is there whole
pub record StatementText : Type 0 where
  pub line : ℕ
  pub text : List ℕ
  pub whole : Bool

-- the line begins with /*
abbrev pub is_remark : List ℕ → Bool
is_remark [] = false
is_remark (c ∷ []) = false
is_remark (c ∷ d ∷ text) = (c == 47) && (d == 42)

-- a line that is no part of a statement, where none goes on
abbrev pub is_skipped : List ℕ → Bool
is_skipped line = are_blanks line || is_remark line

-- how many blanks stand at its end
abbrev pub end_blanks : List ℕ → ℕ
end_blanks line = prefix_len is_blank (reverse line)

-- its last character that is no blank is a plus sign
abbrev pub goes_on : List ℕ → Bool
goes_on line = slice_index (reverse line) (end_blanks line) == 43

-- what stands before that sign
abbrev pub before_sign : List ℕ → List ℕ
before_sign line = take (length line - (end_blanks line + 1)) line

-- a statement that has begun on a line, and its text so far
pub record Begun : Type 0 where
  pub line : ℕ
  pub text : List ℕ

abbrev pub begun_at : List ℕ → ℕ → Begun
begun_at text line = record { line = line; text = text }

abbrev pub text_at : ℕ → List ℕ → Bool → StatementText
text_at line text whole = record { line = line; text = text; whole = whole }

-- a statement that nothing goes on with
abbrev pub unfinished : Option Begun → List StatementText
unfinished None = []
unfinished (Some begun) = text_at begun.line begun.text false ∷ []

-- the line belongs to no statement
abbrev pub skips : Option Begun → List ℕ → Bool
skips None line = is_skipped line
skips (Some begun) line = false

-- the text before the line, with that of the line
abbrev pub begun_with : Option Begun → ℕ → List ℕ → Begun
begun_with None number piece = begun_at piece number
begun_with (Some begun) number piece = begun_at (begun.text ++ unindented piece) begun.line

abbrev pub whole_text : Begun → StatementText
whole_text begun = text_at begun.line begun.text true

-- the statements' texts of the lines from the one with this number on, with a statement before them that goes on
unfoldable pub texts_from : Option Begun → ℕ → List (List ℕ) → List StatementText
texts_from begun number [] = unfinished begun
texts_from begun number (line ∷ lines) =
    if skips begun line then texts_from begun (number + 1) lines
    else (if goes_on line then texts_from (Some (begun_with begun number (before_sign line))) (number + 1) lines
    else whole_text (begun_with begun number line) ∷ texts_from None (number + 1) lines)
