-- What bytes look like in the help: printable characters alone, so that no byte of an input reaches a terminal as it is. (Our own.)
use Rattle.std.specs.Prelude.{ℕ, ◌+◌, ◌-◌, ◌/◌, ◌%◌, Bool, nat_le, ◌==◌, ◌&&◌, ◌||◌, if◌then◌else◌, Option, Some, None, List, [], ◌∷◌, ◌++◌}
use Rattle.std.specs.List.{flat_map}
use Rattle.hints.specs.declared.visible.TheConstants.{MOST_SHOWN}

-- one of the 95 printable characters of ASCII
abbrev pub is_printable : ℕ → Bool
is_printable b = nat_le 32 b && nat_le b 126

-- a printable character, or the end of a line
abbrev pub is_shown : ℕ → Bool
is_shown b = is_printable b || (b == 10)

-- a hexadecimal digit; a question mark for what is none
abbrev pub hex_digit : ℕ → ℕ
hex_digit n = if nat_le n 9 then 48 + n else (if nat_le n 15 then 55 + n else 63)

-- a printable character as it is, any other byte as \xNN
abbrev pub visible : ℕ → List ℕ
visible b = if is_printable b then b ∷ [] else 92 ∷ 120 ∷ hex_digit (b / 16) ∷ hex_digit (b % 16) ∷ []

abbrev pub visible_text : List ℕ → List ℕ
visible_text text = flat_map visible text

-- how many characters a byte takes
abbrev pub width : ℕ → ℕ
width b = if is_printable b then 1 else 4

-- the bytes at the front that fit into so many characters
abbrev pub shown : List ℕ → ℕ → List ℕ
shown [] room = []
shown (b ∷ bs) room = if nat_le (width b) room then visible b ++ shown bs (room - width b) else []

-- the line of a number, counted from 1
abbrev pub line_of : List (List ℕ) → ℕ → Option (List ℕ)
line_of [] number = None
line_of (line ∷ lines) number = if nat_le number 1 then Some line else line_of lines (number - 1)

-- how a line is shown, with its line feed; nothing for a line that isn't there
abbrev pub shown_line : Option (List ℕ) → List ℕ
shown_line None = []
shown_line (Some line) = shown line MOST_SHOWN ++ 10 ∷ []
