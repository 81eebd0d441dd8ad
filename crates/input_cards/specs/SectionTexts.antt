-- Where the lines of a section lie in the bytes of an input. (Our own.)
use Rattle.std.specs.Prelude.{ℕ, ◌+◌, ◌-◌, List, [], ◌∷◌, length, take, drop}
use Rattle.text_lines.specs.Lines.{lines_of}
use Rattle.input_cards.specs.declared.section.Section.{Section}
use Rattle.input_cards.specs.Sections.{Part}

-- how many bytes these lines have, each with a line feed
abbrev pub bytes_of : List (List ℕ) → ℕ
bytes_of [] = 0
bytes_of (line ∷ lines) = (length line + 1) + bytes_of lines

-- the bytes from a place up to another
abbrev pub bytes_between : ℕ → ℕ → List ℕ → List ℕ
bytes_between start end bytes = take (end - start) (drop start bytes)

-- the section as the definition has it
abbrev pub part_in : List ℕ → Section → Part
part_in bytes section = record { line = section.line; card = section.card; lines = lines_of (bytes_between section.start section.end bytes) }

abbrev pub parts_in : List ℕ → List Section → List Part
parts_in bytes [] = []
parts_in bytes (section ∷ sections) = part_in bytes section ∷ parts_in bytes sections
