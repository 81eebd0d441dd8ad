-- Sources that are written out: lines in their columns, and literals in apostrophes.
-- (DDS for Physical and Logical Files, "Positions 1 through 44".)
use Rattle.std.specs.Prelude.{◌≡◌, ℕ, ◌-◌, ◌≤◌, Bool, true, ◌||◌, ◌==◌, List, [], ◌∷◌, ◌++◌, length, replicate, flat_map, Option, Some, None, if◌then◌else◌}
use Rattle.std.specs.List.{list_all}
use Rattle.text_lines.specs.SystemName.{is_name}
use Rattle.dds_source.specs.declared.specifications.Specification.{Specification}
use Rattle.dds_source.specs.declared.specifications.Columns.{Columns}
use Rattle.dds_source.specs.declared.specifications.SpecificationKind.{SpecificationKind}
use Rattle.dds_source.specs.declared.specifications.SpecificationKind.TheVariants as kinds
use Rattle.dds_source.specs.declared.specifications.NameEntry.TheVariants as names
use Rattle.dds_source.specs.declared.specifications.LengthEntry.{LengthEntry}
use Rattle.dds_source.specs.declared.specifications.LengthEntry.TheVariants.{Exactly}
use Rattle.text_lines.specs.Decimal.{is_digit}
use Rattle.dds_source.specs.Characters.{is_letter}
use Rattle.dds_source.specs.Lines.{next_number}
use Rattle.dds_source.specs.Numbers.{decimal}

-- Literals.

-- each apostrophe twice
abbrev pub doubled : List ℕ → List ℕ
doubled [] = []
doubled (c ∷ cs) = if c == 39 then 39 ∷ 39 ∷ doubled cs else c ∷ doubled cs

-- the literal of a text
abbrev pub literal : List ℕ → List ℕ
literal text = 39 ∷ (doubled text ++ 39 ∷ [])

-- Lines without keywords.

-- what may be written
pub data WrittenKind : Type 0 where
  a_record : WrittenKind
  a_field : WrittenKind
  a_key : WrittenKind

-- the entries of a line: digits, or none, for the length and the decimal positions, a letter or a blank for the data type and the usage
pub record Written : Type 0 where
  pub kind : WrittenKind
  pub name : List ℕ
  pub is_reference : Bool
  pub digits : List ℕ
  pub data_type : ℕ
  pub decimals : List ℕ
  pub usage : ℕ

abbrev pub is_letter_or_blank : ℕ → Bool
is_letter_or_blank c = is_letter c || (c == 32)

-- the entries fit their columns
pub record Fits (w : Written) : Type 0 where
  pub named : is_name w.name ≡ true
  pub are_digits : list_all is_digit w.digits ≡ true
  pub five : length w.digits ≤ 5
  pub data_type : is_letter_or_blank w.data_type ≡ true
  pub are_decimals : list_all is_digit w.decimals ≡ true
  pub two : length w.decimals ≤ 2
  pub usage : is_letter_or_blank w.usage ≡ true

abbrev pub AllFit : List Written → Type 0
AllFit [] = Unit {0}
AllFit (w ∷ ws) = Fits w × AllFit ws

-- position 17
abbrev pub kind_letter : WrittenKind → ℕ
kind_letter a_record = 82
kind_letter a_field = 32
kind_letter a_key = 75

-- with blanks behind it, and with blanks ahead of it
abbrev pub left : ℕ → List ℕ → List ℕ
left width cs = cs ++ replicate (width - length cs) 32

abbrev pub right : ℕ → List ℕ → List ℕ
right width cs = replicate (width - length cs) 32 ++ cs

-- positions 1 to 44 of a line: A in 6, the kind in 17, the name from 19 on, and so on
abbrev pub columns_text : ℕ → List ℕ → ℕ → List ℕ → ℕ → List ℕ → ℕ → List ℕ
columns_text kind name reference digits data_type decimals usage =
    replicate 5 32 ++ 65 ∷ replicate 10 32 ++ kind ∷ 32 ∷ name ++ reference ∷ digits ++ data_type ∷ decimals ++ usage ∷ replicate 6 32

abbrev pub line_written : Written → List ℕ
line_written w = columns_text (kind_letter w.kind) (left 10 w.name) (if w.is_reference then 82 else 32) (right 5 w.digits) w.data_type (right 2 w.decimals) w.usage

-- a line feed behind each line
abbrev pub text_written : List Written → List ℕ
text_written ws = flat_map (λ w. line_written w ++ 10 ∷ []) ws

-- What was written.

abbrev pub kind_said : WrittenKind → SpecificationKind
kind_said a_record = kinds.Record
kind_said a_field = kinds.Field
kind_said a_key = kinds.Key

abbrev pub number_said : List ℕ → Option ℕ
number_said [] = None
number_said (d ∷ ds) = Some (decimal (d ∷ ds))

abbrev pub length_said : List ℕ → Option LengthEntry
length_said [] = None
length_said (d ∷ ds) = Some (Exactly (decimal (d ∷ ds)))

abbrev pub letter_said : ℕ → Option ℕ
letter_said c = if c == 32 then None else Some c

abbrev pub columns_said : Written → Columns
columns_said w = record { reference = w.is_reference; length = length_said w.digits; data_type = letter_said w.data_type; decimals = number_said w.decimals; usage = letter_said w.usage }

-- the number of the last of lines from a number on
abbrev pub last_said : ℕ → List Written → ℕ
last_said number [] = number
last_said number (w ∷ []) = number
last_said number (w ∷ v ∷ ws) = last_said (next_number number) (v ∷ ws)

-- the specifications that lines from a number on say
abbrev pub said : ℕ → List Written → List Specification
said number [] = []
said number (w ∷ ws) = record { line = number; kind = kind_said w.kind; name = names.Named w.name; columns = columns_said w; keywords = [] } ∷ said (next_number number) ws
