-- What is compared in a test: a number, or a text whose bytes lie in one place or in pieces of the record. (Our own.)
use Rattle.std.specs.Prelude.{ℕ, ◌≤◌, List, length}
use Rattle.std.specs.List.{flat_map, AllByRecursion}
use Rattle.field_types.specs.declared.values.Value.{Value}
use Rattle.field_types.specs.declared.values.Value.TheVariants as values
use Rattle.field_values.specs.FieldBytes.{filled}
use Rattle.file_model.specs.Views.{piece_of}
use Rattle.view_rules.specs.Shown.{IsWithin}
use Rattle.view_rules.specs.declared.texts.TextBytes.{TextBytes}
use Rattle.view_rules.specs.declared.texts.TextBytes.TheVariants.{Slice, Pieces}
use Rattle.view_rules.specs.declared.texts.ShownText.{ShownText}
use Rattle.view_rules.specs.declared.operands.Operand.{Operand}
use Rattle.view_rules.specs.declared.operands.Operand.TheVariants.{Number, Text}

abbrev pub bytes_of : TextBytes → List ℕ
bytes_of (Slice bytes) = bytes.now
bytes_of (Pieces pieces image) = flat_map (piece_of image.now) pieces.now

-- the text with the blanks behind it
abbrev pub text_of : ShownText → List ℕ
text_of t = filled t.width (bytes_of t.bytes)

abbrev pub HasBytes : TextBytes → Type 0
HasBytes (Slice bytes) = Unit {0}
HasBytes (Pieces pieces image) = AllByRecursion (IsWithin image.now) pieces.now

-- the bytes are there, and fit the text
pub record IsText (t : ShownText) : Type 0 where
  pub there : HasBytes t.bytes
  pub room : length (bytes_of t.bytes) ≤ t.width

abbrev pub value_of : Operand → Value
value_of (Number n) = values.Number n
value_of (Text t) = values.Chars (text_of t)

abbrev pub IsOperand : Operand → Type 0
IsOperand (Number n) = Unit {0}
IsOperand (Text t) = IsText t
