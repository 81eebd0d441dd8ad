-- Which characters are letters. Blanks, digits and folding are those of text_lines.
-- (DDS for Physical and Logical Files, "Syntax rules for DDS keywords and parameter values".)
use Rattle.std.specs.Prelude.{ℕ, Bool, ◌&&◌, nat_le}

-- a letter in upper case
abbrev pub is_letter : ℕ → Bool
is_letter c = nat_le 65 c && nat_le c 90
