-- What the entries of a line are, position by position, and what is wrong with them.
-- (DDS for Physical and Logical Files, "Positions 1 through 44".)
use Rattle.std.specs.Prelude.{ℕ, ◌+◌, Bool, not, ◌&&◌, ◌||◌, ◌==◌, nat_le, nat_eq, List, [], ◌∷◌, ◌++◌, length, drop, Option, Some, None, is_none, if◌then◌else◌, codes}
use Rattle.std.specs.List.{before_first}
use lib.Pointwise.{pointwise}
use Rattle.text_lines.specs.SystemName.{is_name}
use Rattle.dds_source.specs.declared.lines.Line.{Line}
use Rattle.dds_source.specs.declared.faults.DdsFault.{DdsFault}
use Rattle.dds_source.specs.declared.faults.DdsCause.TheVariants.{BadColumn, BadName, BadNumber}
use Rattle.dds_source.specs.declared.specifications.SpecificationKind.{SpecificationKind}
use Rattle.dds_source.specs.declared.specifications.SpecificationKind.TheVariants as kinds
use Rattle.dds_source.specs.declared.specifications.NameEntry.{NameEntry}
use Rattle.dds_source.specs.declared.specifications.NameEntry.TheVariants as names
use Rattle.dds_source.specs.declared.specifications.Columns.{Columns}
use Rattle.text_lines.specs.Lines.{is_blank, are_blanks}
use Rattle.dds_source.specs.Lines.{at, entry}
use Rattle.dds_source.specs.Numbers.{signed_entry, unsigned_entry}

-- the fault alone where there is one
abbrev pub when : Bool → DdsFault → List DdsFault
when wrong fault = if wrong then fault ∷ [] else []

-- Positions.

-- positions that stay blank; 7 has an asterisk only in a comment
abbrev pub stays_blank : ℕ → Bool
stays_blank column = (nat_le 7 column && nat_le column 16) || (column == 18) || (nat_le 39 column && nat_le column 44)

-- R, K, S, O or J
abbrev pub is_kind : ℕ → Bool
is_kind c = (c == 82) || (c == 75) || (c == 83) || (c == 79) || (c == 74)

-- A may stand in 6, the letter of a kind in 17, R in 29, nothing in those that stay blank; the other positions have rules of their own
abbrev pub may_stand : ℕ → ℕ → Bool
may_stand column c =
    not (stays_blank column || (column == 6) || (column == 17) || (column == 29)) || is_blank c
    || ((column == 6) && (c == 65)) || ((column == 17) && is_kind c) || ((column == 29) && (c == 82))

-- the faults of the characters from a column on
abbrev pub column_faults : ℕ → ℕ → List ℕ → List DdsFault
column_faults line column [] = []
column_faults line column (c ∷ cs) = when (not (may_stand column c)) (record { line = line; column = column; cause = BadColumn }) ++ column_faults line (column + 1) cs

-- Names.

-- a name, or in a key line *NONE, and blanks behind it; nothing but blanks; None where it is neither
abbrev pub name_entry : Bool → List ℕ → Option NameEntry
name_entry is_key cs =
    let word = before_first is_blank cs in
    if are_blanks cs then Some names.Blank
    else (if not (are_blanks (drop (length word) cs)) then None
    else (if is_name word then Some (names.Named word)
    else (if is_key && pointwise nat_eq word (codes "*NONE") then Some names.StarNone
    else None)))

-- the name of a line
abbrev pub name_of_line : Line → Option NameEntry
name_of_line line = name_entry (at line 17 == 75) (entry line 19 28)

-- a record format, a key or an entry in 29 to 38 has a name
abbrev pub wants_name : Line → Bool
wants_name line = (at line 17 == 82) || (at line 17 == 75) || not (are_blanks (entry line 29 38))

-- no name where there should be one, or one where there should be none, or no name at all
abbrev pub is_name_wrong : Line → Bool
is_name_wrong line =
    is_none (name_of_line line)
    || (are_blanks (entry line 19 28) && wants_name line)
    || (not (are_blanks (entry line 19 28)) && (at line 17 == 74))

-- Numbers.

-- position 29 refers to another field, whose length a sign adjusts
abbrev pub is_reference : Line → Bool
is_reference line = at line 29 == 82

abbrev pub is_length_wrong : Line → Bool
is_length_wrong line = not (are_blanks (entry line 30 34)) && is_none (signed_entry (is_reference line) (entry line 30 34))

abbrev pub are_decimals_wrong : Line → Bool
are_decimals_wrong line = not (are_blanks (entry line 36 37)) && is_none (unsigned_entry (entry line 36 37))

-- all that is wrong with the entries of a line
unfoldable pub line_faults : Line → List DdsFault
line_faults line =
    column_faults line.number 1 line.entries
    ++ when (is_name_wrong line) (record { line = line.number; column = 19; cause = BadName })
    ++ when (is_length_wrong line) (record { line = line.number; column = 30; cause = BadNumber })
    ++ when (are_decimals_wrong line) (record { line = line.number; column = 36; cause = BadNumber })

-- What the entries say.

-- what position 17 says, and behind a select, omit or further condition what a blank there says
abbrev pub kind_of : Bool → ℕ → SpecificationKind
kind_of is_condition c =
    if c == 82 then kinds.Record
    else (if c == 75 then kinds.Key
    else (if c == 83 then kinds.Select
    else (if c == 79 then kinds.Omit
    else (if c == 74 then kinds.Join
    else (if is_condition then kinds.And
    else kinds.Field)))))

-- a character, or None for a blank
abbrev pub letter : ℕ → Option ℕ
letter c = if is_blank c then None else Some c

-- the name of a line; Blank where it is wrong
abbrev pub name_or_blank : Option NameEntry → NameEntry
name_or_blank None = names.Blank
name_or_blank (Some name) = name

-- the entries of positions 29 to 38
unfoldable pub columns_of : Line → Columns
columns_of line = record {
  reference = is_reference line;
  length = signed_entry (is_reference line) (entry line 30 34);
  data_type = letter (at line 35);
  decimals = unsigned_entry (entry line 36 37);
  usage = letter (at line 38);
}
