-- The select and omit statements of the rows: over records of one character and a number.
use Rattle.std.specs.Prelude.{ℕ, List, [], ◌∷◌, ◌++◌, Option, None, codes}
use Rattle.member_slots.specs.Members.{NumberedMembers}
use Rattle.file_model.specs.declared.views.ViewField.{ViewField}
use Rattle.file_model.specs.declared.rules.Relation.TheVariants.{Equals, Above}
use Rattle.file_model.specs.declared.rules.Test.{Test}
use Rattle.file_model.specs.declared.rules.Test.TheVariants.{Literal}
use Rattle.file_model.specs.declared.rules.Condition.{Condition}
use Rattle.file_model.specs.declared.rules.Choice.{Choice}
use Rattle.file_model.specs.declared.rules.Choice.TheVariants.{Select, Omit}
use Rattle.file_model.specs.declared.rules.Statement.{Statement}
use Rattle.file_model.specs.declared.rules.Rules.{Rules}
use Rattle.file_rows.specs.Files.{three_digits, characters, field_at, number, whole, text, of_records}

abbrev pub letter : ViewField
letter = field_at (characters 1) 0

abbrev pub amount : ViewField
amount = field_at three_digits 1

abbrev pub of_letter : List ℕ → ℕ → List ℕ
of_letter bytes n = bytes ++ number n

abbrev pub condition : ViewField → Test → Condition
condition field test = record { field = field; test = test }

-- a statement of these conditions
abbrev pub statement : Choice → List Condition → Statement
statement choice conditions = record { choice = choice; conditions = conditions }

abbrev pub rules : List Statement → Option Choice → Rules
rules statements all = record { statements = statements; all = all }

-- one statement of one condition
abbrev pub one_test : Choice → ViewField → Test → Rules
one_test choice field test = rules (statement choice (condition field test ∷ []) ∷ []) None

-- S A COMP(EQ 'X'), then O B COMP(GT 10)
abbrev pub x_or_not_above_ten : List Statement
x_or_not_above_ten =
    statement Select (condition letter (Literal Equals (text (codes "X"))) ∷ [])
    ∷ statement Omit (condition amount (Literal Above (whole 10)) ∷ []) ∷ []

-- ('X', 20), ('Y', 20), ('Y', 5)
abbrev pub lettered : NumberedMembers
lettered = of_records 1 (of_letter (codes "X") 20 ∷ of_letter (codes "Y") 20 ∷ of_letter (codes "Y") 5 ∷ []) ∷ []
