-- The variables' values, and those that they had when the last request was made.
use Rattle.std.specs.Prelude.{List, [], ◌∷◌, slice_set}
use Rattle.field_types.specs.declared.values.Value.{Value}
use Rattle.job_language.specs.declared.variables.Change.{Change}

-- the values without the changes, the last of which is undone first
abbrev pub without : List Change → List Value → List Value
without [] values = values
without (change ∷ changes) values = slice_set (without changes values) change.variable change.before

pub record Held : Type 0 where
  pub now : List Value
  pub before : List Value
