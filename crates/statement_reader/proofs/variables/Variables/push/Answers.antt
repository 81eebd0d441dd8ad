use Rattle.std.proofs.Common.{◌∙◌, ◌++◌, ◌∷◌, [], nat_eq}
use Rattle.std.proofs.lemmas.Bool.{cond-false}
use Rattle.std.specs.Cmp.Lexicographic.{pointwise}
use Rattle.std.specs.List.{list_any}
use Rattle.statement_reader.proofs.VariableLemmas.{absent_nowhere}
use Rattle.statement_reader.proofs.variables.Variables.push.Goals as goal

pub returns-clause-pushed : goal.returns-clause-pushed
returns-clause-pushed c =
    rw (← c.self.view_is)
    (c.in_ok-_new.ensures.keys
    ∙ cond-false (list_any (pointwise nat_eq c.args.name) c.self.inside.names.keys) c.self.inside.names.keys (c.self.inside.names.keys ++ c.args.name ∷ [])
    (absent_nowhere (pointwise nat_eq c.args.name) c.self.inside.names.keys (rw (← c.self.view_is) at c.requires.absent)))
