use Rattle.std.proofs.Common.{◌≡◌, drop, Some}
use Rattle.std.specs.List.{list_any}
use Rattle.file_model.specs.declared.rules.Relation.TheVariants.{Equals}
use Rattle.file_model.specs.Selection.{is_related}
use Rattle.view_rules.specs.Operands.{value_of}
use Rattle.view_rules.proofs.selection.is_one_of.Given as goal

abbrev pub invariant-loop-literal : goal.invariant-loop-literal
invariant-loop-literal l =
    list_any (λ literal. is_related Equals (Some (value_of l.value)) (Some literal)) (drop l.literal-index l.literals)
    ≡ list_any (λ literal. is_related Equals (Some (value_of l.value)) (Some literal)) l.literals
