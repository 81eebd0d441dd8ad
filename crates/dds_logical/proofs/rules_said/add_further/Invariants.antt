use Rattle.std.proofs.Common.{◌≡◌, ◌++◌, drop}
use Rattle.dds_logical.specs.Selections.{field_to_test}
use Rattle.dds_logical.specs.Tested.{further_conditions}
use Rattle.dds_logical.proofs.rules_said.add_further.Given as goal

abbrev pub invariant-loop-line : goal.invariant-loop-line
invariant-loop-line l = l.conditions ++ further_conditions (field_to_test l.named l.base) (drop l.line-index l.lines)
    ≡ l.fn.conditions ++ further_conditions (field_to_test l.named l.base) l.lines
