use Rattle.std.proofs.Common.{◌≡◌, ◌++◌, drop}
use Rattle.dds_logical.specs.Selections.{field_to_test}
use Rattle.dds_logical.specs.Tested.{conditions_of}
use Rattle.dds_logical.proofs.rules_said.add_conditions.Given as goal

abbrev pub invariant-loop-keyword : goal.invariant-loop-keyword
invariant-loop-keyword l = l.conditions ++ conditions_of (field_to_test l.named l.base) l.line (drop l.keyword-index l.keywords)
    ≡ l.fn.conditions ++ conditions_of (field_to_test l.named l.base) l.line l.keywords
