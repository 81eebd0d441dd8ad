use Rattle.std.proofs.Common.{◌≡◌, drop}
use Rattle.std.specs.List.{AllByRecursion, list_all}
use Rattle.file_model.specs.Selection.{holds}
use Rattle.view_rules.specs.Shown.{HasCondition}
use Rattle.view_rules.proofs.selection.all_hold.Given as goal

abbrev pub invariant-loop-condition : goal.invariant-loop-condition
invariant-loop-condition l = record {
  there : AllByRecursion (HasCondition l.image) (drop l.condition-index l.conditions);
  same : list_all (holds l.image) (drop l.condition-index l.conditions) ≡ list_all (holds l.image) l.conditions;
}
