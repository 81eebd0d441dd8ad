use Rattle.std.proofs.Common.{◌≡◌, drop}
use Rattle.std.specs.List.{AllByRecursion}
use Rattle.file_model.specs.Selection.{selected_by, selects}
use Rattle.view_rules.specs.Shown.{HasConditions}
use Rattle.view_rules.proofs.selection.selects.Given as goal

abbrev pub invariant-loop-statement : goal.invariant-loop-statement
invariant-loop-statement l = record {
  there : AllByRecursion (HasConditions l.image) (drop l.statement-index l.rules.statements);
  same : selected_by l.rules.all l.last (drop l.statement-index l.rules.statements) l.image ≡ selects l.rules l.image;
}
