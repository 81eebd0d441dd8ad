use Rattle.std.proofs.Common.{◌≡◌, ◌++◌, drop}
use Rattle.std.specs.List.{AllByRecursion}
use Rattle.file_model.specs.Views.{view_of}
use Rattle.view_rules.specs.Shown.{HasShown}
use Rattle.view_rules.proofs.viewing.view.Given as goal

abbrev pub invariant-loop-field : goal.invariant-loop-field
invariant-loop-field l = record {
  there : AllByRecursion (HasShown l.image) (drop l.field-index l.fields);
  same : l.shown.items ++ view_of (drop l.field-index l.fields) l.image ≡ view_of l.fields l.image;
}
