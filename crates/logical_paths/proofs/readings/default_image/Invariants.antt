use Rattle.std.proofs.Common.{◌≡◌, ◌++◌, drop}
use Rattle.std.specs.List.{AllByRecursion}
use Rattle.file_model.specs.Views.{default_image}
use Rattle.view_rules.specs.Stored.{HasDefault}
use Rattle.logical_paths.specs.Steps.{HasType}
use Rattle.logical_paths.proofs.readings.default_image.Given as goal

abbrev pub invariant-loop-field : goal.invariant-loop-field
invariant-loop-field l = record {
  allowed : AllByRecursion HasType (drop l.field-index l.fields);
  fits : AllByRecursion HasDefault (drop l.field-index l.fields);
  same : l.image.items ++ default_image (drop l.field-index l.fields) ≡ default_image l.fields;
}
