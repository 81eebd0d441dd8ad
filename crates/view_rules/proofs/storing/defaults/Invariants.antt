use Rattle.std.proofs.Common.{◌≡◌, ◌++◌, ◌+◌, true, drop, length}
use Rattle.std.specs.List.{AllByRecursion}
use Rattle.file_model.specs.Layout.{lies_from, record_length}
use Rattle.file_model.specs.Views.{default_image}
use Rattle.view_rules.specs.Stored.{HasDefault}
use Rattle.view_rules.proofs.storing.defaults.Given as goal

abbrev pub invariant-loop-field : goal.invariant-loop-field
invariant-loop-field l = record {
  fits : AllByRecursion HasDefault (drop l.field-index l.fields);
  lies : lies_from (length l.image.items) (drop l.field-index l.fields) ≡ true;
  same : l.image.items ++ default_image (drop l.field-index l.fields) ≡ default_image l.fields;
  long : length l.image.items + record_length (drop l.field-index l.fields) ≡ record_length l.fields;
}
