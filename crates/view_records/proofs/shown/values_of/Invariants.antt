use Rattle.std.proofs.Common.{◌≡◌, ◌++◌, Some, drop, map}
use Rattle.std.specs.List.{AllByRecursion}
use Rattle.view_records.specs.Through.{HasValueIn, value_in}
use Rattle.view_records.proofs.shown.values_of.Given as goal

abbrev pub invariant-loop-logical : goal.invariant-loop-logical
invariant-loop-logical l = record {
  there : AllByRecursion (HasValueIn l.image) (drop l.logical-index l.fields);
  same : map Some l.values.items ++ map (value_in l.image) (drop l.logical-index l.fields) ≡ map (value_in l.image) l.fields;
}
