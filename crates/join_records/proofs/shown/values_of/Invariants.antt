use Rattle.std.proofs.Common.{◌≡◌, ◌++◌, Bor, List, ℕ, Some, drop, map}
use Rattle.std.specs.List.{AllByRecursion}
use Rattle.join_records.specs.Shown.{HasValueIn, visible_in}
use Rattle.join_records.proofs.shown.values_of.Given as goal

abbrev pub invariant-loop-field : goal.invariant-loop-field
invariant-loop-field l = record {
  there : AllByRecursion (HasValueIn (map (λ (image : Bor (List ℕ)). image.now) l.images)) (drop l.field-index l.fields);
  same : map Some l.values.items ++ visible_in (map (λ (image : Bor (List ℕ)). image.now) l.images) (drop l.field-index l.fields) ≡ visible_in (map (λ (image : Bor (List ℕ)). image.now) l.images) l.fields;
}
