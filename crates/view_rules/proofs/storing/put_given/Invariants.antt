use Rattle.std.proofs.Common.{◌≡◌, ◌+◌, None, drop, length}
use Rattle.std.specs.List.{AllByRecursion}
use Rattle.view_rules.specs.Stored.{IsStored, first_refused, with_values}
use Rattle.view_rules.proofs.storing.put_given.Given as goal

abbrev pub invariant-loop-i : goal.invariant-loop-i
invariant-loop-i l = record {
  stored : AllByRecursion (IsStored (length l.fn.image)) (drop l.i l.fields);
  accepted : first_refused (l.i + 1) (drop l.i l.fields) (drop l.i l.given) ≡ None;
  same : with_values (drop l.i l.fields) (drop l.i l.given) l.image ≡ with_values l.fields l.given l.fn.image;
}
