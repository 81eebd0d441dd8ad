use Rattle.std.proofs.Common.{◌≡◌, ◌+◌, drop}
use Rattle.std.specs.List.{AllByRecursion}
use Rattle.view_rules.specs.Stored.{IsAllowed, first_refused}
use Rattle.view_rules.proofs.refusals.first_refused.Given as goal

abbrev pub invariant-loop-i : goal.invariant-loop-i
invariant-loop-i l = record {
  allowed : AllByRecursion IsAllowed (drop l.i l.fields);
  same : first_refused (l.i + 1) (drop l.i l.fields) (drop l.i l.given) ≡ first_refused 1 l.fields l.given;
}
