use Rattle.std.proofs.Common.{◌≡◌, drop}
use Rattle.std.specs.List.{list_any}
use Rattle.dds_physical.specs.Defaults.{literal_value, is_refused}
use Rattle.dds_logical.proofs.selections.refuses_one.Given as goal

abbrev pub invariant-loop-argument : goal.invariant-loop-argument
invariant-loop-argument l = list_any (λ a. is_refused l.ty (literal_value a)) (drop l.argument-index l.arguments) ≡ list_any (λ a. is_refused l.ty (literal_value a)) l.arguments
