use Rattle.std.proofs.Common.{◌≡◌, ◌++◌, drop}
use Rattle.std.specs.List.{filter_map}
use Rattle.dds_physical.specs.Defaults.{literal_value}
use Rattle.dds_logical.proofs.tests_said.values_said.Given as goal

abbrev pub invariant-loop-argument : goal.invariant-loop-argument
invariant-loop-argument l = l.values ++ filter_map literal_value (drop l.argument-index l.arguments) ≡ filter_map literal_value l.arguments
