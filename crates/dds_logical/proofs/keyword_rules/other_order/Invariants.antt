use Rattle.std.proofs.Common.{length, ◌≡◌}
use Rattle.dds_physical.specs.WholeFile.{other_order}
use Rattle.dds_logical.proofs.keyword_rules.other_order.Given as goal

abbrev pub invariant-loop-rest : goal.invariant-loop-rest
invariant-loop-rest l = other_order l.rest ≡ other_order l.keywords

abbrev pub decreases-loop-rest : goal.decreases-loop-rest
decreases-loop-rest l = length l.rest
