use Rattle.std.proofs.Common.{length, ◌≡◌}
use Rattle.dds_logical.specs.JudgedKeys.{named_of}
use Rattle.dds_logical.proofs.keys.named_of.Given as goal

abbrev pub invariant-loop-rest : goal.invariant-loop-rest
invariant-loop-rest l = named_of l.name l.rest ≡ named_of l.name l.named

abbrev pub decreases-loop-rest : goal.decreases-loop-rest
decreases-loop-rest l = length l.rest
