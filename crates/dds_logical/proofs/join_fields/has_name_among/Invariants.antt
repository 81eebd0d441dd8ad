use Rattle.std.proofs.Common.{◌≡◌, length}
use Rattle.dds_logical.specs.KeywordArguments.{names_among}
use Rattle.dds_logical.specs.JoinSteps.{is_one_named}
use Rattle.dds_logical.proofs.join_fields.has_name_among.Given as goal

abbrev pub invariant-loop-rest : goal.invariant-loop-rest
invariant-loop-rest l = is_one_named (names_among l.rest) ≡ is_one_named (names_among l.arguments)

abbrev pub decreases-loop-rest : goal.decreases-loop-rest
decreases-loop-rest l = length l.rest
