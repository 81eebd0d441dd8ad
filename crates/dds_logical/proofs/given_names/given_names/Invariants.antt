use Rattle.std.proofs.Common.{◌≡◌, length}
use Rattle.dds_logical.specs.declared.given_names.GivenNames.TheVariants.{Nothing}
use Rattle.dds_logical.specs.KeywordArguments.{names_among}
use Rattle.dds_logical.specs.JoinSteps.{given_after}
use Rattle.dds_logical.proofs.given_names.given_names.Given as goal

abbrev pub invariant-loop-rest : goal.invariant-loop-rest
invariant-loop-rest l = given_after l.given (names_among l.rest) ≡ given_after Nothing (names_among l.arguments)

abbrev pub decreases-loop-rest : goal.decreases-loop-rest
decreases-loop-rest l = length l.rest
