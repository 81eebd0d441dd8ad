use Rattle.std.proofs.Common.{◌≡◌, ◌++◌, drop, option_map}
use Rattle.job_language.specs.Requests.{given_of}
use Rattle.job_language.proofs.requests.given.Given as goal

abbrev pub invariant-loop-operand : goal.invariant-loop-operand
invariant-loop-operand l = option_map (λ more. l.given ++ more) (given_of l.values (drop l.operand-index l.operands)) ≡ given_of l.values l.operands
