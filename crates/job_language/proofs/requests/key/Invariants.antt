use Rattle.std.proofs.Common.{◌≡◌, ◌++◌, drop, option_map}
use Rattle.job_language.specs.Requests.{key_of}
use Rattle.job_language.proofs.requests.key.Given as goal

abbrev pub invariant-loop-operand : goal.invariant-loop-operand
invariant-loop-operand l = option_map (λ more. l.key.items ++ more) (key_of l.values (drop l.operand-index l.operands)) ≡ key_of l.values l.operands
