use Rattle.std.proofs.Common.{◌≡◌, take}
use Rattle.job_language.proofs.variables.Variables.new.Given as goal

abbrev pub invariant-loop-literal : goal.invariant-loop-literal
invariant-loop-literal l = l.values.items ≡ take l.literal-index l.literals
