use Rattle.std.proofs.Common.{◌≡◌}
use Rattle.script_numbers.specs.Arithmetic.{trimmed}
use Rattle.script_numbers.proofs.zeros.without_zeros.Given as goal

abbrev pub invariant-loop-scale : goal.invariant-loop-scale
invariant-loop-scale l = trimmed l.scale l.units ≡ trimmed l.fn.number.scale l.fn.number.units

abbrev pub decreases-loop-scale : goal.decreases-loop-scale
decreases-loop-scale l = l.scale
