use Rattle.record_fmt.specs.Choice.{given_of}
use Rattle.record_fmt.proofs.WrittenLemmas.{IsFilled}
use Rattle.record_fmt.proofs.packing.fill.Given as goal

abbrev pub invariant-loop-i : goal.invariant-loop-i
invariant-loop-i l = IsFilled l.fields (given_of l.values) l.keeps l.fn.image l.image l.i
