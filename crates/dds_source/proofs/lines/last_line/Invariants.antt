use Rattle.std.proofs.Common.{◌≡◌, length}
use Rattle.dds_source.specs.Lines.{last_number}
use Rattle.dds_source.proofs.lines.last_line.Given as goal

abbrev pub invariant-loop-rest : goal.invariant-loop-rest
invariant-loop-rest l = last_number l.number l.rest ≡ last_number 1 l.fn.text

abbrev pub decreases-loop-rest : goal.decreases-loop-rest
decreases-loop-rest l = length l.rest
