use Rattle.dds_source.specs.Lines.{positions}
use Rattle.dds_source.proofs.LineLemmas.{padded_is}
use Rattle.dds_source.proofs.lines.positions.Goals as goal

pub returns-clause-value : goal.returns-clause-value
unfolding positions
returns-clause-value c = rw (← c.without_return.ensures, ← c.first_80-kept.ensures.value) (padded_is c.first_80-kept.result.now c.copy_from_slice.new.self c.copy_from_slice.ensures.after)
