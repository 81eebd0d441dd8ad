use Rattle.entry_sizes.proofs.SizeLemmas.{body-size, entry-size, entry-bytes}
use Rattle.entry_sizes.proofs.sizes_are_lengths.Goals as goal

pub returns-clause-bodies : goal.returns-clause-bodies
returns-clause-bodies c = body-size

pub returns-clause-entries : goal.returns-clause-entries
returns-clause-entries c = entry-size

pub returns-clause-blocks : goal.returns-clause-blocks
returns-clause-blocks c = entry-bytes
