use Rattle.std.proofs.Common.{length}
use Rattle.library_parts.proofs.files.+have_few_pairs.Given as goal

abbrev pub decreases-have_few_pairs : goal.decreases-have_few_pairs
decreases-have_few_pairs l = length l.files.now
