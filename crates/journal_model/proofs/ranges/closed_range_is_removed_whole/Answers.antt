use Rattle.journal_model.proofs.RangeLemmas.{remove_range-whole}
use Rattle.journal_model.proofs.ranges.closed_range_is_removed_whole.Goals as goal

pub returns : goal.returns
returns c = remove_range-whole
