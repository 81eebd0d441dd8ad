use Rattle.journal_model.proofs.ClosedLemmas.{is_closed-append}
use Rattle.journal_model.proofs.ranges.closed_ranges_join.Goals as goal

pub returns : goal.returns
returns c = is_closed-append
