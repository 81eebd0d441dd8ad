use Rattle.journal_model.proofs.PartLemmas.{closed_prefix-closed, closed_prefix-most, closed_suffix-closed, closed_suffix-most}
use Rattle.journal_model.proofs.ranges.closed_part_is_longest.Goals as goal

pub returns : goal.returns
returns c = record { prefix = closed_prefix-closed; longer_prefix = closed_prefix-most; suffix = closed_suffix-closed; longer_suffix = closed_suffix-most }
