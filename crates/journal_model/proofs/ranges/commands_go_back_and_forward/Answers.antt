use Rattle.journal_model.proofs.RangeLemmas.{remove_range-touched, remove_range-others, apply_range-touched, apply_range-others}
use Rattle.journal_model.proofs.ranges.commands_go_back_and_forward.Goals as goal

pub returns : goal.returns
returns c = record { removed = remove_range-touched; not_removed = remove_range-others; applied = apply_range-touched; not_applied = apply_range-others }
