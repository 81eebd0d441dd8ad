use Rattle.journal_model.proofs.SequenceLemmas.{removed-touched, removed-others}
use Rattle.journal_model.proofs.ranges.removal_goes_back.Goals as goal

pub returns : goal.returns
returns c = record { touched = removed-touched; others = removed-others }
