use Rattle.journal_model.proofs.SequenceLemmas.{applied-touched, applied-others_of}
use Rattle.journal_model.proofs.ranges.applying_goes_forward.Goals as goal

pub returns : goal.returns
returns c = record { touched = applied-touched; others = applied-others_of }
