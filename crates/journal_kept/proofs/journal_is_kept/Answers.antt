use Rattle.journal_kept.proofs.KeptLemmas.{kept}
use Rattle.journal_kept.proofs.journal_is_kept.Goals as goal

pub returns : goal.returns
returns c = kept
