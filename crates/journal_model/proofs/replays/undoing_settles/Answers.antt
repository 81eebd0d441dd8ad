use Rattle.journal_model.proofs.UndoneLemmas.{all_undone-settled}
use Rattle.journal_model.proofs.replays.undoing_settles.Goals as goal

pub returns : goal.returns
returns c = all_undone-settled
