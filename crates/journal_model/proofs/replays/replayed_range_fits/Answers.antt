use Rattle.journal_model.proofs.ReplayLemmas.{apply-replayed, remove-replayed}
use Rattle.journal_model.proofs.replays.replayed_range_fits.Goals as goal

pub returns : goal.returns
returns c = record { applied = apply-replayed; removed = remove-replayed }
