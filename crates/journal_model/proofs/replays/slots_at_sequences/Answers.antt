use Rattle.journal_model.proofs.ReplayLemmas.{slot_at-replay}
use Rattle.journal_model.proofs.replays.slots_at_sequences.Goals as goal

pub returns : goal.returns
returns c = slot_at-replay
