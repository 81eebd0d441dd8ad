use Rattle.replay_step.proofs.SavedLemmas.{saved-left}
use Rattle.replay_step.proofs.replay.Replay.from_saved.Goals as goal

pub returns-clause-journal : goal.returns-clause-journal
returns-clause-journal c d breaks j h = rw c.new.ensures (saved-left d breaks j c.args.last c.args.begun c.args.files c.args.members h)
