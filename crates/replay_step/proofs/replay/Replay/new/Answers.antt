use Rattle.journal_replay.proofs.EmptyLemmas.{empty-left}
use Rattle.replay_step.proofs.replay.Replay.new.Goals as goal

pub returns-clause-journal : goal.returns-clause-journal
returns-clause-journal c d = rw (c.new.ensures, c.new-2.ensures.members, c.new-2.ensures.next, c.new-3.ensures) (empty-left d)
