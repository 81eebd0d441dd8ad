use Rattle.journal_replay.proofs.EmptyLemmas.{empty-left}
use Rattle.journal_replay.proofs.laws.empty_journal_leaves_nothing.Goals as goal

pub returns : goal.returns
returns c = λ d. empty-left d
