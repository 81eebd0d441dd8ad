use Rattle.journal_replay.proofs.WholeLemmas.{whole-none, none-whole}
use Rattle.journal_replay.proofs.laws.pairs_are_whole.Goals as goal

pub returns : goal.returns
returns c = λ d breaks j s l. ((λ h. whole-none d breaks j s l h), (λ h. none-whole d breaks j s l h))
