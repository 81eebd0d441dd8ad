use Rattle.journal_replay.proofs.TestLemmas.{test-stands, stands-test}
use Rattle.journal_replay.proofs.laws.test_tells.Goals as goal

pub returns : goal.returns
returns c = λ d s e. ((λ h. test-stands d s e h), (λ n. stands-test d s e n))
