use Rattle.forced_calls.proofs.ForcedLemmas.{asked}
use Rattle.forced_calls.proofs.laws.asked_is_forced.Goals as goal

pub returns : goal.returns
returns c = asked
