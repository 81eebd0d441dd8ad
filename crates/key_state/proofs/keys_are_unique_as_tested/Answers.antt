use Rattle.key_state.proofs.TestedLemmas.{tested-unique, unique-tested}
use Rattle.key_state.proofs.keys_are_unique_as_tested.Goals as goal

pub returns : goal.returns
returns c = λ m. (unique-tested m, tested-unique m)
