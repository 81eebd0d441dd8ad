use Rattle.field_laws.proofs.AcceptedLemmas.{held-number}
use Rattle.field_laws.proofs.held_number_is_the_same.Goals as goal

pub returns : goal.returns
returns c = held-number
