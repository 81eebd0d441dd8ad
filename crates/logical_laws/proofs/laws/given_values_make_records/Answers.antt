use Rattle.logical_laws.proofs.GivenLemmas.{given-makes}
use Rattle.logical_laws.proofs.laws.given_values_make_records.Goals as goal

pub returns : goal.returns
returns c = given-makes
