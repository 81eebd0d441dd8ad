use Rattle.join_records.proofs.ReadLemmas.{is-join}
use Rattle.join_records.proofs.laws.joins_can_be_read.Goals as goal

pub returns : goal.returns
returns c = λ bases view members primary secondaries stand over. is-join bases view members primary secondaries over stand
