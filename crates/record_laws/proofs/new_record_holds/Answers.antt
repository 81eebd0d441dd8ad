use Rattle.record_laws.proofs.HeldLemmas.{new-record}
use Rattle.record_laws.proofs.new_record_holds.Goals as goal

pub returns : goal.returns
returns c = new-record
