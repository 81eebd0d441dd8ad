use Rattle.record_laws.proofs.HeldLemmas.{changed-record}
use Rattle.record_laws.proofs.changed_record_holds.Goals as goal

pub returns : goal.returns
returns c = changed-record
