use Rattle.field_laws.proofs.FormLemmas.{written-form}
use Rattle.field_laws.proofs.WrittenLemmas.{stands-written}
use Rattle.field_laws.proofs.written_stands.Goals as goal

pub returns : goal.returns
returns c = record { stands = stands-written; form = written-form }
