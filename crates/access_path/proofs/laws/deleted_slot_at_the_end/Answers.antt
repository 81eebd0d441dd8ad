use Rattle.access_path.proofs.EntryLemmas.{kept-deleted}
use Rattle.access_path.proofs.laws.deleted_slot_at_the_end.Goals as goal

pub returns : goal.returns
returns c = kept-deleted
