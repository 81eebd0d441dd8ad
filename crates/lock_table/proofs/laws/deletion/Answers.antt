use Rattle.lock_table.proofs.LawLemmas.{freed-with_lock_by}
use Rattle.lock_table.proofs.laws.deletion.Goals as goal

pub returns : goal.returns
returns c = freed-with_lock_by
