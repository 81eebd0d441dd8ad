use Rattle.keys_kept.proofs.RolledLemmas.{rolled-unique}
use Rattle.keys_kept.proofs.rolled_back_keys_are_unique.Goals as goal

pub returns : goal.returns
returns c = rolled-unique
