use Rattle.restart_laws.proofs.SoundLemmas.{files-left-as}
use Rattle.restart_laws.proofs.laws.physical_files_are_left.Goals as goal

pub returns : goal.returns
returns c = files-left-as
