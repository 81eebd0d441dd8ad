use Rattle.restart_laws.proofs.SoundLemmas.{restarted-sound}
use Rattle.restart_laws.proofs.laws.restarted_libraries_are_sound.Goals as goal

pub returns : goal.returns
returns c = restarted-sound
