use Rattle.library_kept.proofs.EmptyLemmas.{begun-sound}
use Rattle.library_kept.proofs.empty_library_is_sound.Goals as goal

pub returns : goal.returns
returns c = begun-sound
