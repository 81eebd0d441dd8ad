use Rattle.run_laws.proofs.BeginLemmas.{begun-sound}
use Rattle.run_laws.proofs.jobs_begin_in_a_sound_library.Goals as goal

pub returns : goal.returns
returns c = λ s names sound none. begun-sound s names sound none
