-- What contracts see of a catalogue: the files, and its room for more apart from them. (Our own.)
use Rattle.std.specs.Prelude.{ℕ}
use Rattle.library_model.specs.Named.{Named}
use Rattle.lawful_states.specs.State.{FileState}

-- the files in order of creation; for how many more files there is room, and for how many more members
pub record Files : Type 0 where
  pub files : Named FileState
  pub room : ℕ
  pub member_room : ℕ
