-- What a library may have read of its journal: its own entries, among others.
use Rattle.std.proofs.Common.{refl}
use Rattle.lawful_states.specs.State.{State}
use Rattle.joint_state.specs.Sound.{IsSound, MayBeRead}

pub own-read : (s : State) → IsSound s → MayBeRead s s.entries
own-read s sound = record { count = refl; numbered = sound.numbered; told = sound.joint.told.records }
