-- What it is that each answered request keeps what holds of keys, and what is left when open commit cycles are rolled back. (Our own.)
use Rattle.std.specs.Prelude.{ℕ, ◌+◌, List, [], ◌∷◌}
use Rattle.library_steps.specs.State.{State, Memory, memory_of}
use Rattle.library_steps.specs.Change.{Change}
use Rattle.library_steps.specs.Commitment.{rolled_back}
use Rattle.joint_state.specs.Sound.{Does, after}
use Rattle.key_state.specs.Keys.{AreUnique, KeysStand}

-- the keys of a sound library stand after whatever a running job asks of it and is done
abbrev pub AreKeysKept : Type 0
AreKeysKept = (s : State) (done : Change) → Does s done → KeysStand (memory_of s) → KeysStand (memory_of (after s done))

-- no unique path has equal keys as the members are
abbrev pub HasUniqueKeys : Memory → Type 0
HasUniqueKeys m = AreUnique m m.members

-- the memory once the jobs at these places, counted from 0, have rolled back in this order
abbrev pub all_rolled_back : List ℕ → Memory → Memory
all_rolled_back [] m = m
all_rolled_back (place ∷ places) m = all_rolled_back places (rolled_back (place + 1) m)
