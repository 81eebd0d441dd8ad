-- The open commit cycles of a library are within their limits, so that the entries that take them back fit into a block. (Our own.)
use Rattle.std.specs.Prelude.{◌≤◌}
use Rattle.library_steps.specs.declared.limits.TheConstants.{MOST_GROUP_CHANGES, MOST_GROUP_BYTES}
use Rattle.library_steps.specs.State.{State, memory_of}
use Rattle.library_steps.specs.SlotChange.{open_changes, open_bytes}

pub record GroupsWithin (s : State) : Type 0 where
  pub changes : open_changes (memory_of s) ≤ MOST_GROUP_CHANGES
  pub bytes : open_bytes (memory_of s) ≤ MOST_GROUP_BYTES
