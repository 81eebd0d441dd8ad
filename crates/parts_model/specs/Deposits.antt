-- What a library is once drafts were deposited in it, and once a change was done.
use Rattle.std.specs.Prelude.{◌≡◌, List, ◌++◌}
use Rattle.entry_codec.specs.declared.entries.Draft.{Draft}
use Rattle.library_steps.specs.State.{State, memory_of, with_entries}
use Rattle.library_steps.specs.Change.{Change, deposited}

-- the entries of the drafts stand behind those that were there
abbrev pub with_drafts : State → List Draft → State
with_drafts s drafts = record s { entries = s.entries ++ deposited (memory_of s) drafts }

-- the memory of the change stands, and its entries behind those that were there
abbrev pub Leaves : (old new : State) → Change → Type 0
Leaves old new c = new ≡ with_entries old.gone (old.entries ++ c.entries) c.memory
