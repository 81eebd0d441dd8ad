-- Which entry tells what was done with a range. (Journal Management, "Journal code finder".)
use Rattle.std.specs.Prelude.{ℕ}
use Rattle.entry_codec.specs.declared.kinds.EntryKind.{EntryKind}
use Rattle.entry_codec.specs.declared.kinds.EntryKind.TheVariants.{ChangesApplied, ChangesRemoved}
use Rattle.range_requests.specs.declared.tells.Way.{Way}
use Rattle.range_requests.specs.declared.tells.Way.TheVariants.{Forward, Back}

abbrev pub kind_of : Way → (first last changes : ℕ) → EntryKind
kind_of Forward first last changes = ChangesApplied first last changes
kind_of Back first last changes = ChangesRemoved first last changes
