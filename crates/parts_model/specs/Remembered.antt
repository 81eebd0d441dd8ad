-- What a library's memory has of its state between calls: all of it, but for the journal's entries, each of which has left a blank. (Our own.)
use Rattle.std.specs.Prelude.{◌+◌, length}
use Rattle.library_steps.specs.State.{State}
use Rattle.memory_journal.specs.Blanks.{blanks}

abbrev pub remembered : State → State
remembered s = record s { entries = blanks (s.gone + 1) (length s.entries) }
