-- What a stretch of the journal that was read is of its state. (Our own.)
use Rattle.std.specs.Prelude.{◌≡◌, ◌+◌, Result, Ok, Err, List}
use Rattle.entry_codec.specs.declared.entries.Entry.{Entry}
use Rattle.library_steps.specs.State.{State}
use Rattle.record_changes.specs.Sound.{MayBeRead}
use Rattle.journal_reads.specs.Stretches.{EntriesFrom, IsStretchOf}

-- the stretch is a part of these entries, as which the journal of the state may be read; where the store tells, they are those that were deposited
pub record IsReadOf (tells : Type 0) (s : State) (stretch : EntriesFrom) (read : List Entry) : Type 0 where
  pub may : MayBeRead s read
  pub own : tells → read ≡ s.entries
  pub part : IsStretchOf (s.gone + 1) read stretch

-- what was read is such a stretch, where anything was
abbrev pub HasRead : {E : Type 0} → (tells : Type 0) → State → Result EntriesFrom E → Type 0
HasRead tells s (Ok stretch) = (read : List Entry) × IsReadOf tells s stretch read
HasRead tells s (Err fault) = Unit {0}
