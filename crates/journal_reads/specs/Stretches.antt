-- Which entries are a stretch of a journal? (Our own.)
use Rattle.std.specs.Prelude.{◌≡◌, ℕ, ◌-◌, ◌≤◌, List, length, take, drop}
use Rattle.entry_codec.specs.declared.entries.Entry.{Entry}

-- entries that follow each other, the first of which has this sequence
pub record EntriesFrom : Type 0 where
  pub first : ℕ
  pub entries : List Entry

abbrev pub entries_from : ℕ → List Entry → EntriesFrom
entries_from first entries = record { first = first; entries = entries }

-- all that was read of a journal is `read`, the first of which has the sequence `kept`: the stretch is a part of it, without a gap
pub record IsStretchOf (kept : ℕ) (read : List Entry) (stretch : EntriesFrom) : Type 0 where
  pub begins : kept ≤ stretch.first
  pub same : stretch.entries ≡ take (length stretch.entries) (drop (stretch.first - kept) read)
