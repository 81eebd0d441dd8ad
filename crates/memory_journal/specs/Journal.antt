-- What the journal holds, what is left of it in memory once its entries stand on the disk, and what attaching a receiver and giving receivers up change.
-- (Journal Management, "Managing receivers".)
use Rattle.std.specs.Prelude.{ℕ, ◌+◌, ◌-◌, List, [], ◌++◌, length, drop, min, unwrap_or}
use Rattle.entry_codec.specs.declared.entries.Entry.{Entry}
use Rattle.entry_codec.specs.declared.entries.Draft.{Draft}
use Rattle.journal_model.specs.Rollback.{numbered_from}
use Rattle.lawful_states.specs.State.{Receivers}
use Rattle.lawful_states.specs.Receivers.{last_in}
use Rattle.memory_journal.specs.declared.journal.TheConstants.{LAST_NUMBER}
use Rattle.memory_journal.specs.Blanks.{blanks}

-- how many entries are gone with their receivers, the entries that are kept (blanks for those that aren't in memory), the receivers, and the sequence of
-- the last checkpoint
pub record Journal : Type 0 where
  pub gone : ℕ
  pub entries : List Entry
  pub receivers : Receivers
  pub checkpoint : ℕ

-- for how many more entries there is room: in memory, and among the sequences behind the last
abbrev pub room_of : (spare last : ℕ) → ℕ
room_of spare last = min spare (LAST_NUMBER - last)

-- a journal, and for how many more entries there is room
pub record Held : Type 0 where
  pub journal : Journal
  pub room : ℕ

-- the same, and its entries stand on the disk alone
abbrev pub forgotten : Journal → Journal
forgotten j = record j { entries = blanks (j.gone + 1) (length j.entries) }

-- the journal of a library with nothing in it
abbrev pub empty_journal : Journal
empty_journal = record { gone = 0; entries = []; receivers = record { first = 1; attached = 1 }; checkpoint = 0 }

-- so many entries on the disk, of which none is gone, with this receiver attached
abbrev pub restarted_journal : (count attached : ℕ) → Journal
restarted_journal count attached = record { gone = 0; entries = blanks 1 count; receivers = record { first = 1; attached = attached }; checkpoint = 0 }

-- the number of the last entry
abbrev pub last_entry : Journal → ℕ
last_entry j = j.gone + length j.entries

-- drafts become entries behind the last
abbrev pub deposited : List Draft → Journal → Journal
deposited drafts j = record j { entries = j.entries ++ numbered_from (last_entry j + 1) drafts }

-- the receiver with this number is attached
abbrev pub attached : ℕ → Journal → Journal
attached number j = record j { receivers = record j.receivers { attached = number } }

-- the receivers up to this one are gone, and the entries up to this sequence with them
abbrev pub given_up : (number last : ℕ) → Journal → Journal
given_up number last j = record j { gone = last; entries = drop (last - j.gone) j.entries; receivers = record j.receivers { first = number + 1 } }

-- the same, up to the last entry of the receiver
abbrev pub dropped : (number : ℕ) → Journal → Journal
dropped number j = given_up number (unwrap_or (last_in number j.entries) j.gone) j
