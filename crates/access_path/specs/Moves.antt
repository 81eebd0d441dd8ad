-- What does a change of one record make of the entries of a format? (Database Programming, "Describing access paths for
-- database files".)
use Rattle.std.specs.Prelude.{ℕ, Bool, Option, Some, None, List, Contains, IfSome}
use Rattle.key_order.below.key_pages.specs.declared.entries.Entry.{Entry}
use Rattle.key_order.specs.EntryList.{with_entry, without_entry}
use Rattle.access_path.specs.KeptEntries.{entry_with}

-- the keys that a format has of a record before a change and after it
pub record Move : Type 0 where
  pub format : ℕ
  pub rrn : ℕ
  pub old : Option (List ℕ)
  pub new : Option (List ℕ)

-- the change that undoes it
abbrev pub opposite : Move → Move
opposite m = record { format = m.format; rrn = m.rrn; old = m.new; new = m.old }

abbrev pub without_key : (falling : Bool) → (format rrn : ℕ) → Option (List ℕ) → List Entry → List Entry
without_key falling format rrn None entries = entries
without_key falling format rrn (Some key) entries = without_entry falling (entry_with format rrn key) entries

abbrev pub with_key : (falling : Bool) → (format rrn : ℕ) → Option (List ℕ) → List Entry → List Entry
with_key falling format rrn None entries = entries
with_key falling format rrn (Some key) entries = with_entry falling (entry_with format rrn key) entries

-- without the old entry
abbrev pub taken : (falling : Bool) → Move → List Entry → List Entry
taken falling m entries = without_key falling m.format m.rrn m.old entries

-- without the old entry, and with the new one
abbrev pub moved : (falling : Bool) → Move → List Entry → List Entry
moved falling m entries = with_key falling m.format m.rrn m.new (taken falling m entries)

-- the old entry is there, and the new one isn't beside it
pub record FitsIn (falling : Bool) (m : Move) (entries : List Entry) : Type 0 where
  pub there : IfSome m.old (λ key. Contains entries (entry_with m.format m.rrn key))
  pub absent : IfSome m.new (λ key. ¬ Contains (taken falling m entries) (entry_with m.format m.rrn key))
