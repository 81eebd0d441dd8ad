-- What does a search of a list in order find?
use Rattle.std.specs.Prelude.{◌≡◌, ℕ, Bool, true, false, Some, List, Contains, insert, remove}
use Rattle.std.specs.List.{slice_get}
use Rattle.std.specs.declared.cmp.Ordering.{Ordering}
use Rattle.std.specs.Ordering.{is_lt, is_le}
use Rattle.key_pages.specs.declared.entries.Entry.{Entry}
use Rattle.key_pages.specs.EntryList.{with_entry, without_entry}

-- a search for a position leaves behind the entries before it, and with `itself` also one on it
abbrev pub is_passed : Bool → Ordering → Bool
is_passed false side = is_lt side
is_passed true side = is_le side

-- the place of an entry that is there
pub record IsAt (falling : Bool) (entry : Entry) (entries : List Entry) (place : ℕ) : Type 0 where
  pub here : slice_get entries place ≡ Some entry
  pub there : Contains entries entry
  pub removed : remove entries place ≡ without_entry falling entry entries

-- the place for an entry that isn't there
pub record IsGapFor (falling : Bool) (entry : Entry) (entries : List Entry) (place : ℕ) : Type 0 where
  pub absent : ¬ Contains entries entry
  pub inserted : insert entries place entry ≡ with_entry falling entry entries
  pub unchanged : entries ≡ without_entry falling entry entries
