-- Which entries do the areas of a store spell, and what may a stop leave of a journal? Our own.
use Rattle.std.specs.Prelude.{ℕ, ◌≡◌, ◌≤◌, ◌⊎◌, List, length, take}
use Rattle.store_model.specs.Disk.{Areas}
use Rattle.entry_codec.specs.declared.entries.Entry.{Entry}
use Rattle.receiver_chain.specs.Receivers.{Kept, AreChained}
use Rattle.journal_book.specs.Entries.{HoldsEntries}

-- from this receiver on the areas spell these entries
pub record SpellEntries (receiver : ℕ) (entries : List Entry) (areas : Areas) : Type 0 where
  pub kept : Kept
  pub chained : AreChained receiver kept areas
  pub holds : HoldsEntries receiver kept entries

-- a front of the entries, with so many of them at least
pub record IsKept (receiver fewest : ℕ) (entries : List Entry) (areas : Areas) : Type 0 where
  pub count : ℕ
  pub at_least : fewest ≤ count
  pub at_most : count ≤ length entries
  pub spells : SpellEntries receiver (take count entries) areas

-- a front that ends where the entries of a call do: exactly those that were forced, or so many at least
pub record IsForcedOrFrom (receiver forced whole : ℕ) (entries : List Entry) (areas : Areas) : Type 0 where
  pub count : ℕ
  pub which : (count ≡ forced) ⊎ (whole ≤ count)
  pub at_most : count ≤ length entries
  pub spells : SpellEntries receiver (take count entries) areas
