-- What may stand in a block of a receiver, and how far it was read. Our own.
use Rattle.std.specs.Prelude.{ℕ, ◌+◌, ◌≡◌, Bool, true, false, List, ◌++◌, length}
use Rattle.std.specs.List.{AllByRecursion}
use Rattle.entry_codec.specs.declared.entries.Entry.{Entry}
use Rattle.entry_codec.specs.declared.kinds.EntryKind.{EntryKind}
use Rattle.entry_codec.specs.declared.kinds.EntryKind.TheVariants.{NextReceiver, PreviousReceiver}
use Rattle.entry_codec.specs.Spelling.{Begins, IsSpelled, spelling}
use Rattle.journal_model.specs.Journal.{AreNumbered}
use Rattle.journal_book.specs.Entries.{IsBlock, IsInside}
use Rattle.journal_book.specs.declared.grammar.Reading.{Reading}
use Rattle.journal_book.specs.declared.grammar.Reading.TheVariants.{Last, Fault}

-- the kind of an entry that ties receivers
abbrev pub ties : EntryKind → Bool
ties (NextReceiver number) = true
ties (PreviousReceiver number) = true
ties _ = false

-- the block is these entries, which tie nothing and are numbered from behind this sequence
pub record IsBody (last : ℕ) (entries : List Entry) (block : List ℕ) : Type 0 where
  pub whole : IsBlock entries block
  pub numbered : AreNumbered (last + 1) entries
  pub inside : AllByRecursion IsInside entries

-- an entry that may come next stands at the front of the bytes, and takes so many of them
pub record IsNext (last : ℕ) (bytes : List ℕ) (count : ℕ) : Type 0 where
  pub entry : Entry
  pub begins : Begins bytes entry count
  pub sequence : entry.sequence ≡ last + 1
  pub inside : IsInside entry

-- none stands there
abbrev pub HasNoNext : ℕ → List ℕ → Type 0
HasNoNext last bytes = (e : Entry) (rest : List ℕ) → IsSpelled e → bytes ≡ spelling e ++ rest → e.sequence ≡ last + 1 → IsInside e → ⊥

-- what was read: the last sequence of the entries that the block is, or that it is none
abbrev pub IsReadAs : List ℕ → ℕ → Reading → Type 0
IsReadAs block last (Last n) = (entries : List Entry) × IsBody last entries block × (n ≡ last + length entries)
IsReadAs block last (Fault at) = (entries : List Entry) → IsBody last entries block → ⊥
