-- Which journal does a store hold, and what is one that was opened? (Journal Management, "Recovery operations using
-- journaling". How a store spells a journal is our own.)
use Rattle.std.specs.Prelude.{◌≡◌, ◌≢◌, ◌⊎◌, ℕ, List, []}
use Rattle.store_model.specs.Disk.{Areas, Disk, May}
use Rattle.entry_codec.specs.declared.entries.Entry.{Entry}
use Rattle.journal_model.specs.Catalogue.{Descriptions, empty_catalogue}
use Rattle.journal_model.specs.Journal.{CanReplayJournal, Journal, StaysMembers}
use Rattle.journal_replay.specs.Standing.{Standing}
use Rattle.journal_replay.specs.Left.{IsLeft, empty_journal}
use Rattle.journaled_entries.specs.Deposited.{AreJournaled, ArePlaced}
use Rattle.checkpoint.specs.declared.layout.TheConstants.{ROOT_AREA}
use Rattle.checkpoint.specs.declared.root.Root.{Root}
use Rattle.checkpoint.specs.Roots.{AreRoots, HasNoRoot, first_root}
use Rattle.checkpoint.specs.Holding.{HasRoots, RootsState}
use Rattle.receiver_chain.specs.declared.numbers.TheConstants.{FIRST_RECEIVER}
use Rattle.receiver_chain.specs.Receivers.{area_of}
use Rattle.journal_book.specs.Book.{BookState, Holds}
use Rattle.journal_book.specs.Kept.{SpellEntries}

-- the journal of a store that was formatted, with these entries since
abbrev pub journal_with : List Entry → Journal
journal_with entries = record empty_journal { later = entries }

-- the areas of a store spell this journal: roots of which the last names no saved state, and receivers whose entries can be
-- replayed; those of records come while their member is journaled
pub record SpellJournal (d : Descriptions) (entries : List Entry) (areas : Areas) : Type 0 where
  pub earlier : List Root
  pub roots : AreRoots earlier first_root (areas ROOT_AREA)
  pub spelled : SpellEntries FIRST_RECEIVER entries areas
  pub replays : CanReplayJournal d (journal_with entries)
  pub journaled : AreJournaled empty_catalogue entries

-- these entries leave this, and each member stays within its limits all along; each entry names what its kind wants, and those of
-- records come while their member is journaled
pub record IsLeftBy (d : Descriptions) (entries : List Entry) (s : Standing) : Type 0 where
  pub left : IsLeft d (λ member. 0) (journal_with entries) s
  pub stays : StaysMembers d (journal_with entries)
  pub journaled : AreJournaled empty_catalogue entries
  pub placed : ArePlaced entries

-- a store's journal, opened: it has these entries, all of them on the disk, where a stop leaves them, and this is what they
-- leave
pub record IsOpened (d : Descriptions) (roots : RootsState) (book : BookState) (standing : Standing) (entries : List Entry) (disk : Disk) : Type 0 where
  pub roots_held : HasRoots roots disk
  pub first : roots.last ≡ first_root
  pub held : Holds book entries disk
  pub forced : book.waiting ≡ 0
  pub replays : CanReplayJournal d (journal_with entries)
  pub left : IsLeftBy d entries standing

-- ---- a store is formatted

-- the areas spell the journal without entries, whatever the rules of data descriptions
abbrev pub IsEmptyLibrary : Areas → Type 0
IsEmptyLibrary areas = (d : Descriptions) → SpellJournal d [] areas

-- area 0 is as a stop before could leave it, or has no root, or the areas are those of an empty library; but for receiver 1 the
-- others are as a stop before could leave them
pub record IsFormattingOf (disk : Disk) (areas : Areas) : Type 0 where
  pub before : Areas
  pub could : May disk before
  pub roots : (areas ROOT_AREA ≡ before ROOT_AREA) ⊎ (HasNoRoot (areas ROOT_AREA) ⊎ IsEmptyLibrary areas)
  pub others : (area : ℕ) → area ≢ ROOT_AREA → area ≢ area_of FIRST_RECEIVER → areas area ≡ before area
