-- How far were the entries of a book taken, one after another? Our own.
use Rattle.std.specs.Prelude.{◌≡◌, ℕ, List, ◌++◌, Option, Some, None}
use Rattle.store_model.specs.Disk.{Disk}
use Rattle.entry_codec.specs.declared.entries.Entry.{Entry}
use Rattle.journal_model.specs.Catalogue.{Descriptions}
use Rattle.journal_model.specs.Journal.{StaysMembers}
use Rattle.journal_replay.specs.SoFar.{CanReplaySoFar}
use Rattle.journaled_entries.specs.Deposited.{AreDeposited}
use Rattle.journal_replay.specs.Standing.{Standing}
use Rattle.journal_book.specs.Book.{BookState, Holds}
use Rattle.journal_book.specs.Reads.{between}
use Rattle.journal_opening.specs.Journals.{IsLeftBy, journal_with}

-- no journal that these entries begin can be replayed with its members within their limits, and be a library's
abbrev pub CannotFollow : Descriptions → List Entry → Type 0
CannotFollow d entries = CanReplaySoFar d (journal_with entries) → StaysMembers d (journal_with entries) → AreDeposited entries → ⊥

-- all of these entries were taken and leave this, or one of them can't follow
abbrev pub AreTaken : Descriptions → List Entry → Standing → Option ℕ → Type 0
AreTaken d entries s None = IsLeftBy d entries s
AreTaken d entries s (Some n) = CannotFollow d entries

-- behind these the entries of a range of the book were taken, and all of them leave this
pub record HasTakenRange (d : Descriptions) (tells : Type 0) (book : BookState) (lo hi : ℕ) (before all_taken : List Entry) (s : Standing) (disk : Disk) : Type 0 where
  pub more : List Entry
  pub put : all_taken ≡ before ++ more
  pub left : IsLeftBy d all_taken s
  pub same : tells → (all : List Entry) → Holds book all disk → more ≡ between book.first lo hi all

-- these are the book's entries, and leave this
pub record HasTakenAll (d : Descriptions) (tells : Type 0) (book : BookState) (entries : List Entry) (s : Standing) (disk : Disk) : Type 0 where
  pub left : IsLeftBy d entries s
  pub same : tells → (all : List Entry) → Holds book all disk → entries ≡ all
