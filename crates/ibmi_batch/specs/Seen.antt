-- What does DSP see of a library whose entries stand in its store alone, and how far has it read them? (Our own.)
use Rattle.std.specs.Prelude.{◌≡◌, ℕ, ◌+◌, List, ◌++◌, length}
use Rattle.std.specs.List.{flat_map}
use Rattle.store_model.specs.Disk.{Disk}
use Rattle.entry_codec.specs.declared.entries.Entry.{Entry}
use Rattle.journal_book.specs.Book.{BookState, Holds, next_of}
use Rattle.journal_book.specs.Reads.{between}
use Rattle.journal_book.specs.declared.fault.BookFault.{BookFault}
use Rattle.journal_book.specs.declared.fault.BookFault.TheVariants as fault
use Rattle.library_steps.specs.State.{State}
use Rattle.display.specs.Display.{entry_line}

-- what is in memory shows all of the state but its entries, the book is that of its journal, and the store holds them, where it tells
pub record IsSeen (tells : Type 0) (disk : Disk) (book : BookState) (m s : State) : Type 0 where
  pub files : m.files ≡ s.files
  pub members : m.members ≡ s.members
  pub attached : m.receivers.attached ≡ s.receivers.attached
  pub first : book.first ≡ s.gone + 1
  pub next : next_of book ≡ s.gone + length s.entries + 1
  pub holds : tells → Holds book s.entries disk

-- behind a text stand the lines of as many entries as come from the first one to another, read one behind the other; where the store tells of its bytes,
-- they are those of the journal
pub record HasRead (tells : Type 0) (Held : List Entry → Type 0) (first last : ℕ) (before text : List ℕ) : Type 0 where
  pub read : List Entry
  pub many : first + length read ≡ last + 1
  pub own : tells → (all : List Entry) → Held all → read ≡ between first first last all
  pub shown : text ≡ before ++ flat_map entry_line read

-- why entries that are there were not read: memory was wanting, the store failed, or a block didn't read back as the entries that were deposited
abbrev pub IsUnreadBy : BookFault → (tells rose : Type 0) → Type 0
IsUnreadBy fault.NoMemory tells rose = Unit {0}
IsUnreadBy fault.StoreFault tells rose = rose
IsUnreadBy (fault.BlockChanged sequence area at) tells rose = tells → ⊥
IsUnreadBy fault.NoSuchEntry tells rose = ⊥
IsUnreadBy (fault.ReceiverGone sequence) tells rose = ⊥
