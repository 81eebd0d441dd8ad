-- A library's journal and its book: what a stop leaves of it.
use Rattle.std.proofs.Common.{◌≡◌, ◌+◌, length, take, arith}
use Rattle.store_model.specs.Disk.{Areas, Disk, May}
use Rattle.journal_book.specs.Book.{BookState}
use Rattle.journal_book.specs.Kept.{SpellEntries}
use Rattle.journal_book.proofs.Forcing.{forced_left}
use Rattle.block_places.specs.State.{State}
use Rattle.kept_library.specs.Journaled.{IsBookOf, IsJournaled}

-- those that were forced and those that wait are all
pub counted : (book : BookState) (s : State) → IsBookOf book s → book.forced + book.waiting ≡ length s.entries
counted book s of = omega (arith, of.first, of.next)

-- a stop leaves exactly the entries that were forced
pub journal-left : (tells : Type 0) (disk : Disk) (book : BookState) (s : State) → IsJournaled tells disk book s → tells → (areas : Areas) → May disk areas
    → SpellEntries book.chain.first (take book.forced s.entries) areas
journal-left tells disk book s is told areas may = forced_left book s.entries disk (is.holds told) areas may
