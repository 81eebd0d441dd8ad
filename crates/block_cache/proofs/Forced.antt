-- The forced entries of a book are there, one behind the other.
use Rattle.std.proofs.Common.{◌≡◌, ℕ, ◌+◌, ◌≤◌, ◌<◌, List, length, ap, arith, length-append}
use Rattle.store_model.specs.Disk.{Disk}
use Rattle.entry_codec.specs.declared.entries.Entry.{Entry}
use Rattle.journal_book.specs.Book.{BookState, Holds}
use Rattle.journal_book.specs.Reads.{between}
use Rattle.block_cache.specs.Walks.{IsWhole}
use Rattle.block_cache.proofs.Stretches.{whole_between}

pub forced_there : (book : BookState) (all : List Entry) (disk : Disk) → Holds book all disk → (n : ℕ) → n < book.first + book.forced → n < book.first + length all
forced_there book all disk holds n below = omega (arith, below, holds.keeps.forced, ap (λ (l : List Entry). length l) holds.keeps.all, length-append holds.keeps.front holds.keeps.tail)

pub forced_whole : (book : BookState) (all : List Entry) (disk : Disk) → Holds book all disk → (lo hi : ℕ) → book.first ≤ lo → lo ≤ hi → hi < book.first + book.forced
    → IsWhole lo hi (between book.first lo hi all)
forced_whole book all disk holds lo hi from some below = whole_between book.first lo hi all holds.keeps.numbered from some (forced_there book all disk holds hi below)
