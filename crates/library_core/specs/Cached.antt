-- How the blocks of the journal that a library keeps decoded stand to it. (Our own.)
use Rattle.std.specs.Prelude.{List}
use Rattle.store_model.specs.Disk.{Disk}
use Rattle.entry_codec.specs.declared.entries.Entry.{Entry}
use Rattle.journal_book.specs.Book.{BookState, Holds}
use Rattle.block_cache.specs.Cached.{AreStretches}

-- where the store tells of its bytes, each of the blocks is a stretch of the journal that it holds
abbrev pub AreCached : (tells : Type 0) → BookState → Disk → List (List Entry) → Type 0
AreCached tells book disk blocks = tells → (all : List Entry) → Holds book all disk → AreStretches book.first all blocks
