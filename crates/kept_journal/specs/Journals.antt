-- What may wait in a library's journal until it is forced, and room for it. Our own.
use Rattle.std.specs.Prelude.{ℕ, ◌+◌, ◌^◌, ◌≡◌, ◌≤◌, true, List, ◌++◌, length}
use Rattle.std.specs.List.{AllByRecursion}
use Rattle.gated_log.specs.declared.layout.TheConstants.{MAX_BLOCK}
use Rattle.entry_codec.specs.declared.entries.Entry.{Entry}
use Rattle.entry_codec.specs.Spelling.{HasSpelling}
use Rattle.journal_model.specs.Journal.{AreNumbered}
use Rattle.journal_book.specs.Entries.{IsInside, spelled}
use Rattle.journal_book.specs.Book.{BookState, next_of}

-- these entries wait behind those that waited
abbrev pub with_entries : List Entry → ℕ → BookState → BookState
with_entries entries bytes book = record book { waiting = book.waiting + length entries; buffered = book.buffered ++ spelled entries; bytes = bytes }

-- the attached receiver has begun, and there is room for the largest block that may be forced
pub record HasBlockRoom (book : BookState) : Type 0 where
  pub begun : book.begun ≡ true
  pub small : length book.buffered ≤ MAX_BLOCK
  pub room : MAX_BLOCK ≤ length book.buffered + book.bytes

-- entries of a call that may wait: they come behind the last one, each has a spelling, none ties receivers, and a block has room for them
pub record MayWait (book : BookState) (entries : List Entry) : Type 0 where
  pub numbered : AreNumbered (next_of book) entries
  pub each : AllByRecursion HasSpelling entries
  pub inside : AllByRecursion IsInside entries
  pub few : next_of book + length entries ≤ 2 ^ 63 + 1
  pub small : length book.buffered + length (spelled entries) ≤ MAX_BLOCK

-- the same behind a last sequence and so many bytes
pub record MayFollow (last waiting : ℕ) (entries : List Entry) : Type 0 where
  pub numbered : AreNumbered (last + 1) entries
  pub each : AllByRecursion HasSpelling entries
  pub inside : AllByRecursion IsInside entries
  pub few : last + length entries ≤ 2 ^ 63
  pub small : waiting + length (spelled entries) ≤ MAX_BLOCK
