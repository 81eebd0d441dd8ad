-- The room for the largest block stays: for the journal's own calls.
use Rattle.std.proofs.Common.{◌≡◌, ◌+◌, ◌≤◌, true, List, [], length, ◌∙◌, ap, arith, length-append}
use Rattle.entry_codec.specs.declared.entries.Entry.{Entry}
use Rattle.gated_log.specs.declared.layout.TheConstants.{MAX_BLOCK}
use Rattle.journal_book.specs.Entries.{spelled}
use Rattle.journal_book.specs.Book.{BookState, HasMoreRoom}
use Rattle.kept_journal.specs.Journals.{HasBlockRoom, MayWait, with_entries}

pub first-room : (old new : BookState) → HasMoreRoom old new → old.begun ≡ true → old.buffered ≡ [] → MAX_BLOCK ≤ new.bytes → HasBlockRoom new
first-room old new more begun alone room =
    let none : new.buffered ≡ [] = more.buffered ∙ alone in
    record { begun = more.begun ∙ begun; small = omega (arith, ap length none); room = omega (arith, room) }

pub more-room : (old new : BookState) → HasMoreRoom old new → HasBlockRoom old → HasBlockRoom new
more-room old new more has = record {
  begun = more.begun ∙ has.begun;
  small = omega (arith, ap length more.buffered, has.small);
  room = omega (arith, ap length more.buffered, has.room, more.bytes);
}

-- by two sums alone
pub same-room : (old new : BookState) → new.begun ≡ true → old.bytes + length old.buffered ≤ new.bytes + length new.buffered → length new.buffered ≤ length old.buffered → HasBlockRoom old → HasBlockRoom new
same-room old new begun freed shorter has = record {
  begun = begun;
  small = omega (arith, shorter, has.small);
  room = omega (arith, freed, has.room);
}

pub room-for : (book : BookState) (entries : List Entry) → HasBlockRoom book → MayWait book entries → length (spelled entries) ≤ book.bytes
room-for book entries has may = omega (arith, has.room, may.small)

pub taken-room : (old new : BookState) (entries : List Entry) → HasBlockRoom old → MayWait old entries → new ≡ with_entries entries new.bytes old → old.bytes ≤ new.bytes + length (spelled entries) → HasBlockRoom new
taken-room old new entries has may put less =
    let longer : length new.buffered ≡ length old.buffered + length (spelled entries) = ap (λ (b : BookState). length b.buffered) put ∙ length-append old.buffered (spelled entries) in
    record {
      begun = ap (λ (b : BookState). b.begun) put ∙ has.begun;
      small = omega (arith, longer, may.small);
      room = omega (arith, longer, less, has.room);
    }
