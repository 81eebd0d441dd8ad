-- A library that is built of a restarted journal's entries stands over that journal.
use Rattle.std.proofs.Common.{◌≡◌, ◌≤◌, ◌<◌, ◌+◌, ◌∙◌, ℕ, Result, IfOk, List, [], length, take, sym, ap, subst, arith}
use Rattle.std.proofs.lemmas.List.{take_all}
use Rattle.store_model.specs.Disk.{Areas, Disk, May}
use Rattle.entry_codec.specs.declared.entries.Entry.{Entry}
use Rattle.receiver_chain.specs.declared.numbers.TheConstants.{FIRST_RECEIVER}
use Rattle.receiver_chain.specs.Chain.{attached_of}
use Rattle.journal_book.specs.Book.{BookState, Holds, last_of}
use Rattle.journal_book.specs.Kept.{SpellEntries}
use Rattle.kept_journal.specs.declared.journal.TheConstants.{MUCH}
use Rattle.memory_journal.proofs.BlankLemmas.{length-blanks}
use Rattle.block_places.specs.Dues.{places_due}
use Rattle.restart_model.specs.Libraries.{journal_with, library_left}
use Rattle.library_steps.specs.declared.limits.TheConstants.{MOST_LIBRARY_BYTES}
use Rattle.library_steps.specs.State.{State, JobState}
use Rattle.library_steps.specs.Ranges.{library_bytes}
use Rattle.restarted_library.specs.Remembered.{remembered}
use Rattle.kept_library.specs.Journaled.{IsJournaled, IsRemembered, MayDeposit}
use Rattle.kept_library.specs.Parts.{LibraryOver}
use Rattle.kept_library.specs.Stands.{Stands}
use Rattle.opened_library.specs.Opened.{IsBuilt, IsSoundWithin}

-- ---- what is remembered of a library that entries leave

-- the same said of the book's receiver
pub left-at : (m : State) (receiver attached : ℕ) (entries : List Entry) → attached ≡ receiver → m ≡ remembered (library_left (λ _. 0) attached (journal_with entries))
    → m ≡ remembered (library_left (λ _. 0) receiver (journal_with entries))
left-at m receiver attached entries same left = subst (λ (n : ℕ). m ≡ remembered (library_left (λ _. 0) n (journal_with entries))) same left

-- what calls rest on depends on how many entries there are, and not on which
may-of : (s : State) → MayDeposit (remembered s) → MayDeposit s
may-of s may = record {
  counted = record { next = may.counted.next; members = may.counted.members; cycles = may.counted.cycles; records = may.counted.records };
  groups = record { changes = may.groups.changes; bytes = may.groups.bytes };
  sequences = record { due = omega (arith, may.sequences.due, length-blanks (s.gone + 1) (length s.entries)) };
  few = may.few;
  unsaved = may.unsaved;
}

pub may-over : (m s : State) → m ≡ remembered s → MayDeposit m → MayDeposit s
may-over m s memory may = may-of s (subst MayDeposit memory may)

module _ (m : State) (attached : ℕ) (entries : List Entry) (left : m ≡ remembered (library_left (λ _. 0) attached (journal_with entries))) where
  pub none-begun : m.jobs ≡ []
  none-begun = ap (λ (t : State). t.jobs) left

  pub none-saved : m.checkpoint ≡ 0
  none-saved = ap (λ (t : State). t.checkpoint) left

-- ---- the library that entries leave, and its journal

module _ (s : State) (attached : ℕ) (entries : List Entry) (left : s ≡ library_left (λ _. 0) attached (journal_with entries)) where
  entries-left : s.entries ≡ entries
  entries-left = ap (λ (t : State). t.entries) left

  none-runs : s.jobs ≡ []
  none-runs = ap (λ (t : State). t.jobs) left

  none-gone : s.gone ≡ 0
  none-gone = ap (λ (t : State). t.gone) left

  pub is-journaled : (tells : Type 0) (disk : Disk) (book : BookState) → attached_of book.chain ≡ attached → (tells → Holds book entries disk) → book.first ≡ 1 → last_of book ≡ length entries
      → length book.buffered < MUCH → book.chain.first ≡ FIRST_RECEIVER → MayDeposit s → IsJournaled tells disk book s
  is-journaled tells disk book number held first last little receiver may = record {
    book_of = record {
      first = omega (arith, first, none-gone);
      next = let count : length s.entries ≡ length entries = ap (λ (all : List Entry). length all) entries-left in omega (arith, first, last, none-gone, count);
      receiver = receiver ∙ sym (ap (λ (t : State). t.receivers.first) left);
      attached = number ∙ sym (ap (λ (t : State). t.receivers.attached) left);
      little = little;
      places = let nothing : places_due s.jobs ≡ 0 = ap (λ (jobs : List JobState). places_due jobs) none-runs in omega (arith, nothing);
    };
    may = may;
    holds = λ told. subst (λ (all : List Entry). Holds book all disk) (sym entries-left) (held told);
  }

pub is-remembered : (m s : State) (attached : ℕ) (entries : List Entry) → s ≡ library_left (λ _. 0) attached (journal_with entries) → m ≡ remembered s
    → library_bytes m.members ≤ MOST_LIBRARY_BYTES → IsSoundWithin s → (tells : Type 0) (disk : Disk) (book : BookState) → attached_of book.chain ≡ attached
    → (tells → Holds book entries disk) → book.first ≡ 1 → last_of book ≡ length entries → length book.buffered < MUCH → book.chain.first ≡ FIRST_RECEIVER → MayDeposit m
    → IsRemembered tells disk book m s
is-remembered m s attached entries left memory few within tells disk book number held first last little receiver may = record {
  memory = memory;
  sound = within (subst (λ (t : State). library_bytes t.members ≤ MOST_LIBRARY_BYTES) memory few);
  journaled = is-journaled s attached entries left tells disk book number held first last little receiver (may-over m s memory may);
}

pub is-built : {S : Type 0} (tells : Type 0) (disk : S → Disk) (library : LibraryOver S) (book : BookState) (m s : State) (attached : ℕ) (entries : List Entry)
    → s ≡ library_left (λ _. 0) attached (journal_with entries) → m ≡ remembered s → library_bytes m.members ≤ MOST_LIBRARY_BYTES → library.book ≡ book → book.waiting ≡ 0
    → book.chain.first ≡ FIRST_RECEIVER → Stands tells disk library s → library.book.forced + library.book.waiting ≡ length s.entries
    → (tells → (areas : Areas) → May (disk library.store) areas → SpellEntries library.book.chain.first (take library.book.forced s.entries) areas) → IsBuilt tells disk entries library
is-built tells disk library book m s attached entries left memory few same nothing receiver stands all spells =
    let chain : library.book.chain.first ≡ FIRST_RECEIVER = ap (λ (b : BookState). b.chain.first) same ∙ receiver in
    let waits : library.book.waiting ≡ 0 = ap (λ (b : BookState). b.waiting) same ∙ nothing in
    let forced : library.book.forced ≡ length s.entries = omega (arith, all, waits) in
    record {
      s = s;
      attached = attached;
      state = left;
      stands = stands;
      few = subst (λ (t : State). library_bytes t.members ≤ MOST_LIBRARY_BYTES) memory few;
      all = forced;
      receiver = chain;
      left = λ told areas may.
          subst (λ (read : List Entry). SpellEntries FIRST_RECEIVER read areas) (take_all library.book.forced s.entries (omega (arith, forced)))
          (subst (λ (first : ℕ). SpellEntries first (take library.book.forced s.entries) areas) chain (spells told areas may));
    }

-- what was built of these entries was built of those that they are
pub built-of : {S E : Type 0} (tells : Type 0) (disk : S → Disk) (entries others : List Entry) (r : Result (LibraryOver S) E) → entries ≡ others
    → IfOk r (λ library. IsBuilt tells disk entries library) → IfOk r (λ library. IsBuilt tells disk others library)
built-of {S = S} tells disk entries others r same built = subst (λ (all : List Entry). IfOk r (λ (library : LibraryOver S). IsBuilt tells disk all library)) same built
