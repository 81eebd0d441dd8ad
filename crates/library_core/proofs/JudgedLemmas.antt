-- What was read and judged is a part of what may be read of the journal; and over a store that tells, nothing is judged otherwise.
use Rattle.std.proofs.Common.{◌≡◌, ◌≤◌, ◌<◌, ℕ, ◌+◌, ◌-◌, ◌^◌, List, length, take, drop, Result, Ok, Err, IfOk, OnOk, refl, sym, ◌∙◌, ap, subst, arith}
use Rattle.std.specs.List.{AllByRecursion}
use Rattle.std.specs.Prelude.{IsErr, IsErrOf}
use Rattle.std.proofs.lemmas.List.{length-drop, length-take-le, take-append-drop}
use Rattle.store_model.specs.Disk.{Disk}
use Rattle.entry_codec.specs.declared.entries.Entry.{Entry}
use Rattle.journal_book.specs.Book.{BookState, Holds, IsHeld, last_of}
use Rattle.journal_book.specs.Reads.{between}
use Rattle.journal_book.specs.declared.fault.BookFault.{BookFault}
use Rattle.journal_book.specs.declared.fault.BookFault.TheVariants as faults
use Rattle.journal_book.proofs.Numbering.{numbered_back, numbered_front}
use Rattle.journal_model.specs.Journal.{AreNumbered}
use Rattle.journal_reads.specs.Stretches.{EntriesFrom, entries_from}
use Rattle.library_steps.specs.State.{State, memory_of}
use Rattle.record_changes.specs.Told.{IsTold}
use Rattle.kept_library.specs.Journaled.{IsRemembered}
use Rattle.library_core.specs.Reads.{HasRead, IsReadOf}
use Rattle.library_core.specs.declared.reading.ReadFault.{ReadFault}
use Rattle.library_core.specs.declared.reading.ReadFault.TheVariants as reads
use Rattle.library_core.proofs.MemoryLemmas.{length-remembered}
use Rattle.library_core.proofs.SpliceLemmas.{each-drop, each-take, read-spliced}

pub held-of : (tells : Type 0) (disk : Disk) (book : BookState) (m s : State) → IsRemembered tells disk book m s → tells → IsHeld book disk
held-of tells disk book m s is told = ∣ (s.entries, is.journaled.holds told) ∣₁

-- what was judged
pub record IsJudged {E : Type 0} (m : State) (from to : ℕ) (entries : List Entry) (result : Result EntriesFrom E) : Type 0 where
  pub stretch : IfOk result (λ stretch. stretch ≡ entries_from from entries)
  pub long : OnOk result (length entries ≡ to + 1 - from)
  pub numbered : OnOk result (AreNumbered from entries)
  pub told : OnOk result (AllByRecursion (IsTold m.files) entries)
  pub other : IsErr result → length entries ≡ to + 1 - from → AreNumbered from entries → AllByRecursion (IsTold m.files) entries → ⊥

module _ (tells : Type 0) (disk : Disk) (book : BookState) (m s : State) (from to : ℕ) (its : IsRemembered tells disk book m s) (first : m.gone + 1 ≤ from) (order : from ≤ to)
    (last : to ≤ (memory_of m).last_entry) where
  gone-same : m.gone ≡ s.gone
  gone-same = ap (λ (u : State). u.gone) its.memory

  files-same : (entries : List Entry) → AllByRecursion (IsTold m.files) entries → AllByRecursion (IsTold s.files) entries
  files-same entries = subst (λ (u : State). AllByRecursion (IsTold u.files) entries) its.memory

  files-back : (entries : List Entry) → AllByRecursion (IsTold s.files) entries → AllByRecursion (IsTold m.files) entries
  files-back entries = subst (λ (u : State). AllByRecursion (IsTold u.files) entries) (sym its.memory)

  many : length m.entries ≡ length s.entries
  many = length-remembered m s its.memory

  kept : s.gone + 1 ≤ from
  kept = omega (arith, first, gone-same)

  last-there : to ≤ s.gone + length s.entries
  last-there = omega (arith, last, many, gone-same)

  -- those of the journal
  abbrev own : List Entry
  own = take (to + 1 - from) (drop (from - (s.gone + 1)) s.entries)

  behind-long : length (drop (from - (s.gone + 1)) s.entries) ≡ length s.entries - (from - (s.gone + 1))
  behind-long = length-drop (from - (s.gone + 1)) s.entries

  own-long : length own ≡ to + 1 - from
  own-long = length-take-le (to + 1 - from) (drop (from - (s.gone + 1)) s.entries) (omega (arith, behind-long, kept, order, last-there))

  front-long : length (take (from - (s.gone + 1)) s.entries) ≡ from - (s.gone + 1)
  front-long = length-take-le (from - (s.gone + 1)) s.entries (omega (arith, kept, order, last-there))

  behind-numbered : AreNumbered from (drop (from - (s.gone + 1)) s.entries)
  behind-numbered =
      numbered_back (s.gone + 1) from (take (from - (s.gone + 1)) s.entries) (drop (from - (s.gone + 1)) s.entries) (omega (arith, kept, front-long))
      (subst (λ (l : List Entry). AreNumbered (s.gone + 1) l) (sym (take-append-drop (from - (s.gone + 1)) s.entries)) its.sound.numbered)

  own-numbered : AreNumbered from own
  own-numbered =
      numbered_front from own (drop (to + 1 - from) (drop (from - (s.gone + 1)) s.entries))
      (subst (λ (l : List Entry). AreNumbered from l) (sym (take-append-drop (to + 1 - from) (drop (from - (s.gone + 1)) s.entries))) behind-numbered)

  own-told : AllByRecursion (IsTold s.files) own
  own-told =
      each-take (IsTold s.files) (to + 1 - from) (drop (from - (s.gone + 1)) s.entries) (each-drop (IsTold s.files) (from - (s.gone + 1)) s.entries its.sound.joint.told.records)

  -- as the book gives them
  given-own : (entries : List Entry) → (tells → (all : List Entry) → Holds book all disk → entries ≡ between book.first from to all) → tells → entries ≡ own
  given-own entries given told =
      given told s.entries (its.journaled.holds told)
      ∙ ap (λ (n : ℕ). take (to + 1 - from) (drop (from - n) s.entries)) its.journaled.book_of.first

  pub judged-read : {E : Type 0} (entries : List Entry) (result : Result EntriesFrom E) → IsJudged m from to entries result
      → (tells → (all : List Entry) → Holds book all disk → entries ≡ between book.first from to all) → HasRead tells s result
  judged-read entries (Err fault) judged given = tt
  judged-read entries (Ok stretch) judged given =
      let fits : from + length entries ≤ s.gone + length s.entries + 1 = omega (arith, judged.long, last-there, order) in
      subst (λ (x : EntriesFrom). (read : List Entry) × IsReadOf tells s x read) (sym judged.stretch)
      (read-spliced s from entries its.sound kept fits judged.numbered (files-same entries judged.told) tells
      (λ told. given-own entries given told ∙ ap (λ (n : ℕ). take n (drop (from - (s.gone + 1)) s.entries)) (sym judged.long)))

  -- over a store that tells nothing else is read
  pub judged-untold : {E : Type 0} (entries : List Entry) (result : Result EntriesFrom E) → IsJudged m from to entries result
      → (tells → (all : List Entry) → Holds book all disk → entries ≡ between book.first from to all) → IsErr result → tells → ⊥
  judged-untold entries result judged given bad told =
      let same = sym (given-own entries given told) in
      judged.other bad (subst (λ (l : List Entry). length l ≡ to + 1 - from) same own-long) (subst (λ (l : List Entry). AreNumbered from l) same own-numbered)
      (files-back entries (subst (λ (l : List Entry). AllByRecursion (IsTold s.files) l) same own-told))

  -- the sequences that are read are the book's
  last-book : to ≤ last_of book
  last-book = omega (arith, last-there, its.journaled.book_of.next)

  pub first-book : book.first ≤ from
  first-book = omega (arith, kept, its.journaled.book_of.first)

  -- what the book gives no entries for by the store's fault
  pub fault-cause : (rose : Type 0) (fault : BookFault) → (fault ≡ faults.NoMemory → ⊥) → ((sequence area at : ℕ) → fault ≡ faults.BlockChanged sequence area at → ⊥)
      → (from ≤ to → 1 ≤ from → to ≤ last_of book → fault ≡ faults.NoSuchEntry → ⊥) → (book.first ≤ from → (sequence : ℕ) → fault ≡ faults.ReceiverGone sequence → ⊥)
      → (fault ≡ faults.StoreFault → rose) → rose
  fault-cause rose faults.NoSuchEntry other unchanged there gone cause = absurd (there order (omega (arith, kept)) last-book refl)
  fault-cause rose (faults.ReceiverGone sequence) other unchanged there gone cause = absurd (gone first-book sequence refl)
  fault-cause rose faults.StoreFault other unchanged there gone cause = cause refl
  fault-cause rose (faults.BlockChanged sequence area at) other unchanged there gone cause = absurd (unchanged sequence area at refl)
  fault-cause rose faults.NoMemory other unchanged there gone cause = absurd (other refl)

-- one fault of two
pub not-memory : (fault : ReadFault) → fault ≡ reads.NoMemory → fault ≡ reads.StoreFault → ⊥
not-memory fault none bad = let same : reads.NoMemory ≡ reads.StoreFault = sym none ∙ bad in absurd cc

pub not-changed : (fault : ReadFault) (sequence : ℕ) → fault ≡ reads.BlockChanged sequence → fault ≡ reads.StoreFault → ⊥
not-changed fault sequence changed bad = let same : reads.BlockChanged sequence ≡ reads.StoreFault = sym changed ∙ bad in absurd cc

pub err-same : {T E : Type 0} (a b : E) → IsErrOf {T = T} {E = E} (Err a) b → a ≡ b
err-same a b is = cc

pub err-of : {T E : Type 0} (a b : E) → a ≡ b → IsErrOf {T = T} {E = E} (Err a) b
err-of a b is = cc

pub fault-bad : {T E : Type 0} (result : Result T E) (fault : E) → IsErrOf result fault → IsErr result
fault-bad {T = T} {E = E} result fault is = subst (λ (r : Result T E). IsErr r) (sym is) refl

-- the last sequence is far below the greatest that eight bytes hold
pub few-entries : (tells : Type 0) (disk : Disk) (book : BookState) (m s : State) → IsRemembered tells disk book m s → (memory_of m).last_entry + 1 < 2 ^ 64
few-entries tells disk book m s is =
    let gone : m.gone ≡ s.gone = ap (λ (u : State). u.gone) is.memory in
    omega (arith, gone, length-remembered m s is.memory, is.journaled.may.sequences.due, is.journaled.may.few)
