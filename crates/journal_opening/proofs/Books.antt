-- What a book of which no entry waits holds: the entries that the areas spell.
use Rattle.std.proofs.Common.{◌≡◌, ◌≤◌, ℕ, ◌+◌, ◌-◌, List, ◌++◌, length, take, drop, sym, ◌∙◌, ap, subst, arith, length-append}
use Rattle.std.proofs.Math.Logic.{∥∥₁_map}
use Rattle.std.proofs.lemmas.List.{append-nil, drop-take, nil_from_length, take-append-drop, take-take, take_all}
use Rattle.store_model.specs.Disk.{Areas, Disk, Stays}
use Rattle.store_model.proofs.Pushed.{same_areas}
use Rattle.entry_codec.specs.declared.entries.Entry.{Entry}
use Rattle.receiver_chain.specs.declared.numbers.TheConstants.{FIRST_RECEIVER}
use Rattle.receiver_chain.proofs.Switches.{chained_same}
use Rattle.journal_book.specs.Book.{BookState, Holds, IsHeld, last_of}
use Rattle.journal_book.specs.Entries.{HoldsEntries}
use Rattle.journal_book.specs.Kept.{SpellEntries}
use Rattle.journal_book.specs.Reads.{between}
use Rattle.journal_book.proofs.Deposits.{stays_holds}

-- areas that are as a read gives them
pub seen_same : (old new : Disk) → Stays old new → old.seen ≡ new.seen
seen_same old new stays = same_areas old.seen new.seen (λ area. sym (stays.seen area))

module _ (book : BookState) (entries : List Entry) (disk : Disk) (holds : Holds book entries disk) where
  pub book_count : length entries ≡ book.forced + book.waiting
  book_count = omega (arith, holds.keeps.forced, holds.keeps.waiting, ap length holds.keeps.all, length-append holds.keeps.front holds.keeps.tail)

  on_disk : book.waiting ≡ 0 → entries ≡ holds.keeps.front
  on_disk none = holds.keeps.all ∙ ap (λ (l : List Entry). holds.keeps.front ++ l) (nil_from_length holds.keeps.tail (sym holds.keeps.waiting ∙ none)) ∙ append-nil holds.keeps.front

  pub book_spells : book.waiting ≡ 0 → book.chain.first ≡ FIRST_RECEIVER → (areas : Areas) → ((area : ℕ) → areas area ≡ disk.seen area) → SpellEntries FIRST_RECEIVER entries areas
  book_spells none first areas same =
      subst (λ (n : ℕ). SpellEntries n entries areas) first (record {
        kept = holds.kept;
        chained = chained_same book.chain.first book.chain.room book.chain.earlier book.chain.attached holds.kept disk holds.chain areas (λ m from below. same _) (same _);
        holds = subst (λ (l : List Entry). HoldsEntries book.chain.first holds.kept l) (sym (on_disk none)) holds.keeps.on_disk;
      })

-- ---- ranges

-- a range of so many comes behind those that were read
pub range_next : (all : List Entry) (first lo hi read more : ℕ) → lo ≡ first + read → hi + 1 ≡ lo + more → take read all ++ between first lo hi all ≡ take (read + more) all
range_next all first lo hi read more from upto =
    let count : hi + 1 - lo ≡ more = omega (arith, upto) in
    let place : lo - first ≡ read = omega (arith, from) in
    ap (λ (n : ℕ). take read all ++ take n (drop (lo - first) all)) count
    ∙ ap (λ (n : ℕ). take read all ++ take more (drop n all)) place
    ∙ ap (λ (l : List Entry). take read all ++ l) (sym (drop-take read more all))
    ∙ ap (λ (l : List Entry). l ++ drop read (take (read + more) all)) (sym (take-take read (read + more) all (omega arith)))
    ∙ take-append-drop read (take (read + more) all)

-- all were read
pub range_all : (book : BookState) (all : List Entry) (disk : Disk) → Holds book all disk → (first last count read : ℕ) → first ≡ book.first → last ≡ last_of book → 1 ≤ first
    → count ≡ last - (first - 1) → count ≤ read → take read all ≡ all
range_all book all disk holds first last count read from upto least is past = take_all read all (omega (arith, from, upto, least, is, past, book_count book all disk holds))

-- ---- held

pub held_stays : (book : BookState) (old new : Disk) → Stays old new → IsHeld book old → IsHeld book new
held_stays book old new stays some = ∥∥₁_map some (λ has. (has.0, stays_holds book has.0 old new stays has.1))
