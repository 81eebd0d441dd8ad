-- A store's journal that was opened: its roots, its book, and what the entries leave.
use Rattle.std.proofs.Common.{◌≡◌, ℕ, List, sym, subst}
use Rattle.store_model.specs.Disk.{Disk, Stays}
use Rattle.store_model.proofs.Runs.{stays_trans}
use Rattle.entry_codec.specs.declared.entries.Entry.{Entry}
use Rattle.journal_model.specs.Catalogue.{Descriptions}
use Rattle.journal_model.specs.Journal.{CanReplayJournal}
use Rattle.journal_replay.specs.SoFar.{EndsWhole}
use Rattle.journal_replay.specs.Standing.{Standing}
use Rattle.journal_replay.proofs.SoFarLemmas.{journal-whole}
use Rattle.checkpoint.specs.declared.layout.TheConstants.{ROOT_AREA}
use Rattle.checkpoint.specs.declared.root.Root.{Root}
use Rattle.checkpoint.specs.Roots.{AreRoots, first_root}
use Rattle.checkpoint.specs.Holding.{HasRoots, RootsState}
use Rattle.checkpoint.proofs.Kept.{held_roots, holds_stays}
use Rattle.checkpoint.proofs.RootLaws.{one_list as one_root_list}
use Rattle.receiver_chain.specs.declared.numbers.TheConstants.{FIRST_RECEIVER}
use Rattle.journal_book.specs.Book.{BookState, HasEntries, Holds}
use Rattle.journal_book.proofs.Deposits.{stays_holds}
use Rattle.journal_book.proofs.Reading.{one_list}
use Rattle.journal_opening.specs.Journals.{IsLeftBy, IsOpened, SpellJournal, journal_with}
use Rattle.journal_opening.specs.Takings.{HasTakenAll}
use Rattle.journal_opening.proofs.Books.{book_spells}
use Rattle.journal_opening.proofs.PlacedLemmas.{spelled-placed}
use Rattle.journaled_entries.specs.Deposited.{AreDeposited}

-- ---- roots

-- the roots that are held are those of area 0, as it was read before
pub roots_are : (roots : RootsState) (old new : Disk) → Stays old new → (has : HasRoots roots new) → AreRoots has.0 roots.last (old.seen ROOT_AREA)
roots_are roots old new stays has = subst (λ (bytes : List ℕ). AreRoots has.0 roots.last bytes) (stays.seen ROOT_AREA) (held_roots roots has.0 new has.1)

-- where area 0 has a first root, the last one that is held is that
pub one_root : (roots : RootsState) (old new : Disk) → Stays old new → HasRoots roots new → (earlier : List Root) → AreRoots earlier first_root (old.seen ROOT_AREA) → roots.last ≡ first_root
one_root roots old new stays has earlier are = sym (one_root_list earlier has.0 first_root roots.last (old.seen ROOT_AREA) are (roots_are roots old new stays has)).1

-- ---- the whole

-- the areas spell the journal that the book holds and no other
pub one_journal : (d : Descriptions) (book : BookState) (all : List Entry) (disk : Disk) → Holds book all disk → book.waiting ≡ 0 → book.chain.first ≡ FIRST_RECEIVER → (old : Disk) → Stays old disk
    → (entries : List Entry) → SpellJournal d entries old.seen → entries ≡ all
one_journal d book all disk holds none first old stays entries spells =
    one_list FIRST_RECEIVER entries all old.seen spells.spelled (book_spells book all disk holds none first old.seen (λ area. sym (stays.seen area)))

-- so the entries of that journal can't follow where those of the book can't
pub no_journal : (d : Descriptions) (book : BookState) (all : List Entry) (disk : Disk) → Holds book all disk → book.waiting ≡ 0 → book.chain.first ≡ FIRST_RECEIVER → (old : Disk) → Stays old disk
    → (CanReplayJournal d (journal_with all) → AreDeposited all → ⊥) → (entries : List Entry) → SpellJournal d entries old.seen → ⊥
no_journal d book all disk holds none first old stays cannot entries spells =
    let same = one_journal d book all disk holds none first old stays entries spells in
    cannot (subst (λ (l : List Entry). CanReplayJournal d (journal_with l)) same spells.replays)
    (subst (λ (l : List Entry). AreDeposited l) same (record { placed = spelled-placed FIRST_RECEIVER entries old.seen spells.spelled; journaled = spells.journaled }))

module _ (d : Descriptions) (tells : Type 0) (roots : RootsState) (book : BookState) (entries : List Entry) (s : Standing) (d0 d1 d2 d3 : Disk) (before : Stays d0 d1) (between : Stays d1 d2) (behind : Stays d2 d3) where
  pub opened_journal : HasRoots roots d1 → roots.last ≡ first_root → HasEntries book d2 → book.waiting ≡ 0 → book.chain.first ≡ FIRST_RECEIVER → tells → HasTakenAll d tells book entries s d2
      → ((those : List Entry) → IsLeftBy d those s → EndsWhole (journal_with those)) → IsOpened d roots book s entries d3 × SpellJournal d entries d0.seen
  opened_journal has first holds none receiver told taken whole =
      let all = holds.0 in
      let left = subst (λ (l : List Entry). IsLeftBy d l s) (taken.same told all holds.1) taken.left in
      let replays : CanReplayJournal d (journal_with all) = journal-whole d (journal_with all) left.left.so_far (whole all left) left.stays in
      subst (λ (l : List Entry). IsOpened d roots book s l d3 × SpellJournal d l d0.seen) (sym (taken.same told all holds.1)) (
        record {
          roots_held = (has.0, holds_stays roots has.0 d1 d3 (stays_trans d1 d2 d3 between behind) has.1);
          first = first;
          held = stays_holds book all d2 d3 behind holds.1;
          forced = none;
          replays = replays;
          left = left;
        },
        record {
          earlier = has.0;
          roots = subst (λ (r : Root). AreRoots has.0 r (d0.seen ROOT_AREA)) first (roots_are roots d0 d1 before has);
          spelled = book_spells book all d2 holds.1 none receiver d0.seen (λ area. sym ((stays_trans d0 d1 d2 before between).seen area));
          replays = replays;
          journaled = left.journaled;
        },
      )
