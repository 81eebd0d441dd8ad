-- A journal that is restarted, with the roots of its store: what a stop leaves of both, and what the store spells when it is done.
use Rattle.std.proofs.Common.{◌≡◌, inl, inr, ℕ, ◌<◌, Option, List, length, refl, sym, subst, arith}
use Rattle.std.proofs.lemmas.List.{take_all}
use Rattle.store_model.specs.Disk.{Areas, Disk, Leaves, May, Stays}
use Rattle.store_model.proofs.Runs.{leaves_less, leaves_stays, leaves_then}
use Rattle.entry_codec.specs.declared.entries.Entry.{Entry}
use Rattle.receiver_chain.specs.declared.numbers.TheConstants.{FIRST_RECEIVER}
use Rattle.receiver_chain.specs.Receivers.{area_of}
use Rattle.receiver_chain.specs.Others.{LeavesRoots}
use Rattle.journal_model.specs.Catalogue.{Descriptions}
use Rattle.checkpoint.specs.declared.layout.TheConstants.{ROOT_AREA}
use Rattle.checkpoint.specs.declared.root.Root.{Root}
use Rattle.checkpoint.specs.Roots.{AreRoots, first_root}
use Rattle.checkpoint.specs.Holding.{HasRoots, RootsState}
use Rattle.checkpoint.proofs.Kept.{held_roots, left_roots}
use Rattle.journal_book.specs.Book.{BookState}
use Rattle.journal_book.specs.Kept.{SpellEntries}
use Rattle.journal_book.proofs.Forcing.{forced_left}
use Rattle.journal_book.proofs.Reading.{one_list}
use Rattle.journal_replay.specs.SoFar.{EndsWhole}
use Rattle.journal_replay.specs.Standing.{Standing}
use Rattle.restart_rollback.specs.Journals.{IsLeftBy, SpellJournal, journal_with}
use Rattle.restart_rollback.proofs.Books.{book_spells}
use Rattle.restart_rollback.proofs.Wholes.{left-reopens}
use Rattle.restarted_journal.specs.Restarts.{IsEnded, IsEnding, IsRestarted, IsRestarting, MayRestart}
use Rattle.restarted_journal.proofs.Ends.{all-forced}

root-before : ROOT_AREA < area_of FIRST_RECEIVER
root-before = omega arith

-- ---- behind the opening, where the roots are held

module _ (roots : RootsState) (mid new : Disk) (has : HasRoots roots mid) (first : roots.last ≡ first_root) (leaves : LeavesRoots mid new) where
  -- area 0 has them still
  roots-seen : AreRoots has.0 first_root (new.seen ROOT_AREA)
  roots-seen =
      subst (λ (r : Root). AreRoots has.0 r (new.seen ROOT_AREA)) first
      (subst (λ (bytes : List ℕ). AreRoots has.0 roots.last bytes) (sym (leaves.seen ROOT_AREA root-before)) (held_roots roots has.0 mid has.1))

  -- and at each moment
  roots-left : (areas : Areas) → new.since mid.moment areas → AreRoots has.0 first_root (areas ROOT_AREA)
  roots-left areas since =
      let from = leaves.images areas since in
      subst (λ (r : Root). AreRoots has.0 r (areas ROOT_AREA)) first
      (subst (λ (bytes : List ℕ). AreRoots has.0 roots.last bytes) (sym (from.2 ROOT_AREA root-before)) (left_roots roots has.0 mid from.0 has.1 from.1))

  module _ (d : Descriptions) (job : Option (List ℕ)) (moment : ℕ) where
    ending-rooted : (opened : List Entry) → Leaves mid new (IsEnding d job moment opened) → Leaves mid new (IsRestarting d job moment opened)
    ending-rooted opened ends = record {
      later = ends.later;
      images = λ areas since.
          let ending = ends.images areas since in
          record { left = ending.left; which = ending.which; spells = record { earlier = has.0; roots = roots-left areas since; spelled = ending.spells; replays = ending.reopens.replays; journaled = ending.reopens.deposited.journaled } };
    }

    -- from the store as it was before it was opened
    pub ended-may : (old : Disk) → Stays old mid → (entries opened : List Entry) → SpellJournal d entries old.seen → SpellJournal d opened old.seen → Leaves mid new (IsEnding d job moment opened)
        → Leaves old new (MayRestart d old job moment entries)
    ended-may old stays entries opened spells its ends =
        let same : opened ≡ entries = one_list FIRST_RECEIVER opened entries old.seen its.spelled spells.spelled in
        leaves_then old mid new (MayRestart d old job moment entries) (leaves_stays old mid (MayRestart d old job moment entries) stays (λ areas may. inl may))
        (leaves_less mid new (IsRestarting d job moment opened) (MayRestart d old job moment entries) (ending-rooted opened ends)
        (λ areas some. inr (subst (λ (l : List Entry). IsRestarting d job moment l areas) same some)))

    -- when it is done the store spells what the book holds
    module _ (tells : Type 0) (told : tells) (before : List Entry) (book : BookState) (entries : List Entry) (s : Standing) (ended : IsEnded d tells new job moment before book entries s) where
      pub ended-spelled : SpellJournal d entries new.seen
      ended-spelled = record {
        earlier = has.0;
        roots = roots-seen;
        spelled = book_spells book entries new (ended.held told) ended.nothing_waits ended.receiver new.seen (λ area. refl);
        replays = ended.reopens.replays;
        journaled = ended.reopens.deposited.journaled;
      }

      -- and a stop leaves that
      pub ended-left : (areas : Areas) → May new areas → SpellJournal d entries areas
      ended-left areas may = record {
        earlier = has.0;
        roots = roots-left areas (new.wider mid.moment new.moment areas leaves.later.moment may);
        spelled =
            let all : book.forced ≡ length entries = all-forced book entries new (ended.held told) ended.nothing_waits in
            subst (λ (n : ℕ). SpellEntries n entries areas) ended.receiver
            (subst (λ (l : List Entry). SpellEntries book.chain.first l areas) (take_all book.forced entries (omega (arith, all))) (forced_left book entries new (ended.held told) areas may));
        replays = ended.reopens.replays;
        journaled = ended.reopens.deposited.journaled;
      }

-- opening alone
pub stays-may : (d : Descriptions) (old new : Disk) (job : Option (List ℕ)) (moment : ℕ) (entries : List Entry) → Stays old new → Leaves old new (MayRestart d old job moment entries)
stays-may d old new job moment entries stays = leaves_stays old new (MayRestart d old job moment entries) stays (λ areas may. inl may)

-- what was opened can be replayed, and is what the store spelled
pub ended-restarted : (d : Descriptions) (tells : Type 0) (old new : Disk) (job : Option (List ℕ)) (moment : ℕ) (opened : List Entry) (s : Standing) → IsLeftBy d opened s → EndsWhole
    (journal_with opened)
    → (tells → SpellJournal d opened old.seen) → (book : BookState) (entries : List Entry) (after : Standing) → IsEnded d tells new job moment opened book entries after → IsRestarted d tells old
    new job moment book entries after
ended-restarted d tells old new job moment opened s left whole spelled book entries after ended = record {
  before = opened;
  replays = (left-reopens d opened s left whole).replays;
  deposited = (left-reopens d opened s left whole).deposited;
  spelled = spelled;
  ended = ended;
}
