-- What a stop leaves while a journal is restarted.
use Rattle.std.proofs.Common.{◌≡◌, ◌⊎◌, inl, inr, ℕ, ◌+◌, Option, List, ◌++◌, length, refl, sym, ◌∙◌, ap, subst, arith}
use Rattle.std.proofs.lemmas.List.{take_at}
use Rattle.store_model.specs.Disk.{Areas, Disk, Leaves}
use Rattle.store_model.proofs.Runs.{leaves_less}
use Rattle.entry_codec.specs.declared.entries.Entry.{Entry}
use Rattle.receiver_chain.specs.declared.numbers.TheConstants.{FIRST_RECEIVER}
use Rattle.journal_model.specs.Acts.{entry_before}
use Rattle.journal_model.specs.Catalogue.{Descriptions}
use Rattle.journal_model.specs.Rollback.{missing_behind, numbered_from}
use Rattle.journal_book.specs.Book.{BookState, HasMoreRoom, Holds}
use Rattle.journal_book.specs.Kept.{SpellEntries}
use Rattle.journal_book.proofs.Deposits.{more_holds}
use Rattle.journal_book.proofs.Forcing.{all_counted}
use Rattle.journal_replay.specs.SoFar.{EndsWhole}
use Rattle.journal_replay.specs.Standing.{Standing}
use Rattle.restart_rollback.specs.Journals.{IsLeftBy, journal_with}
use Rattle.restart_rollback.specs.Rollbacks.{CanReopen, IsForcedOrReplayed, rollback_entries, rolled_back}
use Rattle.restart_rollback.proofs.Wholes.{left-reopens, rolled-whole}
use Rattle.restarted_journal.specs.Restarts.{IsEnding, begun_with, restarted_entries}
use Rattle.restarted_journal.proofs.Beginnings.{begun-whole, rolled-restarted}

pub all-forced : (book : BookState) (entries : List Entry) (disk : Disk) → Holds book entries disk → book.waiting ≡ 0 → book.forced ≡ length entries
all-forced book entries disk holds none = let counted = all_counted book entries disk holds in omega (arith, counted, none)

-- the areas spell these entries, or those with more behind them, which can be replayed
abbrev IsFrontOrAll : Descriptions → (receiver : ℕ) → (front all : List Entry) → Areas → Type 0
IsFrontOrAll d receiver front all areas = SpellEntries receiver front areas ⊎ (SpellEntries receiver all areas × CanReopen d all)

-- so it is where exactly the front was forced
two-left : (d : Descriptions) (receiver forced : ℕ) (front more : List Entry) (areas : Areas) → forced ≡ length front → IsForcedOrReplayed d receiver forced (front ++ more) areas →
    IsFrontOrAll d receiver front (front ++ more) areas
two-left d receiver forced front more areas is (inl before) = inl (subst (λ (l : List Entry). SpellEntries receiver l areas) (take_at front more forced (sym is)) before)
two-left d receiver forced front more areas is (inr all) = inr all

module _ (d : Descriptions) (job : Option (List ℕ)) (moment : ℕ) (entries : List Entry) where
  by-begun : (areas : Areas) → CanReopen d entries → IsFrontOrAll d FIRST_RECEIVER entries (begun_with job moment entries) areas → IsEnding d job moment entries areas
  by-begun areas can (inl before) = record { left = entries; which = inl refl; spells = before; reopens = can }
  by-begun areas can (inr begun) = record { left = begun_with job moment entries; which = inr (inl refl); spells = begun.0; reopens = begun.1 }

  by-rolled : (now : List Entry) → now ≡ begun_with job moment entries → (areas : Areas) → CanReopen d now → IsFrontOrAll d FIRST_RECEIVER now
      (rolled_back job moment now) areas → IsEnding d job moment entries areas
  by-rolled now is areas can (inl begun) = record { left = now; which = inr (inl is); spells = begun; reopens = can }
  by-rolled now is areas can (inr ended) = record {
    left = rolled_back job moment now;
    which = inr (inr (ap (rolled_back job moment) is ∙ rolled-restarted job moment entries));
    spells = ended.0;
    reopens = ended.1;
  }

  -- while the receiver begins
  pub begin-ending : (s : Standing) → IsLeftBy d entries s → EndsWhole (journal_with entries) → (book : BookState) (old new : Disk) → Holds book entries old → book.waiting ≡ 0 → book.chain.first
      ≡ FIRST_RECEIVER
      → (EndsWhole (journal_with entries) → Leaves old new (IsForcedOrReplayed d book.chain.first book.forced (begun_with job moment entries))) → Leaves old new (IsEnding d job moment entries)
  begin-ending s left whole book old new holds none first leaves =
      leaves_less old new (IsForcedOrReplayed d book.chain.first book.forced (begun_with job moment entries)) (IsEnding d job moment entries) (leaves whole)
      (λ areas some. by-begun areas (left-reopens d entries s left whole) (subst (λ (n : ℕ). IsFrontOrAll d n entries (begun_with job moment entries) areas) first
      (two-left d book.chain.first book.forced entries (numbered_from (length entries + 1) (missing_behind job moment (entry_before Option.None entries))) areas
      (all-forced book entries old holds none) some)))

  -- while what is open is rolled back
  module _ (book journal : BookState) (room : HasMoreRoom book journal) (now : List Entry) (is : now ≡ begun_with job moment entries) (whole : EndsWhole (journal_with entries)) where
    pub roll-held : (old : Disk) → Holds book now old → Holds journal now old
    roll-held old holds = more_holds book journal now old room holds

    now-whole : EndsWhole (journal_with now)
    now-whole = subst (λ (l : List Entry). EndsWhole (journal_with l)) (sym is) (begun-whole job moment entries whole)

    pub roll-ending : (s : Standing) → IsLeftBy d now s → (old new : Disk) → Holds book now old → book.waiting ≡ 0 → book.chain.first ≡ FIRST_RECEIVER
        → (EndsWhole (journal_with now) → Leaves old new (IsForcedOrReplayed d journal.chain.first journal.forced (rolled_back job moment now))) → Leaves old new (IsEnding d job moment entries)
    roll-ending s left old new holds none first leaves =
        leaves_less old new (IsForcedOrReplayed d journal.chain.first journal.forced (rolled_back job moment now)) (IsEnding d job moment entries) (leaves now-whole)
        (λ areas some. by-rolled now is areas (left-reopens d now s left now-whole) (subst (λ (n : ℕ). IsFrontOrAll d n now (rolled_back job moment now) areas) (room.receiver ∙ first)
        (two-left d journal.chain.first journal.forced now (rollback_entries job moment now) areas (all-forced journal now old (roll-held old holds) (room.waiting ∙ none)) some)))

    -- and once it is
    pub roll-ended : (ended : List Entry) → ended ≡ rolled_back job moment now → ended ≡ restarted_entries job moment entries
    roll-ended ended same = same ∙ ap (rolled_back job moment) is ∙ rolled-restarted job moment entries

    pub roll-reopens : (ended : List Entry) → ended ≡ rolled_back job moment now → (s : Standing) → IsLeftBy d ended s → CanReopen d ended
    roll-reopens ended same s left = left-reopens d ended s left (subst (λ (l : List Entry). EndsWhole (journal_with l)) (sym same) (rolled-whole job moment now now-whole))
