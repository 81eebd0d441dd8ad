-- What a restart makes of a journal whose receiver has begun: its open commit cycles are rolled back. (Commitment Control, "Commitment control during
-- abnormal job end and restart".)
use Rattle.std.specs.Prelude.{ℕ, ◌+◌, ◌⊎◌, Option, None, List, [], ◌++◌, length, take}
use Rattle.store_model.specs.Disk.{Areas}
use Rattle.entry_codec.specs.declared.entries.Entry.{Entry}
use Rattle.journal_model.specs.Catalogue.{Descriptions}
use Rattle.journal_model.specs.Journal.{CanReplayJournal, open_cycles}
use Rattle.journal_model.specs.Rollback.{numbered_from, restart_drafts, undos_of}
use Rattle.journaled_entries.specs.Deposited.{AreDeposited}
use Rattle.journal_book.specs.Kept.{SpellEntries}
use Rattle.journal_opening.specs.Journals.{journal_with}

-- the entries that a restart deposits behind these
abbrev pub rollback_entries : (job : Option (List ℕ)) (moment : ℕ) → List Entry → List Entry
rollback_entries job moment entries = numbered_from (length entries + 1) (restart_drafts job moment (open_cycles (journal_with entries)) (undos_of [] None entries))

abbrev pub rolled_back : (job : Option (List ℕ)) (moment : ℕ) → List Entry → List Entry
rolled_back job moment entries = entries ++ rollback_entries job moment entries

-- ---- what a stop leaves

-- a store with these entries can be opened again
pub record CanReopen (d : Descriptions) (entries : List Entry) : Type 0 where
  pub replays : CanReplayJournal d (journal_with entries)
  pub deposited : AreDeposited entries

-- exactly the entries that were forced, or all of these, with which it can be opened again
abbrev pub IsForcedOrReplayed : Descriptions → (receiver forced : ℕ) → List Entry → Areas → Type 0
IsForcedOrReplayed d receiver forced entries areas = SpellEntries receiver (take forced entries) areas ⊎ (SpellEntries receiver entries areas × CanReopen d entries)
