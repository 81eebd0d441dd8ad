-- What does a restart make of a store's journal, and what does a stop leave meanwhile? (Commitment Control, "Commitment control during abnormal job end
-- and restart". That a receiver may lack the entry by which it begins is this project's own.)
use Rattle.std.specs.Prelude.{ℕ, ◌+◌, ◌≡◌, ◌⊎◌, Option, Some, None, List, [], ◌++◌, length}
use Rattle.store_model.specs.Disk.{Areas, Disk, May}
use Rattle.entry_codec.specs.declared.entries.Entry.{Entry}
use Rattle.entry_codec.specs.declared.kinds.EntryKind.{EntryKind}
use Rattle.entry_codec.specs.declared.kinds.EntryKind.TheVariants.{PreviousReceiver}
use Rattle.entry_codec.specs.Drafts.{numbered}
use Rattle.journal_model.specs.Acts.{entry_before}
use Rattle.journal_model.specs.Catalogue.{Descriptions}
use Rattle.journal_model.specs.Journal.{CanReplayJournal, restarted}
use Rattle.journal_model.specs.Rollback.{library_draft, missing_behind, numbered_from}
use Rattle.journal_replay.specs.Standing.{Standing}
use Rattle.journaled_entries.specs.Deposited.{AreDeposited}
use Rattle.receiver_chain.specs.declared.numbers.TheConstants.{FIRST_RECEIVER}
use Rattle.journal_book.specs.Book.{BookState, Holds}
use Rattle.journal_book.specs.Kept.{SpellEntries}
use Rattle.restart_rollback.specs.Journals.{IsLeftBy, SpellJournal, journal_with}
use Rattle.restart_rollback.specs.Rollbacks.{CanReopen}

-- the kind of the entry by which the receiver behind the one of this number begins
abbrev pub beginning : Option ℕ → Option EntryKind
beginning None = None
beginning (Some number) = Some (PreviousReceiver number)

abbrev pub first_entry : (job : Option (List ℕ)) (moment number sequence : ℕ) → Entry
first_entry job moment number sequence = numbered (library_draft job moment (PreviousReceiver number)) sequence

-- the entries with the one by which the attached receiver begins, where that is missing
abbrev pub begun_with : (job : Option (List ℕ)) (moment : ℕ) → List Entry → List Entry
begun_with job moment entries = entries ++ numbered_from (length entries + 1) (missing_behind job moment (entry_before None entries))

-- the entries as a restart ends them
abbrev pub restarted_entries : (job : Option (List ℕ)) (moment : ℕ) → List Entry → List Entry
restarted_entries job moment entries = (restarted job moment (journal_with entries)).later

-- ---- what a stop leaves

-- what was left is these entries, or they as their restart begins or ends them
abbrev pub IsStage : (job : Option (List ℕ)) (moment : ℕ) → (entries left : List Entry) → Type 0
IsStage job moment entries left = (left ≡ entries) ⊎ ((left ≡ begun_with job moment entries) ⊎ (left ≡ restarted_entries job moment entries))

-- the receivers hold such entries, with which a store can be opened again
pub record IsEnding (d : Descriptions) (job : Option (List ℕ)) (moment : ℕ) (entries : List Entry) (areas : Areas) : Type 0 where
  pub left : List Entry
  pub which : IsStage job moment entries left
  pub spells : SpellEntries FIRST_RECEIVER left areas
  pub reopens : CanReopen d left

-- the areas spell the journal of such entries, with its roots
pub record IsRestarting (d : Descriptions) (job : Option (List ℕ)) (moment : ℕ) (entries : List Entry) (areas : Areas) : Type 0 where
  pub left : List Entry
  pub which : IsStage job moment entries left
  pub spells : SpellJournal d left areas

-- the same, or what a stop before could leave
abbrev pub MayRestart : (d : Descriptions) (disk : Disk) → (job : Option (List ℕ)) (moment : ℕ) → List Entry → Areas → Type 0
MayRestart d disk job moment entries areas = May disk areas ⊎ IsRestarting d job moment entries areas

-- ---- when it is done

-- these entries were ended: the book holds what they are then, all of it on the disk, a store can be opened again with that, and this is what it leaves
pub record IsEnded (d : Descriptions) (tells : Type 0) (disk : Disk) (job : Option (List ℕ)) (moment : ℕ) (before : List Entry) (book : BookState) (entries : List Entry) (s : Standing) : Type 0 where
  pub ended : entries ≡ restarted_entries job moment before
  pub held : tells → Holds book entries disk
  pub nothing_waits : book.waiting ≡ 0
  pub receiver : book.chain.first ≡ FIRST_RECEIVER
  pub reopens : CanReopen d entries
  pub left : IsLeftBy d entries s
  pub closed : s.cycles ≡ []

-- the journal was restarted: which entries there were before, and that they were ended
pub record IsRestarted (d : Descriptions) (tells : Type 0) (old new : Disk) (job : Option (List ℕ)) (moment : ℕ) (book : BookState) (entries : List Entry) (s : Standing) : Type 0 where
  pub before : List Entry
  pub replays : CanReplayJournal d (journal_with before)
  pub deposited : AreDeposited before
  pub spelled : tells → SpellJournal d before old.seen
  pub ended : IsEnded d tells new job moment before book entries s
