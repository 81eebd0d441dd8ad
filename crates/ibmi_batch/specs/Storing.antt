-- What does a command make of the store that keeps the library, and what does a stop leave of it meanwhile? (Journal Management, "Recovery operations using
-- journaling". What a stop may leave of a disk is our own.)
use Rattle.std.specs.Prelude.{◌≡◌, ◌⊎◌, ◌≤◌, ℕ, List, [], length, take}
use Rattle.store_model.specs.Disk.{Areas, Disk, Leaves, May, Stays}
use Rattle.store_model.specs.Faults.{Rose}
use Rattle.entry_codec.specs.declared.entries.Entry.{Entry}
use Rattle.checkpoint.specs.declared.layout.TheConstants.{ROOT_AREA}
use Rattle.journal_opening.specs.Journals.{IsEmptyLibrary, IsFormattingOf, SpellJournal}
use Rattle.restart_model.specs.Sources.{descriptions}
use Rattle.restart_model.specs.Libraries.{restart_job}
use Rattle.opened_library.specs.Restarts.{MayRestart}
use Rattle.library_model.specs.declared.calls.Call.{Call}
use Rattle.library_model.specs.declared.sources.NamedSource.{NamedSource}
use Rattle.library_steps.specs.State.{State}
use Rattle.library_steps.specs.History.{Outcome, Standing, Runs}
use Rattle.front_laws.specs.Fronts.{entries_at, IsFront}
use Rattle.opened_library.specs.Opened.{IsOpenedFrom, Restarts}

-- whether the store tells its bytes, and the disk before the command and behind it
pub record Storing : Type 1 where
  pub tells : Type 0
  pub old : Disk
  pub new : Disk

-- the store failed
abbrev pub StoreRose : Storing → Type 0
StoreRose storing = Rose storing.old.faults storing.new.faults

-- nothing was written: a stop leaves what a stop before could
abbrev pub IsUntouched : Storing → Type 0
IsUntouched storing = Stays storing.old storing.new

-- area 0 was empty
abbrev pub IsEmpty : Storing → Type 0
IsEmpty storing = storing.old.seen ROOT_AREA ≡ []

abbrev pub WasEmpty : Storing → Type 0
WasEmpty storing = storing.tells → IsEmpty storing

-- area 0 had bytes
abbrev pub WasSomething : Storing → Type 0
WasSomething storing = storing.tells → IsEmpty storing → ⊥

-- the areas spelled a journal of these entries, which can be replayed
abbrev pub SpelledBefore : Storing → List Entry → Type 0
SpelledBefore storing entries = SpellJournal descriptions entries storing.old.seen

-- they spelled none
abbrev pub WasNoJournal : Storing → Type 0
WasNoJournal storing = storing.tells → (entries : List Entry) → SpelledBefore storing entries → ⊥

-- ---- a library is made

-- at every moment a stop leaves what a stop before could, no library yet, or an empty one
abbrev pub IsFormatting : Storing → Type 0
IsFormatting storing = storing.tells → Leaves storing.old storing.new (IsFormattingOf storing.old)

-- there was none before; behind it the store, and whatever a stop leaves of it, is an empty library
pub record IsFormatted (storing : Storing) : Type 0 where
  pub was_empty : WasEmpty storing
  pub spells : storing.tells → IsEmptyLibrary storing.new.seen
  pub durable : storing.tells → (areas : Areas) → May storing.new areas → IsEmptyLibrary areas

-- ---- a library is opened

-- the state is that of the library which was opened, whose store spelled these entries
abbrev pub IsStart : Storing → List Entry → State → Type 0
IsStart storing before start = IsOpenedFrom storing.tells storing.old before start

-- whatever the store spelled, at every moment a stop leaves what a stop before could, or the entries as a restart begins or ends them
abbrev pub IsRestart : Storing → Type 0
IsRestart storing = Restarts storing.tells storing.old storing.new

-- ---- calls are made

-- a stop leaves the journal of whole calls, and the store can be opened again with it
pub record IsOpenFront (sources : List NamedSource) (start : State) (calls acknowledged : List Call) (outcome : Outcome) (areas : Areas) : Type 0 where
  pub front : IsFront sources start calls acknowledged outcome areas
  pub spells : SpellJournal descriptions (take front.count (entries_at outcome)) areas

-- at every moment a stop leaves what it may within a restart, or the journal of whole calls
abbrev pub MayRun : (disk : Disk) → List Entry → List NamedSource → State → List Call → Outcome → Areas → Type 0
MayRun disk before sources start calls outcome areas = MayRestart descriptions disk restart_job 0 before areas ⊎ IsOpenFront sources start calls [] outcome areas

-- there is a moment, that of the answer to the call with this number, before which a stop leaves what it may within a restart or whole ones of the calls up
-- to it, and since which it leaves whole calls with every change that these acknowledged
pub record IsAnsweredAt (storing : Storing) (before : List Entry) (sources : List NamedSource) (start : State) (calls : List Call) (outcome : Outcome) (number : ℕ) : Type 0 where
  pub moment : ℕ
  pub begun : storing.old.moment ≤ moment
  pub ended : moment ≤ storing.new.moment
  pub reached : Outcome
  pub runs : Runs sources (Standing start) (take number calls) reached
  pub earlier : (areas : Areas) → storing.new.since storing.old.moment areas
      → storing.new.since moment areas ⊎ MayRun storing.old before sources start (take number calls) reached areas
  pub since : (areas : Areas) → storing.new.since moment areas → IsOpenFront sources start calls (take number calls) outcome areas

-- and behind the calls a stop leaves the journal of whole calls with every change that was acknowledged; so it does behind each of them
pub record IsKeptRun (storing : Storing) (before : List Entry) (sources : List NamedSource) (start : State) (calls : List Call) (outcome : Outcome) : Type 0 where
  pub moments : storing.tells → Leaves storing.old storing.new (MayRun storing.old before sources start calls outcome)
  pub acknowledged : storing.tells → (areas : Areas) → May storing.new areas → IsOpenFront sources start calls calls outcome areas
  pub answered : storing.tells → (number : ℕ) → number ≤ length calls → IsAnsweredAt storing before sources start calls outcome number
