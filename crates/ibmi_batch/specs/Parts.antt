-- What the parts of a command come to: an input read, a library made or shown, and jobs run over one that was opened. Each has a status. (Our own.)
use Rattle.std.specs.Prelude.{◌≡◌, ◌⊎◌, ℕ, ◌<◌, ◌≤◌, true, IsTrue, List, [], length}
use Rattle.std.specs.List.{list_all}
use Rattle.store_model.specs.Disk.{Areas, Disk, Leaves, May}
use Rattle.text_lines.specs.Lines.{lines_of}
use Rattle.entry_codec.specs.declared.entries.Entry.{Entry}
use Rattle.receiver_chain.specs.Others.{LeavesRoots}
use Rattle.front_laws.specs.Deposits.{AreShort}
use Rattle.library_steps.specs.State.{State}
use Rattle.library_steps.specs.History.{Outcome, Standing, Runs}
use Rattle.front_laws.specs.Fronts.{IsAnswered, IsFront}
use Rattle.library_model.specs.declared.calls.Call.{Call}
use Rattle.library_model.specs.declared.limits.TheConstants.{MOST_JOBS}
use Rattle.input_scripts.specs.declared.Scripts.{Scripts}
use Rattle.input_scripts.specs.Askable.{is_askable_script}
use Rattle.input_scripts.specs.Schedules.{NamesJobs}
use Rattle.input_reader.specs.Input.{faults_of}
use Rattle.job_runner.specs.Asked.{AreAsked}
use Rattle.job_runner.specs.Reading.{RunsReading}
use Rattle.job_runner.specs.Turns.{AreInTurn}
use Rattle.ibmi_batch.specs.declared.limits.TheConstants.{MOST_INPUT}
use Rattle.ibmi_batch.specs.declared.status.Status.{Status}
use Rattle.ibmi_batch.specs.declared.status.Status.TheVariants.{Done, Words, ReadFault, TooLong, Script, NotALibrary, Damaged, StoreFault, WriteFault, NoMemory, JobsEnded, Exists}
use Rattle.ibmi_batch.specs.Outcome.{Writing, IsDisplay, IsWritten, IsWrittenInPart, NothingWritten, ScriptRefused, RunOver, HasRun, HasShown}
use Rattle.ibmi_batch.specs.Storing.{Storing, StoreRose, IsUntouched, WasEmpty, WasSomething, WasNoJournal, IsFormatting, IsFormatted, IsStart, IsRestart}
use Rattle.ibmi_batch.specs.Words.{are_serial_words}

-- ---- an input is read

-- scripts that a session may begin
pub record AreRunnable (scripts : Scripts) : Type 0 where
  pub short : AreShort scripts.sources
  pub askable : IsTrue (list_all is_askable_script scripts.scripts)
  pub named : length scripts.names ≡ length scripts.scripts
  pub few : length scripts.scripts ≤ MOST_JOBS
  pub scheduled : NamesJobs (length scripts.scripts) scripts.schedule

-- why an input was not read
abbrev pub IsUnread : Status → (tells : Type 0) (input left : List ℕ) (rose : Type 0) → Type 0
IsUnread ReadFault tells input left rose = rose
IsUnread TooLong tells input left rose = tells → MOST_INPUT < length input
IsUnread (Script line) tells input left rose = (tells → ScriptRefused input left line) × (tells → faults_of (lines_of input) ≡ [] → ⊥)
IsUnread NoMemory tells input left rose = Unit {0}
IsUnread Done tells input left rose = ⊥
IsUnread Words tells input left rose = ⊥
IsUnread NotALibrary tells input left rose = ⊥
IsUnread (Damaged area at) tells input left rose = ⊥
IsUnread StoreFault tells input left rose = ⊥
IsUnread WriteFault tells input left rose = ⊥
IsUnread JobsEnded tells input left rose = ⊥
IsUnread Exists tells input left rose = ⊥

-- ---- a library is made

abbrev pub Makes : Status → Storing → Type 0
Makes Done storing = IsFormatted storing × IsFormatting storing
Makes Exists storing = IsUntouched storing × WasSomething storing
Makes StoreFault storing = StoreRose storing × IsFormatting storing
Makes NoMemory storing = IsFormatting storing
Makes Words storing = ⊥
Makes ReadFault storing = ⊥
Makes TooLong storing = ⊥
Makes (Script line) storing = ⊥
Makes NotALibrary storing = ⊥
Makes (Damaged area at) storing = ⊥
Makes WriteFault storing = ⊥
Makes JobsEnded storing = ⊥

-- ---- a library is opened, and shown or its jobs run

-- why a library was not opened, or what it has was not written for want of memory
abbrev pub IsUnopened : Status → Storing → Type 0
IsUnopened NotALibrary storing = IsUntouched storing × WasEmpty storing
IsUnopened (Damaged area at) storing = IsUntouched storing × WasSomething storing × WasNoJournal storing
IsUnopened StoreFault storing = StoreRose storing × IsRestart storing
IsUnopened NoMemory storing = IsRestart storing
IsUnopened Done storing = ⊥
IsUnopened Words storing = ⊥
IsUnopened ReadFault storing = ⊥
IsUnopened TooLong storing = ⊥
IsUnopened (Script line) storing = ⊥
IsUnopened WriteFault storing = ⊥
IsUnopened JobsEnded storing = ⊥
IsUnopened Exists storing = ⊥

-- nothing was written, as the library was not opened
abbrev pub IsRefused : Status → Writing → Storing → Type 0
IsRefused status writing storing = NothingWritten writing × IsUnopened status storing

-- what was written of a library's display, or why nothing was: memory was wanting, the store failed, or a block of the journal didn't read back
abbrev pub Displays : Status → (tells : Type 0) → State → Writing → (rose : Type 0) → Type 0
Displays Done tells shown writing rose = IsDisplay tells shown (λ text. IsWritten text writing)
Displays WriteFault tells shown writing rose = IsDisplay tells shown (λ text. IsWrittenInPart text writing)
Displays NoMemory tells shown writing rose = NothingWritten writing
Displays StoreFault tells shown writing rose = NothingWritten writing × rose
Displays (Damaged area at) tells shown writing rose = NothingWritten writing × (tells → ⊥)
Displays Words tells shown writing rose = ⊥
Displays ReadFault tells shown writing rose = ⊥
Displays TooLong tells shown writing rose = ⊥
Displays (Script line) tells shown writing rose = ⊥
Displays NotALibrary tells shown writing rose = ⊥
Displays JobsEnded tells shown writing rose = ⊥
Displays Exists tells shown writing rose = ⊥

-- the library was shown
pub record ShownOver (status : Status) (writing : Writing) (storing : Storing) : Type 0 where
  pub before : List Entry
  pub shown : State
  pub starts : IsStart storing before shown
  pub restart : IsRestart storing
  pub written : HasShown status storing.tells shown writing

-- it was opened, and a block of its journal didn't read back
pub record UnreadOver (status : Status) (writing : Writing) (storing : Storing) : Type 0 where
  pub area : ℕ
  pub at : ℕ
  pub is : status ≡ Damaged area at
  pub written : NothingWritten writing
  pub untold : storing.tells → ⊥
  pub restart : IsRestart storing

abbrev pub Shows : Status → Writing → Storing → Type 0
Shows status writing storing = ShownOver status writing storing ⊎ (UnreadOver status writing storing ⊎ IsRefused status writing storing)

-- the jobs ran, and where a call found the store at fault its count of faults rose; or no call was made
abbrev pub RunsJobs : Status → (words : List (List ℕ)) → Scripts → (List Call → Type 0) → Writing → Storing → Type 0
RunsJobs status words scripts given writing storing =
    (RunOver status words scripts given writing storing × (status ≡ StoreFault → StoreRose storing)) ⊎ IsRefused status writing storing

-- what a session came to, from a state with its jobs begun
pub record SessionRan (tells : Type 0) (first last : Disk) (status : Status) (words : List (List ℕ)) (scripts : Scripts) (from : State) (given : List Call → Type 0) (writing : Writing) : Type 0 where
  pub calls : List Call
  pub outcome : Outcome
  pub reading : RunsReading tells scripts.sources (Standing from) calls outcome
  pub legal : tells → Runs scripts.sources (Standing from) calls outcome
  pub asked : AreAsked scripts.scripts [] calls
  pub order : are_serial_words words ≡ true → AreInTurn (length scripts.scripts) scripts.schedule [] calls
  pub timestamps : given calls
  pub moments : tells → Leaves first last (IsFront scripts.sources from calls [] outcome)
  pub acknowledged : tells → (areas : Areas) → May last areas → IsFront scripts.sources from calls calls outcome areas
  pub answered : tells → (number : ℕ) → number ≤ length calls → IsAnswered scripts.sources from calls outcome first last number
  pub roots : LeavesRoots first last
  pub ran : HasRun status scripts calls outcome writing
