-- What an outcome of a command is, status by status: its cause, what was read, what the jobs did, what was written, and what became of the store. (Our own.)
-- Sources, sinks and stores may tell what they have. What each job's script asked, and what each call came to for what it read of the journal, is said whether
-- they tell it or not; that the calls are a legal history needs a store that tells.
use Rattle.std.specs.Prelude.{◌≡◌, ◌⊎◌, ℕ, ◌<◌, ◌≤◌, Bool, true, false, IsTrue, Some, List, [], ◌++◌, length, take}
use Rattle.entry_codec.specs.declared.entries.Entry.{Entry}
use Rattle.text_lines.specs.Lines.{lines_of}
use Rattle.library_steps.specs.State.{State, begun}
use Rattle.library_steps.specs.History.{Outcome, Standing, Failed, Runs}
use Rattle.library_model.specs.declared.calls.Call.{Call}
use Rattle.input_scripts.specs.declared.Scripts.{Scripts}
use Rattle.script_builder.specs.Least.{least}
use Rattle.input_reader.specs.Input.{faults_of, input_of}
use Rattle.job_runner.specs.Asked.{AreAsked}
use Rattle.job_runner.specs.Ended.{has_ended, has_early_end}
use Rattle.job_runner.specs.Reading.{RunsReading}
use Rattle.job_runner.specs.Turns.{AreInTurn}
use Rattle.listing.specs.HistoryListing.{listing}
use Rattle.display.specs.Display.{display_reading}
use Rattle.ibmi_batch.specs.declared.limits.TheConstants.{MOST_INPUT}
use Rattle.ibmi_batch.specs.declared.status.Status.{Status}
use Rattle.ibmi_batch.specs.declared.status.Status.TheVariants.{Done, Words, ReadFault, TooLong, Script, NotALibrary, Damaged, StoreFault, WriteFault, NoMemory, JobsEnded, Exists}
use Rattle.ibmi_batch.specs.Storing.{Storing, StoreRose, IsUntouched, WasEmpty, WasSomething, WasNoJournal, IsFormatting, IsFormatted, IsStart, IsRestart, IsKeptRun, IsEmpty, SpelledBefore}
use Rattle.ibmi_batch.specs.Words.{are_command_words, are_job_words, are_open_words, are_format_words, are_display_words, are_serial_words}

-- what a command was given to read: the words, what the source had and has left, where it tells it, and whether it found a fault
pub record Reading : Type 1 where
  pub words : List (List ℕ)
  pub tells : Type 0
  pub input : List ℕ
  pub left : List ℕ
  pub rose : Type 0

-- what it was given to write to: what the sink had taken and has taken now, where it tells it, and whether it found a fault
pub record Writing : Type 1 where
  pub tells : Type 0
  pub old : List ℕ
  pub new : List ℕ
  pub rose : Type 0

abbrev pub NothingWritten : Writing → Type 0
NothingWritten writing = writing.tells → writing.new ≡ writing.old

-- the whole text was written
abbrev pub IsWritten : List ℕ → Writing → Type 0
IsWritten text writing = writing.tells → writing.new ≡ writing.old ++ text

-- the sink failed, and the first part of the text was written
abbrev pub IsWrittenInPart : List ℕ → Writing → Type 0
IsWrittenInPart text writing = writing.rose × (writing.tells → (part : ℕ) × (writing.new ≡ writing.old ++ take part text))

-- ---- jobs are run

-- the scripts are what an input says: the one that the source had, where the source tells it
pub record IsRead (tells : Type 0) (input : List ℕ) (scripts : Scripts) : Type 0 where
  pub bytes : List ℕ
  pub whole : tells → input ≡ bytes
  pub short : length bytes ≤ MOST_INPUT
  pub sound : faults_of (lines_of bytes) ≡ []
  pub says : scripts ≡ input_of (lines_of bytes)

-- from a start on, each of the calls is of a job of these scripts, which runs, and comes to what its step comes to for what was read of the journal; where the
-- store tells its bytes, they are a legal history. Each is what its job's script asks; where the words are those of SERIAL, they are made in turn by the schedule
pub record IsRun (tells : Type 0) (words : List (List ℕ)) (scripts : Scripts) (start : State) (calls : List Call) (outcome : Outcome) : Type 0 where
  pub reading : RunsReading tells scripts.sources (Standing (begun start scripts.names)) calls outcome
  pub legal : tells → Runs scripts.sources (Standing (begun start scripts.names)) calls outcome
  pub asked : AreAsked scripts.scripts [] calls
  pub order : are_serial_words words ≡ true → AreInTurn (length scripts.scripts) scripts.schedule [] calls

-- each job made all the calls that its script asks
abbrev pub HaveEnded : Scripts → List Call → Type 0
HaveEnded scripts calls = (job : ℕ) → 1 ≤ job → job ≤ length scripts.scripts → IsTrue (has_ended job calls)

-- no call found the store at fault
abbrev pub IsStanding : Outcome → Type 0
IsStanding outcome = (s : State) × (outcome ≡ Standing s)

-- a call found the store at fault, and no more calls were made
abbrev pub IsCutShort : Outcome → Type 0
IsCutShort outcome = (entries : List Entry) × (outcome ≡ Failed entries)

-- the jobs ran to their ends, and some ended early or none did
pub record HaveRun (scripts : Scripts) (early : Bool) (calls : List Call) (outcome : Outcome) : Type 0 where
  pub ended : HaveEnded scripts calls
  pub ends : has_early_end calls ≡ early
  pub stands : IsStanding outcome

-- what the calls came to and what was written, at each status that a run can come to
abbrev pub HasRun : Status → Scripts → List Call → Outcome → Writing → Type 0
HasRun Done scripts calls outcome writing = HaveRun scripts false calls outcome × IsWritten (listing scripts.names calls) writing
HasRun JobsEnded scripts calls outcome writing = HaveRun scripts true calls outcome × IsWritten (listing scripts.names calls) writing
HasRun WriteFault scripts calls outcome writing = HaveEnded scripts calls × IsStanding outcome × IsWrittenInPart (listing scripts.names calls) writing
HasRun StoreFault scripts calls outcome writing =
    IsCutShort outcome × (IsWritten (listing scripts.names calls) writing ⊎ IsWrittenInPart (listing scripts.names calls) writing)
HasRun NoMemory scripts calls outcome writing = NothingWritten writing
HasRun Words scripts calls outcome writing = ⊥
HasRun ReadFault scripts calls outcome writing = ⊥
HasRun TooLong scripts calls outcome writing = ⊥
HasRun (Script line) scripts calls outcome writing = ⊥
HasRun NotALibrary scripts calls outcome writing = ⊥
HasRun (Damaged area at) scripts calls outcome writing = ⊥
HasRun Exists scripts calls outcome writing = ⊥

-- the library was opened, and the jobs of these scripts made these calls
pub record RunOver (status : Status) (words : List (List ℕ)) (scripts : Scripts) (given : List Call → Type 0) (writing : Writing) (storing : Storing) : Type 0 where
  pub before : List Entry
  pub start : State
  pub starts : IsStart storing before start
  pub calls : List Call
  pub outcome : Outcome
  pub run : IsRun storing.tells words scripts start calls outcome
  pub timestamps : given calls
  pub kept : IsKeptRun storing before scripts.sources (begun start scripts.names) calls outcome
  pub ran : HasRun status scripts calls outcome writing

-- the words were those of RUN or SERIAL, the input was read to its end and has no line at fault, and the jobs of its scripts ran
pub record WasRun (status : Status) (reading : Reading) (given : List Call → Type 0) (writing : Writing) (storing : Storing) : Type 0 where
  pub words : are_job_words reading.words ≡ true
  pub left : reading.tells → reading.left ≡ []
  pub scripts : Scripts
  pub read : IsRead reading.tells reading.input scripts
  pub over : RunOver status reading.words scripts given writing storing

-- ---- a library is shown

-- a text is the display of a library: its files and members, and entries that were read of its journal, as many as that has. Where the store tells of its
-- bytes they are its own, and the text is `display shown`
pub record IsDisplay (tells : Type 0) (shown : State) (IsText : List ℕ → Type 0) : Type 0 where
  pub read : List Entry
  pub many : length read ≡ length shown.entries
  pub own : tells → read ≡ shown.entries
  pub is_text : IsText (display_reading shown read)

-- what was written of the display of the library, which was opened and brought to its end by a restart
abbrev pub HasShown : Status → (tells : Type 0) → State → Writing → Type 0
HasShown Done tells shown writing = IsDisplay tells shown (λ text. IsWritten text writing)
HasShown WriteFault tells shown writing = IsDisplay tells shown (λ text. IsWrittenInPart text writing)
HasShown Words tells shown writing = ⊥
HasShown ReadFault tells shown writing = ⊥
HasShown TooLong tells shown writing = ⊥
HasShown (Script line) tells shown writing = ⊥
HasShown NotALibrary tells shown writing = ⊥
HasShown (Damaged area at) tells shown writing = ⊥
HasShown StoreFault tells shown writing = ⊥
HasShown NoMemory tells shown writing = ⊥
HasShown JobsEnded tells shown writing = ⊥
HasShown Exists tells shown writing = ⊥

pub record WasShown (status : Status) (reading : Reading) (writing : Writing) (storing : Storing) : Type 0 where
  pub words : are_display_words reading.words ≡ true
  pub before : List Entry
  pub shown : State
  pub starts : IsStart storing before shown
  pub restart : IsRestart storing
  pub written : HasShown status storing.tells shown writing

-- the library was opened, and a block of its journal didn't read back as the entries that were deposited, as it always does over a store that tells of its
-- bytes: nothing was written
pub record WasUnread (reading : Reading) (writing : Writing) (storing : Storing) : Type 0 where
  pub words : are_display_words reading.words ≡ true
  pub written : NothingWritten writing
  pub untold : storing.tells → ⊥
  pub restart : IsRestart storing

-- ---- a library is made

pub record WasFormatted (reading : Reading) (writing : Writing) (storing : Storing) : Type 0 where
  pub words : are_format_words reading.words ≡ true
  pub written : NothingWritten writing
  pub formatted : IsFormatted storing
  pub moments : IsFormatting storing

-- ---- refusals

-- Words comes where the words are not those of a command; nothing is read, written or stored
pub record WordsRefused (reading : Reading) (writing : Writing) (storing : Storing) : Type 0 where
  pub words : are_command_words reading.words ≡ false
  pub written : NothingWritten writing
  pub stored : IsUntouched storing

-- the words were those of a command that reads an input, and nothing was written or stored; what the input was
pub record InputRefused (reading : Reading) (writing : Writing) (storing : Storing) (cause : Type 0) : Type 0 where
  pub words : are_job_words reading.words ≡ true
  pub written : NothingWritten writing
  pub stored : IsUntouched storing
  pub why : cause

-- the input was read to its end, and the line is the first at fault
pub record ScriptRefused (input left : List ℕ) (line : ℕ) : Type 0 where
  pub read : left ≡ []
  pub fault : least (faults_of (lines_of input)) ≡ Some line
  pub short : length input ≤ MOST_INPUT

-- the words were those of such commands, an input that was asked for has no line at fault, and nothing was written or stored; what the store was
pub record StoreRefused (words : Bool) (reading : Reading) (writing : Writing) (storing : Storing) (cause : Type 0) : Type 0 where
  pub command : words ≡ true
  pub input : are_job_words reading.words ≡ true → reading.tells → faults_of (lines_of reading.input) ≡ []
  pub written : NothingWritten writing
  pub stored : IsUntouched storing
  pub why : cause

-- nothing was written, and no call was made; what a stop may have left meanwhile, by the command
pub record IsBeforeCalls (reading : Reading) (writing : Writing) (storing : Storing) : Type 0 where
  pub command : are_command_words reading.words ≡ true
  pub written : NothingWritten writing
  pub restart : are_open_words reading.words ≡ true → IsRestart storing
  pub formatting : are_format_words reading.words ≡ true → IsFormatting storing

-- what has come about at each status
abbrev pub Comes : Status → Reading → (List Call → Type 0) → Writing → Storing → Type 0
Comes Words reading given writing storing = WordsRefused reading writing storing
Comes ReadFault reading given writing storing = InputRefused reading writing storing reading.rose
Comes TooLong reading given writing storing = InputRefused reading writing storing (reading.tells → MOST_INPUT < length reading.input)
Comes (Script line) reading given writing storing = InputRefused reading writing storing (reading.tells → ScriptRefused reading.input reading.left line)
Comes NotALibrary reading given writing storing = StoreRefused (are_open_words reading.words) reading writing storing (WasEmpty storing)
Comes (Damaged area at) reading given writing storing =
    StoreRefused (are_open_words reading.words) reading writing storing (WasSomething storing × WasNoJournal storing) ⊎ WasUnread reading writing storing
Comes Exists reading given writing storing = StoreRefused (are_format_words reading.words) reading writing storing (WasSomething storing)
Comes Done reading given writing storing = WasRun Done reading given writing storing ⊎ (WasShown Done reading writing storing ⊎ WasFormatted reading writing storing)
Comes JobsEnded reading given writing storing = WasRun JobsEnded reading given writing storing
Comes WriteFault reading given writing storing = WasRun WriteFault reading given writing storing ⊎ WasShown WriteFault reading writing storing
Comes StoreFault reading given writing storing = StoreRose storing × (WasRun StoreFault reading given writing storing ⊎ IsBeforeCalls reading writing storing)
Comes NoMemory reading given writing storing = WasRun NoMemory reading given writing storing ⊎ IsBeforeCalls reading writing storing

-- words of a command; where it reads an input, one without a line at fault that isn't too long; where it opens a library, a store that spells a journal; where
-- it makes one, a store that is empty
pub record IsInOrder (reading : Reading) (storing : Storing) : Type 0 where
  pub words : are_command_words reading.words ≡ true
  pub input : are_job_words reading.words ≡ true → faults_of (lines_of reading.input) ≡ []
  pub short : are_job_words reading.words ≡ true → length reading.input ≤ MOST_INPUT
  pub journal : are_open_words reading.words ≡ true → (entries : List Entry) × SpelledBefore storing entries
  pub empty : are_format_words reading.words ≡ true → IsEmpty storing

-- the command was done, or memory was wanting; or a fault came
abbrev pub IsOrderly : Status → Reading → Writing → Storing → Type 0
IsOrderly Done reading writing storing = Unit {0}
IsOrderly JobsEnded reading writing storing = Unit {0}
IsOrderly NoMemory reading writing storing = Unit {0}
IsOrderly ReadFault reading writing storing = reading.rose
IsOrderly WriteFault reading writing storing = writing.rose
IsOrderly StoreFault reading writing storing = StoreRose storing
IsOrderly Words reading writing storing = ⊥
IsOrderly TooLong reading writing storing = ⊥
IsOrderly (Script line) reading writing storing = ⊥
IsOrderly NotALibrary reading writing storing = ⊥
IsOrderly (Damaged area at) reading writing storing = ⊥
IsOrderly Exists reading writing storing = ⊥

-- The outcome of a command: what has come about at the status, and that what is in order is done.
pub record IsOutcome (status : Status) (reading : Reading) (given : List Call → Type 0) (writing : Writing) (storing : Storing) : Type 0 where
  pub comes : Comes status reading given writing storing
  pub complete : (are_job_words reading.words ≡ true → reading.tells) → storing.tells → IsInOrder reading storing → IsOrderly status reading writing storing
