-- The names of refusals, as MSGID has them.
use Rattle.std.specs.Prelude.{ℕ, if◌then◌else◌, Option, Some, None, List, codes}
use Rattle.std.specs.Option.{option_or}
use Rattle.job_language.specs.declared.refusals.Refusal.{Refusal}
use Rattle.job_language.specs.declared.refusals.Refusal.TheVariants.{RecordInUse, HeldByGroup, PlaceInUse, HeldToBoundary, NotFound, EndOfFile, BeginOfFile, NoCurrentRecord, WrongOpen, NoDefinition, AlreadyStarted, NoSuchEntry, MemberFull, StoreFault, NoMemory, DuplicateKey, NoSuchName, NameExists, Dependents, BadValue, DdsFault, InUse, NotJournaled, PendingChanges, Straddled, DoesNotFit, NeedsBoth, Gap, NotRemovable, ReceiverGone, BlockChanged, StillNeeded, LimitReached}
use Rattle.statement_reader.specs.Commands.{is_word}

unfoldable pub record_refusal : List ℕ → Option Refusal
record_refusal word =
    if is_word (codes "RecordInUse") word then Some RecordInUse
    else (if is_word (codes "HeldByGroup") word then Some HeldByGroup
    else (if is_word (codes "PlaceInUse") word then Some PlaceInUse
    else (if is_word (codes "HeldToBoundary") word then Some HeldToBoundary
    else (if is_word (codes "NotFound") word then Some NotFound
    else (if is_word (codes "EndOfFile") word then Some EndOfFile
    else (if is_word (codes "BeginOfFile") word then Some BeginOfFile
    else (if is_word (codes "NoCurrentRecord") word then Some NoCurrentRecord else None)))))))

unfoldable pub state_refusal : List ℕ → Option Refusal
state_refusal word =
    if is_word (codes "WrongOpen") word then Some WrongOpen
    else (if is_word (codes "NoDefinition") word then Some NoDefinition
    else (if is_word (codes "AlreadyStarted") word then Some AlreadyStarted
    else (if is_word (codes "NoSuchEntry") word then Some NoSuchEntry
    else (if is_word (codes "MemberFull") word then Some MemberFull
    else (if is_word (codes "StoreFault") word then Some StoreFault
    else (if is_word (codes "NoMemory") word then Some NoMemory
    else (if is_word (codes "LimitReached") word then Some LimitReached else None)))))))

unfoldable pub file_refusal : List ℕ → Option Refusal
file_refusal word =
    if is_word (codes "DuplicateKey") word then Some DuplicateKey
    else (if is_word (codes "NoSuchName") word then Some NoSuchName
    else (if is_word (codes "NameExists") word then Some NameExists
    else (if is_word (codes "Dependents") word then Some Dependents
    else (if is_word (codes "BadValue") word then Some BadValue
    else (if is_word (codes "DdsFault") word then Some DdsFault
    else (if is_word (codes "InUse") word then Some InUse
    else (if is_word (codes "NotJournaled") word then Some NotJournaled else None)))))))

unfoldable pub journal_refusal : List ℕ → Option Refusal
journal_refusal word =
    if is_word (codes "PendingChanges") word then Some PendingChanges
    else (if is_word (codes "Straddled") word then Some Straddled
    else (if is_word (codes "DoesNotFit") word then Some DoesNotFit
    else (if is_word (codes "NeedsBoth") word then Some NeedsBoth
    else (if is_word (codes "Gap") word then Some Gap
    else (if is_word (codes "NotRemovable") word then Some NotRemovable
    else (if is_word (codes "ReceiverGone") word then Some ReceiverGone
    else (if is_word (codes "BlockChanged") word then Some BlockChanged
    else (if is_word (codes "StillNeeded") word then Some StillNeeded else None))))))))

-- the refusal of this name
unfoldable pub refusal_named : List ℕ → Option Refusal
refusal_named word = option_or (option_or (option_or (record_refusal word) (state_refusal word)) (file_refusal word)) (journal_refusal word)
