-- Which refusal a reply is, and which refusals a MONMSG takes. (CL, MONMSG.)
use Rattle.std.specs.Prelude.{ℕ, Bool, true, ◌==◌, Option, Some, None}
use Rattle.std.specs.List.{list_any}
use Rattle.library_model.specs.declared.replies.Reply.{Reply}
use Rattle.library_model.specs.declared.replies.Reply.TheVariants as reply
use Rattle.library_model.specs.declared.replies.Reply.TheVariants.{Done, Record, Added, Range, Receiver, Sequence, Entries}
use Rattle.job_language.specs.declared.refusals.Refusal.{Refusal}
use Rattle.job_language.specs.declared.refusals.Refusal.TheVariants.{RecordInUse, HeldByGroup, PlaceInUse, HeldToBoundary, NotFound, EndOfFile, BeginOfFile, NoCurrentRecord, WrongOpen, NoDefinition, AlreadyStarted, NoSuchEntry, MemberFull, StoreFault, NoMemory, DuplicateKey, NoSuchName, NameExists, Dependents, BadValue, DdsFault, InUse, NotJournaled, PendingChanges, Straddled, DoesNotFit, NeedsBoth, Gap, NotRemovable, ReceiverGone, BlockChanged, StillNeeded, LimitReached}
use Rattle.job_language.specs.declared.refusals.Monitored.{Monitored}
use Rattle.job_language.specs.declared.refusals.Monitored.TheVariants.{Any, Named}

-- the name of a refusal; the other replies are OK
abbrev pub refusal_of : Reply → Option Refusal
refusal_of Done = None
refusal_of (Record read) = None
refusal_of (Added rrn) = None
refusal_of (Range first last changes) = None
refusal_of (Receiver number) = None
refusal_of (Sequence number) = None
refusal_of (Entries entries) = None
refusal_of (reply.RecordInUse job member rrn) = Some RecordInUse
refusal_of (reply.HeldByGroup rrn) = Some HeldByGroup
refusal_of (reply.PlaceInUse rrn) = Some PlaceInUse
refusal_of reply.HeldToBoundary = Some HeldToBoundary
refusal_of reply.NotFound = Some NotFound
refusal_of reply.EndOfFile = Some EndOfFile
refusal_of reply.BeginOfFile = Some BeginOfFile
refusal_of reply.NoCurrentRecord = Some NoCurrentRecord
refusal_of reply.WrongOpen = Some WrongOpen
refusal_of reply.NoDefinition = Some NoDefinition
refusal_of reply.AlreadyStarted = Some AlreadyStarted
refusal_of reply.NoSuchEntry = Some NoSuchEntry
refusal_of reply.MemberFull = Some MemberFull
refusal_of reply.StoreFault = Some StoreFault
refusal_of reply.NoMemory = Some NoMemory
refusal_of (reply.DuplicateKey file rrn) = Some DuplicateKey
refusal_of (reply.NoSuchName missing) = Some NoSuchName
refusal_of (reply.NameExists name) = Some NameExists
refusal_of (reply.Dependents name) = Some Dependents
refusal_of (reply.BadValue fault) = Some BadValue
refusal_of (reply.DdsFault fault) = Some DdsFault
refusal_of (reply.InUse job) = Some InUse
refusal_of (reply.NotJournaled member) = Some NotJournaled
refusal_of (reply.PendingChanges group) = Some PendingChanges
refusal_of (reply.Straddled group) = Some Straddled
refusal_of (reply.DoesNotFit sequence rrn) = Some DoesNotFit
refusal_of (reply.NeedsBoth sequence) = Some NeedsBoth
refusal_of (reply.Gap sequence) = Some Gap
refusal_of (reply.NotRemovable sequence) = Some NotRemovable
refusal_of (reply.ReceiverGone sequence) = Some ReceiverGone
refusal_of (reply.BlockChanged sequence) = Some BlockChanged
refusal_of (reply.StillNeeded sequence) = Some StillNeeded
refusal_of (reply.LimitReached which number) = Some LimitReached

-- refusals have different names: numbered in their order
abbrev pub name_number : Refusal → ℕ
name_number RecordInUse = 0
name_number HeldByGroup = 1
name_number PlaceInUse = 2
name_number HeldToBoundary = 3
name_number NotFound = 4
name_number EndOfFile = 5
name_number BeginOfFile = 6
name_number NoCurrentRecord = 7
name_number WrongOpen = 8
name_number NoDefinition = 9
name_number AlreadyStarted = 10
name_number NoSuchEntry = 11
name_number MemberFull = 12
name_number StoreFault = 13
name_number NoMemory = 14
name_number DuplicateKey = 15
name_number NoSuchName = 16
name_number NameExists = 17
name_number Dependents = 18
name_number BadValue = 19
name_number DdsFault = 20
name_number InUse = 21
name_number NotJournaled = 22
name_number PendingChanges = 23
name_number Straddled = 24
name_number DoesNotFit = 25
name_number NeedsBoth = 26
name_number Gap = 27
name_number NotRemovable = 28
name_number ReceiverGone = 29
name_number BlockChanged = 30
name_number StillNeeded = 31
name_number LimitReached = 32

abbrev pub is_same : Refusal → Refusal → Bool
is_same left right = name_number left == name_number right

-- *ANY takes every refusal, a list of names those that it names
abbrev pub takes : Monitored → Refusal → Bool
takes Any refusal = true
takes (Named names) refusal = list_any (λ name. is_same name refusal) names
