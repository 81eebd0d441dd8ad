-- How a reply is printed: OK and what was done, or the refusal's name and what it carries. (Our own.)
use Rattle.std.specs.Prelude.{ℕ, ◌-◌, List, [], ◌∷◌, ◌++◌, slice_get, codes}
use Rattle.std.specs.Option.{unwrap_or}
use Rattle.std.specs.Fmt.{decimal}
use Rattle.dds_source.specs.declared.faults.DdsCause.{DdsCause}
use Rattle.dds_source.specs.declared.faults.DdsCause.TheVariants as dds
use Rattle.dds_source.specs.declared.faults.DdsFault.{DdsFault}
use Rattle.field_types.specs.declared.faults.ValueFault.{ValueFault}
use Rattle.field_types.specs.declared.faults.ValueFault.TheVariants.{WrongKind, TooManyDecimals, TooWide, BadDate, ReadOnlyField}
use Rattle.field_types.specs.declared.faults.RecordFault.{RecordFault}
use Rattle.field_types.specs.declared.faults.RecordFault.TheVariants.{Count, BadField}
use Rattle.library_model.specs.declared.replies.Reply.{Reply}
use Rattle.library_model.specs.declared.replies.Reply.TheVariants as reply
use Rattle.library_model.specs.declared.replies.Missing.{Missing}
use Rattle.library_model.specs.declared.replies.Missing.TheVariants.{Name, Receiver}
use Rattle.library_model.specs.declared.replies.LimitKind.{LimitKind}
use Rattle.library_model.specs.declared.replies.LimitKind.TheVariants as limit
use Rattle.listing.specs.Texts.{parameter, number_parameter, values_text}
use Rattle.listing.specs.EntryText.{range_parameter, entries_text}

-- the name of the job with this number
abbrev pub job_name : List (List ℕ) → ℕ → List ℕ
job_name names job = unwrap_or (slice_get names (job - 1)) []

abbrev pub limit_text : LimitKind → List ℕ
limit_text limit.Files = codes "Files"
limit_text limit.Members = codes "Members"
limit_text limit.MemberNumbers = codes "MemberNumbers"
limit_text limit.Paths = codes "Paths"
limit_text limit.Opens = codes "Opens"
limit_text limit.Locks = codes "Locks"
limit_text limit.LibraryBytes = codes "LibraryBytes"
limit_text limit.GroupChanges = codes "GroupChanges"
limit_text limit.GroupBytes = codes "GroupBytes"
limit_text limit.BlockBytes = codes "BlockBytes"
limit_text limit.DisplayEntries = codes "DisplayEntries"
limit_text limit.Receivers = codes "Receivers"
limit_text limit.Sequences = codes "Sequences"

abbrev pub missing_text : Missing → List ℕ
missing_text (Name name) = name
missing_text (Receiver number) = decimal number

abbrev pub value_cause : ValueFault → List ℕ
value_cause WrongKind = codes "WrongKind"
value_cause TooManyDecimals = codes "TooManyDecimals"
value_cause TooWide = codes "TooWide"
value_cause BadDate = codes "BadDate"
value_cause ReadOnlyField = codes "ReadOnlyField"

-- the field and the cause; field 0 where the number of values is wrong
abbrev pub record_fault_parameters : RecordFault → List ℕ
record_fault_parameters Count = number_parameter (codes "FLD") 0 ++ parameter (codes "CAUSE") (codes "Count")
record_fault_parameters (BadField field cause) = number_parameter (codes "FLD") field ++ parameter (codes "CAUSE") (value_cause cause)

abbrev pub dds_cause : DdsCause → List ℕ
dds_cause dds.BadColumn = codes "BadColumn"
dds_cause dds.BadName = codes "BadName"
dds_cause dds.BadNumber = codes "BadNumber"
dds_cause dds.UnfinishedText = codes "UnfinishedText"
dds_cause dds.OutOfOrder = codes "OutOfOrder"
dds_cause dds.DuplicateName = codes "DuplicateName"
dds_cause dds.BadLength = codes "BadLength"
dds_cause dds.BadDecimals = codes "BadDecimals"
dds_cause dds.BadType = codes "BadType"
dds_cause dds.UnknownKeyword = codes "UnknownKeyword"
dds_cause dds.BadArguments = codes "BadArguments"
dds_cause dds.Conflict = codes "Conflict"
dds_cause dds.NoFormat = codes "NoFormat"
dds_cause dds.NoSuchField = codes "NoSuchField"
dds_cause dds.UnknownReference = codes "UnknownReference"
dds_cause dds.TooLarge = codes "TooLarge"
dds_cause dds.NoBase = codes "NoBase"
dds_cause dds.NoBaseField = codes "NoBaseField"
dds_cause dds.KeyMismatch = codes "KeyMismatch"
dds_cause dds.JoinKeyNotPrimary = codes "JoinKeyNotPrimary"
dds_cause dds.ReadOnlyMapping = codes "ReadOnlyMapping"
dds_cause dds.Narrowing = codes "Narrowing"

abbrev pub dds_fault_parameters : DdsFault → List ℕ
dds_fault_parameters fault =
    number_parameter (codes "LINE") fault.line ++ number_parameter (codes "COL") fault.column
    ++ parameter (codes "CAUSE") (dds_cause fault.cause)

-- OK, or the name of the refusal
abbrev pub answer : Reply → List ℕ
answer reply.Done = codes "OK"
answer (reply.Record read) = codes "OK"
answer (reply.Added rrn) = codes "OK"
answer (reply.Range first last changes) = codes "OK"
answer (reply.Receiver number) = codes "OK"
answer (reply.Sequence number) = codes "OK"
answer (reply.Entries entries) = codes "OK"
answer (reply.RecordInUse job member rrn) = codes "RecordInUse"
answer (reply.HeldByGroup rrn) = codes "HeldByGroup"
answer (reply.PlaceInUse rrn) = codes "PlaceInUse"
answer reply.HeldToBoundary = codes "HeldToBoundary"
answer reply.NotFound = codes "NotFound"
answer reply.EndOfFile = codes "EndOfFile"
answer reply.BeginOfFile = codes "BeginOfFile"
answer reply.NoCurrentRecord = codes "NoCurrentRecord"
answer reply.WrongOpen = codes "WrongOpen"
answer reply.NoDefinition = codes "NoDefinition"
answer reply.AlreadyStarted = codes "AlreadyStarted"
answer reply.NoSuchEntry = codes "NoSuchEntry"
answer reply.MemberFull = codes "MemberFull"
answer reply.StoreFault = codes "StoreFault"
answer reply.NoMemory = codes "NoMemory"
answer (reply.DuplicateKey file rrn) = codes "DuplicateKey"
answer (reply.NoSuchName missing) = codes "NoSuchName"
answer (reply.NameExists name) = codes "NameExists"
answer (reply.Dependents name) = codes "Dependents"
answer (reply.BadValue fault) = codes "BadValue"
answer (reply.DdsFault fault) = codes "DdsFault"
answer (reply.InUse job) = codes "InUse"
answer (reply.NotJournaled member) = codes "NotJournaled"
answer (reply.PendingChanges group) = codes "PendingChanges"
answer (reply.Straddled group) = codes "Straddled"
answer (reply.DoesNotFit sequence rrn) = codes "DoesNotFit"
answer (reply.NeedsBoth sequence) = codes "NeedsBoth"
answer (reply.Gap sequence) = codes "Gap"
answer (reply.NotRemovable sequence) = codes "NotRemovable"
answer (reply.ReceiverGone sequence) = codes "ReceiverGone"
answer (reply.BlockChanged sequence) = codes "BlockChanged"
answer (reply.StillNeeded sequence) = codes "StillNeeded"
answer (reply.LimitReached which number) = codes "LimitReached"

-- what the reply carries
abbrev pub details : List (List ℕ) → Reply → List ℕ
details names (reply.Record read) =
    parameter (codes "FMT") read.format ++ number_parameter (codes "RRN") read.rrn ++ parameter (codes "VAL") (values_text read.values)
details names (reply.Added rrn) = number_parameter (codes "RRN") rrn
details names (reply.Range first last changes) = range_parameter first last changes
details names (reply.Receiver number) = number_parameter (codes "RCV") number
details names (reply.Sequence number) = number_parameter (codes "SEQ") number
details names (reply.RecordInUse job member rrn) =
    parameter (codes "JOB") (job_name names job) ++ number_parameter (codes "MBR") member ++ number_parameter (codes "RRN") rrn
details names (reply.HeldByGroup rrn) = number_parameter (codes "RRN") rrn
details names (reply.PlaceInUse rrn) = number_parameter (codes "RRN") rrn
details names (reply.DuplicateKey file rrn) = parameter (codes "FILE") file ++ number_parameter (codes "RRN") rrn
details names (reply.NoSuchName missing) = parameter (codes "NAME") (missing_text missing)
details names (reply.NameExists name) = parameter (codes "NAME") name
details names (reply.Dependents name) = parameter (codes "NAME") name
details names (reply.BadValue fault) = record_fault_parameters fault
details names (reply.DdsFault fault) = dds_fault_parameters fault
details names (reply.InUse job) = parameter (codes "JOB") (job_name names job)
details names (reply.NotJournaled member) = number_parameter (codes "MBR") member
details names (reply.PendingChanges group) = number_parameter (codes "GRP") group
details names (reply.Straddled group) = number_parameter (codes "GRP") group
details names (reply.DoesNotFit sequence rrn) = number_parameter (codes "SEQ") sequence ++ number_parameter (codes "RRN") rrn
details names (reply.NeedsBoth sequence) = number_parameter (codes "SEQ") sequence
details names (reply.Gap sequence) = number_parameter (codes "SEQ") sequence
details names (reply.NotRemovable sequence) = number_parameter (codes "SEQ") sequence
details names (reply.ReceiverGone sequence) = number_parameter (codes "SEQ") sequence
details names (reply.BlockChanged sequence) = number_parameter (codes "SEQ") sequence
details names (reply.StillNeeded sequence) = number_parameter (codes "SEQ") sequence
details names (reply.LimitReached which number) = parameter (codes "LIMIT") (limit_text which) ++ number_parameter (codes "NBR") number
details names (reply.Entries entries) = entries_text entries
details names reply.Done = []
details names reply.HeldToBoundary = []
details names reply.NotFound = []
details names reply.EndOfFile = []
details names reply.BeginOfFile = []
details names reply.NoCurrentRecord = []
details names reply.WrongOpen = []
details names reply.NoDefinition = []
details names reply.AlreadyStarted = []
details names reply.NoSuchEntry = []
details names reply.MemberFull = []
details names reply.StoreFault = []
details names reply.NoMemory = []

unfoldable pub reply_text : List (List ℕ) → Reply → List ℕ
reply_text names r = answer r ++ details names r
