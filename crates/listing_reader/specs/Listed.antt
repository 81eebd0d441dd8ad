-- Which calls a listing shows whole, and what it shows of the others.
use Rattle.std.specs.Prelude.{◌≡◌, ℕ, ◌<◌, ◌≤◌, ◌^◌, ⊤, Bool, false, nat_lt, IsTrue, Option, Some, None, List, [], ◌∷◌, length, replicate, map}
use Rattle.std.specs.List.{list_all}
use Rattle.entry_codec.specs.Spelling.{HasSpelling, IsKind, IsHead}
use Rattle.entry_codec.specs.declared.entries.Entry.{Entry}
use Rattle.entry_codec.specs.declared.kinds.EntryKind.{EntryKind}
use Rattle.entry_codec.specs.declared.kinds.EntryKind.TheVariants as kind
use Rattle.field_types.specs.SystemName.{is_name}
use Rattle.field_types.specs.declared.faults.RecordFault.{RecordFault}
use Rattle.field_types.specs.declared.faults.RecordFault.TheVariants.{Count, BadField}
use Rattle.field_types.specs.declared.values.Value.{Value}
use Rattle.field_types.specs.declared.values.Value.TheVariants.{Chars, Number}
use Rattle.library_model.specs.declared.calls.Call.{Call}
use Rattle.library_model.specs.declared.replies.Missing.{Missing}
use Rattle.library_model.specs.declared.replies.Missing.TheVariants as missing
use Rattle.library_model.specs.declared.replies.Reply.{Reply}
use Rattle.library_model.specs.declared.replies.Reply.TheVariants as reply
use Rattle.library_model.specs.declared.requests.FileMember.{FileMember}
use Rattle.library_model.specs.declared.requests.JournaledChanges.{JournaledChanges}
use Rattle.library_model.specs.declared.requests.SetPosition.{SetPosition}
use Rattle.library_model.specs.declared.requests.ReadRecord.{ReadRecord}
use Rattle.library_model.specs.declared.requests.ReadEqual.{ReadEqual}
use Rattle.library_model.specs.declared.requests.RangeEnd.{RangeEnd}
use Rattle.library_model.specs.declared.requests.RangeEnd.TheVariants as range_end
use Rattle.library_model.specs.declared.requests.Limit.{Limit}
use Rattle.library_model.specs.declared.requests.Limit.TheVariants as limit
use Rattle.library_model.specs.declared.requests.ChainTo.{ChainTo}
use Rattle.library_model.specs.declared.requests.ChainTo.TheVariants as chain_to
use Rattle.library_model.specs.declared.requests.Request.{Request}
use Rattle.library_model.specs.declared.requests.Request.TheVariants as request
use Rattle.listing.specs.Texts.{magnitude}
use Rattle.statement_reader.specs.Commands.{is_word}
use Rattle.listing_words.specs.declared.numbers.TheConstants.{MOST_UNITS}

-- ---- what the types of fields keep

abbrev pub IsName : List ℕ → Type 0
IsName name = IsTrue (is_name name)

abbrev pub IsOptionalName : Option (List ℕ) → Type 0
IsOptionalName None = ⊤
IsOptionalName (Some name) = IsName name

abbrev pub IsNumber : ℕ → Type 0
IsNumber number = number < 2 ^ 32

abbrev pub IsLong : ℕ → Type 0
IsLong number = number < 2 ^ 64

abbrev pub is_byte : ℕ → Bool
is_byte b = nat_lt b 256

abbrev pub AreBytes : List ℕ → Type 0
AreBytes text = IsTrue (list_all is_byte text)

abbrev pub AreOptionalBytes : Option (List ℕ) → Type 0
AreOptionalBytes None = ⊤
AreOptionalBytes (Some text) = AreBytes text

-- a number has at most 31 digits
abbrev pub IsValue : Value → Type 0
IsValue (Chars text) = AreBytes text
IsValue (Number number) = (number.scale < 256) × (magnitude number.units ≤ MOST_UNITS)

abbrev pub AreValues : List Value → Type 0
AreValues [] = ⊤
AreValues (value ∷ values) = IsValue value × AreValues values

abbrev pub IsGiven : Option Value → Type 0
IsGiven None = ⊤
IsGiven (Some value) = IsValue value

abbrev pub AreGiven : List (Option Value) → Type 0
AreGiven [] = ⊤
AreGiven (value ∷ values) = IsGiven value × AreGiven values

abbrev pub IsEnd : RangeEnd → Type 0
IsEnd range_end.First = ⊤
IsEnd range_end.Last = ⊤
IsEnd (range_end.Sequence number) = IsLong number

abbrev pub IsFormat : Option (List ℕ) → Type 0
IsFormat format = IsOptionalName format

abbrev pub IsPlace : Option ℕ → Type 0
IsPlace None = ⊤
IsPlace (Some rrn) = IsNumber rrn

abbrev pub IsLimit : Limit → Type 0
IsLimit (limit.Key values) = AreValues values
IsLimit limit.LowValue = ⊤
IsLimit limit.HighValue = ⊤
IsLimit (limit.RecordNumber rrn) = IsNumber rrn

abbrev pub IsChainTo : ChainTo → Type 0
IsChainTo (chain_to.Key values) = AreValues values
IsChainTo (chain_to.RecordNumber rrn) = IsNumber rrn

abbrev pub IsMissing : Missing → Type 0
IsMissing (missing.Name name) = IsName name
IsMissing (missing.Receiver number) = IsNumber number

abbrev pub IsRecordFault : RecordFault → Type 0
IsRecordFault Count = ⊤
IsRecordFault (BadField field cause) = field < 2 ^ 16

-- ---- requests

abbrev pub FitsFileMember : FileMember → Type 0
FitsFileMember args = IsName args.file × IsName args.member

abbrev pub FitsJournaledChanges : JournaledChanges → Type 0
FitsJournaledChanges args = IsName args.file × IsName args.member × IsEnd args.from × IsEnd args.to

abbrev pub FitsSetPosition : SetPosition → Type 0
FitsSetPosition args = IsName args.open_id × IsLimit args.to

abbrev pub FitsReadRecord : ReadRecord → Type 0
FitsReadRecord args = IsName args.open_id

abbrev pub FitsReadEqual : ReadEqual → Type 0
FitsReadEqual args = IsName args.open_id × AreValues args.key

abbrev pub IsRequest : Request → Type 0
IsRequest (request.CreatePhysicalFile args) = IsName args.file × IsName args.source
IsRequest (request.CreateLogicalFile args) = IsName args.file × IsName args.source
IsRequest (request.DeleteFile args) = IsName args.file
IsRequest (request.AddMember args) = FitsFileMember args
IsRequest (request.ClearMember args) = FitsFileMember args
IsRequest (request.ReorganizeMember args) = FitsFileMember args
IsRequest (request.StartJournaling args) = IsName args.file × IsName args.member
IsRequest (request.EndJournaling args) = FitsFileMember args
IsRequest request.ChangeJournal = ⊤
IsRequest (request.DeleteReceiver args) = IsNumber args.number
IsRequest request.Checkpoint = ⊤
IsRequest (request.DisplayJournal args) = IsLong args.from × IsLong args.to
IsRequest (request.ApplyChanges args) = FitsJournaledChanges args
IsRequest (request.RemoveChanges args) = FitsJournaledChanges args
IsRequest (request.StartCommitment args) = ⊤
IsRequest request.EndCommitment = ⊤
IsRequest request.Commit = ⊤
IsRequest request.Rollback = ⊤
IsRequest (request.OpenFile args) = IsName args.file × IsName args.member × IsName args.open_id
IsRequest (request.CloseFile args) = IsName args.open_id
IsRequest (request.SetLowerLimit args) = FitsSetPosition args
IsRequest (request.SetGreaterThan args) = FitsSetPosition args
IsRequest (request.Read args) = FitsReadRecord args
IsRequest (request.ReadPrior args) = FitsReadRecord args
IsRequest (request.ReadEqual args) = FitsReadEqual args
IsRequest (request.ReadPriorEqual args) = FitsReadEqual args
IsRequest (request.Chain args) = IsName args.open_id × IsChainTo args.to
IsRequest (request.Write args) = IsName args.open_id × IsFormat args.format × IsPlace args.record_number × AreGiven args.values
IsRequest (request.Update args) = IsName args.open_id × AreGiven args.values
IsRequest (request.Delete args) = IsName args.open_id
IsRequest (request.Unlock args) = IsName args.open_id
IsRequest (request.EndJob args) = IsNumber args.line

-- ---- entries

abbrev pub AreKindBytes : EntryKind → Type 0
AreKindBytes (kind.FileCreated file_kind name source) = ⊤
AreKindBytes (kind.FileDeleted name) = ⊤
AreKindBytes (kind.MemberAdded file name) = ⊤
AreKindBytes (kind.JournalingStarted images slots) = ⊤
AreKindBytes (kind.InitialSlot image) = AreBytes image
AreKindBytes kind.JournalingEnded = ⊤
AreKindBytes kind.MemberCleared = ⊤
AreKindBytes kind.MemberReorganized = ⊤
AreKindBytes (kind.ChangesApplied first last changes) = ⊤
AreKindBytes (kind.ChangesRemoved first last changes) = ⊤
AreKindBytes (kind.RecordAdded image) = AreBytes image
AreKindBytes (kind.RecordAddedAtNumber image) = AreBytes image
AreKindBytes (kind.BeforeImage image) = AreBytes image
AreKindBytes (kind.AfterImage has_before image) = AreBytes image
AreKindBytes (kind.RecordDeleted before) = AreOptionalBytes before
AreKindBytes (kind.UndoBeforeImage image) = AreBytes image
AreKindBytes (kind.UndoAfterImage has_before image) = AreBytes image
AreKindBytes (kind.UndoDelete image) = AreBytes image
AreKindBytes (kind.CommitmentStarted level) = ⊤
AreKindBytes kind.CommitCycleStarted = ⊤
AreKindBytes kind.CommitCycleCommitted = ⊤
AreKindBytes kind.CommitCycleRolledBack = ⊤
AreKindBytes kind.CommitmentEnded = ⊤
AreKindBytes kind.AbnormalEnd = ⊤
AreKindBytes (kind.NextReceiver number) = ⊤
AreKindBytes (kind.PreviousReceiver number) = ⊤

-- an entry that a journal can hold
pub record IsEntry (e : Entry) : Type 0 where
  pub spelled : HasSpelling e
  pub head : IsHead e
  pub kind : IsKind e.kind
  pub bytes : AreKindBytes e.kind

abbrev pub AreEntries : List Entry → Type 0
AreEntries [] = ⊤
AreEntries (entry ∷ entries) = IsEntry entry × AreEntries entries

-- ---- replies and calls

-- a job by its number, which has one of the names
abbrev pub HasName : List (List ℕ) → ℕ → Type 0
HasName names job = (1 ≤ job) × (job ≤ length names)

abbrev pub IsReply : List (List ℕ) → Reply → Type 0
IsReply names reply.Done = ⊤
IsReply names (reply.Record read) = IsName read.format × IsNumber read.rrn × AreValues read.values
IsReply names (reply.Added rrn) = IsNumber rrn
IsReply names (reply.Range first last changes) = IsLong first × IsLong last × IsNumber changes
IsReply names (reply.Receiver number) = IsNumber number
IsReply names (reply.Sequence number) = IsLong number
IsReply names (reply.Entries entries) = AreEntries entries
IsReply names (reply.RecordInUse job member rrn) = HasName names job × IsNumber member × IsNumber rrn
IsReply names (reply.HeldByGroup rrn) = IsNumber rrn
IsReply names (reply.PlaceInUse rrn) = IsNumber rrn
IsReply names reply.HeldToBoundary = ⊤
IsReply names reply.NotFound = ⊤
IsReply names reply.EndOfFile = ⊤
IsReply names reply.BeginOfFile = ⊤
IsReply names reply.NoCurrentRecord = ⊤
IsReply names reply.WrongOpen = ⊤
IsReply names reply.NoDefinition = ⊤
IsReply names reply.AlreadyStarted = ⊤
IsReply names reply.NoSuchEntry = ⊤
IsReply names reply.MemberFull = ⊤
IsReply names reply.StoreFault = ⊤
IsReply names reply.NoMemory = ⊤
IsReply names (reply.DuplicateKey file rrn) = IsName file × IsNumber rrn
IsReply names (reply.NoSuchName what) = IsMissing what
IsReply names (reply.NameExists name) = IsName name
IsReply names (reply.Dependents name) = IsName name
IsReply names (reply.BadValue fault) = IsRecordFault fault
IsReply names (reply.DdsFault fault) = IsNumber fault.line × IsNumber fault.column
IsReply names (reply.InUse job) = HasName names job
IsReply names (reply.NotJournaled member) = IsNumber member
IsReply names (reply.PendingChanges group) = IsLong group
IsReply names (reply.Straddled group) = IsLong group
IsReply names (reply.DoesNotFit sequence rrn) = IsLong sequence × IsNumber rrn
IsReply names (reply.NeedsBoth sequence) = IsLong sequence
IsReply names (reply.Gap sequence) = IsLong sequence
IsReply names (reply.NotRemovable sequence) = IsLong sequence
IsReply names (reply.ReceiverGone sequence) = IsLong sequence
IsReply names (reply.BlockChanged sequence) = IsLong sequence
IsReply names (reply.StillNeeded sequence) = IsLong sequence
IsReply names (reply.LimitReached which number) = IsLong number

-- a call that can be listed: its fields hold what their types hold, and each job has a name
pub record IsCall (names : List (List ℕ)) (call : Call) : Type 0 where
  pub job : HasName names call.job
  pub timestamp : IsLong call.timestamp
  pub request : IsRequest call.request
  pub reply : IsReply names call.reply

abbrev pub AreCalls : List (List ℕ) → List Call → Type 0
AreCalls names [] = ⊤
AreCalls names (call ∷ calls) = IsCall names call × AreCalls names calls

-- names, no two of them the same
abbrev pub IsNew : List ℕ → List (List ℕ) → Type 0
IsNew name [] = ⊤
IsNew name (other ∷ others) = (is_word name other ≡ false) × IsNew name others

abbrev pub AreDifferent : List (List ℕ) → Type 0
AreDifferent [] = ⊤
AreDifferent (name ∷ names) = IsName name × IsNew name names × AreDifferent names

-- ---- what a listing shows

-- of a source its length alone
abbrev pub shown_kind : EntryKind → EntryKind
shown_kind (kind.FileCreated file_kind name source) = kind.FileCreated file_kind name (replicate (length source) 32)
shown_kind (kind.FileDeleted name) = kind.FileDeleted name
shown_kind (kind.MemberAdded file name) = kind.MemberAdded file name
shown_kind (kind.JournalingStarted images slots) = kind.JournalingStarted images slots
shown_kind (kind.InitialSlot image) = kind.InitialSlot image
shown_kind kind.JournalingEnded = kind.JournalingEnded
shown_kind kind.MemberCleared = kind.MemberCleared
shown_kind kind.MemberReorganized = kind.MemberReorganized
shown_kind (kind.ChangesApplied first last changes) = kind.ChangesApplied first last changes
shown_kind (kind.ChangesRemoved first last changes) = kind.ChangesRemoved first last changes
shown_kind (kind.RecordAdded image) = kind.RecordAdded image
shown_kind (kind.RecordAddedAtNumber image) = kind.RecordAddedAtNumber image
shown_kind (kind.BeforeImage image) = kind.BeforeImage image
shown_kind (kind.AfterImage has_before image) = kind.AfterImage has_before image
shown_kind (kind.RecordDeleted before) = kind.RecordDeleted before
shown_kind (kind.UndoBeforeImage image) = kind.UndoBeforeImage image
shown_kind (kind.UndoAfterImage has_before image) = kind.UndoAfterImage has_before image
shown_kind (kind.UndoDelete image) = kind.UndoDelete image
shown_kind (kind.CommitmentStarted level) = kind.CommitmentStarted level
shown_kind kind.CommitCycleStarted = kind.CommitCycleStarted
shown_kind kind.CommitCycleCommitted = kind.CommitCycleCommitted
shown_kind kind.CommitCycleRolledBack = kind.CommitCycleRolledBack
shown_kind kind.CommitmentEnded = kind.CommitmentEnded
shown_kind kind.AbnormalEnd = kind.AbnormalEnd
shown_kind (kind.NextReceiver number) = kind.NextReceiver number
shown_kind (kind.PreviousReceiver number) = kind.PreviousReceiver number

abbrev pub shown_entry : Entry → Entry
shown_entry e = record { sequence = e.sequence; job = e.job; moment = e.moment; group = e.group; member = e.member; rrn = e.rrn; kind = shown_kind e.kind }

-- no entries at all are shown as a request that was done
abbrev pub shown_entries : List Entry → Reply
shown_entries [] = reply.Done
shown_entries (entry ∷ entries) = reply.Entries (map shown_entry (entry ∷ entries))

abbrev pub shown_reply : Reply → Reply
shown_reply reply.Done = reply.Done
shown_reply (reply.Record read) = reply.Record read
shown_reply (reply.Added rrn) = reply.Added rrn
shown_reply (reply.Range first last changes) = reply.Range first last changes
shown_reply (reply.Receiver number) = reply.Receiver number
shown_reply (reply.Sequence number) = reply.Sequence number
shown_reply (reply.Entries entries) = shown_entries entries
shown_reply (reply.RecordInUse job member rrn) = reply.RecordInUse job member rrn
shown_reply (reply.HeldByGroup rrn) = reply.HeldByGroup rrn
shown_reply (reply.PlaceInUse rrn) = reply.PlaceInUse rrn
shown_reply reply.HeldToBoundary = reply.HeldToBoundary
shown_reply reply.NotFound = reply.NotFound
shown_reply reply.EndOfFile = reply.EndOfFile
shown_reply reply.BeginOfFile = reply.BeginOfFile
shown_reply reply.NoCurrentRecord = reply.NoCurrentRecord
shown_reply reply.WrongOpen = reply.WrongOpen
shown_reply reply.NoDefinition = reply.NoDefinition
shown_reply reply.AlreadyStarted = reply.AlreadyStarted
shown_reply reply.NoSuchEntry = reply.NoSuchEntry
shown_reply reply.MemberFull = reply.MemberFull
shown_reply reply.StoreFault = reply.StoreFault
shown_reply reply.NoMemory = reply.NoMemory
shown_reply (reply.DuplicateKey file rrn) = reply.DuplicateKey file rrn
shown_reply (reply.NoSuchName what) = reply.NoSuchName what
shown_reply (reply.NameExists name) = reply.NameExists name
shown_reply (reply.Dependents name) = reply.Dependents name
shown_reply (reply.BadValue fault) = reply.BadValue fault
shown_reply (reply.DdsFault fault) = reply.DdsFault fault
shown_reply (reply.InUse job) = reply.InUse job
shown_reply (reply.NotJournaled member) = reply.NotJournaled member
shown_reply (reply.PendingChanges group) = reply.PendingChanges group
shown_reply (reply.Straddled group) = reply.Straddled group
shown_reply (reply.DoesNotFit sequence rrn) = reply.DoesNotFit sequence rrn
shown_reply (reply.NeedsBoth sequence) = reply.NeedsBoth sequence
shown_reply (reply.Gap sequence) = reply.Gap sequence
shown_reply (reply.NotRemovable sequence) = reply.NotRemovable sequence
shown_reply (reply.ReceiverGone sequence) = reply.ReceiverGone sequence
shown_reply (reply.BlockChanged sequence) = reply.BlockChanged sequence
shown_reply (reply.StillNeeded sequence) = reply.StillNeeded sequence
shown_reply (reply.LimitReached which number) = reply.LimitReached which number

-- a call, with blanks in place of the sources in its reply
abbrev pub shown : Call → Call
shown call = record { job = call.job; timestamp = call.timestamp; request = call.request; reply = shown_reply call.reply }
