-- How much of a history is kept: what each call counts, and when the history is full. (Our own limit.)
use Rattle.std.specs.Prelude.{◌≡◌, ℕ, ◌+◌, ◌-◌, ◌^◌, Bool, true, false, not, ◌||◌, nat_le, min, Option, Some, None, List, count_by, length}
use Rattle.std.specs.List.{sum_by}
use Rattle.entry_codec.specs.declared.entries.Entry.{Entry}
use Rattle.entry_codec.specs.Spelling.{spelling}
use Rattle.field_types.specs.declared.values.Value.{Value}
use Rattle.field_types.specs.declared.values.Value.TheVariants.{Chars, Number}
use Rattle.job_history.specs.declared.limits.TheConstants.{MOST_CALLS, MOST_BYTES}
use Rattle.library_model.specs.declared.calls.Call.{Call}
use Rattle.library_model.specs.declared.requests.Request.{Request}
use Rattle.library_model.specs.declared.requests.Request.TheVariants as request
use Rattle.library_model.specs.declared.requests.Limit.{Limit}
use Rattle.library_model.specs.declared.requests.Limit.TheVariants as limit
use Rattle.library_model.specs.declared.requests.ChainTo.{ChainTo}
use Rattle.library_model.specs.declared.requests.ChainTo.TheVariants.{Key, RecordNumber}
use Rattle.library_model.specs.Ending.{is_end_job}
use Rattle.library_model.specs.declared.replies.Reply.{Reply}
use Rattle.library_model.specs.declared.replies.Reply.TheVariants as reply

-- a text counts its bytes, a number 17
abbrev pub value_bytes : Value → ℕ
value_bytes (Chars text) = length text
value_bytes (Number number) = 17

abbrev pub given_value_bytes : Option Value → ℕ
given_value_bytes None = 0
given_value_bytes (Some value) = value_bytes value

abbrev pub values_bytes : List Value → ℕ
values_bytes values = sum_by value_bytes values

abbrev pub given_bytes : List (Option Value) → ℕ
given_bytes values = sum_by given_value_bytes values

abbrev pub limit_bytes : Limit → ℕ
limit_bytes (limit.Key values) = values_bytes values
limit_bytes limit.LowValue = 0
limit_bytes limit.HighValue = 0
limit_bytes (limit.RecordNumber rrn) = 0

abbrev pub chain_bytes : ChainTo → ℕ
chain_bytes (Key values) = values_bytes values
chain_bytes (RecordNumber rrn) = 0

-- the values of VAL and KEY
abbrev pub request_bytes : Request → ℕ
request_bytes (request.Write args) = given_bytes args.values
request_bytes (request.Update args) = given_bytes args.values
request_bytes (request.ReadEqual args) = values_bytes args.key
request_bytes (request.ReadPriorEqual args) = values_bytes args.key
request_bytes (request.SetLowerLimit args) = limit_bytes args.to
request_bytes (request.SetGreaterThan args) = limit_bytes args.to
request_bytes (request.Chain args) = chain_bytes args.to
request_bytes (request.CreatePhysicalFile args) = 0
request_bytes (request.CreateLogicalFile args) = 0
request_bytes (request.DeleteFile args) = 0
request_bytes (request.AddMember args) = 0
request_bytes (request.ClearMember args) = 0
request_bytes (request.ReorganizeMember args) = 0
request_bytes (request.StartJournaling args) = 0
request_bytes (request.EndJournaling args) = 0
request_bytes request.ChangeJournal = 0
request_bytes (request.DeleteReceiver args) = 0
request_bytes request.Checkpoint = 0
request_bytes (request.DisplayJournal args) = 0
request_bytes (request.ApplyChanges args) = 0
request_bytes (request.RemoveChanges args) = 0
request_bytes (request.StartCommitment args) = 0
request_bytes request.EndCommitment = 0
request_bytes request.Commit = 0
request_bytes request.Rollback = 0
request_bytes (request.OpenFile args) = 0
request_bytes (request.CloseFile args) = 0
request_bytes (request.Read args) = 0
request_bytes (request.ReadPrior args) = 0
request_bytes (request.Delete args) = 0
request_bytes (request.Unlock args) = 0
request_bytes (request.EndJob args) = 0

-- the bytes of entries in the journal
abbrev pub entries_bytes : List Entry → ℕ
entries_bytes entries = sum_by (λ entry. length (spelling entry)) entries

-- the values of a record that was read, and the entries that are shown
abbrev pub reply_bytes : Reply → ℕ
reply_bytes (reply.Record read) = values_bytes read.values
reply_bytes (reply.Entries entries) = entries_bytes entries
reply_bytes reply.Done = 0
reply_bytes (reply.Added rrn) = 0
reply_bytes (reply.Range first last changes) = 0
reply_bytes (reply.Receiver number) = 0
reply_bytes (reply.Sequence number) = 0
reply_bytes (reply.RecordInUse job member rrn) = 0
reply_bytes (reply.HeldByGroup rrn) = 0
reply_bytes (reply.PlaceInUse rrn) = 0
reply_bytes reply.HeldToBoundary = 0
reply_bytes reply.NotFound = 0
reply_bytes reply.EndOfFile = 0
reply_bytes reply.BeginOfFile = 0
reply_bytes reply.NoCurrentRecord = 0
reply_bytes reply.WrongOpen = 0
reply_bytes reply.NoDefinition = 0
reply_bytes reply.AlreadyStarted = 0
reply_bytes reply.NoSuchEntry = 0
reply_bytes reply.MemberFull = 0
reply_bytes reply.StoreFault = 0
reply_bytes reply.NoMemory = 0
reply_bytes (reply.DuplicateKey file rrn) = 0
reply_bytes (reply.NoSuchName missing) = 0
reply_bytes (reply.NameExists name) = 0
reply_bytes (reply.Dependents name) = 0
reply_bytes (reply.BadValue fault) = 0
reply_bytes (reply.DdsFault fault) = 0
reply_bytes (reply.InUse job) = 0
reply_bytes (reply.NotJournaled member) = 0
reply_bytes (reply.PendingChanges group) = 0
reply_bytes (reply.Straddled group) = 0
reply_bytes (reply.DoesNotFit sequence rrn) = 0
reply_bytes (reply.NeedsBoth sequence) = 0
reply_bytes (reply.Gap sequence) = 0
reply_bytes (reply.NotRemovable sequence) = 0
reply_bytes (reply.ReceiverGone sequence) = 0
reply_bytes (reply.BlockChanged sequence) = 0
reply_bytes (reply.StillNeeded sequence) = 0
reply_bytes (reply.LimitReached which number) = 0

-- a call counts 64, and its values
abbrev pub call_bytes : Call → ℕ
call_bytes call = 64 + request_bytes call.request + reply_bytes call.reply

-- 200,000 calls other than ENDJOB, or 256 MiB
unfoldable pub is_full : List Call → Bool
is_full calls =
    nat_le MOST_CALLS (count_by (λ call. not (is_end_job call.request)) calls) || nat_le MOST_BYTES (sum_by call_bytes calls)

-- as far as a u64 counts
abbrev pub capped : ℕ → ℕ
capped n = min n (2 ^ 64 - 1)

-- the kept calls, and for how many more there is room
pub record Kept : Type 0 where
  pub calls : List Call
  pub room : ℕ

-- the kept counts are those of the calls
pub record IsCounted (calls : List Call) (counted_calls counted_bytes : ℕ) : Type 0 where
  pub calls_counted : counted_calls ≡ capped (count_by (λ call. not (is_end_job call.request)) calls)
  pub bytes_counted : counted_bytes ≡ capped (sum_by call_bytes calls)
