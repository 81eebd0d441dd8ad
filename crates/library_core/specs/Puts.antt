-- What a call makes of the library's journal: its entries come behind all others, or the store is found at fault. (Our own.)
use Rattle.std.specs.Prelude.{◌≡◌, ◌≢◌, ◌⊎◌, ℕ, ◌+◌, ◌<◌, ◌≤◌, ◌||◌, Bool, true, false, if◌then◌else◌, Result, Ok, Err, List, ◌++◌, length, OnOk, IsErr}
use Rattle.store_model.specs.Disk.{Disk, Leaves}
use Rattle.store_model.specs.Faults.{Rose}
use Rattle.entry_codec.specs.declared.entries.Entry.{Entry}
use Rattle.gated_log.specs.declared.fault.StoreFault.{StoreFault}
use Rattle.receiver_chain.specs.Chain.{attached_of}
use Rattle.receiver_chain.specs.Others.{LeavesRoots}
use Rattle.journal_book.specs.Book.{BookState, Holds, next_of}
use Rattle.journal_book.specs.Kept.{IsForcedOrFrom}
use Rattle.kept_journal.specs.declared.journal.TheConstants.{MUCH}
use Rattle.library_model.specs.declared.calls.Call.{Call}
use Rattle.library_model.specs.declared.replies.Reply.{Reply}
use Rattle.library_model.specs.declared.replies.Reply.TheVariants as reply
use Rattle.library_model.specs.declared.requests.Request.{Request}
use Rattle.library_model.specs.declared.sources.NamedSource.{NamedSource}
use Rattle.library_steps.specs.State.{State, job_at, memory_of}
use Rattle.library_steps.specs.Change.{Change, changed}
use Rattle.library_steps.specs.History.{is_running}
use Rattle.library_steps.specs.Step.{change}
use Rattle.commitment_requests.specs.Answers.{reply_of}
use Rattle.commitment_requests.specs.Remembered.{remembered}
use Rattle.commitment_requests.below.parts_model.specs.declared.stop.Stop.{Stop}
use Rattle.block_places.specs.Dues.{has_entries}
use Rattle.forced_calls.specs.Forced.{is_forced}
use Rattle.record_changes.specs.Sound.{IsSound, MayAnswerReading, MayBeRead}
use Rattle.kept_library.specs.Journaled.{IsJournaled}
use Rattle.library_core.specs.Running.{runs_after}
use Rattle.kept_library.specs.Stands.{whole_from}
use Rattle.kept_library.specs.Unread.{IsUnread}

-- ---- the entries of a call

-- they are put into the journal where the call is forced, or where there are some
abbrev pub are_put : Request → List Entry → Bool
are_put request entries = is_forced request entries || has_entries entries

-- how many block places that may take
abbrev pub places_taken : Request → List Entry → ℕ
places_taken request entries = if are_put request entries then 1 else 0

-- the entries have come behind all others, and are on the disk where the call is forced or much waited; or the store was found at fault
pub record HasTaken (tells : Type 0) (old new : Disk) (before after : BookState) (request : Request) (entries : List Entry) (put : Result (Unit {0}) StoreFault) : Type 0 where
  pub kept : OnOk put (tells → (all : List Entry) → Holds before all old → Holds after (all ++ entries) new)
  pub moments : tells → (all : List Entry) → Holds before all old → Leaves old new (IsForcedOrFrom before.chain.first before.forced (length (all ++ entries)) (all ++ entries))
  pub acknowledged : OnOk put (is_forced request entries ≡ true → after.waiting ≡ 0)
  pub whole : OnOk put ((after.forced ≡ before.forced) ⊎ (after.waiting ≡ 0))
  pub little : OnOk put (length after.buffered < MUCH)
  pub next : OnOk put (next_of after ≡ next_of before + length entries)
  pub first : after.first ≡ before.first
  pub receiver : after.chain.first ≡ before.chain.first
  pub number : attached_of after.chain ≡ attached_of before.chain
  pub places : OnOk put (before.chain.room ≤ after.chain.room + places_taken request entries)
  pub roots : LeavesRoots old new
  pub faults : old.faults ≤ new.faults
  pub cause : IsErr put → Rose old.faults new.faults

-- ---- the call

-- what is answered, and whether the store was found at fault
abbrev pub answer_given : Result (Unit {0}) StoreFault → Result Reply Stop → Reply × Bool
answer_given (Ok nothing) done = (reply_of done, false)
answer_given (Err fault) done = (reply.StoreFault, true)

-- the entries behind a call, where the journal's entries were read as these and no store call fails
abbrev pub entries_reading : List NamedSource → (read : List Entry) → State → Call → List Entry
entries_reading sources read s call = (changed s (change sources read (memory_of s) call.job call.timestamp call.request)).0.entries

-- the call's change asks to be on the disk before it is answered, and it was answered, where the journal's entries were read as these
pub record IsAcknowledgedReading (sources : List NamedSource) (read : List Entry) (s : State) (call : Call) : Type 0 where
  pub done : Change
  pub is : change sources read (memory_of s) call.job call.timestamp call.request ≡ Ok done
  pub forced : done.forced ≡ true
  pub answered : call.reply ≡ done.reply

-- a call that led from one state to another has brought these entries into the journal, in place of the first state's; or the store has failed. A stop
-- leaves the entries that were forced before, or all
pub record HasPut (tells : Type 0) (old new : Disk) (before after : BookState) (s t : State) (request : Request) (behind : List Entry) (failed : Bool) : Type 0 where
  pub journaled : failed ≡ false → IsJournaled tells new after t
  -- those that were there, and others
  pub front : (more : List Entry) × (behind ≡ s.entries ++ more)
  pub moments : tells → Leaves old new (IsForcedOrFrom before.chain.first before.forced (whole_from request s.entries behind) behind)
  -- where the call has left as many entries as there were, it leaves no others
  pub still : failed ≡ false → length t.entries ≡ length s.entries → tells → Leaves old new (IsForcedOrFrom before.chain.first before.forced (length s.entries) s.entries)
  pub least : failed ≡ false → before.forced ≤ after.forced
  pub whole : failed ≡ false → (after.forced ≡ before.forced) ⊎ (after.forced ≡ length t.entries)
  pub receiver : after.chain.first ≡ before.chain.first
  pub roots : LeavesRoots old new
  pub faults : old.faults ≤ new.faults
  pub cause : failed ≡ true → Rose old.faults new.faults

-- the call was answered from this state, where the journal's entries were read as these or weren't read back, or with the store's fault; what holds between
-- calls holds in the state that it led to
pub record HasAnswered (tells : Type 0) (sources : List NamedSource) (read : List Entry) (s t : State) (after : BookState) (call : Call) (failed : Bool) : Type 0 where
  pub answered : failed ≡ false → MayAnswerReading sources read s call.job call.timestamp call.request call.reply t ⊎ IsUnread tells s call t
  pub fault : failed ≡ true → call.reply ≡ reply.StoreFault
  pub other : failed ≡ false → call.reply ≢ reply.StoreFault
  pub runs : (other : ℕ) → is_running (job_at other t.jobs) ≡ runs_after call.job call.request s.jobs other
  pub sound : IsSound t
  pub acknowledged : IsAcknowledgedReading sources read s call → after.waiting ≡ 0

-- the call led the library from this state to another, of which the memory has all but the journal's entries
pub record HasCome (tells : Type 0) (sources : List NamedSource) (old new : Disk) (before after : BookState) (m s : State) (call : Call) (failed : Bool) : Type 0 where
  pub read : List Entry
  pub may : MayBeRead s read
  pub own : tells → read ≡ s.entries
  pub to : State
  pub memory : m ≡ remembered to
  pub put : HasPut tells old new before after s to call.request (entries_reading sources read s call) failed
  pub answered : HasAnswered tells sources read s to after call failed
