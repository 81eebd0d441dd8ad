-- What a library is of a state, and what a call makes of it. (Our own.)
use Rattle.std.specs.Prelude.{◌≡◌, ◌⊎◌, ℕ, true, false, IsTrue, if◌then◌else◌, List, length}
use Rattle.store_model.specs.Disk.{Disk}
use Rattle.entry_codec.specs.declared.entries.Entry.{Entry}
use Rattle.library_model.specs.declared.calls.Call.{Call}
use Rattle.library_model.specs.declared.replies.Reply.TheVariants.{StoreFault}
use Rattle.library_model.specs.declared.requests.Request.{Request}
use Rattle.library_model.specs.declared.sources.NamedSource.{NamedSource}
use Rattle.block_places.specs.State.{State, job_at, memory_of}
use Rattle.block_places.specs.Change.{changed}
use Rattle.block_places.specs.Step.{change}
use Rattle.block_places.specs.History.{is_running, Outcome, Standing, Failed}
use Rattle.deposited_entries.specs.Deposits.{switches}
use Rattle.joint_state.specs.Sound.{MayBeRead, MayAnswerReading}
use Rattle.kept_library.specs.Journaled.{IsRemembered}
use Rattle.kept_library.specs.Parts.{LibraryOver}
use Rattle.kept_library.specs.Unread.{IsUnread}

-- the library has the state: what is in memory and what stands on the disk make it up. Over a store that tells nothing of its bytes it may have several,
-- which differ in their journals' entries
pub record Stands {S : Type 0} (tells : Type 0) (disk : S → Disk) (library : LibraryOver S) (s : State) : Type 0 where
  pub alive : library.failed ≡ false
  pub remembered : IsRemembered tells (disk library.store) library.book library.state s

-- the library is what calls have led to
abbrev pub IsAt : {S : Type 0} → (tells : Type 0) → (disk : S → Disk) → LibraryOver S → Outcome → Type 0
IsAt tells disk library (Standing s) = Stands tells disk library s
IsAt tells disk library (Failed entries) = library.failed ≡ true

-- a call on a library in this state, whose journal's entries were read as these, comes to this, or they weren't read back; where it failed the journal was to
-- hold those of the step in which they were read so
abbrev pub ComesReading : (tells : Type 0) → List NamedSource → (read : List Entry) → State → Call → Outcome → Type 0
ComesReading tells sources read s call (Standing t) = MayAnswerReading sources read s call.job call.timestamp call.request call.reply t ⊎ IsUnread tells s call t
ComesReading tells sources read s call (Failed entries) =
    (call.reply ≡ StoreFault) × (entries ≡ (changed s (change sources read (memory_of s) call.job call.timestamp call.request)).0.entries)

-- from a state that it had, the call led the library to an outcome of that call, for what was read of the journal: where the store tells of its bytes, what
-- was deposited, and where it doesn't, what may be read of a journal
pub record Goes {S : Type 0} (tells : Type 0) (disk : S → Disk) (sources : List NamedSource) (new : LibraryOver S) (s : State) (call : Call) : Type 0 where
  pub read : List Entry
  pub may : MayBeRead s read
  pub own : tells → read ≡ s.entries
  pub outcome : Outcome
  pub comes : ComesReading tells sources read s call outcome
  pub at : IsAt tells disk new outcome

-- the job may make a call: it runs, and the library hasn't failed
pub record IsReady {S : Type 0} (job : ℕ) (library : LibraryOver S) : Type 0 where
  pub alive : library.failed ≡ false
  pub running : IsTrue (is_running (job_at job library.state.jobs))

-- the least count, besides what was forced, at which a stop within a call ends the journal: with all entries of the call; CHGJRN forces what waits
-- before it deposits its own
abbrev pub whole_from : Request → (before behind : List Entry) → ℕ
whole_from request before behind = if switches request then length before else length behind
