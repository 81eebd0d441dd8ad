-- All that holds of a library between calls, and what it is that each answered request keeps it. (Our own.)
use Rattle.std.specs.Prelude.{◌≡◌, ◌⊎◌, ℕ, ◌+◌, ◌++◌, IsTrue, Ok, List, length}
use Rattle.std.specs.List.{AllByRecursion, IsDistinct}
use Rattle.std.specs.Map.{keys_of}
use Rattle.entry_codec.specs.declared.entries.Entry.{Entry}
use Rattle.lawful_states.specs.Owners.{AreApart}
use Rattle.journaled_entries.specs.Journal.{AreNumbered}
use Rattle.library_model.specs.Named.{same_name}
use Rattle.library_model.specs.NeedsMemory.{needs_memory}
use Rattle.library_model.specs.declared.replies.Reply.{Reply}
use Rattle.library_model.specs.declared.replies.Reply.TheVariants.{NoMemory}
use Rattle.library_model.specs.declared.requests.Request.{Request}
use Rattle.library_model.specs.declared.sources.NamedSource.{NamedSource}
use Rattle.lawful_states.specs.State.{State, memory_of, with_entries, job_at}
use Rattle.lawful_states.specs.Change.{Change, changed}
use Rattle.lawful_states.specs.Step.{change}
use Rattle.lawful_states.specs.History.{is_running}
use Rattle.lawful_states.specs.Lawful.{IsLibrary}
use Rattle.joint_state.specs.Limits.{AreFormats, AreWithin}
use Rattle.joint_state.specs.Joint.{IsJoint}
use Rattle.joint_state.specs.Agreed.{Agrees}
use Rattle.joint_state.specs.Told.{IsTold}
use Rattle.joint_state.specs.Views.{AreMapped, HaveDefaults}

pub record IsSound (s : State) : Type 0 where
  pub library : IsLibrary s
  pub apart : AreApart s.files
  -- no two files have one name
  pub names : IsDistinct same_name (keys_of s.files)
  -- no sequence of the journal is left out
  pub numbered : AreNumbered (s.gone + 1) s.entries
  pub formats : AreFormats s.files
  pub views : AreMapped s.files
  pub defaults : HaveDefaults s.files
  pub within : AreWithin s.members
  pub joint : IsJoint s
  pub agreed : Agrees s

-- the library that a change leaves
abbrev pub after : State → Change → State
after s done = with_entries s.gone (s.entries ++ done.entries) done.memory

-- the library may have read these as its journal's entries: as many as are kept, with their numbers, of which each that names a member which a file has
-- tells of records of that file's fields, at places that they may have. A store that tells nothing of its bytes may give others than were deposited.
pub record MayBeRead (s : State) (read : List Entry) : Type 0 where
  pub count : length read ≡ length s.entries
  pub numbered : AreNumbered (s.gone + 1) read
  pub told : AllByRecursion (IsTold s.files) read

-- the answer is that of the step in which the journal's entries were read as these, or want of memory, which changes nothing
abbrev pub MayAnswerReading : List NamedSource → (read : List Entry) → State → ℕ → ℕ → Request → Reply → State → Type 0
MayAnswerReading sources read old job timestamp request reply new =
    ((new, reply) ≡ changed old (change sources read (memory_of old) job timestamp request)) ⊎ ((new ≡ old) × (reply ≡ NoMemory) × IsTrue (needs_memory request))

-- a job that runs asks something of a sound library, which does it, whatever it may have read of its journal
pub record Does (s : State) (done : Change) : Type 0 where
  pub sound : IsSound s
  pub sources : List NamedSource
  pub job : ℕ
  pub timestamp : ℕ
  pub request : Request
  pub running : IsTrue (is_running (job_at job s.jobs))
  -- the journal's entries as they were read
  pub read : List Entry
  pub reads : MayBeRead s read
  pub does : change sources read (memory_of s) job timestamp request ≡ Ok done

-- this holds of a sound library after whatever is done to it
abbrev pub IsKept : (State → Type 0) → Type 0
IsKept P = (s : State) (done : Change) → Does s done → P (after s done)
