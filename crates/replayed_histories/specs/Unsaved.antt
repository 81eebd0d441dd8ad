-- Which legal histories does the journal tell whole? Those in which no call asks for a checkpoint. (Our own.)
use Rattle.std.specs.Prelude.{◌≡◌, ℕ, Bool, true, false, List}
use Rattle.std.specs.List.{AllByRecursion}
use Rattle.library_model.specs.declared.calls.Call.{Call}
use Rattle.library_model.specs.declared.requests.Request.{Request}
use Rattle.library_model.specs.declared.requests.Request.TheVariants.{Checkpoint}
use Rattle.library_model.specs.declared.sources.NamedSource.{NamedSource}
use Rattle.library_steps.specs.Change.{Change}
use Rattle.library_steps.specs.History.{Runs, Standing}
use Rattle.library_steps.specs.State.{State, begun, empty_library}
use Rattle.joint_state.specs.Sound.{Does, IsKept, IsSound}
use Rattle.replayed_histories.specs.Replayed.{AreReplaysKept, IsReplayed}

-- CHKPT
abbrev pub saves : Request → Bool
saves Checkpoint = true
saves _ = false

-- the checkpoint stays where it is after all other requests
abbrev pub StaysCheckpoint : Type 0
StaysCheckpoint = (s : State) (done : Change) (d : Does s done) → saves d.request ≡ false → done.memory.checkpoint ≡ s.checkpoint

abbrev pub AsksNoCheckpoint : List Call → Type 0
AsksNoCheckpoint calls = AllByRecursion (λ (call : Call). saves call.request ≡ false) calls

-- what the journal leaves after each such history is the library, if each request that is done keeps it so, and keeps the library sound
abbrev pub AreHistoriesReplayed : Type 0
AreHistoriesReplayed =
    AreReplaysKept → IsKept IsSound → (sources : List NamedSource) (names : List (List ℕ)) (calls : List Call) (s : State) → AsksNoCheckpoint calls
    → Runs sources (Standing (begun empty_library names)) calls (Standing s) → IsReplayed s
