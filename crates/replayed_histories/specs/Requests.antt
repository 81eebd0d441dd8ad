-- What is it that a request keeps what the journal leaves the library as it stands? (Our own.)
use Rattle.std.specs.Prelude.{◌≡◌, ℕ, Result, Ok, IsTrue}
use Rattle.library_model.specs.declared.replies.Reply.{Reply}
use Rattle.library_steps.specs.State.{Memory, State, job_at, memory_of}
use Rattle.library_steps.specs.Change.{Change}
use Rattle.library_steps.specs.History.{is_running}
use Rattle.joint_state.specs.Sound.{IsSound, after}
use Rattle.replayed_histories.specs.Replayed.{IsReplayed}

-- it is so of a sound library after whatever this request of a running job at a time does, if it does something
abbrev pub AreReplaysKeptBy : (request : Memory → (job timestamp : ℕ) → Result Change Reply) → Type 0
AreReplaysKeptBy request =
    (s : State) → IsSound s → IsReplayed s → (job timestamp : ℕ) (done : Change) → IsTrue (is_running (job_at job s.jobs)) → request (memory_of s) job timestamp ≡ Ok done
    → IsReplayed (after s done)
