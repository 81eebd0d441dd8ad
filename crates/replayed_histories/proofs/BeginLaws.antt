-- STRJRNPF that is done keeps what the journal leaves the library.
use Rattle.std.proofs.Common.{◌≡◌, Ok, subst}
use Rattle.library_model.specs.declared.requests.StartJournaling.{StartJournaling as Started}
use Rattle.library_model.specs.declared.requests.Request.{Request}
use Rattle.library_model.specs.declared.requests.Request.TheVariants.{StartJournaling}
use Rattle.library_steps.specs.State.{State, memory_of}
use Rattle.library_steps.specs.Change.{Change}
use Rattle.library_steps.specs.Step.{change}
use Rattle.joint_state.specs.Sound.{Does, after}
use Rattle.replayed_histories.specs.Replayed.{IsReplayed}
use Rattle.replayed_histories.proofs.BeginRequests.{start_journaling-replayed}

pub start_journaling-kept : (s : State) (done : Change) (d : Does s done) (args : Started) → d.request ≡ StartJournaling args → IsReplayed s → IsReplayed (after s done)
unfolding change
start_journaling-kept s done d args is r =
    start_journaling-replayed s d.sound r d.job d.timestamp args done
    (subst (λ (request : Request). change d.sources d.read (memory_of s) d.job d.timestamp request ≡ Ok done) is d.does)
