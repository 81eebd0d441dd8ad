-- APYJRNCHG and RMVJRNCHG that are done keep what the journal leaves the library.
use Rattle.std.proofs.Common.{◌≡◌, Ok, subst}
use Rattle.library_model.specs.declared.requests.JournaledChanges.{JournaledChanges}
use Rattle.library_model.specs.declared.requests.Request.{Request}
use Rattle.library_model.specs.declared.requests.Request.TheVariants.{ApplyChanges, RemoveChanges}
use Rattle.library_steps.specs.State.{State, memory_of}
use Rattle.library_steps.specs.Change.{Change}
use Rattle.library_steps.specs.Step.{change}
use Rattle.joint_state.specs.Sound.{Does, after}
use Rattle.replayed_histories.specs.Replayed.{IsReplayed}
use Rattle.replayed_histories.proofs.RangeRequests.{apply_changes-replayed, remove_changes-replayed}

pub apply_changes-kept : (s : State) (done : Change) (d : Does s done) (args : JournaledChanges) → d.request ≡ ApplyChanges args → IsReplayed s → IsReplayed (after s done)
unfolding change
apply_changes-kept s done d args is r =
    apply_changes-replayed s d.sound r d.job d.timestamp d.read d.reads args done
    (subst (λ (request : Request). change d.sources d.read (memory_of s) d.job d.timestamp request ≡ Ok done) is d.does)

pub remove_changes-kept : (s : State) (done : Change) (d : Does s done) (args : JournaledChanges) → d.request ≡ RemoveChanges args → IsReplayed s → IsReplayed (after s done)
unfolding change
remove_changes-kept s done d args is r =
    remove_changes-replayed s d.sound r d.job d.timestamp d.read d.reads args done
    (subst (λ (request : Request). change d.sources d.read (memory_of s) d.job d.timestamp request ≡ Ok done) is d.does)
