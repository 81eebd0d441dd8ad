-- ROLLBACK and ENDJOB that are done keep what the journal leaves the library.
use Rattle.std.proofs.Common.{◌≡◌, Ok, subst}
use Rattle.library_model.specs.declared.requests.EndJob.{EndJob as EndedJob}
use Rattle.library_model.specs.declared.requests.Request.{Request}
use Rattle.library_model.specs.declared.requests.Request.TheVariants.{Rollback, EndJob}
use Rattle.library_steps.specs.State.{State, memory_of}
use Rattle.library_steps.specs.Change.{Change}
use Rattle.library_steps.specs.Step.{change}
use Rattle.joint_state.specs.Sound.{Does, after}
use Rattle.replayed_histories.specs.Replayed.{IsReplayed}
use Rattle.replayed_histories.proofs.BackRequests.{end_job-replayed, rollback-replayed}
use Rattle.replayed_histories.proofs.StepLemmas.{job-there}

pub rollback-kept : (s : State) (done : Change) (d : Does s done) → d.request ≡ Rollback → IsReplayed s → IsReplayed (after s done)
unfolding change
rollback-kept s done d is r =
    rollback-replayed s r d.sound d.job d.timestamp (job-there s d.job d.running) done
    (subst (λ (request : Request). change d.sources d.read (memory_of s) d.job d.timestamp request ≡ Ok done) is d.does)

pub end_job-kept : (s : State) (done : Change) (d : Does s done) (args : EndedJob) → d.request ≡ EndJob args → IsReplayed s → IsReplayed (after s done)
unfolding change
end_job-kept s done d args is r =
    end_job-replayed s r d.sound d.job d.timestamp (job-there s d.job d.running) done
    (subst (λ (request : Request). change d.sources d.read (memory_of s) d.job d.timestamp request ≡ Ok done) is d.does)
