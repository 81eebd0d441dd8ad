-- Whether the calls of a history are what the jobs' scripts ask. (Our own.)
use Rattle.std.specs.Prelude.{◌≡◌, ℕ, ◌-◌, false, Some, List, [], ◌∷◌, ◌++◌, slice_get}
use Rattle.std.specs.Option.{unwrap_or}
use Rattle.library_model.specs.declared.calls.Call.{Call}
use Rattle.library_model.specs.declared.requests.Request.{Request}
use Rattle.library_model.specs.declared.replies.Reply.{Reply}
use Rattle.job_history.specs.Counting.{is_full}
use Rattle.job_language.specs.declared.statements.Script.{Script}
use Rattle.job_language.specs.Asks.{progress_of, asks, has_ended as reply_has_ended}
use Rattle.job_runner.specs.Ended.{replies_of}

-- what a job without statements has
abbrev pub no_script : Script
no_script = record { variables = []; statements = [] }

-- the script of the job with this number
abbrev pub script_of : List Script → ℕ → Script
script_of scripts job = unwrap_or (slice_get scripts (job - 1)) no_script

-- what the job asks next, behind these calls
abbrev pub asked : List Script → ℕ → List Call → Request
asked scripts job calls = asks (script_of scripts job) (replies_of job calls) (is_full calls)

-- behind the earlier calls, each of the others is what its job asks
abbrev pub AreAsked : List Script → List Call → List Call → Type 0
AreAsked scripts before [] = Unit {0}
AreAsked scripts before (call ∷ calls) =
    (call.request ≡ asked scripts call.job before) × AreAsked scripts (before ++ call ∷ []) calls

-- the last of the replies doesn't end the job by itself: its statements go on
abbrev pub LeavesRunning : Script → List Reply → Type 0
LeavesRunning script replies =
    (earlier : List Reply) (last : Reply) → replies ≡ earlier ++ last ∷ [] → reply_has_ended script.statements (progress_of script earlier).stage (Some last) ≡ false
