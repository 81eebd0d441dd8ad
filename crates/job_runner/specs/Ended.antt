-- When a job has ended: its calls are those up to its one ENDJOB. (Work Management, ending a job.)
use Rattle.std.specs.Prelude.{ℕ, Bool, true, false, not, ◌==◌, ◌&&◌, List, [], ◌∷◌, filter, map}
use Rattle.std.specs.List.{list_any}
use Rattle.std.specs.Option.{option_map_or}
use Rattle.library_model.specs.declared.calls.Call.{Call}
use Rattle.library_model.specs.declared.requests.Request.{Request}
use Rattle.library_model.specs.declared.requests.EndReason.{EndReason}
use Rattle.library_model.specs.declared.requests.EndReason.TheVariants.{Normal, Escape, Expression, Statements, History}
use Rattle.library_model.specs.declared.replies.Reply.{Reply}
use Rattle.library_model.specs.Ending.{end_asked, is_end_job}

-- the calls of one job, in order
abbrev pub calls_of : ℕ → List Call → List Call
calls_of job calls = filter (λ call. call.job == job) calls

abbrev pub replies_of : ℕ → List Call → List Reply
replies_of job calls = map (λ call. call.reply) (calls_of job calls)

-- a job's own calls end with its one ENDJOB
abbrev pub ends_once : List Call → Bool
ends_once [] = false
ends_once (call ∷ []) = is_end_job call.request
ends_once (call ∷ next ∷ calls) = not (is_end_job call.request) && ends_once (next ∷ calls)

abbrev pub has_ended : ℕ → List Call → Bool
has_ended job calls = ends_once (calls_of job calls)

-- the script's end is the one normal reason
abbrev pub is_normal : EndReason → Bool
is_normal Normal = true
is_normal Escape = false
is_normal Expression = false
is_normal Statements = false
is_normal History = false

-- an ENDJOB for another reason than the script's end
abbrev pub ends_early : Request → Bool
ends_early request = option_map_or (λ ending. not (is_normal ending.reason)) (end_asked request) false

-- some job of the history ended early
abbrev pub has_early_end : List Call → Bool
has_early_end calls = list_any (λ call. ends_early call.request) calls
