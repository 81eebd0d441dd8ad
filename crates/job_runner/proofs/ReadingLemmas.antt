-- Calls for what they read of the journal: those of two runs, one after the other; and a legal history where what was deposited was read.
use Rattle.std.proofs.Common.{◌≡◌, inl, inr, List, [], ◌∷◌, ◌++◌, subst}
use Rattle.entry_codec.specs.declared.entries.Entry.{Entry}
use Rattle.library_model.specs.declared.calls.Call.{Call}
use Rattle.library_model.specs.declared.sources.NamedSource.{NamedSource}
use Rattle.library_steps.specs.State.{State}
use Rattle.library_steps.specs.History.{Outcome, Standing, Failed, Comes, Runs}
use Rattle.joint_state.specs.Sound.{MayAnswerReading}
use Rattle.library_core.specs.Stands.{ComesReading}
use Rattle.job_runner.specs.Reading.{RunsReading}

pub Comes-read : (tells : Type 0) (sources : List NamedSource) (read : List Entry) (s : State) (call : Call) (outcome : Outcome) → tells → read ≡ s.entries
    → ComesReading tells sources read s call outcome → Comes sources s call outcome
Comes-read tells sources read s call (Standing t) told own (inl comes) =
    subst (λ (es : List Entry). MayAnswerReading sources es s call.job call.timestamp call.request call.reply t) own comes
Comes-read tells sources read s call (Standing t) told own (inr unread) = absurd (unread.untold told)
Comes-read tells sources read s call (Failed entries) told own comes = subst (λ (es : List Entry). ComesReading tells sources es s call (Failed entries)) own comes

pub Runs-read : (tells : Type 0) (sources : List NamedSource) (from to : Outcome) (calls : List Call) → tells → RunsReading tells sources from calls to → Runs sources from calls to
Runs-read tells sources from to [] told runs = runs
Runs-read tells sources (Standing s) to (call ∷ calls) told runs =
    (runs.0, runs.4, Comes-read tells sources runs.1 s call runs.4 told (runs.3 told) runs.5, Runs-read tells sources runs.4 to calls told runs.6)
Runs-read tells sources (Failed entries) to (call ∷ calls) told runs = absurd runs

pub RunsReading-append : (tells : Type 0) (sources : List NamedSource) (from mid to : Outcome) (made more : List Call) → RunsReading tells sources from made mid
    → RunsReading tells sources mid more to → RunsReading tells sources from (made ++ more) to
RunsReading-append tells sources from mid to [] more front back = subst (λ (o : Outcome). RunsReading tells sources o more to) front back
RunsReading-append tells sources (Standing s) mid to (call ∷ made) more front back =
    (front.0, front.1, front.2, front.3, front.4, front.5, RunsReading-append tells sources front.4 mid to made more front.6 back)
RunsReading-append tells sources (Failed entries) mid to (call ∷ made) more front back = absurd front
