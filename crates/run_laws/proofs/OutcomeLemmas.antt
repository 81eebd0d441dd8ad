-- Calls of a legal history lead to one state, and what they lead to is joined and split where one call ends.
use Rattle.std.proofs.Common.{◌≡◌, inl, inr, true, false, List, [], ◌∷◌, ◌++◌, Result, Ok, Err, refl, sym, ◌∙◌, ap, subst}
use Rattle.entry_codec.specs.declared.entries.Entry.{Entry}
use Rattle.library_model.specs.declared.calls.Call.{Call}
use Rattle.library_model.specs.declared.replies.Reply.{Reply}
use Rattle.library_model.specs.declared.sources.NamedSource.{NamedSource}
use Rattle.library_steps.specs.State.{State, memory_of}
use Rattle.library_steps.specs.Change.{Change, changed}
use Rattle.library_steps.specs.Step.{change, step}
use Rattle.library_steps.specs.History.{Outcome, Standing, Failed, Comes, Runs}
use Rattle.run_laws.proofs.AnsweredLemmas.{answered, is_unanswered, never-unanswered}

-- ---- one call

-- where the reply is that memory was wanting, the step is a refusal
unanswered-same : (s t : State) (reply : Reply) (r : Result Change Reply) → ((c : Change) → r ≡ Ok c → is_unanswered c.reply ≡ false) → (t, reply) ≡ changed s r → is_unanswered reply ≡ true → t ≡ s
unanswered-same s t reply (Ok c) each is unanswered = absurd (never-unanswered c.reply (each c refl) reply unanswered (ap (λ p. p.1) is))
unanswered-same s t reply (Err refused) each is unanswered = ap (λ p. p.0) is

-- a call whose reply is that memory was wanting leaves the state
pub unanswered-stays : (sources : List NamedSource) (s t : State) (call : Call) → is_unanswered call.reply ≡ true → (t, call.reply) ≡ step sources s call.job call.timestamp call.request → t ≡ s
unanswered-stays sources s t call unanswered is =
    unanswered-same s t call.reply (change sources s.entries (memory_of s) call.job call.timestamp call.request)
    (answered sources s.entries (memory_of s) call.job call.timestamp call.request) is unanswered

pub Comes-one : (sources : List NamedSource) (s t u : State) (call : Call) → Comes sources s call (Standing t) → Comes sources s call (Standing u) → t ≡ u
Comes-one sources s t u call (inl one) (inl other) = ap (λ p. p.0) (one ∙ sym other)
Comes-one sources s t u call (inl one) (inr (same, wanting, needs)) =
    unanswered-stays sources s t call (ap is_unanswered wanting) one ∙ sym same
Comes-one sources s t u call (inr (same, wanting, needs)) (inl other) =
    same ∙ sym (unanswered-stays sources s u call (ap is_unanswered wanting) other)
Comes-one sources s t u call (inr one) (inr other) = one.0 ∙ sym other.0

-- ---- several calls

failed-never : (sources : List NamedSource) (entries : List Entry) (calls : List Call) (s : State) → Runs sources (Failed entries) calls (Standing s) → ⊥
failed-never sources entries [] s runs = absurd cc
failed-never sources entries (call ∷ calls) s runs = runs

one-step : (sources : List NamedSource) (from s t : State) (call : Call) (calls : List Call) (one other : Outcome) → Comes sources from call one → Comes sources from call other
    → Runs sources one calls (Standing s) → Runs sources other calls (Standing t) → ((mid : Outcome) → Runs sources mid calls (Standing s) → Runs sources mid calls (Standing t) → s ≡ t) → s ≡ t
one-step sources from s t call calls (Standing u) (Standing v) first second front back rest =
    rest (Standing u) front (subst (λ (x : State). Runs sources (Standing x) calls (Standing t)) (sym (Comes-one sources from u v call first second)) back)
one-step sources from s t call calls (Failed entries) other first second front back rest = absurd (failed-never sources entries calls s front)
one-step sources from s t call calls (Standing u) (Failed entries) first second front back rest = absurd (failed-never sources entries calls t back)

-- calls lead to one state
pub Runs-one : (sources : List NamedSource) (from : Outcome) (s t : State) (calls : List Call) → Runs sources from calls (Standing s) → Runs sources from calls (Standing t) → s ≡ t
Runs-one sources from s t [] front back = let e : ◌≡◌ {A = Outcome} (Standing s) (Standing t) = front ∙ sym back in cc
Runs-one sources (Standing u) s t (call ∷ calls) front back =
    one-step sources u s t call calls front.1 back.1 front.2 back.2 front.3 back.3 (λ mid one other. Runs-one sources mid s t calls one other)
Runs-one sources (Failed entries) s t (call ∷ calls) front back = absurd front

-- calls that lead on from where the calls before them led
pub Runs-append : (sources : List NamedSource) (from mid to : Outcome) (made more : List Call) → Runs sources from made mid → Runs sources mid more to → Runs sources from (made ++ more) to
Runs-append sources from mid to [] more front back = subst (λ (o : Outcome). Runs sources o more to) front back
Runs-append sources (Standing s) mid to (call ∷ made) more front back =
    (front.0, front.1, front.2, Runs-append sources front.1 mid to made more front.3 back)
Runs-append sources (Failed entries) mid to (call ∷ made) more front back = absurd front

-- and where the first of them led
pub Runs-split : (sources : List NamedSource) (from to : Outcome) (made more : List Call) → Runs sources from (made ++ more) to
    → (mid : Outcome) × Runs sources from made mid × Runs sources mid more to
Runs-split sources from to [] more runs = (from, refl, runs)
Runs-split sources (Standing s) to (call ∷ made) more runs =
    let rest = Runs-split sources runs.1 to made more runs.3 in
    (rest.0, (runs.0, runs.1, runs.2, rest.1), rest.2)
Runs-split sources (Failed entries) to (call ∷ made) more runs = absurd runs

-- a history whose calls go on after some of them: these led to a state
pub Runs-split_at : (sources : List NamedSource) (from : Outcome) (t : State) (made more : List Call) → Runs sources from (made ++ more) (Standing t)
    → (s : State) × Runs sources from made (Standing s) × Runs sources (Standing s) more (Standing t)
Runs-split_at sources from t made more runs = by split.0 split.1 split.2
  where
    split : (mid : Outcome) × Runs sources from made mid × Runs sources mid more (Standing t)
    split = Runs-split sources from (Standing t) made more runs

    by : (mid : Outcome) → Runs sources from made mid → Runs sources mid more (Standing t) → (s : State) × Runs sources from made (Standing s) × Runs sources (Standing s) more (Standing t)
    by (Standing s) front back = (s, front, back)
    by (Failed entries) front back = absurd (failed-never sources entries more t back)
