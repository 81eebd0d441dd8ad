-- What calls more make of a history: of a job's own calls, of what was asked, and of where the calls lead.
use Rattle.std.proofs.Common.{◌≡◌, ◌≢◌, ℕ, ◌-◌, ◌<◌, ◌≤◌, Bool, true, not, ◌&&◌, IsTrue, get_or, unwrap_or, Result, Ok, Err, IfOk, Option, Some, List, [], ◌∷◌, ◌++◌, length, map, slice_get, zero, suc, refl, sym, ◌∙◌, ap, arith, rules, append_assoc, append-nil}
use Rattle.std.proofs.lemmas.Option.{slice_get-get_or}
use Rattle.std.specs.List.{AllByRecursion, list_all}
use Rattle.std.proofs.lemmas.Grind.{common_steps}
use Rattle.std.proofs.lemmas.Bool.Decides.{nat_tests}
use Rattle.library_model.specs.declared.calls.Call.{Call}
use Rattle.library_model.specs.declared.requests.Request.{Request}
use Rattle.library_model.specs.Ending.{is_end_job}
use Rattle.built_requests.specs.Built.{is_built}
use Rattle.input_scripts.specs.Askable.{is_askable_script}
use Rattle.input_scripts.proofs.AskLemmas.{asks-built}
use Rattle.job_history.specs.Counting.{is_full}
use Rattle.job_language.specs.declared.statements.Script.{Script}
use Rattle.job_runner.specs.Ended.{calls_of, ends_once, replies_of}
use Rattle.job_runner.specs.Asked.{AreAsked, script_of, no_script}

pub calls_of-append_same : (job : ℕ) (calls : List Call) (call : Call) → call.job ≡ job → calls_of job (calls ++ call ∷ []) ≡ calls_of job calls ++ call ∷ []
calls_of-append_same job [] call same = grind (arith, nat_tests)
calls_of-append_same job (first ∷ calls) call same = grind (arith, nat_tests, calls_of-append_same job calls call same)

pub calls_of-append_other : (job : ℕ) (calls : List Call) (call : Call) → call.job ≢ job → calls_of job (calls ++ call ∷ []) ≡ calls_of job calls
calls_of-append_other job [] call other = grind (arith, nat_tests)
calls_of-append_other job (first ∷ calls) call other = grind (arith, nat_tests, calls_of-append_other job calls call other)

pub ends_once-append : (own : List Call) (call : Call) → IsTrue (list_all (λ c. not (is_end_job c.request)) own) → ends_once (own ++ call ∷ []) ≡ is_end_job call.request
ends_once-append [] call open_ended = refl
ends_once-append (first ∷ []) call open_ended = grind (arith, common_steps)
ends_once-append (first ∷ next ∷ own) call open_ended = grind (arith, common_steps, ends_once-append (next ∷ own) call)

pub list_all-append_one : {X : Type 0} (p : X → Bool) (xs : List X) (x : X) → list_all p (xs ++ x ∷ []) ≡ (list_all p xs && p x)
list_all-append_one p [] x = grind (arith, common_steps)
list_all-append_one p (first ∷ xs) x = grind (arith, common_steps, list_all-append_one p xs x)

pub replies-append : (own : List Call) (call : Call) → map (λ c. c.reply) (own ++ call ∷ []) ≡ map (λ c. c.reply) own ++ call.reply ∷ []
replies-append [] call = refl
replies-append (first ∷ own) call = ap (λ rest. first.reply ∷ rest) (replies-append own call)

pub slice_get-append : {X : Type 0} (xs : List X) (place : ℕ) (x y : X) → slice_get xs place ≡ Some x → slice_get (xs ++ y ∷ []) place ≡ Some x
slice_get-append [] place x y there = absurd cc
slice_get-append (first ∷ xs) zero x y there = there
slice_get-append (first ∷ xs) (suc place) x y there = slice_get-append xs place x y there

pub slice_get-append_last : {X : Type 0} (xs : List X) (y : X) → slice_get (xs ++ y ∷ []) (length xs) ≡ Some y
slice_get-append_last [] y = refl
slice_get-append_last (first ∷ xs) y = slice_get-append_last xs y

pub AreAsked-append : (scripts : List Script) (before made more : List Call) → AreAsked scripts before made → AreAsked scripts (before ++ made) more → AreAsked scripts before (made ++ more)
AreAsked-append scripts before [] more front back = rw append-nil at back
AreAsked-append scripts before (call ∷ made) more front back =
    (front.0, AreAsked-append scripts (before ++ call ∷ []) made more front.1 (rw append_assoc back))

-- the script that stands at a job's place
pub script_of-at : (given scripts : List Script) (job : ℕ) (script : Script) → given ≡ scripts → (1 ≤ job) × (job ≤ length scripts) → script ≡ get_or given (job - 1) script → script ≡ script_of scripts job
script_of-at given scripts job script same within here =
    let inside : job - 1 < length scripts = omega arith in
    let there : script ≡ get_or scripts (job - 1) script = rw (← same) here in
    there ∙ sym (ap (λ (o : Option Script). unwrap_or o no_script) (slice_get-get_or scripts (job - 1) script inside))

-- what holds of each script holds of a job's
pub list_all-script_of : (p : Script → Bool) (scripts : List Script) (job : ℕ) → p no_script ≡ true → IsTrue (list_all p scripts) → IsTrue (p (script_of scripts job))
list_all-script_of p scripts job none all = at_place p scripts (job - 1) none all
  where
    at_place : (p : Script → Bool) (scripts : List Script) (place : ℕ) → p no_script ≡ true → IsTrue (list_all p scripts) → IsTrue (p (unwrap_or (slice_get scripts place) no_script))
    at_place p [] place none all = rw none (search rules)
    at_place p (script ∷ scripts) zero none all = grind (arith, all)
    at_place p (script ∷ scripts) (suc place) none all = at_place p scripts place none (grind (arith, all))

-- what holds of each request that the library answers holds of the calls that such scripts ask
pub AreAsked-built : (P : Request → Type 0) → ((request : Request) → is_built request ≡ true → P request) → (scripts : List Script) → IsTrue (list_all is_askable_script scripts)
    → (before calls : List Call) → AreAsked scripts before calls → AllByRecursion (λ (call : Call). P call.request) calls
AreAsked-built P holds scripts askable before [] asked = tt
AreAsked-built P holds scripts askable before (call ∷ calls) asked =
    let script : IsTrue (is_askable_script (script_of scripts call.job)) = list_all-script_of is_askable_script scripts call.job refl askable in
    let built = asks-built (script_of scripts call.job) script (replies_of call.job before) (is_full before) in
    (holds call.request (ap is_built asked.0 ∙ built), AreAsked-built P holds scripts askable (before ++ call ∷ []) calls asked.1)

-- what follows from a success, where it succeeds
pub ok-map : {A E : Type 0} {P Q : A → Type 0} (r : Result A E) → ((x : A) → P x → Q x) → IfOk r P → IfOk r Q
ok-map (Ok x) each holds = each x holds
ok-map (Err e) each holds = tt
