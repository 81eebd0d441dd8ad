-- The jobs of calls that are read have names.
use Rattle.std.proofs.Common.{◌≡◌, ℕ, suc, ◌+◌, ◌<◌, ◌≤◌, true, false, cond, Option, Some, None, List, [], ◌∷◌, length, refl, ap, arith}
use Rattle.std.specs.List.{All}
use Rattle.std.specs.Option.{option_map_or}
use Rattle.std.proofs.lemmas.List.Elements.{All-cons, All-nil}
use Rattle.library_model.specs.declared.calls.Call.{Call}
use Rattle.library_model.specs.declared.requests.Request.{Request}
use Rattle.library_model.specs.declared.replies.Reply.{Reply}
use Rattle.statement_reader.specs.Commands.{is_word}
use Rattle.statement_reader.specs.Lists.{let_some}
use Rattle.statement_reader.specs.Words.{words}
use Rattle.listing_words.specs.Values.{units}
use Rattle.listing_words.specs.Words.{job_from}
use Rattle.listing_words.specs.declared.numbers.TheConstants.{MOST_LONG}
use Rattle.listing_reader.specs.Requests.{read_request}
use Rattle.listing_reader.specs.Lines.{reply_behind, call_from, call_of, calls_of}
use Rattle.listing_reader.specs.Listed.{HasName}

job-is : (first : ℕ) (names : List (List ℕ)) (word : List ℕ) (job : ℕ) → job_from first names word ≡ Some job → (first ≤ job) × (job < first + length names)
job-is first [] word job is = absurd cc
job-is first (name ∷ names) word job is =
    elim (is_word name word) as (λ v. cond v (Some first) (job_from (first + 1) names word) ≡ Some job → (first ≤ job) × (job < first + suc (length names))) [
      | true ↦ λ here. let same : first ≡ job = cc here in (omega (arith, same), omega (arith, same))
      | false ↦ λ there. let more = job-is (first + 1) names word job there in (omega (arith, more.0), omega (arith, more.1))
    ] is

abbrev made : ℕ → ℕ → Request → Reply → Call
made job timestamp request reply = record { job = job; timestamp = timestamp; request = request; reply = reply }

job-of : (job timestamp : Option ℕ) (request : Option Request) (reply : Option Reply) (call : Call)
    → let_some job (λ j. let_some timestamp (λ t. let_some request (λ r. let_some reply (λ a. Some (made j t r a))))) ≡ Some call → job ≡ Some call.job
job-of None timestamp request reply call is = let none : None ≡ Some call = is in absurd cc
job-of (Some j) None request reply call is = let none : None ≡ Some call = is in absurd cc
job-of (Some j) (Some t) None reply call is = let none : None ≡ Some call = is in absurd cc
job-of (Some j) (Some t) (Some r) None call is = let none : None ≡ Some call = is in absurd cc
job-of (Some j) (Some t) (Some r) (Some a) call is = ap (λ (o : Option Call). Some (option_map_or (λ c. c.job) o 0)) is

from-named : (names : List (List ℕ)) (name time command : List ℕ) (line : List (List ℕ)) (call : Call) → call_from names name time command line ≡ Some call → HasName names call.job
unfolding call_from
from-named names name time command line call is =
    let job = job-of (job_from 1 names name) (units MOST_LONG time) (read_request command line) (reply_behind names line) call is in
    let within = job-is 1 names name call.job job in (omega (arith, within.0), omega (arith, within.1))

of-named : (names : List (List ℕ)) (line : List (List ℕ)) (call : Call) → call_of names line ≡ Some call → HasName names call.job
unfolding call_of
of-named names [] call is = let none : None ≡ Some call = is in absurd cc
of-named names (number ∷ []) call is = let none : None ≡ Some call = is in absurd cc
of-named names (number ∷ name ∷ []) call is = let none : None ≡ Some call = is in absurd cc
of-named names (number ∷ name ∷ time ∷ []) call is = let none : None ≡ Some call = is in absurd cc
of-named names (number ∷ name ∷ time ∷ command ∷ line) call is = from-named names name time command line call is

pub calls-named : (names : List (List ℕ)) (lines : List (List ℕ)) → All (λ (call : Call). HasName names call.job) (calls_of names lines)
calls-named names [] = All-nil (λ (call : Call). HasName names call.job)
calls-named names (line ∷ lines) =
    elim (call_of names (words line)) as (λ o. call_of names (words line) ≡ o → All (λ (call : Call). HasName names call.job) (option_map_or (λ c. c ∷ calls_of names lines) o [])) [
      | None ↦ λ none. All-nil (λ (call : Call). HasName names call.job)
      | Some call ↦ λ some. All-cons (λ (call : Call). HasName names call.job) call (calls_of names lines) (of-named names (words line) call some) (calls-named names lines)
    ] refl
