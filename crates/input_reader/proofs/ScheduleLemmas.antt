-- The schedule of an input without a fault names jobs of that input.
use Rattle.std.proofs.Common.{◌≡◌, ℕ, suc, ◌+◌, ◌<◌, ◌≤◌, Bool, true, false, not, ◌||◌, Option, Some, None, List, [], ◌∷◌, ◌++◌, length, nat_lt, map, refl, sym, ap, subst, arith}
use Rattle.std.specs.Prelude.{cond, option_map, unwrap_or}
use Rattle.std.specs.List.{AllByRecursion, list_any, position_or_len}
use Rattle.std.proofs.lemmas.Bool.Decides.{nat_tests}
use Rattle.std.proofs.lemmas.List.Elements.{All-from_recursion}
use Rattle.library_model.specs.Named.{same_name}
use Rattle.library_model.specs.declared.limits.TheConstants.{MOST_JOBS}
use Rattle.input_scripts.specs.Schedules.{NamesJobs}
use Rattle.input_cards.specs.declared.limits.TheConstants.{MOST_SOURCES}
use Rattle.input_cards.specs.declared.cards.Turns.{Turns}
use Rattle.input_cards.specs.declared.cards.Turns.TheVariants.{Jobs as JobNames, RoundRobin as EachInTurn}
use Rattle.input_cards.specs.Sections.{Part, parts_of}
use Rattle.input_cards.specs.CardFaults.{source_name, job_name, turns_in, names_of, plain_faults, repeated_cards, names_unknown, unknown_turns, card_faults}
use Rattle.input_reader.specs.Input.{faults_of, first_turns, job_faults_in, job_number, schedule_by, turns_among}
use Rattle.input_reader.proofs.JobLemmas.{noted-none}
use Rattle.input_reader.proofs.LeastLemmas.{both-empty}

or-none : (a b : Bool) → (a || b) ≡ false → (a ≡ false) × (b ≡ false)
or-none true b is = absurd cc
or-none false b is = (refl, is)

not-none : (a : Bool) → not a ≡ false → a ≡ true
not-none true is = refl
not-none false is = absurd cc

-- where some item passes, the first that does has a place
place-found : (p : List ℕ → Bool) (names : List (List ℕ)) → list_any p names ≡ true → position_or_len p names < length names
place-found p [] some = absurd cc
place-found p (name ∷ names) some =
    elim (p name) as (λ b. (b || list_any p names) ≡ true → cond (not b) (1 + position_or_len p names) 0 < suc (length names)) [
      | true ↦ λ passes. omega arith
      | false ↦ λ later. omega (arith, place-found p names later)
    ] some

-- a name that a job has is that of one of the jobs
number-within : (jobs : List (List ℕ)) (name : List ℕ) → list_any (same_name name) jobs ≡ true → (1 ≤ job_number jobs name) × (job_number jobs name ≤ length jobs)
number-within jobs name known =
    let place = position_or_len (same_name name) jobs in
    let below : place < length jobs = place-found (same_name name) jobs known in
    let tested : nat_lt place (length jobs) ≡ true = grind (arith, nat_tests) in
    let is : job_number jobs name ≡ place + 1 = ap (λ b. unwrap_or (option_map (λ n. n + 1) (cond b (Some place) None)) 0) tested in
    (omega (arith, is), omega (arith, is, below))

numbers-within : (jobs names : List (List ℕ)) → list_any (λ name. not (list_any (same_name name) jobs)) names ≡ false
    → AllByRecursion (λ n. (1 ≤ n) × (n ≤ length jobs)) (map (job_number jobs) names)
numbers-within jobs [] known = tt
numbers-within jobs (name ∷ names) known =
    let both = or-none (not (list_any (same_name name) jobs)) (list_any (λ n. not (list_any (same_name n) jobs)) names) known in
    (number-within jobs name (not-none (list_any (same_name name) jobs) both.0), numbers-within jobs names both.1)

NamesJobs-by : (jobs : List (List ℕ)) (turns : Option Turns) → names_unknown turns jobs ≡ false → NamesJobs (length jobs) (schedule_by jobs turns)
NamesJobs-by jobs None known = All-from_recursion (λ n. (1 ≤ n) × (n ≤ length jobs)) [] tt
NamesJobs-by jobs (Some EachInTurn) known = tt
NamesJobs-by jobs (Some (JobNames names)) known = All-from_recursion (λ n. (1 ≤ n) × (n ≤ length jobs)) (map (job_number jobs) names) (numbers-within jobs names known)

known-first : (jobs : List (List ℕ)) (first later : Option Turns) → names_unknown first jobs ≡ false → names_unknown later jobs ≡ false → names_unknown (first_turns first later) jobs ≡ false
known-first jobs None later here behind = behind
known-first jobs (Some turns) later here behind = here

turns-known : (jobs : List (List ℕ)) (parts : List Part) → unknown_turns jobs parts ≡ [] → names_unknown (turns_among parts) jobs ≡ false
turns-known jobs [] sound = refl
turns-known jobs (part ∷ parts) sound =
    let both = noted-none (names_unknown (turns_in part.card) jobs) part.line (unknown_turns jobs parts) sound in
    known-first jobs (turns_in part.card) (turns_among parts) both.0 (turns-known jobs parts both.1)

-- an input without a fault
pub schedule-known : (lines : List (List ℕ)) (parts : List Part) → parts ≡ parts_of lines → faults_of lines ≡ []
    → NamesJobs (length (names_of job_name parts)) (schedule_by (names_of job_name parts) (turns_among parts))
schedule-known lines parts same sound =
    let all = parts_of lines in
    let cards = both-empty (card_faults lines) (job_faults_in all) sound in
    let sources = repeated_cards source_name MOST_SOURCES all [] in
    let jobs = repeated_cards job_name MOST_JOBS all [] in
    let named = both-empty (plain_faults lines all ++ sources ++ jobs) (unknown_turns (names_of job_name all) all) cards.0 in
    let P : List Part → Type 0 = λ ps. NamesJobs (length (names_of job_name ps)) (schedule_by (names_of job_name ps) (turns_among ps)) in
    subst P (sym same) (NamesJobs-by (names_of job_name all) (turns_among all) (turns-known (names_of job_name all) all named.1))
