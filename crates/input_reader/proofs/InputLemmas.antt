-- What was found of the faults of an input.
use Rattle.std.proofs.Common.{◌≡◌, ℕ, ◌+◌, ◌≤◌, Option, List, [], ◌++◌, length, sym, ap, ◌∙◌, arith, subst}
use Rattle.library_model.specs.declared.limits.TheConstants.{MOST_JOBS}
use Rattle.script_builder.specs.Least.{lesser, least}
use Rattle.input_cards.specs.declared.limits.TheConstants.{MOST_SOURCES}
use Rattle.input_cards.specs.Sections.{Part, parts_of}
use Rattle.input_cards.specs.CardFaults.{source_name, job_name, names_of, plain_faults, repeated_cards, unknown_turns, card_faults}
use Rattle.input_reader.specs.Input.{faults_of, job_faults_in}
use Rattle.input_reader.proofs.LeastLemmas.{least-append, both-empty}
use Rattle.input_reader.proofs.JobLemmas.{few-cards}

-- the less of the cards' least fault and the jobs' is the least of all
pub least-of_all : (lines : List (List ℕ)) (parts : List Part) (cards jobs first : Option ℕ) → parts ≡ parts_of lines → cards ≡ least (card_faults lines)
    → jobs ≡ least (job_faults_in parts) → first ≡ lesser cards jobs → first ≡ least (faults_of lines)
least-of_all lines parts cards jobs first same of_cards of_jobs less =
    less
    ∙ ap (λ a. lesser a jobs) of_cards
    ∙ ap (lesser (least (card_faults lines))) (of_jobs ∙ ap (λ ps. least (job_faults_in ps)) same)
    ∙ sym (least-append (card_faults lines) (job_faults_in (parts_of lines)))

-- an input without a fault has few jobs
pub few-jobs : (lines : List (List ℕ)) (parts : List Part) → parts ≡ parts_of lines → faults_of lines ≡ [] → length (names_of job_name parts) ≤ MOST_JOBS
few-jobs lines parts same none =
    let all = parts_of lines in
    let cards = both-empty (card_faults lines) (job_faults_in all) none in
    let sources = repeated_cards source_name MOST_SOURCES all [] in
    let jobs = repeated_cards job_name MOST_JOBS all [] in
    let named = both-empty (plain_faults lines all ++ sources ++ jobs) (unknown_turns (names_of job_name all) all) cards.0 in
    let repeated = both-empty (plain_faults lines all ++ sources) jobs named.0 in
    let few : 0 + length (names_of job_name all) ≤ MOST_JOBS = few-cards job_name MOST_JOBS all [] (omega arith) repeated.1 in
    let P : List Part → Type 0 = λ ps. length (names_of job_name ps) ≤ MOST_JOBS in
    subst P (sym same) (omega arith)
