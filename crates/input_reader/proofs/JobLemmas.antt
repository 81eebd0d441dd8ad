-- The jobs of an input one after another.
use Rattle.std.proofs.Common.{◌≡◌, ℕ, ◌+◌, ◌<◌, ◌≤◌, Bool, true, false, ◌&&◌, Option, Some, None, List, [], ◌∷◌, ◌++◌, length, nat_le, refl, sym, ap, ◌∙◌, arith, append_assoc, length-append}
use Rattle.std.specs.Prelude.{option_map, option_to_list, Result, Ok, Err, OnOk}
use Rattle.input_scripts.specs.Askable.{is_askable_script}
use Rattle.std.specs.List.{cons_option, list_all}
use Rattle.std.proofs.lemmas.List.Folds.{list_all-append}
use Rattle.std.specs.Option.{is_some}
use Rattle.std.proofs.lemmas.Bool.Decides.{nat_tests}
use Rattle.job_language.specs.declared.statements.Script.{Script}
use Rattle.script_builder.specs.Least.{lesser, least}
use Rattle.script_builder.specs.Faults.{noted}
use Rattle.input_cards.specs.declared.cards.Card.{Card}
use Rattle.input_cards.specs.Sections.{Part}
use Rattle.input_cards.specs.CardFaults.{is_repeated, job_name, names_of, repeated_cards, with_card, with_front}
use Rattle.job_statements.specs.Reading.{job_script}
use Rattle.input_reader.specs.Input.{faults_in, job_faults_in, script_in, scripts_in}
use Rattle.input_reader.proofs.LeastLemmas.{lesser_assoc, least-append, lesser-none}

-- the faults with those of one job more
pub faults-step : (old new : Option ℕ) (part : Part) (parts before : List Part) (all : Option ℕ) → before ≡ part ∷ parts
    → new ≡ lesser old (least (faults_in part (job_name part.card))) → lesser old (least (job_faults_in before)) ≡ all → lesser new (least (job_faults_in parts)) ≡ all
faults-step old new part parts before all split fault was =
    let here = faults_in part (job_name part.card) in
    ap (λ n. lesser n (least (job_faults_in parts))) fault
    ∙ lesser_assoc old (least here) (least (job_faults_in parts))
    ∙ ap (lesser old) (sym (least-append here (job_faults_in parts)))
    ∙ ap (λ ps. lesser old (least (job_faults_in ps))) (sym split)
    ∙ was

front : (script : Option Script) (scripts : List Script) → option_to_list script ++ scripts ≡ cons_option script scripts
front None scripts = refl
front (Some script) scripts = refl

-- the scripts with that of one job more
pub scripts-step : (old new : Option ℕ) (olds news : List Script) (part : Part) (parts before : List Part) (all : List Script) → before ≡ part ∷ parts
    → new ≡ lesser old (least (faults_in part (job_name part.card))) → (new ≡ None → news ≡ olds ++ option_to_list (script_in part)) → (old ≡ None → olds ++ scripts_in before ≡ all)
    → new ≡ None → news ++ scripts_in parts ≡ all
scripts-step old new olds news part parts before all split fault made was = λ none.
    let none_before = lesser-none old (least (faults_in part (job_name part.card))) (sym fault ∙ none) in
    ap (λ s. s ++ scripts_in parts) (made none)
    ∙ append_assoc olds (option_to_list (script_in part)) (scripts_in parts)
    ∙ ap (λ s. olds ++ s) (front (script_in part) (scripts_in parts))
    ∙ ap (λ ps. olds ++ scripts_in ps) (sym split)
    ∙ was none_before.0

-- each job has a name and a script
pub as_many : (parts : List Part) → length (names_of job_name parts) ≡ length (scripts_in parts)
as_many [] = refl
as_many (part ∷ parts) = counted (job_name part.card) (as_many parts)
  where
    counted : (name : Option (List ℕ)) → length (names_of job_name parts) ≡ length (scripts_in parts)
        → length (with_front name (names_of job_name parts)) ≡ length (cons_option (option_map (λ n. job_script (part.line + 1) part.lines) name) (scripts_in parts))
    counted None others = others
    counted (Some name) others = omega arith

pub noted-none : (b : Bool) (line : ℕ) (later : List ℕ) → noted b line later ≡ [] → (b ≡ false) × (later ≡ [])
noted-none true line later is = absurd cc
noted-none false line later is = (refl, is)

-- ---- without a card too many there are few

module _ (name_of : Option Card → Option (List ℕ)) (most : ℕ) where
  step : (name : Option (List ℕ)) (line : ℕ) (parts : List Part) (earlier : List (List ℕ)) → length earlier ≤ most
      → ((next : List (List ℕ)) → length next ≤ most → repeated_cards name_of most parts next ≡ [] → length next + length (names_of name_of parts) ≤ most)
      → noted (is_repeated name earlier) line (noted (is_some name && nat_le most (length earlier)) line (repeated_cards name_of most parts (with_card name earlier))) ≡ []
      → length earlier + length (with_front name (names_of name_of parts)) ≤ most
  step None line parts earlier few others none = others earlier few none
  step (Some name) line parts earlier few others none =
      let outer = noted-none (is_repeated (Some name) earlier) line (noted (nat_le most (length earlier)) line (repeated_cards name_of most parts (earlier ++ name ∷ []))) none in
      let inner = noted-none (nat_le most (length earlier)) line (repeated_cards name_of most parts (earlier ++ name ∷ [])) outer.1 in
      let below = inner.0 in
      let room : length earlier < most = grind (arith, nat_tests) in
      let size = length-append earlier (name ∷ []) in
      let more = others (earlier ++ name ∷ []) (omega arith) inner.1 in
      omega arith

  pub few-cards : (parts : List Part) (earlier : List (List ℕ)) → length earlier ≤ most → repeated_cards name_of most parts earlier ≡ [] → length earlier + length (names_of name_of parts) ≤ most
  few-cards [] earlier few none = omega arith
  few-cards (part ∷ parts) earlier few none = step (name_of part.card) part.line parts earlier few (λ next. few-cards parts next) none

-- one more that passes
all-more : {A : Type 0} (p : A → Bool) (xs : List A) (x : A) → p x ≡ true → list_all p xs ≡ true → list_all p (xs ++ x ∷ []) ≡ true
all-more p xs x here all = list_all-append p xs (x ∷ []) ∙ ap (λ v. v && (p x && true)) all ∙ ap (λ v. v && true) here

pub askable-push : {A E : Type 0} (r : Result A E) (olds news : List Script) (script : Script) → OnOk r (news ≡ olds ++ script ∷ []) → is_askable_script script ≡ true
    → OnOk r (list_all is_askable_script olds ≡ true → list_all is_askable_script news ≡ true)
askable-push (Ok x) olds news script pushed here = λ all. ap (list_all is_askable_script) pushed ∙ all-more is_askable_script olds script here all
askable-push (Err e) olds news script pushed here = tt
