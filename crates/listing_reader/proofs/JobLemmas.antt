-- Jobs are read back by their names.
use Rattle.std.proofs.Common.{◌≡◌, ℕ, zero, suc, ◌+◌, ◌-◌, ◌<◌, true, false, Some, List, [], ◌∷◌, length, slice_get, ap, ◌∙◌, arith}
use Rattle.std.specs.Option.{unwrap_or}
use Rattle.std.proofs.lemmas.Bool.{cond-true, cond-false}
use Rattle.field_types.specs.SystemName.{is_name}
use Rattle.listing.specs.ReplyText.{job_name}
use Rattle.statement_reader.specs.Commands.{is_word}
use Rattle.statement_reader.specs.Lists.{let_some}
use Rattle.listing_reader.specs.Listed.{IsName, IsNew, AreDifferent, HasName}
use Rattle.listing_words.specs.Words.{given, job_from, job_in}
use Rattle.listing_reader.proofs.ParameterLemmas.{same-words}

-- the name at a place
abbrev pub name_at : List (List ℕ) → ℕ → List ℕ
name_at names place = unwrap_or (slice_get names place) []

new-at : (name : List ℕ) (names : List (List ℕ)) (place : ℕ) → IsNew name names → place < length names → is_word name (name_at names place) ≡ false
new-at name [] place new within = absurd (omega arith)
new-at name (other ∷ others) zero new within = new.0
new-at name (other ∷ others) (suc place) new within = new-at name others place new.1 (omega arith)

name-at : (names : List (List ℕ)) (place : ℕ) → AreDifferent names → place < length names → IsName (name_at names place)
name-at [] place different within = absurd (omega arith)
name-at (name ∷ names) zero different within = different.0
name-at (name ∷ names) (suc place) different within = name-at names place different.2 (omega arith)

named-from : (first : ℕ) (names : List (List ℕ)) (place : ℕ) → AreDifferent names → place < length names → job_from first names (name_at names place) ≡ Some (first + place)
named-from first [] place different within = absurd (omega arith)
named-from first (name ∷ names) zero different within =
    let same : first ≡ first + 0 = omega arith in
    cond-true (is_word name name) (Some first) (job_from (first + 1) names name) (same-words name) ∙ ap (λ n. Some n) same
named-from first (name ∷ names) (suc place) different within =
    let next : first + 1 + place ≡ first + suc place = omega arith in
    cond-false (is_word name (name_at names place)) (Some first) (job_from (first + 1) names (name_at names place)) (new-at name names place different.1 (omega arith))
    ∙ named-from (first + 1) names place different.2 (omega arith) ∙ ap (λ n. Some n) next

pub job-named : (names : List (List ℕ)) (job : ℕ) → AreDifferent names → HasName names job → job_from 1 names (job_name names job) ≡ Some job
job-named names job different has =
    let whole : 1 + (job - 1) ≡ job = omega (arith, has.0) in
    named-from 1 names (job - 1) different (omega (arith, has.0, has.1)) ∙ ap (λ n. Some n) whole

pub job-is-name : (names : List (List ℕ)) (job : ℕ) → AreDifferent names → HasName names job → is_name (job_name names job) ≡ true
job-is-name names job different has = name-at names (job - 1) different (omega (arith, has.0, has.1))

pub job-given : (names : List (List ℕ)) (keyword : List ℕ) (job : ℕ) (words : List (List ℕ)) → AreDifferent names → HasName names job → given keyword words ≡ Some (job_name names job)
    → job_in names keyword words ≡ Some job
unfolding job_in
job-given names keyword job words different has here = ap (λ o. let_some o (job_from 1 names)) here ∙ job-named names job different has
