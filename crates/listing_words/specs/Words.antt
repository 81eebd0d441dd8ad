-- The parts of a line: words, of which some are parameters and some separate a request, its reply and the entries of the reply.
use Rattle.std.specs.Prelude.{ℕ, ◌+◌, Bool, ◌||◌, if◌then◌else◌, Option, Some, None, is_some, List, [], ◌∷◌, codes}
use Rattle.std.specs.Option.{option_or}
use Rattle.field_types.specs.SystemName.{is_name}
use Rattle.statement_reader.specs.Commands.{is_word}
use Rattle.statement_reader.specs.Lists.{let_some}
use Rattle.statement_reader.specs.Parameters.{behind, before}

-- the word between a request and its reply, or the one before an entry
abbrev pub is_break : List ℕ → Bool
is_break word = is_word (codes "=>") word || is_word (codes "/") word

-- what a word has in the parentheses of this keyword
unfoldable pub inside : List ℕ → List ℕ → Option (List ℕ)
inside keyword word =
    let_some (behind keyword word) (λ rest.
    let_some (behind (codes "(") rest) (before (codes ")")))

-- what the keyword has in its parentheses, by the first word that has it before the next break
abbrev pub given : List ℕ → List (List ℕ) → Option (List ℕ)
given keyword [] = None
given keyword (word ∷ words) = if is_break word then None else option_or (inside keyword word) (given keyword words)

-- the words behind the first that has the keyword
abbrev pub behind_given : List ℕ → List (List ℕ) → Option (List (List ℕ))
behind_given keyword [] = None
behind_given keyword (word ∷ words) = if is_some (inside keyword word) then Some words else behind_given keyword words

-- the words behind the first one that is spelled so
abbrev pub behind_word : List ℕ → List (List ℕ) → Option (List (List ℕ))
behind_word spelling [] = None
behind_word spelling (word ∷ words) = if is_word spelling word then Some words else behind_word spelling words

-- what the first of the words leads to, with those behind it
abbrev pub let_word : {A : Type 0} → List (List ℕ) → (List ℕ → List (List ℕ) → Option A) → Option A
let_word [] next = None
let_word (word ∷ words) next = next word words

abbrev pub name_of : List ℕ → Option (List ℕ)
name_of word = if is_name word then Some word else None

-- a name as a parameter
unfoldable pub name_in : List ℕ → List (List ℕ) → Option (List ℕ)
name_in keyword words = let_some (given keyword words) name_of

-- the number of a job by its name, the first of the names being this number's
abbrev pub job_from : ℕ → List (List ℕ) → List ℕ → Option ℕ
job_from number [] word = None
job_from number (name ∷ names) word = if is_word name word then Some number else job_from (number + 1) names word

-- a job as a parameter
unfoldable pub job_in : List (List ℕ) → List ℕ → List (List ℕ) → Option ℕ
job_in names keyword words = let_some (given keyword words) (job_from 1 names)
