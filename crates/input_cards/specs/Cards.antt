-- Which card a line is: //DDS and //JOB with a name, //SCHED with the names of jobs or *RR, and //END. (Our own.)
use Rattle.std.specs.Prelude.{ℕ, Bool, false, if◌then◌else◌, ◌==◌, Option, Some, None, List, [], ◌∷◌, drop, codes, option_map, option_and_then, nat_eq}
use Rattle.std.specs.List.{prefix_len, list_all}
use Rattle.std.specs.Option.{is_some}
use Rattle.std.specs.Cmp.Lexicographic.{pointwise}
use Rattle.field_types.specs.SystemName.{is_name}
use Rattle.text_lines.specs.Lines.{is_blank, name_alone}
use Rattle.statement_reader.specs.Words.{words}
use Rattle.input_cards.specs.declared.cards.Card.{Card}
use Rattle.input_cards.specs.declared.cards.Card.TheVariants.{Source, Job, Schedule, End}
use Rattle.input_cards.specs.declared.cards.Turns.{Turns}
use Rattle.input_cards.specs.declared.cards.Turns.TheVariants.{Jobs, RoundRobin}

-- the text behind this front; None where the text has another
abbrev pub behind : List ℕ → List ℕ → Option (List ℕ)
behind [] text = Some text
behind (p ∷ ps) [] = None
behind (p ∷ ps) (b ∷ bs) = if b == p then behind ps bs else None

-- whether the line is a card and no line of a source or a job; it may be a faulty one
abbrev pub is_card : List ℕ → Bool
is_card line = is_some (behind (codes "//") line)

-- what stands behind one or more blanks
abbrev pub behind_blanks : List ℕ → Option (List ℕ)
behind_blanks text = if prefix_len is_blank text == 0 then None else Some (drop (prefix_len is_blank text) text)

-- what stands behind the word of a card
abbrev pub behind_word : List ℕ → List ℕ → Option (List ℕ)
behind_word word line = option_and_then behind_blanks (behind word line)

-- *RR alone
abbrev pub is_round_robin : List (List ℕ) → Bool
is_round_robin [] = false
is_round_robin (word ∷ []) = pointwise nat_eq word (codes "*RR")
is_round_robin (word ∷ next ∷ more) = false

-- one name or more
abbrev pub names_alone : List (List ℕ) → Option Turns
names_alone [] = None
names_alone (word ∷ more) = if list_all is_name (word ∷ more) then Some (Jobs (word ∷ more)) else None

abbrev pub turns_of : List (List ℕ) → Option Turns
turns_of words = if is_round_robin words then Some RoundRobin else names_alone words

-- //END stands alone and exactly
abbrev pub end_of : List ℕ → Option Card
end_of line = if pointwise nat_eq line (codes "//END") then Some End else None

abbrev pub schedule_of : List ℕ → Option Card
schedule_of line = option_map (λ turns. Schedule turns) (option_and_then (λ text. turns_of (words text)) (behind_word (codes "//SCHED") line))

-- the name on a card with this word, with nothing but blanks behind it
abbrev pub name_on : List ℕ → List ℕ → Option (List ℕ)
name_on word line = option_and_then name_alone (behind_word word line)

abbrev pub job_of : List ℕ → Option Card
job_of line = option_map (λ name. Job name) (name_on (codes "//JOB") line)

abbrev pub source_of : List ℕ → Option Card
source_of line = option_map (λ name. Source name) (name_on (codes "//DDS") line)

abbrev pub first_of : Option Card → Option Card → Option Card
first_of None other = other
first_of (Some card) other = Some card

-- the card that a line is; None where it is none
unfoldable pub card_of : List ℕ → Option Card
card_of line = first_of (source_of line) (first_of (job_of line) (first_of (schedule_of line) (end_of line)))
