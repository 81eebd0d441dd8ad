-- Which lines of an input are at fault by its cards alone: rules, of which each stands by itself. (Our own.)
use Rattle.std.specs.Prelude.{ℕ, ◌+◌, Bool, true, false, not, ◌&&◌, ◌||◌, Option, Some, None, List, [], ◌∷◌, ◌++◌, length, nat_lt, nat_le}
use Rattle.std.specs.List.{list_any}
use Rattle.std.specs.Option.{is_some, is_none}
use Rattle.library_model.specs.Named.{same_name}
use Rattle.script_builder.specs.Faults.{noted}
use Rattle.input_cards.specs.declared.cards.Card.{Card}
use Rattle.input_cards.specs.declared.cards.Card.TheVariants.{Source, Job, Schedule, End}
use Rattle.input_cards.specs.declared.cards.Turns.{Turns}
use Rattle.input_cards.specs.declared.cards.Turns.TheVariants.{Jobs, RoundRobin}
use Rattle.input_cards.specs.declared.limits.TheConstants.{MOST_SOURCES}
use Rattle.library_model.specs.declared.limits.TheConstants.{MOST_JOBS}
use Rattle.input_cards.specs.Cards.{is_card}
use Rattle.input_cards.specs.Sections.{Part, parts_of}

abbrev pub source_name : Option Card → Option (List ℕ)
source_name None = None
source_name (Some (Source name)) = Some name
source_name (Some (Job name)) = None
source_name (Some (Schedule turns)) = None
source_name (Some End) = None

abbrev pub job_name : Option Card → Option (List ℕ)
job_name None = None
job_name (Some (Source name)) = None
job_name (Some (Job name)) = Some name
job_name (Some (Schedule turns)) = None
job_name (Some End) = None

abbrev pub turns_in : Option Card → Option Turns
turns_in None = None
turns_in (Some (Source name)) = None
turns_in (Some (Job name)) = None
turns_in (Some (Schedule turns)) = Some turns
turns_in (Some End) = None

abbrev pub is_end : Option Card → Bool
is_end None = false
is_end (Some (Source name)) = false
is_end (Some (Job name)) = false
is_end (Some (Schedule turns)) = false
is_end (Some End) = true

abbrev pub is_schedule : Option Card → Bool
is_schedule card = is_some (turns_in card)

-- a first line that is no card
abbrev pub loose_line : List (List ℕ) → List ℕ
loose_line [] = []
loose_line (line ∷ lines) = noted (not (is_card line)) 1 []

-- a line that begins as cards do and is none
abbrev pub bad_cards : List Part → List ℕ
bad_cards [] = []
bad_cards (p ∷ parts) = noted (is_none p.card) p.line (bad_cards parts)

-- a line after //SCHED that is no card
abbrev pub after_schedule : List Part → List ℕ
after_schedule [] = []
after_schedule (p ∷ parts) = noted (is_schedule p.card && nat_lt 0 (length p.lines)) (p.line + 1) (after_schedule parts)

-- a line after //END: the input has this many lines
abbrev pub after_end : ℕ → List Part → List ℕ
after_end total [] = []
after_end total (p ∷ parts) = noted (is_end p.card && nat_lt p.line total) (p.line + 1) (after_end total parts)

-- an input with lines that has no //END: the line after its last
abbrev pub missing_end : ℕ → List Part → List ℕ
missing_end total parts = noted (nat_lt 0 total && not (list_any (λ p. is_end p.card) parts)) (total + 1) []

-- a //SCHED after another
abbrev pub second_schedules : List Part → Bool → List ℕ
second_schedules [] earlier = []
second_schedules (p ∷ parts) earlier = noted (is_schedule p.card && earlier) p.line (second_schedules parts (earlier || is_schedule p.card))

abbrev pub is_repeated : Option (List ℕ) → List (List ℕ) → Bool
is_repeated None earlier = false
is_repeated (Some name) earlier = list_any (same_name name) earlier

abbrev pub with_card : Option (List ℕ) → List (List ℕ) → List (List ℕ)
with_card None earlier = earlier
with_card (Some name) earlier = earlier ++ name ∷ []

-- a name that an earlier card of its kind has, or one card of its kind too many
abbrev pub repeated_cards : (Option Card → Option (List ℕ)) → (most : ℕ) → List Part → List (List ℕ) → List ℕ
repeated_cards name_of most [] earlier = []
repeated_cards name_of most (p ∷ parts) earlier =
    noted (is_repeated (name_of p.card) earlier) p.line
    (noted (is_some (name_of p.card) && nat_le most (length earlier)) p.line
    (repeated_cards name_of most parts (with_card (name_of p.card) earlier)))

abbrev pub with_front : Option (List ℕ) → List (List ℕ) → List (List ℕ)
with_front None names = names
with_front (Some name) names = name ∷ names

-- the names on the cards of one kind in order
abbrev pub names_of : (Option Card → Option (List ℕ)) → List Part → List (List ℕ)
names_of name_of [] = []
names_of name_of (p ∷ parts) = with_front (name_of p.card) (names_of name_of parts)

abbrev pub names_unknown : Option Turns → List (List ℕ) → Bool
names_unknown None jobs = false
names_unknown (Some RoundRobin) jobs = false
names_unknown (Some (Jobs names)) jobs = list_any (λ name. not (list_any (same_name name) jobs)) names

-- a //SCHED with a name that no job of the input has
abbrev pub unknown_turns : List (List ℕ) → List Part → List ℕ
unknown_turns jobs [] = []
unknown_turns jobs (p ∷ parts) = noted (names_unknown (turns_in p.card) jobs) p.line (unknown_turns jobs parts)

-- the faults that are noticed without memory
abbrev pub plain_faults : List (List ℕ) → List Part → List ℕ
plain_faults lines parts =
    loose_line lines ++ bad_cards parts ++ after_schedule parts ++ after_end (length lines) parts ++ missing_end (length lines) parts ++ second_schedules parts false

abbrev pub faults_among : List (List ℕ) → List Part → List ℕ
faults_among lines parts =
    plain_faults lines parts ++ repeated_cards source_name MOST_SOURCES parts [] ++ repeated_cards job_name MOST_JOBS parts []
    ++ unknown_turns (names_of job_name parts) parts

-- the lines at fault by the cards alone
abbrev pub card_faults : List (List ℕ) → List ℕ
card_faults lines = faults_among lines (parts_of lines)
