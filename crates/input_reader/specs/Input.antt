-- What an input says, and which of its lines are at fault. (Our own: IBM i has jobs, source files and CL programs.)
use Rattle.std.specs.Prelude.{ℕ, ◌+◌, Option, Some, None, List, [], ◌∷◌, ◌++◌, map, filter_map, option_map, unwrap_or, position}
use Rattle.std.specs.List.{flat_map}
use Rattle.text_lines.specs.Lines.{text_of_lines}
use Rattle.library_model.specs.Named.{same_name}
use Rattle.library_model.specs.declared.sources.NamedSource.{NamedSource}
use Rattle.job_language.specs.declared.statements.Script.{Script}
use Rattle.input_scripts.specs.declared.Scripts.{Scripts}
use Rattle.input_scripts.specs.declared.Schedule.{Schedule}
use Rattle.input_scripts.specs.declared.Schedule.TheVariants.{Jobs, RoundRobin}
use Rattle.input_cards.specs.declared.cards.Turns.{Turns}
use Rattle.input_cards.specs.declared.cards.Turns.TheVariants.{Jobs as JobNames, RoundRobin as EachInTurn}
use Rattle.input_cards.specs.Sections.{Part, parts_of}
use Rattle.input_cards.specs.CardFaults.{source_name, job_name, turns_in, names_of, card_faults}
use Rattle.job_statements.specs.Reading.{job_faults, job_script}

-- ---- the lines at fault

abbrev pub faults_in : Part → Option (List ℕ) → List ℕ
faults_in part None = []
faults_in part (Some name) = job_faults (part.line + 1) part.lines

-- those of the statements of each job
abbrev pub job_faults_in : List Part → List ℕ
job_faults_in parts = flat_map (λ part. faults_in part (job_name part.card)) parts

-- those of the cards and those of each job's statements
abbrev pub faults_of : List (List ℕ) → List ℕ
faults_of lines = card_faults lines ++ job_faults_in (parts_of lines)

-- ---- what the input says

abbrev pub source_in : Part → Option NamedSource
source_in part = option_map (λ name. record { name = name; text = text_of_lines part.lines }) (source_name part.card)

abbrev pub script_in : Part → Option Script
script_in part = option_map (λ name. job_script (part.line + 1) part.lines) (job_name part.card)

abbrev pub scripts_in : List Part → List Script
scripts_in parts = filter_map script_in parts

-- the number of the job with this name, from 1; 0 where there is none
abbrev pub job_number : List (List ℕ) → List ℕ → ℕ
job_number jobs name = unwrap_or (option_map (λ place. place + 1) (position (same_name name) jobs)) 0

abbrev pub schedule_by : List (List ℕ) → Option Turns → Schedule
schedule_by jobs None = Jobs []
schedule_by jobs (Some EachInTurn) = RoundRobin
schedule_by jobs (Some (JobNames names)) = Jobs (map (job_number jobs) names)

abbrev pub first_turns : Option Turns → Option Turns → Option Turns
first_turns None later = later
first_turns (Some turns) later = Some turns

-- the first schedule
abbrev pub turns_among : List Part → Option Turns
turns_among [] = None
turns_among (part ∷ parts) = first_turns (turns_in part.card) (turns_among parts)

-- what sections say whose jobs have these scripts
abbrev pub scripts_by : List Part → List Script → Scripts
scripts_by parts scripts = record {
  sources = filter_map source_in parts;
  names = names_of job_name parts;
  scripts = scripts;
  schedule = schedule_by (names_of job_name parts) (turns_among parts);
}

-- what lines without a fault say
abbrev pub input_of : List (List ℕ) → Scripts
input_of lines = scripts_by (parts_of lines) (scripts_in (parts_of lines))
