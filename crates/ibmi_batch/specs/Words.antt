-- Which words of a command line are a command: RUN and SERIAL, which run the jobs of an input, INZ, which makes a library, and DSP, which shows one; and a
-- folder. (Our own.)
use Rattle.std.specs.Prelude.{ℕ, Bool, false, not, ◌==◌, ◌&&◌, ◌||◌, nat_eq, List, [], ◌∷◌, codes}
use Rattle.std.specs.Cmp.Lexicographic.{pointwise}

-- a word that isn't empty and doesn't begin with a hyphen
abbrev pub names_folder : List ℕ → Bool
names_folder [] = false
names_folder (b ∷ bs) = not (b == 45)

-- this command, and a folder
abbrev pub are_words_of : List ℕ → List (List ℕ) → Bool
are_words_of name (command ∷ folder ∷ []) = pointwise nat_eq command name && names_folder folder
are_words_of name _ = false

abbrev pub are_run_words : List (List ℕ) → Bool
are_run_words words = are_words_of (codes "RUN") words

abbrev pub are_serial_words : List (List ℕ) → Bool
are_serial_words words = are_words_of (codes "SERIAL") words

abbrev pub are_format_words : List (List ℕ) → Bool
are_format_words words = are_words_of (codes "INZ") words

abbrev pub are_display_words : List (List ℕ) → Bool
are_display_words words = are_words_of (codes "DSP") words

-- those of a command that runs jobs
abbrev pub are_job_words : List (List ℕ) → Bool
are_job_words words = are_run_words words || are_serial_words words

-- those of a command that opens a library
abbrev pub are_open_words : List (List ℕ) → Bool
are_open_words words = are_job_words words || are_display_words words

abbrev pub are_command_words : List (List ℕ) → Bool
are_command_words words = are_open_words words || are_format_words words
