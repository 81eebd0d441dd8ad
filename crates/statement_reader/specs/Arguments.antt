-- What a parameter gives, and what it gives where it stands nowhere. (CL reference, the parameters of each command.)
use Rattle.std.specs.Prelude.{ℕ, Bool, true, false, if◌then◌else◌, Option, Some, None, List, [], codes, option_map}
use Rattle.std.specs.Option.{option_map_or}
use Rattle.field_types.specs.SystemName.{is_name}
use Rattle.commit_level.specs.declared.Level.{Level}
use Rattle.commit_level.specs.declared.Level.TheVariants as level
use Rattle.entry_codec.specs.declared.kinds.Images.{Images}
use Rattle.entry_codec.specs.declared.kinds.Images.TheVariants as images
use Rattle.library_model.specs.declared.requests.OpenOption.{OpenOption}
use Rattle.library_model.specs.declared.requests.OpenOption.TheVariants as open_option
use Rattle.library_model.specs.declared.requests.AccessPath.{AccessPath}
use Rattle.library_model.specs.declared.requests.AccessPath.TheVariants as access_path
use Rattle.library_model.specs.declared.requests.LockOption.{LockOption}
use Rattle.library_model.specs.declared.requests.LockOption.TheVariants as lock
use Rattle.job_language.specs.declared.operands.Operand.{Operand}
use Rattle.job_language.specs.declared.operands.NumberOperand.{NumberOperand}
use Rattle.job_language.specs.declared.operands.SequenceOperand.{SequenceOperand}
use Rattle.job_language.specs.declared.forms.EndForm.{EndForm}
use Rattle.job_language.specs.declared.forms.EndForm.TheVariants as end_form
use Rattle.statement_reader.specs.Commands.{is_word}
use Rattle.statement_reader.specs.Lists.{let_some}
use Rattle.statement_reader.specs.Operands.{operands_of, given_operands, targets_of, number_operand, sequence_operand}
use Rattle.statement_reader.specs.Parameters.{given}
use Rattle.statement_reader.specs.Words.{words, only}
use Rattle.statement_reader.specs.declared.parameters.Parameter.{Parameter}
use Rattle.statement_reader.specs.declared.parameters.Parameter.TheVariants as parameter

-- the word alone in the parentheses of a parameter
unfoldable pub word_in : Parameter → List (List ℕ) → Option (List ℕ)
word_in parameter statement = let_some (given parameter statement) (λ text. only (words text))

abbrev pub name_of : List ℕ → Option (List ℕ)
name_of word = if is_name word then Some word else None

-- a name
unfoldable pub name_in : Parameter → List (List ℕ) → Option (List ℕ)
name_in parameter statement = let_some (word_in parameter statement) name_of

-- whether the parameter stands nowhere
abbrev pub stands : Parameter → List (List ℕ) → Bool
stands parameter statement = option_map_or (λ text. true) (given parameter statement) false

-- a name, or where the parameter stands nowhere another
unfoldable pub name_or : Parameter → List ℕ → List (List ℕ) → Option (List ℕ)
name_or parameter default statement = if stands parameter statement then name_in parameter statement else Some default

-- the choices of parameters, with the default first
abbrev pub images_of : List ℕ → Option Images
images_of word = if is_word (codes "*AFTER") word then Some images.After else (if is_word (codes "*BOTH") word then Some images.Both else None)

abbrev pub option_of : List ℕ → Option OpenOption
option_of word = if is_word (codes "*INP") word then Some open_option.Input else (if is_word (codes "*ALL") word then Some open_option.All else None)

abbrev pub commit_of : List ℕ → Option Bool
commit_of word = if is_word (codes "*NO") word then Some false else (if is_word (codes "*YES") word then Some true else None)

abbrev pub access_path_of : List ℕ → Option AccessPath
access_path_of word = if is_word (codes "*FILE") word then Some access_path.File else (if is_word (codes "*ARRIVAL") word then Some access_path.Arrival else None)

abbrev pub lock_of : List ℕ → Option LockOption
lock_of word = if is_word (codes "*DFT") word then Some lock.Default else (if is_word (codes "*NO") word then Some lock.No else None)

abbrev pub level_of : List ℕ → Option Level
level_of word =
    if is_word (codes "*CHG") word then Some level.Chg
    else (if is_word (codes "*CS") word then Some level.Cs else (if is_word (codes "*ALL") word then Some level.All else None))

abbrev pub end_of : List (List ℕ) → List ℕ → Option EndForm
end_of variables word =
    if is_word (codes "*FIRST") word then Some end_form.First
    else (if is_word (codes "*LAST") word then Some end_form.Last else option_map end_form.Sequence (sequence_operand variables word))

-- FMT: *FILE, or a name
abbrev pub format_of : List ℕ → Option (Option (List ℕ))
format_of word = if is_word (codes "*FILE") word then Some None else option_map Some (name_of word)

-- RRN of WRITE: *END, or a number
abbrev pub place_of : List (List ℕ) → List ℕ → Option (Option NumberOperand)
place_of variables word = if is_word (codes "*END") word then Some None else option_map Some (number_operand variables word)

-- what a word of the parameter says, and a default where the parameter stands nowhere
abbrev pub choice : {A : Type 0} → (List ℕ → Option A) → A → Parameter → List (List ℕ) → Option A
choice of default parameter statement = if stands parameter statement then let_some (word_in parameter statement) of else Some default

unfoldable pub images_in : List (List ℕ) → Option Images
images_in statement = choice images_of images.After parameter.Images statement

unfoldable pub option_in : List (List ℕ) → Option OpenOption
option_in statement = choice option_of open_option.Input parameter.Option statement

unfoldable pub commit_in : List (List ℕ) → Option Bool
commit_in statement = choice commit_of false parameter.Commit statement

unfoldable pub access_path_in : List (List ℕ) → Option AccessPath
access_path_in statement = choice access_path_of access_path.File parameter.AccessPath statement

unfoldable pub lock_in : List (List ℕ) → Option LockOption
lock_in statement = choice lock_of lock.Default parameter.Lock statement

unfoldable pub level_in : List (List ℕ) → Option Level
level_in statement = let_some (word_in parameter.LockLevel statement) level_of

unfoldable pub end_in : Parameter → EndForm → List (List ℕ) → List (List ℕ) → Option EndForm
end_in parameter default variables statement = choice (end_of variables) default parameter statement

unfoldable pub format_in : List (List ℕ) → Option (Option (List ℕ))
format_in statement = choice format_of None parameter.Format statement

unfoldable pub place_in : List (List ℕ) → List (List ℕ) → Option (Option NumberOperand)
place_in variables statement = choice (place_of variables) None parameter.RecordNumber statement

unfoldable pub number_at : Parameter → List (List ℕ) → List (List ℕ) → Option NumberOperand
number_at parameter variables statement = let_some (word_in parameter statement) (number_operand variables)

unfoldable pub sequence_at : Parameter → List (List ℕ) → List (List ℕ) → Option SequenceOperand
sequence_at parameter variables statement = let_some (word_in parameter statement) (sequence_operand variables)

-- KEY, VAL and TO
unfoldable pub key_in : List (List ℕ) → List (List ℕ) → Option (List Operand)
key_in variables statement = let_some (given parameter.Key statement) (λ text. operands_of variables (words text))

unfoldable pub values_in : List (List ℕ) → List (List ℕ) → Option (List (Option Operand))
values_in variables statement = let_some (given parameter.Values statement) (λ text. given_operands variables (words text))

unfoldable pub targets_in : List (List ℕ) → List (List ℕ) → Option (List ℕ)
targets_in variables statement = option_map_or (λ text. targets_of variables (words text)) (given parameter.To statement) (Some [])
