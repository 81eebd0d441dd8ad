-- The statements that are requests, by their parameters, with every default filled in: MBR and OPNID of OPNDBF are FILE's name.
-- (CL reference; the record commands from READ to UNLOCK and CHKPT are our own.)
use Rattle.std.specs.Prelude.{ℕ, Option, Some, None, List, [], if◌then◌else◌, codes}
use Rattle.std.specs.Option.{option_or}
use Rattle.library_model.specs.declared.requests.FileMember.{FileMember}
use Rattle.library_model.specs.declared.requests.Request.{Request}
use Rattle.library_model.specs.declared.requests.Request.TheVariants as request
use Rattle.job_language.specs.declared.forms.EndForm.{EndForm}
use Rattle.job_language.specs.declared.forms.EndForm.TheVariants as end_form
use Rattle.job_language.specs.declared.forms.ChangesForm.{ChangesForm}
use Rattle.job_language.specs.declared.forms.LimitForm.{LimitForm}
use Rattle.job_language.specs.declared.forms.LimitForm.TheVariants as limit
use Rattle.job_language.specs.declared.forms.PositionForm.{PositionForm}
use Rattle.job_language.specs.declared.forms.ReadEqualForm.{ReadEqualForm}
use Rattle.job_language.specs.declared.forms.ChainToForm.{ChainToForm}
use Rattle.job_language.specs.declared.forms.ChainToForm.TheVariants as chain_to
use Rattle.job_language.specs.declared.forms.RequestForm.{RequestForm}
use Rattle.job_language.specs.declared.forms.RequestForm.TheVariants as form
use Rattle.statement_syntax.specs.declared.Phrase.{Phrase}
use Rattle.statement_syntax.specs.declared.Phrase.TheVariants.{Request as Asking}
use Rattle.statement_reader.specs.Arguments.{name_in, name_or, stands, images_in, option_in, commit_in, access_path_in, lock_in, level_in, end_in, format_in, place_in, number_at, sequence_at, key_in, values_in, targets_in, word_in}
use Rattle.statement_reader.specs.Commands.{is_word}
use Rattle.statement_reader.specs.Lists.{let_some}
use Rattle.statement_reader.specs.declared.parameters.Parameter.TheVariants as parameter

-- a request without TO
abbrev pub asking : RequestForm → Phrase
asking form = Asking form []

abbrev pub plain : Request → Phrase
plain request = asking (form.Fixed request)

unfoldable pub create_physical : List (List ℕ) → Option Phrase
create_physical statement =
    let_some (name_in parameter.File statement) (λ file.
    let_some (name_in parameter.Source statement) (λ source.
    Some (plain (request.CreatePhysicalFile (record { file = file; source = source })))))

unfoldable pub create_logical : List (List ℕ) → Option Phrase
create_logical statement =
    let_some (name_in parameter.File statement) (λ file.
    let_some (name_in parameter.Source statement) (λ source.
    Some (plain (request.CreateLogicalFile (record { file = file; source = source })))))

unfoldable pub delete_file : List (List ℕ) → Option Phrase
delete_file statement = let_some (name_in parameter.File statement) (λ file. Some (plain (request.DeleteFile (record { file = file }))))

-- FILE, and MBR, which is FILE's name where it isn't given
unfoldable pub file_member : List (List ℕ) → Option FileMember
file_member statement =
    let_some (name_in parameter.File statement) (λ file.
    let_some (name_or parameter.Member file statement) (λ member.
    Some (record { file = file; member = member })))

unfoldable pub add_member : List (List ℕ) → Option Phrase
add_member statement = let_some (file_member statement) (λ named. Some (plain (request.AddMember named)))

unfoldable pub clear_member : List (List ℕ) → Option Phrase
clear_member statement = let_some (file_member statement) (λ named. Some (plain (request.ClearMember named)))

unfoldable pub reorganize_member : List (List ℕ) → Option Phrase
reorganize_member statement = let_some (file_member statement) (λ named. Some (plain (request.ReorganizeMember named)))

unfoldable pub end_journaling : List (List ℕ) → Option Phrase
end_journaling statement = let_some (file_member statement) (λ named. Some (plain (request.EndJournaling named)))

unfoldable pub start_journaling : List (List ℕ) → Option Phrase
start_journaling statement =
    let_some (file_member statement) (λ named.
    let_some (images_in statement) (λ images.
    Some (plain (request.StartJournaling (record { file = named.file; member = named.member; images = images })))))

unfoldable pub delete_receiver : List (List ℕ) → List (List ℕ) → Option Phrase
delete_receiver variables statement = let_some (number_at parameter.Receiver variables statement) (λ number. Some (asking (form.DeleteReceiver number)))

unfoldable pub display_journal : List (List ℕ) → List (List ℕ) → Option Phrase
display_journal variables statement =
    let_some (sequence_at parameter.FromEntry variables statement) (λ from.
    let_some (sequence_at parameter.ToEntry variables statement) (λ to.
    Some (asking (form.DisplayJournal from to))))

-- APYJRNCHG and RMVJRNCHG, by the ends where none is given
unfoldable pub changes : EndForm → EndForm → List (List ℕ) → List (List ℕ) → Option ChangesForm
changes first last variables statement =
    let_some (file_member statement) (λ named.
    let_some (end_in parameter.FromEntry first variables statement) (λ from.
    let_some (end_in parameter.ToEntry last variables statement) (λ to.
    Some (record { file = named.file; member = named.member; from = from; to = to }))))

unfoldable pub apply_changes : List (List ℕ) → List (List ℕ) → Option Phrase
apply_changes variables statement = let_some (changes end_form.First end_form.Last variables statement) (λ range. Some (asking (form.ApplyChanges range)))

unfoldable pub remove_changes : List (List ℕ) → List (List ℕ) → Option Phrase
remove_changes variables statement = let_some (changes end_form.Last end_form.First variables statement) (λ range. Some (asking (form.RemoveChanges range)))

unfoldable pub start_commitment : List (List ℕ) → Option Phrase
start_commitment statement = let_some (level_in statement) (λ level. Some (plain (request.StartCommitment (record { level = level }))))

unfoldable pub open_file : List (List ℕ) → Option Phrase
open_file statement =
    let_some (name_in parameter.File statement) (λ file.
    let_some (option_in statement) (λ option.
    let_some (name_or parameter.Member file statement) (λ member.
    let_some (name_or parameter.OpenId file statement) (λ open_id.
    let_some (commit_in statement) (λ commit.
    let_some (access_path_in statement) (λ path.
    Some (plain (request.OpenFile (record { file = file; option = option; member = member; open_id = open_id; commit = commit; access_path = path })))))))))

unfoldable pub close_file : List (List ℕ) → Option Phrase
close_file statement = let_some (name_in parameter.OpenId statement) (λ open_id. Some (plain (request.CloseFile (record { open_id = open_id }))))

unfoldable pub delete_record : List (List ℕ) → Option Phrase
delete_record statement = let_some (name_in parameter.OpenId statement) (λ open_id. Some (plain (request.Delete (record { open_id = open_id }))))

unfoldable pub unlock_record : List (List ℕ) → Option Phrase
unlock_record statement = let_some (name_in parameter.OpenId statement) (λ open_id. Some (plain (request.Unlock (record { open_id = open_id }))))

-- SETLL and SETGT have KEY or RRN, and not both; KEY has *LOVAL or *HIVAL alone, or values
abbrev pub limit_by_word : List ℕ → Option LimitForm
limit_by_word word = if is_word (codes "*LOVAL") word then Some limit.LowValue else (if is_word (codes "*HIVAL") word then Some limit.HighValue else None)

unfoldable pub limit_word : List (List ℕ) → Option LimitForm
limit_word statement = let_some (word_in parameter.Key statement) limit_by_word

unfoldable pub key_limit : List (List ℕ) → List (List ℕ) → Option LimitForm
key_limit variables statement = option_or (limit_word statement) (let_some (key_in variables statement) (λ key. Some (limit.Key key)))

abbrev pub number_limit : List (List ℕ) → List (List ℕ) → Option LimitForm
number_limit variables statement = let_some (number_at parameter.RecordNumber variables statement) (λ number. Some (limit.RecordNumber number))

unfoldable pub limit_in : List (List ℕ) → List (List ℕ) → Option LimitForm
limit_in variables statement =
    if stands parameter.RecordNumber statement
    then (if stands parameter.Key statement then None else number_limit variables statement)
    else key_limit variables statement

unfoldable pub position_of : List (List ℕ) → List (List ℕ) → Option PositionForm
position_of variables statement =
    let_some (name_in parameter.OpenId statement) (λ open_id.
    let_some (limit_in variables statement) (λ to.
    Some (record { open_id = open_id; to = to })))

unfoldable pub set_lower_limit : List (List ℕ) → List (List ℕ) → Option Phrase
set_lower_limit variables statement = let_some (position_of variables statement) (λ position. Some (asking (form.SetLowerLimit position)))

unfoldable pub set_greater_than : List (List ℕ) → List (List ℕ) → Option Phrase
set_greater_than variables statement = let_some (position_of variables statement) (λ position. Some (asking (form.SetGreaterThan position)))

-- the reads, with the variables of TO
unfoldable pub read : List (List ℕ) → List (List ℕ) → Option Phrase
read variables statement =
    let_some (name_in parameter.OpenId statement) (λ open_id.
    let_some (lock_in statement) (λ lock.
    let_some (targets_in variables statement) (λ into.
    Some (Asking (form.Fixed (request.Read (record { open_id = open_id; lock = lock }))) into))))

unfoldable pub read_prior : List (List ℕ) → List (List ℕ) → Option Phrase
read_prior variables statement =
    let_some (name_in parameter.OpenId statement) (λ open_id.
    let_some (lock_in statement) (λ lock.
    let_some (targets_in variables statement) (λ into.
    Some (Asking (form.Fixed (request.ReadPrior (record { open_id = open_id; lock = lock }))) into))))

unfoldable pub read_equal_of : List (List ℕ) → List (List ℕ) → Option ReadEqualForm
read_equal_of variables statement =
    let_some (name_in parameter.OpenId statement) (λ open_id.
    let_some (lock_in statement) (λ lock.
    let_some (key_in variables statement) (λ key.
    Some (record { open_id = open_id; key = key; lock = lock }))))

unfoldable pub read_equal : List (List ℕ) → List (List ℕ) → Option Phrase
read_equal variables statement =
    let_some (targets_in variables statement) (λ into.
    let_some (read_equal_of variables statement) (λ reading.
    Some (Asking (form.ReadEqual reading) into)))

unfoldable pub read_prior_equal : List (List ℕ) → List (List ℕ) → Option Phrase
read_prior_equal variables statement =
    let_some (targets_in variables statement) (λ into.
    let_some (read_equal_of variables statement) (λ reading.
    Some (Asking (form.ReadPriorEqual reading) into)))

-- CHAIN has KEY or RRN, and not both
abbrev pub chain_by_number : List (List ℕ) → List (List ℕ) → Option ChainToForm
chain_by_number variables statement = let_some (number_at parameter.RecordNumber variables statement) (λ number. Some (chain_to.RecordNumber number))

abbrev pub chain_by_key : List (List ℕ) → List (List ℕ) → Option ChainToForm
chain_by_key variables statement = let_some (key_in variables statement) (λ key. Some (chain_to.Key key))

unfoldable pub chain_to_in : List (List ℕ) → List (List ℕ) → Option ChainToForm
chain_to_in variables statement =
    if stands parameter.RecordNumber statement
    then (if stands parameter.Key statement then None else chain_by_number variables statement)
    else chain_by_key variables statement

unfoldable pub chain : List (List ℕ) → List (List ℕ) → Option Phrase
chain variables statement =
    let_some (name_in parameter.OpenId statement) (λ open_id.
    let_some (lock_in statement) (λ lock.
    let_some (targets_in variables statement) (λ into.
    let_some (chain_to_in variables statement) (λ to.
    Some (Asking (form.Chain (record { open_id = open_id; to = to; lock = lock })) into)))))

unfoldable pub write : List (List ℕ) → List (List ℕ) → Option Phrase
write variables statement =
    let_some (name_in parameter.OpenId statement) (λ open_id.
    let_some (format_in statement) (λ format.
    let_some (place_in variables statement) (λ place.
    let_some (values_in variables statement) (λ values.
    Some (asking (form.Write (record { open_id = open_id; format = format; record_number = place; values = values })))))))

unfoldable pub update : List (List ℕ) → List (List ℕ) → Option Phrase
update variables statement =
    let_some (name_in parameter.OpenId statement) (λ open_id.
    let_some (values_in variables statement) (λ values.
    Some (asking (form.Update (record { open_id = open_id; values = values })))))
