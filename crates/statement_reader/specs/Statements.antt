-- What a statement of a job's script says: an optional label with a colon, a command, and its parameters. (CL reference, "Command syntax".)
use Rattle.std.specs.Prelude.{ℕ, ◌+◌, not, ◌&&◌, ◌==◌, if◌then◌else◌, Option, Some, None, List, [], ◌∷◌, take, drop, slice_index, option_map}
use Rattle.std.specs.Option.{option_map_or}
use Rattle.std.specs.List.{prefix_len}
use Rattle.field_types.specs.SystemName.{is_name}
use Rattle.library_model.specs.declared.requests.Request.TheVariants as request
use Rattle.statement_syntax.specs.declared.Phrase.{Phrase}
use Rattle.statement_syntax.specs.declared.Phrase.TheVariants.{EndDo, Return}
use Rattle.text_lines.specs.Lines.{is_blank}
use Rattle.statement_reader.specs.Commands.{command_of, parameters_of}
use Rattle.statement_reader.specs.Control.{declaration, change, choice_of_way, otherwise, while_loop, jump, monitor}
use Rattle.statement_reader.specs.Lists.{let_some}
use Rattle.statement_reader.specs.Parameters.{has_only}
use Rattle.statement_reader.specs.Requests.{plain, create_physical, create_logical, delete_file, add_member, clear_member, reorganize_member, end_journaling, start_journaling, delete_receiver, display_journal, apply_changes, remove_changes, start_commitment, open_file, close_file, delete_record, unlock_record, set_lower_limit, set_greater_than, read, read_prior, read_equal, read_prior_equal, chain, write, update}
use Rattle.statement_reader.specs.Words.{unindented, words}
use Rattle.statement_reader.specs.declared.commands.Command.{Command}
use Rattle.statement_reader.specs.declared.commands.Command.TheVariants.{Declare, ChangeVariable, If, Else, DoWhile, EndDo as EndDoCommand, Goto, Monitor, Return as ReturnCommand, CreatePhysicalFile, CreateLogicalFile, DeleteFile, AddMember, ClearMember, ReorganizeMember, StartJournaling, EndJournaling, ChangeJournal, DeleteReceiver, Checkpoint, DisplayJournal, ApplyChanges, RemoveChanges, StartCommitment, EndCommitment, Commit, Rollback, OpenFile, CloseFile, SetLowerLimit, SetGreaterThan, Read, ReadPrior, ReadEqual, ReadPriorEqual, Chain, Write, Update, Delete, Unlock}
use Rattle.statement_reader.specs.declared.reading.Said.{Said}

-- what a command says with its parameters, none of which is another command's
unfoldable pub command_phrase : Command → List (List ℕ) → List (List ℕ) → Option Phrase
command_phrase Declare variables statement = declaration statement
command_phrase ChangeVariable variables statement = change variables statement
command_phrase If variables statement = choice_of_way variables statement
command_phrase Else variables statement = otherwise statement
command_phrase DoWhile variables statement = while_loop variables statement
command_phrase EndDoCommand variables statement = Some EndDo
command_phrase Goto variables statement = jump statement
command_phrase Monitor variables statement = monitor statement
command_phrase ReturnCommand variables statement = Some Return
command_phrase CreatePhysicalFile variables statement = create_physical statement
command_phrase CreateLogicalFile variables statement = create_logical statement
command_phrase DeleteFile variables statement = delete_file statement
command_phrase AddMember variables statement = add_member statement
command_phrase ClearMember variables statement = clear_member statement
command_phrase ReorganizeMember variables statement = reorganize_member statement
command_phrase StartJournaling variables statement = start_journaling statement
command_phrase EndJournaling variables statement = end_journaling statement
command_phrase ChangeJournal variables statement = Some (plain request.ChangeJournal)
command_phrase DeleteReceiver variables statement = delete_receiver variables statement
command_phrase Checkpoint variables statement = Some (plain request.Checkpoint)
command_phrase DisplayJournal variables statement = display_journal variables statement
command_phrase ApplyChanges variables statement = apply_changes variables statement
command_phrase RemoveChanges variables statement = remove_changes variables statement
command_phrase StartCommitment variables statement = start_commitment statement
command_phrase EndCommitment variables statement = Some (plain request.EndCommitment)
command_phrase Commit variables statement = Some (plain request.Commit)
command_phrase Rollback variables statement = Some (plain request.Rollback)
command_phrase OpenFile variables statement = open_file statement
command_phrase CloseFile variables statement = close_file statement
command_phrase SetLowerLimit variables statement = set_lower_limit variables statement
command_phrase SetGreaterThan variables statement = set_greater_than variables statement
command_phrase Read variables statement = read variables statement
command_phrase ReadPrior variables statement = read_prior variables statement
command_phrase ReadEqual variables statement = read_equal variables statement
command_phrase ReadPriorEqual variables statement = read_prior_equal variables statement
command_phrase Chain variables statement = chain variables statement
command_phrase Write variables statement = write variables statement
command_phrase Update variables statement = update variables statement
command_phrase Delete variables statement = delete_record statement
command_phrase Unlock variables statement = unlock_record statement

abbrev pub commanded : List (List ℕ) → List (List ℕ) → Command → Option Phrase
commanded variables statement command =
    if has_only (parameters_of command) statement then command_phrase command variables statement else None

-- what a command and its parameters say
unfoldable pub phrase_of : List (List ℕ) → List (List ℕ) → Option Phrase
phrase_of variables [] = None
phrase_of variables (word ∷ statement) = let_some (command_of word) (commanded variables statement)

abbrev pub said : Option (List ℕ) → Phrase → Said
said label phrase = record { label = label; phrase = phrase }

-- how many characters stand before the first blank or colon
abbrev pub label_length : List ℕ → ℕ
label_length text = prefix_len (λ c. not (is_blank c) && not (c == 58)) text

-- where a colon stands before which there is no blank
abbrev pub colon_in : List ℕ → Option ℕ
colon_in text = if slice_index text (label_length text) == 58 then Some (label_length text) else None

-- a label of so many characters, and what is said behind its colon
abbrev pub labelled : List (List ℕ) → List ℕ → ℕ → Option Said
labelled variables text colon =
    if is_name (take colon text) then option_map (said (Some (take colon text))) (phrase_of variables (words (drop (colon + 1) text))) else None

-- what the text of a statement says with these variables declared; None where it is no statement
unfoldable pub statement_of : List (List ℕ) → List ℕ → Option Said
statement_of variables text =
    option_map_or (labelled variables (unindented text)) (colon_in (unindented text)) (option_map (said None) (phrase_of variables (words text)))
