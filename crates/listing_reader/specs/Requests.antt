-- The requests, read back: what each asks, by its parameters.
use Rattle.std.specs.Prelude.{ℕ, Option, Some, List, codes, option_map}
use Rattle.library_model.specs.declared.requests.Request.{Request}
use Rattle.library_model.specs.declared.requests.Request.TheVariants as request
use Rattle.library_model.specs.declared.requests.ChainRecord.{ChainRecord}
use Rattle.library_model.specs.declared.requests.CreateLogicalFile.{CreateLogicalFile}
use Rattle.library_model.specs.declared.requests.CreatePhysicalFile.{CreatePhysicalFile}
use Rattle.library_model.specs.declared.requests.DeleteFile.{DeleteFile}
use Rattle.library_model.specs.declared.requests.DeleteReceiver.{DeleteReceiver}
use Rattle.library_model.specs.declared.requests.DisplayJournal.{DisplayJournal}
use Rattle.library_model.specs.declared.requests.EndJob.{EndJob}
use Rattle.library_model.specs.declared.requests.FileMember.{FileMember}
use Rattle.library_model.specs.declared.requests.JournaledChanges.{JournaledChanges}
use Rattle.library_model.specs.declared.requests.OpenFile.{OpenFile}
use Rattle.library_model.specs.declared.requests.OpenName.{OpenName}
use Rattle.library_model.specs.declared.requests.ReadEqual.{ReadEqual}
use Rattle.library_model.specs.declared.requests.ReadRecord.{ReadRecord}
use Rattle.library_model.specs.declared.requests.SetPosition.{SetPosition}
use Rattle.library_model.specs.declared.requests.StartCommitment.{StartCommitment}
use Rattle.library_model.specs.declared.requests.StartJournaling.{StartJournaling}
use Rattle.library_model.specs.declared.requests.UpdateRecord.{UpdateRecord}
use Rattle.library_model.specs.declared.requests.WriteRecord.{WriteRecord}
use Rattle.statement_reader.specs.Lists.{let_some}
use Rattle.listing_words.specs.Commands.{request_named}
use Rattle.listing_words.specs.Parameters.{level_in, images_in, option_in, yes_in, path_in, lock_in, reason_in, end_in, format_in, place_in, values_in, given_values_in, limit_in, chain_to_in}
use Rattle.listing_words.specs.Values.{number_in, long_in}
use Rattle.listing_words.specs.Words.{name_in}
use Rattle.listing_words.specs.declared.commands.RequestKind.{RequestKind}
use Rattle.listing_words.specs.declared.commands.RequestKind.TheVariants as request_kind

-- CRTPF
unfoldable pub create_physical : List (List ℕ) → Option CreatePhysicalFile
create_physical words =
    let_some (name_in (codes "FILE") words) (λ file.
    let_some (name_in (codes "SRC") words) (λ source.
    Some (record { file = file; source = source })))

-- CRTLF
unfoldable pub create_logical : List (List ℕ) → Option CreateLogicalFile
create_logical words =
    let_some (name_in (codes "FILE") words) (λ file.
    let_some (name_in (codes "SRC") words) (λ source.
    Some (record { file = file; source = source })))

-- DLTF
unfoldable pub delete_file : List (List ℕ) → Option DeleteFile
delete_file words =
    let_some (name_in (codes "FILE") words) (λ file.
    Some (record { file = file }))

-- The member of ADDPFM, CLRPFM, RGZPFM and ENDJRNPF
unfoldable pub file_member : List (List ℕ) → Option FileMember
file_member words =
    let_some (name_in (codes "FILE") words) (λ file.
    let_some (name_in (codes "MBR") words) (λ member.
    Some (record { file = file; member = member })))

-- STRJRNPF
unfoldable pub start_journaling : List (List ℕ) → Option StartJournaling
start_journaling words =
    let_some (name_in (codes "FILE") words) (λ file.
    let_some (name_in (codes "MBR") words) (λ member.
    let_some (images_in (codes "IMAGES") words) (λ images.
    Some (record { file = file; member = member; images = images }))))

-- DLTJRNRCV
unfoldable pub delete_receiver : List (List ℕ) → Option DeleteReceiver
delete_receiver words =
    let_some (number_in (codes "RCV") words) (λ number.
    Some (record { number = number }))

-- DSPJRN
unfoldable pub display_journal : List (List ℕ) → Option DisplayJournal
display_journal words =
    let_some (long_in (codes "FROMENT") words) (λ from.
    let_some (long_in (codes "TOENT") words) (λ to.
    Some (record { from = from; to = to })))

-- The range of APYJRNCHG and RMVJRNCHG
unfoldable pub journaled_changes : List (List ℕ) → Option JournaledChanges
journaled_changes words =
    let_some (name_in (codes "FILE") words) (λ file.
    let_some (name_in (codes "MBR") words) (λ member.
    let_some (end_in (codes "FROMENT") words) (λ from.
    let_some (end_in (codes "TOENT") words) (λ to.
    Some (record { file = file; member = member; from = from; to = to })))))

-- STRCMTCTL
unfoldable pub start_commitment : List (List ℕ) → Option StartCommitment
start_commitment words =
    let_some (level_in (codes "LCKLVL") words) (λ level.
    Some (record { level = level }))

-- ENDJOB
unfoldable pub end_job : List (List ℕ) → Option EndJob
end_job words =
    let_some (reason_in (codes "REASON") words) (λ reason.
    let_some (number_in (codes "LINE") words) (λ line.
    Some (record { reason = reason; line = line })))

-- OPNDBF
unfoldable pub open_file : List (List ℕ) → Option OpenFile
open_file words =
    let_some (name_in (codes "FILE") words) (λ file.
    let_some (option_in (codes "OPTION") words) (λ option.
    let_some (name_in (codes "MBR") words) (λ member.
    let_some (name_in (codes "OPNID") words) (λ open_id.
    let_some (yes_in (codes "COMMIT") words) (λ commit.
    let_some (path_in (codes "ACCPTH") words) (λ access_path.
    Some (record { file = file; option = option; member = member; open_id = open_id; commit = commit; access_path = access_path })))))))

-- The open of CLOF, DELETE and UNLOCK
unfoldable pub open_name : List (List ℕ) → Option OpenName
open_name words =
    let_some (name_in (codes "OPNID") words) (λ open_id.
    Some (record { open_id = open_id }))

-- SETLL and SETGT
unfoldable pub set_position : List (List ℕ) → Option SetPosition
set_position words =
    let_some (name_in (codes "OPNID") words) (λ open_id.
    let_some (limit_in words) (λ to.
    Some (record { open_id = open_id; to = to })))

-- READ and READP
unfoldable pub read_record : List (List ℕ) → Option ReadRecord
read_record words =
    let_some (name_in (codes "OPNID") words) (λ open_id.
    let_some (lock_in (codes "LCK") words) (λ lock.
    Some (record { open_id = open_id; lock = lock })))

-- READE and READPE
unfoldable pub read_equal : List (List ℕ) → Option ReadEqual
read_equal words =
    let_some (name_in (codes "OPNID") words) (λ open_id.
    let_some (values_in (codes "KEY") words) (λ key.
    let_some (lock_in (codes "LCK") words) (λ lock.
    Some (record { open_id = open_id; key = key; lock = lock }))))

-- CHAIN
unfoldable pub chain_record : List (List ℕ) → Option ChainRecord
chain_record words =
    let_some (name_in (codes "OPNID") words) (λ open_id.
    let_some (chain_to_in words) (λ to.
    let_some (lock_in (codes "LCK") words) (λ lock.
    Some (record { open_id = open_id; to = to; lock = lock }))))

-- WRITE
unfoldable pub write_record : List (List ℕ) → Option WriteRecord
write_record words =
    let_some (name_in (codes "OPNID") words) (λ open_id.
    let_some (format_in (codes "FMT") words) (λ format.
    let_some (place_in (codes "RRN") words) (λ record_number.
    let_some (given_values_in (codes "VAL") words) (λ values.
    Some (record { open_id = open_id; format = format; record_number = record_number; values = values })))))

-- UPDATE
unfoldable pub update_record : List (List ℕ) → Option UpdateRecord
update_record words =
    let_some (name_in (codes "OPNID") words) (λ open_id.
    let_some (given_values_in (codes "VAL") words) (λ values.
    Some (record { open_id = open_id; values = values })))

-- what is asked, with the parameters
unfoldable pub request_of : RequestKind → List (List ℕ) → Option Request
request_of request_kind.CreatePhysicalFile words = option_map request.CreatePhysicalFile (create_physical words)
request_of request_kind.CreateLogicalFile words = option_map request.CreateLogicalFile (create_logical words)
request_of request_kind.DeleteFile words = option_map request.DeleteFile (delete_file words)
request_of request_kind.AddMember words = option_map request.AddMember (file_member words)
request_of request_kind.ClearMember words = option_map request.ClearMember (file_member words)
request_of request_kind.ReorganizeMember words = option_map request.ReorganizeMember (file_member words)
request_of request_kind.StartJournaling words = option_map request.StartJournaling (start_journaling words)
request_of request_kind.EndJournaling words = option_map request.EndJournaling (file_member words)
request_of request_kind.ChangeJournal words = Some request.ChangeJournal
request_of request_kind.DeleteReceiver words = option_map request.DeleteReceiver (delete_receiver words)
request_of request_kind.Checkpoint words = Some request.Checkpoint
request_of request_kind.DisplayJournal words = option_map request.DisplayJournal (display_journal words)
request_of request_kind.ApplyChanges words = option_map request.ApplyChanges (journaled_changes words)
request_of request_kind.RemoveChanges words = option_map request.RemoveChanges (journaled_changes words)
request_of request_kind.StartCommitment words = option_map request.StartCommitment (start_commitment words)
request_of request_kind.EndCommitment words = Some request.EndCommitment
request_of request_kind.Commit words = Some request.Commit
request_of request_kind.Rollback words = Some request.Rollback
request_of request_kind.OpenFile words = option_map request.OpenFile (open_file words)
request_of request_kind.CloseFile words = option_map request.CloseFile (open_name words)
request_of request_kind.SetLowerLimit words = option_map request.SetLowerLimit (set_position words)
request_of request_kind.SetGreaterThan words = option_map request.SetGreaterThan (set_position words)
request_of request_kind.Read words = option_map request.Read (read_record words)
request_of request_kind.ReadPrior words = option_map request.ReadPrior (read_record words)
request_of request_kind.ReadEqual words = option_map request.ReadEqual (read_equal words)
request_of request_kind.ReadPriorEqual words = option_map request.ReadPriorEqual (read_equal words)
request_of request_kind.Chain words = option_map request.Chain (chain_record words)
request_of request_kind.Write words = option_map request.Write (write_record words)
request_of request_kind.Update words = option_map request.Update (update_record words)
request_of request_kind.Delete words = option_map request.Delete (open_name words)
request_of request_kind.Unlock words = option_map request.Unlock (open_name words)
request_of request_kind.EndJob words = option_map request.EndJob (end_job words)

-- the request of a command and its parameters
unfoldable pub read_request : List ℕ → List (List ℕ) → Option Request
read_request command words = let_some (request_named command) (λ kind. request_of kind words)
