-- What a command asks, by its word.
use Rattle.std.specs.Prelude.{ℕ, if◌then◌else◌, Option, Some, None, List, codes}
use Rattle.std.specs.Option.{option_or}
use Rattle.statement_reader.specs.Commands.{is_word}
use Rattle.listing_words.specs.declared.commands.RequestKind.{RequestKind}
use Rattle.listing_words.specs.declared.commands.RequestKind.TheVariants as request_kind

-- the commands on files and members
unfoldable pub file_command : List ℕ → Option RequestKind
file_command word =
    if is_word (codes "CRTPF") word then Some request_kind.CreatePhysicalFile
    else (if is_word (codes "CRTLF") word then Some request_kind.CreateLogicalFile
    else (if is_word (codes "DLTF") word then Some request_kind.DeleteFile
    else (if is_word (codes "ADDPFM") word then Some request_kind.AddMember
    else (if is_word (codes "CLRPFM") word then Some request_kind.ClearMember
    else (if is_word (codes "RGZPFM") word then Some request_kind.ReorganizeMember
    else (if is_word (codes "STRJRNPF") word then Some request_kind.StartJournaling
    else (if is_word (codes "ENDJRNPF") word then Some request_kind.EndJournaling else None)))))))

-- the commands on the journal and on commitment control
unfoldable pub journal_command : List ℕ → Option RequestKind
journal_command word =
    if is_word (codes "CHGJRN") word then Some request_kind.ChangeJournal
    else (if is_word (codes "DLTJRNRCV") word then Some request_kind.DeleteReceiver
    else (if is_word (codes "CHKPT") word then Some request_kind.Checkpoint
    else (if is_word (codes "DSPJRN") word then Some request_kind.DisplayJournal
    else (if is_word (codes "APYJRNCHG") word then Some request_kind.ApplyChanges
    else (if is_word (codes "RMVJRNCHG") word then Some request_kind.RemoveChanges
    else (if is_word (codes "STRCMTCTL") word then Some request_kind.StartCommitment
    else (if is_word (codes "ENDCMTCTL") word then Some request_kind.EndCommitment else None)))))))

-- the commands on opens, and the boundaries of commit cycles
unfoldable pub open_command : List ℕ → Option RequestKind
open_command word =
    if is_word (codes "COMMIT") word then Some request_kind.Commit
    else (if is_word (codes "ROLLBACK") word then Some request_kind.Rollback
    else (if is_word (codes "OPNDBF") word then Some request_kind.OpenFile
    else (if is_word (codes "CLOF") word then Some request_kind.CloseFile
    else (if is_word (codes "SETLL") word then Some request_kind.SetLowerLimit
    else (if is_word (codes "SETGT") word then Some request_kind.SetGreaterThan
    else (if is_word (codes "UNLOCK") word then Some request_kind.Unlock
    else (if is_word (codes "ENDJOB") word then Some request_kind.EndJob else None)))))))

-- the commands on records
unfoldable pub record_command : List ℕ → Option RequestKind
record_command word =
    if is_word (codes "READ") word then Some request_kind.Read
    else (if is_word (codes "READP") word then Some request_kind.ReadPrior
    else (if is_word (codes "READE") word then Some request_kind.ReadEqual
    else (if is_word (codes "READPE") word then Some request_kind.ReadPriorEqual
    else (if is_word (codes "CHAIN") word then Some request_kind.Chain
    else (if is_word (codes "WRITE") word then Some request_kind.Write
    else (if is_word (codes "UPDATE") word then Some request_kind.Update
    else (if is_word (codes "DELETE") word then Some request_kind.Delete else None)))))))

-- what a command asks
unfoldable pub request_named : List ℕ → Option RequestKind
request_named word = option_or (option_or (option_or (file_command word) (journal_command word)) (open_command word)) (record_command word)
