-- The commands of a job, their words, and the parameters that each may have.
-- (CL reference; the record commands from READ to UNLOCK, CHKPT and RCV's range are our own.)
use Rattle.std.specs.Prelude.{ℕ, nat_eq, if◌then◌else◌, Option, Some, None, List, [], ◌∷◌, codes}
use Rattle.std.specs.Option.{option_or}
use Rattle.std.specs.Cmp.Lexicographic.{pointwise}
use Rattle.std.specs.Prelude.{Bool}
use Rattle.statement_reader.specs.declared.commands.Command.{Command}
use Rattle.statement_reader.specs.declared.commands.Command.TheVariants.{Declare, ChangeVariable, If, Else, DoWhile, EndDo, Goto, Monitor, Return, CreatePhysicalFile, CreateLogicalFile, DeleteFile, AddMember, ClearMember, ReorganizeMember, StartJournaling, EndJournaling, ChangeJournal, DeleteReceiver, Checkpoint, DisplayJournal, ApplyChanges, RemoveChanges, StartCommitment, EndCommitment, Commit, Rollback, OpenFile, CloseFile, SetLowerLimit, SetGreaterThan, Read, ReadPrior, ReadEqual, ReadPriorEqual, Chain, Write, Update, Delete, Unlock}
use Rattle.statement_reader.specs.declared.parameters.Parameter.{Parameter}
use Rattle.statement_reader.specs.declared.parameters.Parameter.TheVariants as parameter

-- whether a word is spelled so
abbrev pub is_word : List ℕ → List ℕ → Bool
is_word spelling word = pointwise nat_eq word spelling

unfoldable pub control_command : List ℕ → Option Command
control_command word =
    if is_word (codes "DCL") word then Some Declare
    else (if is_word (codes "CHGVAR") word then Some ChangeVariable
    else (if is_word (codes "IF") word then Some If
    else (if is_word (codes "ELSE") word then Some Else
    else (if is_word (codes "DOWHILE") word then Some DoWhile
    else (if is_word (codes "ENDDO") word then Some EndDo
    else (if is_word (codes "GOTO") word then Some Goto
    else (if is_word (codes "MONMSG") word then Some Monitor
    else (if is_word (codes "RETURN") word then Some Return else None))))))))

unfoldable pub file_command : List ℕ → Option Command
file_command word =
    if is_word (codes "CRTPF") word then Some CreatePhysicalFile
    else (if is_word (codes "CRTLF") word then Some CreateLogicalFile
    else (if is_word (codes "DLTF") word then Some DeleteFile
    else (if is_word (codes "ADDPFM") word then Some AddMember
    else (if is_word (codes "CLRPFM") word then Some ClearMember
    else (if is_word (codes "RGZPFM") word then Some ReorganizeMember else None)))))

unfoldable pub journal_command : List ℕ → Option Command
journal_command word =
    if is_word (codes "STRJRNPF") word then Some StartJournaling
    else (if is_word (codes "ENDJRNPF") word then Some EndJournaling
    else (if is_word (codes "CHGJRN") word then Some ChangeJournal
    else (if is_word (codes "DLTJRNRCV") word then Some DeleteReceiver
    else (if is_word (codes "CHKPT") word then Some Checkpoint
    else (if is_word (codes "DSPJRN") word then Some DisplayJournal
    else (if is_word (codes "APYJRNCHG") word then Some ApplyChanges
    else (if is_word (codes "RMVJRNCHG") word then Some RemoveChanges else None)))))))

unfoldable pub commitment_command : List ℕ → Option Command
commitment_command word =
    if is_word (codes "STRCMTCTL") word then Some StartCommitment
    else (if is_word (codes "ENDCMTCTL") word then Some EndCommitment
    else (if is_word (codes "COMMIT") word then Some Commit
    else (if is_word (codes "ROLLBACK") word then Some Rollback else None)))

unfoldable pub position_command : List ℕ → Option Command
position_command word =
    if is_word (codes "OPNDBF") word then Some OpenFile
    else (if is_word (codes "CLOF") word then Some CloseFile
    else (if is_word (codes "SETLL") word then Some SetLowerLimit
    else (if is_word (codes "SETGT") word then Some SetGreaterThan else None)))

unfoldable pub record_command : List ℕ → Option Command
record_command word =
    if is_word (codes "READ") word then Some Read
    else (if is_word (codes "READP") word then Some ReadPrior
    else (if is_word (codes "READE") word then Some ReadEqual
    else (if is_word (codes "READPE") word then Some ReadPriorEqual
    else (if is_word (codes "CHAIN") word then Some Chain
    else (if is_word (codes "WRITE") word then Some Write
    else (if is_word (codes "UPDATE") word then Some Update
    else (if is_word (codes "DELETE") word then Some Delete
    else (if is_word (codes "UNLOCK") word then Some Unlock else None))))))))

-- the command of a word
unfoldable pub command_of : List ℕ → Option Command
command_of word =
    option_or (option_or (option_or (option_or (option_or (control_command word) (file_command word)) (journal_command word)) (commitment_command word)) (position_command word)) (record_command word)

-- the parameters that a command may have
abbrev pub parameters_of : Command → List Parameter
parameters_of Declare = parameter.Variable ∷ parameter.Value ∷ []
parameters_of ChangeVariable = parameter.Variable ∷ parameter.Value ∷ []
parameters_of If = parameter.Condition ∷ parameter.Then ∷ []
parameters_of Else = parameter.Command ∷ []
parameters_of DoWhile = parameter.Condition ∷ []
parameters_of EndDo = []
parameters_of Goto = parameter.Label ∷ []
parameters_of Monitor = parameter.Message ∷ parameter.Execute ∷ []
parameters_of Return = []
parameters_of CreatePhysicalFile = parameter.File ∷ parameter.Source ∷ []
parameters_of CreateLogicalFile = parameter.File ∷ parameter.Source ∷ []
parameters_of DeleteFile = parameter.File ∷ []
parameters_of AddMember = parameter.File ∷ parameter.Member ∷ []
parameters_of ClearMember = parameter.File ∷ parameter.Member ∷ []
parameters_of ReorganizeMember = parameter.File ∷ parameter.Member ∷ []
parameters_of StartJournaling = parameter.File ∷ parameter.Member ∷ parameter.Images ∷ []
parameters_of EndJournaling = parameter.File ∷ parameter.Member ∷ []
parameters_of ChangeJournal = []
parameters_of DeleteReceiver = parameter.Receiver ∷ []
parameters_of Checkpoint = []
parameters_of DisplayJournal = parameter.FromEntry ∷ parameter.ToEntry ∷ []
parameters_of ApplyChanges = parameter.File ∷ parameter.Member ∷ parameter.FromEntry ∷ parameter.ToEntry ∷ []
parameters_of RemoveChanges = parameter.File ∷ parameter.Member ∷ parameter.FromEntry ∷ parameter.ToEntry ∷ []
parameters_of StartCommitment = parameter.LockLevel ∷ []
parameters_of EndCommitment = []
parameters_of Commit = []
parameters_of Rollback = []
parameters_of OpenFile = parameter.File ∷ parameter.Option ∷ parameter.Member ∷ parameter.OpenId ∷ parameter.Commit ∷ parameter.AccessPath ∷ []
parameters_of CloseFile = parameter.OpenId ∷ []
parameters_of SetLowerLimit = parameter.OpenId ∷ parameter.Key ∷ parameter.RecordNumber ∷ []
parameters_of SetGreaterThan = parameter.OpenId ∷ parameter.Key ∷ parameter.RecordNumber ∷ []
parameters_of Read = parameter.OpenId ∷ parameter.Lock ∷ parameter.To ∷ []
parameters_of ReadPrior = parameter.OpenId ∷ parameter.Lock ∷ parameter.To ∷ []
parameters_of ReadEqual = parameter.OpenId ∷ parameter.Key ∷ parameter.Lock ∷ parameter.To ∷ []
parameters_of ReadPriorEqual = parameter.OpenId ∷ parameter.Key ∷ parameter.Lock ∷ parameter.To ∷ []
parameters_of Chain = parameter.OpenId ∷ parameter.Key ∷ parameter.RecordNumber ∷ parameter.Lock ∷ parameter.To ∷ []
parameters_of Write = parameter.OpenId ∷ parameter.Format ∷ parameter.RecordNumber ∷ parameter.Values ∷ []
parameters_of Update = parameter.OpenId ∷ parameter.Values ∷ []
parameters_of Delete = parameter.OpenId ∷ []
parameters_of Unlock = parameter.OpenId ∷ []
