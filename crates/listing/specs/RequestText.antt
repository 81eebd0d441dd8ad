-- How a request is printed: the command and its parameters, every default filled in. (CL commands; OPNDBF to UNLOCK are our own.)
use Rattle.std.specs.Prelude.{ℕ, Bool, true, false, Option, Some, None, List, [], ◌++◌, codes}
use Rattle.std.specs.Fmt.{decimal}
use Rattle.commit_level.specs.declared.Level.{Level}
use Rattle.commit_level.specs.declared.Level.TheVariants.{Chg, Cs, All as AllRecords}
use Rattle.entry_codec.specs.declared.kinds.Images.{Images}
use Rattle.entry_codec.specs.declared.kinds.Images.TheVariants.{After, Both}
use Rattle.library_model.specs.declared.requests.Request.{Request}
use Rattle.library_model.specs.declared.requests.Request.TheVariants as request
use Rattle.library_model.specs.declared.requests.FileMember.{FileMember}
use Rattle.library_model.specs.declared.requests.JournaledChanges.{JournaledChanges}
use Rattle.library_model.specs.declared.requests.RangeEnd.{RangeEnd}
use Rattle.library_model.specs.declared.requests.RangeEnd.TheVariants.{First, Last, Sequence}
use Rattle.library_model.specs.declared.requests.OpenOption.{OpenOption}
use Rattle.library_model.specs.declared.requests.OpenOption.TheVariants.{Input, All}
use Rattle.library_model.specs.declared.requests.AccessPath.{AccessPath}
use Rattle.library_model.specs.declared.requests.AccessPath.TheVariants.{File, Arrival}
use Rattle.library_model.specs.declared.requests.OpenFile.{OpenFile}
use Rattle.library_model.specs.declared.requests.Limit.{Limit}
use Rattle.library_model.specs.declared.requests.Limit.TheVariants.{Key, LowValue, HighValue, RecordNumber}
use Rattle.library_model.specs.declared.requests.SetPosition.{SetPosition}
use Rattle.library_model.specs.declared.requests.LockOption.{LockOption}
use Rattle.library_model.specs.declared.requests.LockOption.TheVariants.{Default, No}
use Rattle.library_model.specs.declared.requests.ReadRecord.{ReadRecord}
use Rattle.library_model.specs.declared.requests.ReadEqual.{ReadEqual}
use Rattle.library_model.specs.declared.requests.ChainTo.{ChainTo}
use Rattle.library_model.specs.declared.requests.ChainTo.TheVariants.{Key as ChainKey, RecordNumber as ChainNumber}
use Rattle.library_model.specs.declared.requests.WriteRecord.{WriteRecord}
use Rattle.library_model.specs.declared.requests.EndReason.{EndReason}
use Rattle.library_model.specs.declared.requests.EndReason.TheVariants.{Normal, Escape, Expression, Statements, History}
use Rattle.listing.specs.Texts.{parameter, number_parameter, values_text, given_values_text}

abbrev pub level_text : Level → List ℕ
level_text Chg = codes "*CHG"
level_text Cs = codes "*CS"
level_text AllRecords = codes "*ALL"

abbrev pub images_text : Images → List ℕ
images_text After = codes "*AFTER"
images_text Both = codes "*BOTH"

abbrev pub end_text : RangeEnd → List ℕ
end_text First = codes "*FIRST"
end_text Last = codes "*LAST"
end_text (Sequence number) = decimal number

abbrev pub option_text : OpenOption → List ℕ
option_text Input = codes "*INP"
option_text All = codes "*ALL"

abbrev pub yes_or_no : Bool → List ℕ
yes_or_no true = codes "*YES"
yes_or_no false = codes "*NO"

abbrev pub path_text : AccessPath → List ℕ
path_text File = codes "*FILE"
path_text Arrival = codes "*ARRIVAL"

abbrev pub lock_text : LockOption → List ℕ
lock_text Default = codes "*DFT"
lock_text No = codes "*NO"

abbrev pub reason_text : EndReason → List ℕ
reason_text Normal = codes "*NORMAL"
reason_text Escape = codes "*ESCAPE"
reason_text Expression = codes "*EXPR"
reason_text Statements = codes "*STMT"
reason_text History = codes "*HISTORY"

abbrev pub limit_parameter : Limit → List ℕ
limit_parameter (Key values) = parameter (codes "KEY") (values_text values)
limit_parameter LowValue = parameter (codes "KEY") (codes "*LOVAL")
limit_parameter HighValue = parameter (codes "KEY") (codes "*HIVAL")
limit_parameter (RecordNumber rrn) = number_parameter (codes "RRN") rrn

abbrev pub chain_parameter : ChainTo → List ℕ
chain_parameter (ChainKey values) = parameter (codes "KEY") (values_text values)
chain_parameter (ChainNumber rrn) = number_parameter (codes "RRN") rrn

-- the name of a format, *FILE where none is given
abbrev pub format_text : Option (List ℕ) → List ℕ
format_text None = codes "*FILE"
format_text (Some name) = name

-- a place, *END where none is given
abbrev pub place_text : Option ℕ → List ℕ
place_text None = codes "*END"
place_text (Some rrn) = decimal rrn

-- the parameters that several commands share
abbrev pub member_parameters : FileMember → List ℕ
member_parameters args = parameter (codes "FILE") args.file ++ parameter (codes "MBR") args.member

abbrev pub range_parameters : JournaledChanges → List ℕ
range_parameters args =
    parameter (codes "FILE") args.file ++ parameter (codes "MBR") args.member
    ++ parameter (codes "FROMENT") (end_text args.from) ++ parameter (codes "TOENT") (end_text args.to)

abbrev pub open_parameters : OpenFile → List ℕ
open_parameters args =
    parameter (codes "FILE") args.file ++ parameter (codes "OPTION") (option_text args.option)
    ++ parameter (codes "MBR") args.member ++ parameter (codes "OPNID") args.open_id
    ++ parameter (codes "COMMIT") (yes_or_no args.commit) ++ parameter (codes "ACCPTH") (path_text args.access_path)

abbrev pub position_parameters : SetPosition → List ℕ
position_parameters args = parameter (codes "OPNID") args.open_id ++ limit_parameter args.to

abbrev pub read_parameters : ReadRecord → List ℕ
read_parameters args = parameter (codes "OPNID") args.open_id ++ parameter (codes "LCK") (lock_text args.lock)

abbrev pub equal_parameters : ReadEqual → List ℕ
equal_parameters args =
    parameter (codes "OPNID") args.open_id ++ parameter (codes "KEY") (values_text args.key)
    ++ parameter (codes "LCK") (lock_text args.lock)

abbrev pub write_parameters : WriteRecord → List ℕ
write_parameters args =
    parameter (codes "OPNID") args.open_id ++ parameter (codes "FMT") (format_text args.format)
    ++ parameter (codes "RRN") (place_text args.record_number) ++ parameter (codes "VAL") (given_values_text args.values)

-- the command of a request
abbrev pub command : Request → List ℕ
command (request.CreatePhysicalFile args) = codes "CRTPF"
command (request.CreateLogicalFile args) = codes "CRTLF"
command (request.DeleteFile args) = codes "DLTF"
command (request.AddMember args) = codes "ADDPFM"
command (request.ClearMember args) = codes "CLRPFM"
command (request.ReorganizeMember args) = codes "RGZPFM"
command (request.StartJournaling args) = codes "STRJRNPF"
command (request.EndJournaling args) = codes "ENDJRNPF"
command request.ChangeJournal = codes "CHGJRN"
command (request.DeleteReceiver args) = codes "DLTJRNRCV"
command request.Checkpoint = codes "CHKPT"
command (request.DisplayJournal args) = codes "DSPJRN"
command (request.ApplyChanges args) = codes "APYJRNCHG"
command (request.RemoveChanges args) = codes "RMVJRNCHG"
command (request.StartCommitment args) = codes "STRCMTCTL"
command request.EndCommitment = codes "ENDCMTCTL"
command request.Commit = codes "COMMIT"
command request.Rollback = codes "ROLLBACK"
command (request.OpenFile args) = codes "OPNDBF"
command (request.CloseFile args) = codes "CLOF"
command (request.SetLowerLimit args) = codes "SETLL"
command (request.SetGreaterThan args) = codes "SETGT"
command (request.Read args) = codes "READ"
command (request.ReadPrior args) = codes "READP"
command (request.ReadEqual args) = codes "READE"
command (request.ReadPriorEqual args) = codes "READPE"
command (request.Chain args) = codes "CHAIN"
command (request.Write args) = codes "WRITE"
command (request.Update args) = codes "UPDATE"
command (request.Delete args) = codes "DELETE"
command (request.Unlock args) = codes "UNLOCK"
command (request.EndJob args) = codes "ENDJOB"

-- the parameters of a request, in their order
abbrev pub parameters : Request → List ℕ
parameters (request.CreatePhysicalFile args) = parameter (codes "FILE") args.file ++ parameter (codes "SRC") args.source
parameters (request.CreateLogicalFile args) = parameter (codes "FILE") args.file ++ parameter (codes "SRC") args.source
parameters (request.DeleteFile args) = parameter (codes "FILE") args.file
parameters (request.AddMember args) = member_parameters args
parameters (request.ClearMember args) = member_parameters args
parameters (request.ReorganizeMember args) = member_parameters args
parameters (request.StartJournaling args) =
    parameter (codes "FILE") args.file ++ parameter (codes "MBR") args.member ++ parameter (codes "IMAGES") (images_text args.images)
parameters (request.EndJournaling args) = member_parameters args
parameters request.ChangeJournal = []
parameters (request.DeleteReceiver args) = number_parameter (codes "RCV") args.number
parameters request.Checkpoint = []
parameters (request.DisplayJournal args) = number_parameter (codes "FROMENT") args.from ++ number_parameter (codes "TOENT") args.to
parameters (request.ApplyChanges args) = range_parameters args
parameters (request.RemoveChanges args) = range_parameters args
parameters (request.StartCommitment args) = parameter (codes "LCKLVL") (level_text args.level)
parameters request.EndCommitment = []
parameters request.Commit = []
parameters request.Rollback = []
parameters (request.OpenFile args) = open_parameters args
parameters (request.CloseFile args) = parameter (codes "OPNID") args.open_id
parameters (request.SetLowerLimit args) = position_parameters args
parameters (request.SetGreaterThan args) = position_parameters args
parameters (request.Read args) = read_parameters args
parameters (request.ReadPrior args) = read_parameters args
parameters (request.ReadEqual args) = equal_parameters args
parameters (request.ReadPriorEqual args) = equal_parameters args
parameters (request.Chain args) =
    parameter (codes "OPNID") args.open_id ++ chain_parameter args.to ++ parameter (codes "LCK") (lock_text args.lock)
parameters (request.Write args) = write_parameters args
parameters (request.Update args) = parameter (codes "OPNID") args.open_id ++ parameter (codes "VAL") (given_values_text args.values)
parameters (request.Delete args) = parameter (codes "OPNID") args.open_id
parameters (request.Unlock args) = parameter (codes "OPNID") args.open_id
parameters (request.EndJob args) = parameter (codes "REASON") (reason_text args.reason) ++ number_parameter (codes "LINE") args.line

unfoldable pub request_text : Request → List ℕ
request_text r = command r ++ parameters r
