-- The words of parameters and causes, read back.
use Rattle.std.specs.Prelude.{ℕ, Bool, true, false, if◌then◌else◌, Option, Some, None, List, codes}
use Rattle.std.specs.Option.{option_or}
use Rattle.statement_reader.specs.Commands.{is_word}
use Rattle.commit_level.specs.declared.Level.{Level}
use Rattle.commit_level.specs.declared.Level.TheVariants as level
use Rattle.entry_codec.specs.declared.kinds.Images.{Images}
use Rattle.entry_codec.specs.declared.kinds.Images.TheVariants as images
use Rattle.entry_codec.specs.declared.kinds.FileKind.{FileKind}
use Rattle.entry_codec.specs.declared.kinds.FileKind.TheVariants as file_kind
use Rattle.library_model.specs.declared.requests.OpenOption.{OpenOption}
use Rattle.library_model.specs.declared.requests.OpenOption.TheVariants as open_option
use Rattle.library_model.specs.declared.requests.AccessPath.{AccessPath}
use Rattle.library_model.specs.declared.requests.AccessPath.TheVariants as path
use Rattle.library_model.specs.declared.requests.LockOption.{LockOption}
use Rattle.library_model.specs.declared.requests.LockOption.TheVariants as lock
use Rattle.library_model.specs.declared.requests.EndReason.{EndReason}
use Rattle.library_model.specs.declared.requests.EndReason.TheVariants as reason
use Rattle.field_types.specs.declared.faults.ValueFault.{ValueFault}
use Rattle.field_types.specs.declared.faults.ValueFault.TheVariants as value_fault
use Rattle.library_model.specs.declared.replies.LimitKind.{LimitKind}
use Rattle.library_model.specs.declared.replies.LimitKind.TheVariants as limit
use Rattle.dds_source.specs.declared.faults.DdsCause.{DdsCause}
use Rattle.dds_source.specs.declared.faults.DdsCause.TheVariants as dds

-- a lock level
unfoldable pub level_of : List ℕ → Option Level
level_of word =
    if is_word (codes "*CHG") word then Some level.Chg
    else (if is_word (codes "*CS") word then Some level.Cs
    else (if is_word (codes "*ALL") word then Some level.All else None))

-- which images are kept
unfoldable pub images_of : List ℕ → Option Images
images_of word =
    if is_word (codes "*AFTER") word then Some images.After
    else (if is_word (codes "*BOTH") word then Some images.Both else None)

-- the kind of a file
unfoldable pub file_kind_of : List ℕ → Option FileKind
file_kind_of word =
    if is_word (codes "*PHY") word then Some file_kind.Physical
    else (if is_word (codes "*LGL") word then Some file_kind.Logical else None)

-- OPTION of an open
unfoldable pub option_of : List ℕ → Option OpenOption
option_of word =
    if is_word (codes "*INP") word then Some open_option.Input
    else (if is_word (codes "*ALL") word then Some open_option.All else None)

-- *YES or *NO
unfoldable pub yes_of : List ℕ → Option Bool
yes_of word =
    if is_word (codes "*YES") word then Some true
    else (if is_word (codes "*NO") word then Some false else None)

-- ACCPTH of an open
unfoldable pub path_of : List ℕ → Option AccessPath
path_of word =
    if is_word (codes "*FILE") word then Some path.File
    else (if is_word (codes "*ARRIVAL") word then Some path.Arrival else None)

-- LCK of a read
unfoldable pub lock_of : List ℕ → Option LockOption
lock_of word =
    if is_word (codes "*DFT") word then Some lock.Default
    else (if is_word (codes "*NO") word then Some lock.No else None)

-- why a job ends
unfoldable pub reason_of : List ℕ → Option EndReason
reason_of word =
    if is_word (codes "*NORMAL") word then Some reason.Normal
    else (if is_word (codes "*ESCAPE") word then Some reason.Escape
    else (if is_word (codes "*EXPR") word then Some reason.Expression
    else (if is_word (codes "*STMT") word then Some reason.Statements
    else (if is_word (codes "*HISTORY") word then Some reason.History else None))))

-- why a value does not fit
unfoldable pub value_fault_of : List ℕ → Option ValueFault
value_fault_of word =
    if is_word (codes "WrongKind") word then Some value_fault.WrongKind
    else (if is_word (codes "TooManyDecimals") word then Some value_fault.TooManyDecimals
    else (if is_word (codes "TooWide") word then Some value_fault.TooWide
    else (if is_word (codes "BadDate") word then Some value_fault.BadDate
    else (if is_word (codes "ReadOnlyField") word then Some value_fault.ReadOnlyField else None))))

-- limits of what a library holds
unfoldable pub store_limit_of : List ℕ → Option LimitKind
store_limit_of word =
    if is_word (codes "Files") word then Some limit.Files
    else (if is_word (codes "Members") word then Some limit.Members
    else (if is_word (codes "MemberNumbers") word then Some limit.MemberNumbers
    else (if is_word (codes "Paths") word then Some limit.Paths
    else (if is_word (codes "Opens") word then Some limit.Opens
    else (if is_word (codes "Locks") word then Some limit.Locks
    else (if is_word (codes "LibraryBytes") word then Some limit.LibraryBytes else None))))))

-- limits of groups and of the journal
unfoldable pub journal_limit_of : List ℕ → Option LimitKind
journal_limit_of word =
    if is_word (codes "GroupChanges") word then Some limit.GroupChanges
    else (if is_word (codes "GroupBytes") word then Some limit.GroupBytes
    else (if is_word (codes "BlockBytes") word then Some limit.BlockBytes
    else (if is_word (codes "DisplayEntries") word then Some limit.DisplayEntries
    else (if is_word (codes "Receivers") word then Some limit.Receivers
    else (if is_word (codes "Sequences") word then Some limit.Sequences else None)))))

-- causes in the spelling of a source
unfoldable pub spelling_cause_of : List ℕ → Option DdsCause
spelling_cause_of word =
    if is_word (codes "BadColumn") word then Some dds.BadColumn
    else (if is_word (codes "BadName") word then Some dds.BadName
    else (if is_word (codes "BadNumber") word then Some dds.BadNumber
    else (if is_word (codes "UnfinishedText") word then Some dds.UnfinishedText
    else (if is_word (codes "OutOfOrder") word then Some dds.OutOfOrder
    else (if is_word (codes "DuplicateName") word then Some dds.DuplicateName
    else (if is_word (codes "BadLength") word then Some dds.BadLength
    else (if is_word (codes "BadDecimals") word then Some dds.BadDecimals else None)))))))

-- causes in types and keywords
unfoldable pub keyword_cause_of : List ℕ → Option DdsCause
keyword_cause_of word =
    if is_word (codes "BadType") word then Some dds.BadType
    else (if is_word (codes "UnknownKeyword") word then Some dds.UnknownKeyword
    else (if is_word (codes "BadArguments") word then Some dds.BadArguments
    else (if is_word (codes "Conflict") word then Some dds.Conflict
    else (if is_word (codes "NoFormat") word then Some dds.NoFormat
    else (if is_word (codes "NoSuchField") word then Some dds.NoSuchField
    else (if is_word (codes "UnknownReference") word then Some dds.UnknownReference else None))))))

-- causes in what a file is based on
unfoldable pub base_cause_of : List ℕ → Option DdsCause
base_cause_of word =
    if is_word (codes "TooLarge") word then Some dds.TooLarge
    else (if is_word (codes "NoBase") word then Some dds.NoBase
    else (if is_word (codes "NoBaseField") word then Some dds.NoBaseField
    else (if is_word (codes "KeyMismatch") word then Some dds.KeyMismatch
    else (if is_word (codes "JoinKeyNotPrimary") word then Some dds.JoinKeyNotPrimary
    else (if is_word (codes "ReadOnlyMapping") word then Some dds.ReadOnlyMapping
    else (if is_word (codes "Narrowing") word then Some dds.Narrowing else None))))))

-- the limit of this name
unfoldable pub limit_of : List ℕ → Option LimitKind
limit_of word = option_or (store_limit_of word) (journal_limit_of word)

-- the cause of this name
unfoldable pub cause_of : List ℕ → Option DdsCause
cause_of word = option_or (option_or (spelling_cause_of word) (keyword_cause_of word)) (base_cause_of word)
