-- What an entry of the journal says, by its type. Each type belongs to one code.
use Rattle.std.specs.Prelude.{ℕ, if◌then◌else◌, Option, Some, None, List, codes}
use Rattle.std.specs.Option.{option_or}
use Rattle.statement_reader.specs.Commands.{is_word}
use Rattle.listing_words.specs.declared.entry_types.EntryType.{EntryType}
use Rattle.listing_words.specs.declared.entry_types.EntryType.TheVariants as entry_type

-- the types of entries on files and members
unfoldable pub file_type : List ℕ → Option EntryType
file_type word =
    if is_word (codes "CT") word then Some entry_type.FileCreated
    else (if is_word (codes "DT") word then Some entry_type.FileDeleted
    else (if is_word (codes "AM") word then Some entry_type.MemberAdded
    else (if is_word (codes "JM") word then Some entry_type.JournalingStarted
    else (if is_word (codes "IS") word then Some entry_type.InitialSlot
    else (if is_word (codes "EJ") word then Some entry_type.JournalingEnded
    else (if is_word (codes "CR") word then Some entry_type.MemberCleared
    else (if is_word (codes "RG") word then Some entry_type.MemberReorganized else None)))))))

-- the types of entries on records
unfoldable pub record_type : List ℕ → Option EntryType
record_type word =
    if is_word (codes "PT") word then Some entry_type.RecordAdded
    else (if is_word (codes "PX") word then Some entry_type.RecordAddedAtNumber
    else (if is_word (codes "UB") word then Some entry_type.BeforeImage
    else (if is_word (codes "UP") word then Some entry_type.AfterImage
    else (if is_word (codes "DL") word then Some entry_type.RecordDeleted
    else (if is_word (codes "BR") word then Some entry_type.UndoBeforeImage
    else (if is_word (codes "UR") word then Some entry_type.UndoAfterImage
    else (if is_word (codes "DR") word then Some entry_type.UndoDelete else None)))))))

-- the types of entries on commitment control
unfoldable pub cycle_type : List ℕ → Option EntryType
cycle_type word =
    if is_word (codes "BC") word then Some entry_type.CommitmentStarted
    else (if is_word (codes "SC") word then Some entry_type.CommitCycleStarted
    else (if is_word (codes "CM") word then Some entry_type.CommitCycleCommitted
    else (if is_word (codes "RB") word then Some entry_type.CommitCycleRolledBack
    else (if is_word (codes "EC") word then Some entry_type.CommitmentEnded else None))))

-- the types of entries on applied changes and on receivers
unfoldable pub journal_type : List ℕ → Option EntryType
journal_type word =
    if is_word (codes "AY") word then Some entry_type.ChangesApplied
    else (if is_word (codes "RC") word then Some entry_type.ChangesRemoved
    else (if is_word (codes "IA") word then Some entry_type.AbnormalEnd
    else (if is_word (codes "NR") word then Some entry_type.NextReceiver
    else (if is_word (codes "PR") word then Some entry_type.PreviousReceiver else None))))

-- what an entry of this type says
unfoldable pub entry_named : List ℕ → Option EntryType
entry_named word = option_or (option_or (option_or (file_type word) (record_type word)) (cycle_type word)) (journal_type word)
