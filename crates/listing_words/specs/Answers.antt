-- What the first word of a reply says.
use Rattle.std.specs.Prelude.{ℕ, if◌then◌else◌, Option, Some, None, List, codes}
use Rattle.std.specs.Option.{option_or}
use Rattle.statement_reader.specs.Commands.{is_word}
use Rattle.listing_words.specs.declared.answers.ReplyKind.{ReplyKind}
use Rattle.listing_words.specs.declared.answers.ReplyKind.TheVariants as reply_kind

-- refusals that speak of records
unfoldable pub record_answer : List ℕ → Option ReplyKind
record_answer word =
    if is_word (codes "RecordInUse") word then Some reply_kind.RecordInUse
    else (if is_word (codes "HeldByGroup") word then Some reply_kind.HeldByGroup
    else (if is_word (codes "PlaceInUse") word then Some reply_kind.PlaceInUse
    else (if is_word (codes "HeldToBoundary") word then Some reply_kind.HeldToBoundary
    else (if is_word (codes "NotFound") word then Some reply_kind.NotFound
    else (if is_word (codes "EndOfFile") word then Some reply_kind.EndOfFile
    else (if is_word (codes "BeginOfFile") word then Some reply_kind.BeginOfFile
    else (if is_word (codes "NoCurrentRecord") word then Some reply_kind.NoCurrentRecord else None)))))))

-- refusals that speak of the state of a job or of a member, and what was done
unfoldable pub state_answer : List ℕ → Option ReplyKind
state_answer word =
    if is_word (codes "OK") word then Some reply_kind.Done
    else (if is_word (codes "WrongOpen") word then Some reply_kind.WrongOpen
    else (if is_word (codes "NoDefinition") word then Some reply_kind.NoDefinition
    else (if is_word (codes "AlreadyStarted") word then Some reply_kind.AlreadyStarted
    else (if is_word (codes "NoSuchEntry") word then Some reply_kind.NoSuchEntry
    else (if is_word (codes "MemberFull") word then Some reply_kind.MemberFull
    else (if is_word (codes "StoreFault") word then Some reply_kind.StoreFault
    else (if is_word (codes "NoMemory") word then Some reply_kind.NoMemory else None)))))))

-- refusals that speak of names and sources
unfoldable pub name_answer : List ℕ → Option ReplyKind
name_answer word =
    if is_word (codes "DuplicateKey") word then Some reply_kind.DuplicateKey
    else (if is_word (codes "NoSuchName") word then Some reply_kind.NoSuchName
    else (if is_word (codes "NameExists") word then Some reply_kind.NameExists
    else (if is_word (codes "Dependents") word then Some reply_kind.Dependents
    else (if is_word (codes "BadValue") word then Some reply_kind.BadValue
    else (if is_word (codes "DdsFault") word then Some reply_kind.DdsFault
    else (if is_word (codes "InUse") word then Some reply_kind.InUse
    else (if is_word (codes "NotJournaled") word then Some reply_kind.NotJournaled else None)))))))

-- refusals that speak of the journal
unfoldable pub journal_answer : List ℕ → Option ReplyKind
journal_answer word =
    if is_word (codes "PendingChanges") word then Some reply_kind.PendingChanges
    else (if is_word (codes "Straddled") word then Some reply_kind.Straddled
    else (if is_word (codes "DoesNotFit") word then Some reply_kind.DoesNotFit
    else (if is_word (codes "NeedsBoth") word then Some reply_kind.NeedsBoth
    else (if is_word (codes "Gap") word then Some reply_kind.Gap
    else (if is_word (codes "NotRemovable") word then Some reply_kind.NotRemovable
    else (if is_word (codes "ReceiverGone") word then Some reply_kind.ReceiverGone
    else (if is_word (codes "BlockChanged") word then Some reply_kind.BlockChanged else None)))))))

-- refusals for what is still needed, or would be too much
unfoldable pub limit_answer : List ℕ → Option ReplyKind
limit_answer word =
    if is_word (codes "StillNeeded") word then Some reply_kind.StillNeeded
    else (if is_word (codes "LimitReached") word then Some reply_kind.LimitReached else None)

-- what an answer says
unfoldable pub reply_named : List ℕ → Option ReplyKind
reply_named word = option_or (option_or (option_or (option_or (record_answer word) (state_answer word)) (name_answer word)) (journal_answer word)) (limit_answer word)
