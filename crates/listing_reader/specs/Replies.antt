-- The replies, read back: what the first word says, and what is carried.
use Rattle.std.specs.Prelude.{ℕ, Bool, false, nat_le, if◌then◌else◌, Option, Some, None, is_some, List, [], ◌∷◌, codes, option_map}
use Rattle.std.specs.Option.{option_map_or}
use Rattle.dds_source.specs.declared.faults.DdsFault.{DdsFault}
use Rattle.field_types.specs.declared.faults.RecordFault.{RecordFault}
use Rattle.field_types.specs.declared.faults.RecordFault.TheVariants.{Count, BadField}
use Rattle.library_model.specs.declared.replies.Missing.{Missing}
use Rattle.library_model.specs.declared.replies.Missing.TheVariants as missing
use Rattle.library_model.specs.declared.replies.RecordRead.{RecordRead}
use Rattle.library_model.specs.declared.replies.Reply.{Reply}
use Rattle.library_model.specs.declared.replies.Reply.TheVariants as reply
use Rattle.statement_reader.specs.Commands.{is_word}
use Rattle.statement_reader.specs.Lists.{let_some}
use Rattle.listing_words.specs.Answers.{reply_named}
use Rattle.listing_words.specs.Choices.{value_fault_of, limit_of, cause_of}
use Rattle.listing_reader.specs.Entries.{changes_in, entries_in}
use Rattle.listing_words.specs.Parameters.{values_in}
use Rattle.listing_words.specs.Values.{units, number_in, long_in}
use Rattle.listing_words.specs.Words.{given, name_of, name_in, job_in}
use Rattle.listing_words.specs.declared.answers.ReplyKind.{ReplyKind}
use Rattle.listing_words.specs.declared.answers.ReplyKind.TheVariants as reply_kind
use Rattle.listing_words.specs.declared.numbers.TheConstants.{MOST_NUMBER}

-- whether the keyword stands among the words
abbrev pub stands : List ℕ → List (List ℕ) → Bool
stands keyword words = is_some (given keyword words)

-- the first of the words is the stroke before an entry
abbrev pub begins_with_stroke : List (List ℕ) → Bool
begins_with_stroke [] = false
begins_with_stroke (word ∷ words) = is_word (codes "/") word

unfoldable pub record_read : List (List ℕ) → Option RecordRead
record_read words =
    let_some (name_in (codes "FMT") words) (λ format.
    let_some (number_in (codes "RRN") words) (λ rrn.
    let_some (values_in (codes "VAL") words) (λ values.
    Some (record { format = format; rrn = rrn; values = values }))))

-- what was done, by what is carried
unfoldable pub numbered_answer : List (List ℕ) → Option Reply
numbered_answer words =
    if stands (codes "RRN") words then option_map reply.Added (number_in (codes "RRN") words)
    else (if stands (codes "RCV") words then option_map reply.Receiver (number_in (codes "RCV") words)
    else (if stands (codes "SEQ") words then option_map reply.Sequence (long_in (codes "SEQ") words)
    else Some reply.Done))

unfoldable pub done_answer : List (List ℕ) → Option Reply
done_answer words =
    if stands (codes "FMT") words then option_map reply.Record (record_read words)
    else (if stands (codes "ENT") words then option_map (λ c. reply.Range c.first c.last c.changes) (changes_in words)
    else numbered_answer words)

unfoldable pub record_in_use : List (List ℕ) → List (List ℕ) → Option Reply
record_in_use names words =
    let_some (job_in names (codes "JOB") words) (λ job.
    let_some (number_in (codes "MBR") words) (λ member.
    let_some (number_in (codes "RRN") words) (λ rrn.
    Some (reply.RecordInUse job member rrn))))

unfoldable pub duplicate_key : List (List ℕ) → Option Reply
duplicate_key words =
    let_some (name_in (codes "FILE") words) (λ file.
    let_some (number_in (codes "RRN") words) (λ rrn.
    Some (reply.DuplicateKey file rrn)))

unfoldable pub does_not_fit : List (List ℕ) → Option Reply
does_not_fit words =
    let_some (long_in (codes "SEQ") words) (λ sequence.
    let_some (number_in (codes "RRN") words) (λ rrn.
    Some (reply.DoesNotFit sequence rrn)))

-- a receiver's number, or a name
unfoldable pub missing_of : List ℕ → Option Missing
missing_of word = option_map_or (λ number. Some (missing.Receiver number)) (units MOST_NUMBER word) (option_map missing.Name (name_of word))

unfoldable pub missing_in : List (List ℕ) → Option Missing
missing_in words = let_some (given (codes "NAME") words) missing_of

-- the field and the cause, which may be that the number of values is wrong
unfoldable pub field_fault : ℕ → List ℕ → Option RecordFault
field_fault field cause = let_some (value_fault_of cause) (λ fault. if nat_le field 65535 then Some (BadField field fault) else None)

unfoldable pub record_fault_of : ℕ → List ℕ → Option RecordFault
record_fault_of field cause = if is_word (codes "Count") cause then Some Count else field_fault field cause

unfoldable pub record_fault_in : List (List ℕ) → Option RecordFault
record_fault_in words =
    let_some (number_in (codes "FLD") words) (λ field.
    let_some (given (codes "CAUSE") words) (λ cause. record_fault_of field cause))

unfoldable pub dds_fault_in : List (List ℕ) → Option DdsFault
dds_fault_in words =
    let_some (number_in (codes "LINE") words) (λ line.
    let_some (number_in (codes "COL") words) (λ column.
    let_some (given (codes "CAUSE") words) (λ word.
    let_some (cause_of word) (λ cause.
    Some (record { line = line; column = column; cause = cause })))))

unfoldable pub limit_reached : List (List ℕ) → Option Reply
limit_reached words =
    let_some (given (codes "LIMIT") words) (λ word.
    let_some (limit_of word) (λ which.
    let_some (long_in (codes "NBR") words) (λ number.
    Some (reply.LimitReached which number))))

-- the entries of the journal, or what was done
unfoldable pub ok_reply : List (List ℕ) → Option Reply
ok_reply words = if begins_with_stroke words then option_map reply.Entries (entries_in words) else done_answer words

-- what is answered, with what is carried
unfoldable pub reply_of : List (List ℕ) → ReplyKind → List (List ℕ) → Option Reply
reply_of names reply_kind.Done words = ok_reply words
reply_of names reply_kind.RecordInUse words = record_in_use names words
reply_of names reply_kind.HeldByGroup words = option_map reply.HeldByGroup (number_in (codes "RRN") words)
reply_of names reply_kind.PlaceInUse words = option_map reply.PlaceInUse (number_in (codes "RRN") words)
reply_of names reply_kind.HeldToBoundary words = Some reply.HeldToBoundary
reply_of names reply_kind.NotFound words = Some reply.NotFound
reply_of names reply_kind.EndOfFile words = Some reply.EndOfFile
reply_of names reply_kind.BeginOfFile words = Some reply.BeginOfFile
reply_of names reply_kind.NoCurrentRecord words = Some reply.NoCurrentRecord
reply_of names reply_kind.WrongOpen words = Some reply.WrongOpen
reply_of names reply_kind.NoDefinition words = Some reply.NoDefinition
reply_of names reply_kind.AlreadyStarted words = Some reply.AlreadyStarted
reply_of names reply_kind.NoSuchEntry words = Some reply.NoSuchEntry
reply_of names reply_kind.MemberFull words = Some reply.MemberFull
reply_of names reply_kind.StoreFault words = Some reply.StoreFault
reply_of names reply_kind.NoMemory words = Some reply.NoMemory
reply_of names reply_kind.DuplicateKey words = duplicate_key words
reply_of names reply_kind.NoSuchName words = option_map reply.NoSuchName (missing_in words)
reply_of names reply_kind.NameExists words = option_map reply.NameExists (name_in (codes "NAME") words)
reply_of names reply_kind.Dependents words = option_map reply.Dependents (name_in (codes "NAME") words)
reply_of names reply_kind.BadValue words = option_map reply.BadValue (record_fault_in words)
reply_of names reply_kind.DdsFault words = option_map reply.DdsFault (dds_fault_in words)
reply_of names reply_kind.InUse words = option_map reply.InUse (job_in names (codes "JOB") words)
reply_of names reply_kind.NotJournaled words = option_map reply.NotJournaled (number_in (codes "MBR") words)
reply_of names reply_kind.PendingChanges words = option_map reply.PendingChanges (long_in (codes "GRP") words)
reply_of names reply_kind.Straddled words = option_map reply.Straddled (long_in (codes "GRP") words)
reply_of names reply_kind.DoesNotFit words = does_not_fit words
reply_of names reply_kind.NeedsBoth words = option_map reply.NeedsBoth (long_in (codes "SEQ") words)
reply_of names reply_kind.Gap words = option_map reply.Gap (long_in (codes "SEQ") words)
reply_of names reply_kind.NotRemovable words = option_map reply.NotRemovable (long_in (codes "SEQ") words)
reply_of names reply_kind.ReceiverGone words = option_map reply.ReceiverGone (long_in (codes "SEQ") words)
reply_of names reply_kind.BlockChanged words = option_map reply.BlockChanged (long_in (codes "SEQ") words)
reply_of names reply_kind.StillNeeded words = option_map reply.StillNeeded (long_in (codes "SEQ") words)
reply_of names reply_kind.LimitReached words = limit_reached words

-- the reply of its first word and of what stands behind it
unfoldable pub read_reply : List (List ℕ) → List ℕ → List (List ℕ) → Option Reply
read_reply names answer words = let_some (reply_named answer) (λ kind. reply_of names kind words)
