-- Each reply is read back from its first word and what it carries.
use Rattle.std.proofs.Common.{◌≡◌, ℕ, false, cond, Some, None, is_some, option_map, List, [], ◌∷◌, ◌++◌, nat_le, codes, refl, ap, ◌∙◌, arith}
use Rattle.std.specs.Option.{option_map_or}
use Rattle.std.specs.Fmt.{decimal}
use Rattle.std.proofs.lemmas.Bool.{cond-true, cond-false, le-leb}
use Rattle.dds_source.specs.declared.faults.DdsCause.{DdsCause}
use Rattle.dds_source.specs.declared.faults.DdsCause.TheVariants as dds
use Rattle.dds_source.specs.declared.faults.DdsFault.{DdsFault}
use Rattle.entry_codec.specs.declared.entries.Entry.{Entry}
use Rattle.field_types.specs.SystemName.{is_name}
use Rattle.field_types.specs.declared.faults.ValueFault.{ValueFault}
use Rattle.field_types.specs.declared.faults.ValueFault.TheVariants as value_fault
use Rattle.field_types.specs.declared.faults.RecordFault.{RecordFault}
use Rattle.field_types.specs.declared.faults.RecordFault.TheVariants.{Count, BadField}
use Rattle.library_model.specs.declared.replies.LimitKind.{LimitKind}
use Rattle.library_model.specs.declared.replies.LimitKind.TheVariants as limit
use Rattle.library_model.specs.declared.replies.Missing.{Missing}
use Rattle.library_model.specs.declared.replies.Missing.TheVariants as missing
use Rattle.library_model.specs.declared.replies.RecordRead.{RecordRead}
use Rattle.library_model.specs.declared.replies.Reply.{Reply}
use Rattle.library_model.specs.declared.replies.Reply.TheVariants as reply
use Rattle.listing.specs.ReplyText.{job_name, limit_text, missing_text, value_cause, record_fault_parameters, dds_cause, answer, details}
use Rattle.listing.specs.Texts.{values_text}
use Rattle.statement_reader.specs.Commands.{is_word}
use Rattle.listing_words.specs.Answers.{reply_named, record_answer, state_answer, name_answer, journal_answer, limit_answer}
use Rattle.listing_words.specs.Choices.{value_fault_of, limit_of, store_limit_of, journal_limit_of, cause_of, spelling_cause_of, keyword_cause_of, base_cause_of}
use Rattle.listing_reader.specs.Listed.{AreEntries, IsName, IsNumber, IsLong, AreValues, IsMissing, IsRecordFault, HasName, AreDifferent, IsReply, shown_reply}
use Rattle.listing_reader.specs.Replies.{record_read, numbered_answer, done_answer, record_in_use, duplicate_key, does_not_fit, missing_of, missing_in, field_fault, record_fault_of, record_fault_in, dds_fault_in, limit_reached, ok_reply, reply_of, read_reply}
use Rattle.listing_words.specs.Words.{inside, given, name_of}
use Rattle.listing_words.specs.declared.numbers.TheConstants.{MOST_NUMBER}
use Rattle.listing_reader.proofs.ScanLemmas.{LiesInside, Follows, both, nothing}
use Rattle.listing_reader.proofs.TextLemmas.{name-inside, decimal-inside}
use Rattle.listing_reader.proofs.ValueLemmas.{values-inner, number-decimal, name-digits}
use Rattle.listing_reader.proofs.ParameterLemmas.{word_of, parameter-follows, given-own, given-next, some-then, name-given, number-given, long-given}
use Rattle.listing_reader.proofs.ChoiceLemmas.{values-given}
use Rattle.listing_reader.proofs.JobLemmas.{job-given, job-is-name}
use Rattle.listing_reader.proofs.EntryLemmas.{changes_words, changes-follows, changes-read, entries_words, entries-follow, entries-read}

-- ---- causes

limit-inner : (x : LimitKind) → LiesInside (limit_text x)
limit-inner limit.Files = refl
limit-inner limit.Members = refl
limit-inner limit.MemberNumbers = refl
limit-inner limit.Paths = refl
limit-inner limit.Opens = refl
limit-inner limit.Locks = refl
limit-inner limit.LibraryBytes = refl
limit-inner limit.GroupChanges = refl
limit-inner limit.GroupBytes = refl
limit-inner limit.BlockBytes = refl
limit-inner limit.DisplayEntries = refl
limit-inner limit.Receivers = refl
limit-inner limit.Sequences = refl

limit-read : (x : LimitKind) → limit_of (limit_text x) ≡ Some x
unfolding limit_of store_limit_of journal_limit_of
limit-read limit.Files = refl
limit-read limit.Members = refl
limit-read limit.MemberNumbers = refl
limit-read limit.Paths = refl
limit-read limit.Opens = refl
limit-read limit.Locks = refl
limit-read limit.LibraryBytes = refl
limit-read limit.GroupChanges = refl
limit-read limit.GroupBytes = refl
limit-read limit.BlockBytes = refl
limit-read limit.DisplayEntries = refl
limit-read limit.Receivers = refl
limit-read limit.Sequences = refl

dds-inner : (x : DdsCause) → LiesInside (dds_cause x)
dds-inner dds.BadColumn = refl
dds-inner dds.BadName = refl
dds-inner dds.BadNumber = refl
dds-inner dds.UnfinishedText = refl
dds-inner dds.OutOfOrder = refl
dds-inner dds.DuplicateName = refl
dds-inner dds.BadLength = refl
dds-inner dds.BadDecimals = refl
dds-inner dds.BadType = refl
dds-inner dds.UnknownKeyword = refl
dds-inner dds.BadArguments = refl
dds-inner dds.Conflict = refl
dds-inner dds.NoFormat = refl
dds-inner dds.NoSuchField = refl
dds-inner dds.UnknownReference = refl
dds-inner dds.TooLarge = refl
dds-inner dds.NoBase = refl
dds-inner dds.NoBaseField = refl
dds-inner dds.KeyMismatch = refl
dds-inner dds.JoinKeyNotPrimary = refl
dds-inner dds.ReadOnlyMapping = refl
dds-inner dds.Narrowing = refl

dds-read : (x : DdsCause) → cause_of (dds_cause x) ≡ Some x
unfolding cause_of spelling_cause_of keyword_cause_of base_cause_of
dds-read dds.BadColumn = refl
dds-read dds.BadName = refl
dds-read dds.BadNumber = refl
dds-read dds.UnfinishedText = refl
dds-read dds.OutOfOrder = refl
dds-read dds.DuplicateName = refl
dds-read dds.BadLength = refl
dds-read dds.BadDecimals = refl
dds-read dds.BadType = refl
dds-read dds.UnknownKeyword = refl
dds-read dds.BadArguments = refl
dds-read dds.Conflict = refl
dds-read dds.NoFormat = refl
dds-read dds.NoSuchField = refl
dds-read dds.UnknownReference = refl
dds-read dds.TooLarge = refl
dds-read dds.NoBase = refl
dds-read dds.NoBaseField = refl
dds-read dds.KeyMismatch = refl
dds-read dds.JoinKeyNotPrimary = refl
dds-read dds.ReadOnlyMapping = refl
dds-read dds.Narrowing = refl

value-inner : (x : ValueFault) → LiesInside (value_cause x)
value-inner value_fault.WrongKind = refl
value-inner value_fault.TooManyDecimals = refl
value-inner value_fault.TooWide = refl
value-inner value_fault.BadDate = refl
value-inner value_fault.ReadOnlyField = refl

value-read : (x : ValueFault) → value_fault_of (value_cause x) ≡ Some x
unfolding value_fault_of
value-read value_fault.WrongKind = refl
value-read value_fault.TooManyDecimals = refl
value-read value_fault.TooWide = refl
value-read value_fault.BadDate = refl
value-read value_fault.ReadOnlyField = refl

no-count : (x : ValueFault) → is_word (codes "Count") (value_cause x) ≡ false
no-count value_fault.WrongKind = refl
no-count value_fault.TooManyDecimals = refl
no-count value_fault.TooWide = refl
no-count value_fault.BadDate = refl
no-count value_fault.ReadOnlyField = refl

missing-inner : (x : Missing) → IsMissing x → LiesInside (missing_text x)
missing-inner (missing.Name name) is = name-inside name is
missing-inner (missing.Receiver number) is = decimal-inside number (omega (arith, is))

missing-read : (x : Missing) → IsMissing x → missing_of (missing_text x) ≡ Some x
unfolding missing_of
missing-read (missing.Name name) is =
    ap (λ o. option_map_or (λ number. Some (missing.Receiver number)) o (option_map missing.Name (name_of name))) (name-digits MOST_NUMBER name is)
    ∙ ap (option_map missing.Name) (cond-true (is_name name) (Some name) None is)
missing-read (missing.Receiver number) is =
    ap (λ o. option_map_or (λ n. Some (missing.Receiver n)) o (option_map missing.Name (name_of (decimal number)))) (number-decimal number is)

-- ---- replies

-- the words of what is carried, from which the reply is read
abbrev pub IsReplyBack : List (List ℕ) → Reply → Type 0
IsReplyBack names r = (ds : List (List ℕ)) × Follows (details names r) ds × (read_reply names (answer r) ds ≡ Some (shown_reply r))

stands-yes : {A : Type 0} (keyword value : List ℕ) (words : List (List ℕ)) (a b : A) → given keyword words ≡ Some value → cond (is_some (given keyword words)) a b ≡ a
stands-yes keyword value words a b here = ap (λ o. cond (is_some o) a b) here

record-reads : (read : RecordRead) → IsName read.format × IsNumber read.rrn × AreValues read.values → record_read (word_of (codes "FMT") read.format
    ∷ word_of (codes "RRN") (decimal read.rrn) ∷ word_of (codes "VAL") (values_text read.values) ∷ []) ≡ Some read
unfolding record_read inside
record-reads read is =
    some-then _ _ read.format _ (name-given (codes "FMT") read.format (word_of (codes "FMT") read.format ∷ word_of (codes "RRN") (decimal read.rrn)
    ∷ word_of (codes "VAL") (values_text read.values) ∷ []) (given-own (codes "FMT") read.format (word_of (codes "RRN") (decimal read.rrn)
    ∷ word_of (codes "VAL") (values_text read.values) ∷ []) refl) is.0) (
    some-then _ _ read.rrn _ (number-given (codes "RRN") read.rrn (word_of (codes "FMT") read.format ∷ word_of (codes "RRN") (decimal read.rrn)
    ∷ word_of (codes "VAL") (values_text read.values) ∷ []) (given-next (codes "RRN") (word_of (codes "FMT") read.format) (word_of (codes "RRN") (decimal read.rrn)
    ∷ word_of (codes "VAL") (values_text read.values) ∷ []) refl refl ∙ given-own (codes "RRN") (decimal read.rrn) (word_of (codes "VAL") (values_text read.values) ∷ []) refl) is.1) (
    some-then _ _ read.values _ (values-given (codes "VAL") read.values (word_of (codes "FMT") read.format ∷ word_of (codes "RRN") (decimal read.rrn)
    ∷ word_of (codes "VAL") (values_text read.values) ∷ []) (given-next (codes "VAL") (word_of (codes "FMT") read.format) (word_of (codes "RRN") (decimal read.rrn)
    ∷ word_of (codes "VAL") (values_text read.values) ∷ []) refl refl ∙ given-next (codes "VAL") (word_of (codes "RRN") (decimal read.rrn))
    (word_of (codes "VAL") (values_text read.values) ∷ []) refl refl ∙ given-own (codes "VAL") (values_text read.values) ([]) refl) is.2) (
    refl)))

record-done : (read : RecordRead) → IsName read.format × IsNumber read.rrn × AreValues read.values → ok_reply (word_of (codes "FMT") read.format ∷ word_of (codes "RRN") (decimal read.rrn)
    ∷ word_of (codes "VAL") (values_text read.values) ∷ []) ≡ Some (reply.Record read)
unfolding ok_reply done_answer numbered_answer inside
record-done read is =
    stands-yes (codes "FMT") read.format (word_of (codes "FMT") read.format ∷ word_of (codes "RRN") (decimal read.rrn) ∷ word_of (codes "VAL") (values_text read.values) ∷ []) _ _
    (given-own (codes "FMT") read.format (word_of (codes "RRN") (decimal read.rrn) ∷ word_of (codes "VAL") (values_text read.values) ∷ []) refl)
    ∙ ap (option_map reply.Record) (record-reads read is)

added-done : (rrn : ℕ) → IsNumber rrn → ok_reply (word_of (codes "RRN") (decimal rrn) ∷ []) ≡ Some (reply.Added rrn)
unfolding ok_reply done_answer numbered_answer inside
added-done rrn is =
    stands-yes (codes "RRN") (decimal rrn) (word_of (codes "RRN") (decimal rrn) ∷ []) _ _ (given-own (codes "RRN") (decimal rrn) ([]) refl)
    ∙ ap (option_map reply.Added) (number-given (codes "RRN") rrn (word_of (codes "RRN") (decimal rrn) ∷ []) (given-own (codes "RRN") (decimal rrn) ([]) refl) is)

receiver-done : (number : ℕ) → IsNumber number → ok_reply (word_of (codes "RCV") (decimal number) ∷ []) ≡ Some (reply.Receiver number)
unfolding ok_reply done_answer numbered_answer inside
receiver-done number is =
    stands-yes (codes "RCV") (decimal number) (word_of (codes "RCV") (decimal number) ∷ []) _ _ (given-own (codes "RCV") (decimal number) ([]) refl)
    ∙ ap (option_map reply.Receiver) (number-given (codes "RCV") number (word_of (codes "RCV") (decimal number) ∷ []) (given-own (codes "RCV") (decimal number) ([]) refl) is)

sequence-done : (number : ℕ) → IsLong number → ok_reply (word_of (codes "SEQ") (decimal number) ∷ []) ≡ Some (reply.Sequence number)
unfolding ok_reply done_answer numbered_answer inside
sequence-done number is =
    stands-yes (codes "SEQ") (decimal number) (word_of (codes "SEQ") (decimal number) ∷ []) _ _ (given-own (codes "SEQ") (decimal number) ([]) refl)
    ∙ ap (option_map reply.Sequence) (long-given (codes "SEQ") number (word_of (codes "SEQ") (decimal number) ∷ []) (given-own (codes "SEQ") (decimal number) ([]) refl) is)

range-done : (first last changes : ℕ) → IsLong first × IsLong last × IsNumber changes → ok_reply (changes_words first last changes ++ []) ≡ Some (reply.Range first last changes)
unfolding ok_reply done_answer numbered_answer inside
range-done first last changes is =
    stands-yes (codes "ENT") (decimal first ++ 32 ∷ decimal last) (changes_words first last changes) _ _ (given-own (codes "ENT") (decimal first ++ 32 ∷ decimal last)
    (word_of (codes "CHG") (decimal changes) ∷ []) refl)
    ∙ ap (option_map (λ c. reply.Range c.first c.last c.changes)) (changes-read first last changes [] is)

in-use-reads : (names : List (List ℕ)) (job member rrn : ℕ) → AreDifferent names → HasName names job × IsNumber member × IsNumber rrn → record_in_use names
    (word_of (codes "JOB") (job_name names job) ∷ word_of (codes "MBR") (decimal member) ∷ word_of (codes "RRN") (decimal rrn) ∷ []) ≡ Some (reply.RecordInUse job member rrn)
unfolding record_in_use inside
in-use-reads names job member rrn different is =
    some-then _ _ job _ (job-given names (codes "JOB") job _ different is.0 (given-own (codes "JOB") (job_name names job) (word_of (codes "MBR") (decimal member)
    ∷ word_of (codes "RRN") (decimal rrn) ∷ []) refl)) (
    some-then _ _ member _ (number-given (codes "MBR") member (word_of (codes "JOB") (job_name names job) ∷ word_of (codes "MBR") (decimal member) ∷ word_of (codes "RRN") (decimal rrn)
    ∷ []) (given-next (codes "MBR") (word_of (codes "JOB") (job_name names job)) (word_of (codes "MBR") (decimal member) ∷ word_of (codes "RRN") (decimal rrn) ∷ []) refl refl
    ∙ given-own (codes "MBR") (decimal member) (word_of (codes "RRN") (decimal rrn) ∷ []) refl) is.1) (
    some-then _ _ rrn _ (number-given (codes "RRN") rrn (word_of (codes "JOB") (job_name names job) ∷ word_of (codes "MBR") (decimal member) ∷ word_of (codes "RRN") (decimal rrn) ∷ [])
    (given-next (codes "RRN") (word_of (codes "JOB") (job_name names job)) (word_of (codes "MBR") (decimal member) ∷ word_of (codes "RRN") (decimal rrn) ∷ []) refl refl
    ∙ given-next (codes "RRN") (word_of (codes "MBR") (decimal member)) (word_of (codes "RRN") (decimal rrn) ∷ []) refl refl ∙ given-own (codes "RRN") (decimal rrn) ([]) refl) is.2) (
    refl)))

duplicate-reads : (file : List ℕ) (rrn : ℕ) → IsName file × IsNumber rrn → duplicate_key (word_of (codes "FILE") file ∷ word_of (codes "RRN") (decimal rrn) ∷ [])
    ≡ Some (reply.DuplicateKey file rrn)
unfolding duplicate_key inside
duplicate-reads file rrn is =
    some-then _ _ file _ (name-given (codes "FILE") file (word_of (codes "FILE") file ∷ word_of (codes "RRN") (decimal rrn) ∷ []) (given-own (codes "FILE") file
    (word_of (codes "RRN") (decimal rrn) ∷ []) refl) is.0) (
    some-then _ _ rrn _ (number-given (codes "RRN") rrn (word_of (codes "FILE") file ∷ word_of (codes "RRN") (decimal rrn) ∷ []) (given-next (codes "RRN") (word_of (codes "FILE") file)
    (word_of (codes "RRN") (decimal rrn) ∷ []) refl refl ∙ given-own (codes "RRN") (decimal rrn) ([]) refl) is.1) (
    refl))

fit-reads : (sequence rrn : ℕ) → IsLong sequence × IsNumber rrn → does_not_fit (word_of (codes "SEQ") (decimal sequence) ∷ word_of (codes "RRN") (decimal rrn) ∷ [])
    ≡ Some (reply.DoesNotFit sequence rrn)
unfolding does_not_fit inside
fit-reads sequence rrn is =
    some-then _ _ sequence _ (long-given (codes "SEQ") sequence (word_of (codes "SEQ") (decimal sequence) ∷ word_of (codes "RRN") (decimal rrn) ∷ [])
    (given-own (codes "SEQ") (decimal sequence) (word_of (codes "RRN") (decimal rrn) ∷ []) refl) is.0) (
    some-then _ _ rrn _ (number-given (codes "RRN") rrn (word_of (codes "SEQ") (decimal sequence) ∷ word_of (codes "RRN") (decimal rrn) ∷ []) (given-next (codes "RRN")
    (word_of (codes "SEQ") (decimal sequence)) (word_of (codes "RRN") (decimal rrn) ∷ []) refl refl ∙ given-own (codes "RRN") (decimal rrn) ([]) refl) is.1) (
    refl))

limit-reads : (which : LimitKind) (number : ℕ) → IsLong number → limit_reached (word_of (codes "LIMIT") (limit_text which) ∷ word_of (codes "NBR") (decimal number) ∷ [])
    ≡ Some (reply.LimitReached which number)
unfolding limit_reached inside
limit-reads which number is =
    some-then _ _ (limit_text which) _ (given-own (codes "LIMIT") (limit_text which) (word_of (codes "NBR") (decimal number) ∷ []) refl) (
    some-then _ _ which _ (limit-read which) (
    some-then _ _ number _ (long-given (codes "NBR") number (word_of (codes "LIMIT") (limit_text which) ∷ word_of (codes "NBR") (decimal number) ∷ []) (given-next (codes "NBR")
    (word_of (codes "LIMIT") (limit_text which)) (word_of (codes "NBR") (decimal number) ∷ []) refl refl ∙ given-own (codes "NBR") (decimal number) ([]) refl) is) (
    refl)))

dds-reads : (fault : DdsFault) → IsNumber fault.line × IsNumber fault.column → dds_fault_in (word_of (codes "LINE") (decimal fault.line) ∷ word_of (codes "COL") (decimal fault.column)
    ∷ word_of (codes "CAUSE") (dds_cause fault.cause) ∷ []) ≡ Some fault
unfolding dds_fault_in inside
dds-reads fault is =
    some-then _ _ fault.line _ (number-given (codes "LINE") fault.line (word_of (codes "LINE") (decimal fault.line) ∷ word_of (codes "COL") (decimal fault.column)
    ∷ word_of (codes "CAUSE") (dds_cause fault.cause) ∷ []) (given-own (codes "LINE") (decimal fault.line) (word_of (codes "COL") (decimal fault.column)
    ∷ word_of (codes "CAUSE") (dds_cause fault.cause) ∷ []) refl) is.0) (
    some-then _ _ fault.column _ (number-given (codes "COL") fault.column (word_of (codes "LINE") (decimal fault.line) ∷ word_of (codes "COL") (decimal fault.column)
    ∷ word_of (codes "CAUSE") (dds_cause fault.cause) ∷ []) (given-next (codes "COL") (word_of (codes "LINE") (decimal fault.line)) (word_of (codes "COL") (decimal fault.column)
    ∷ word_of (codes "CAUSE") (dds_cause fault.cause) ∷ []) refl refl ∙ given-own (codes "COL") (decimal fault.column) (word_of (codes "CAUSE") (dds_cause fault.cause) ∷ []) refl) is.1) (
    some-then _ _ (dds_cause fault.cause) _ (given-next (codes "CAUSE") (word_of (codes "LINE") (decimal fault.line)) (word_of (codes "COL") (decimal fault.column)
    ∷ word_of (codes "CAUSE") (dds_cause fault.cause) ∷ []) refl refl ∙ given-next (codes "CAUSE") (word_of (codes "COL") (decimal fault.column))
    (word_of (codes "CAUSE") (dds_cause fault.cause) ∷ []) refl refl ∙ given-own (codes "CAUSE") (dds_cause fault.cause) ([]) refl) (
    some-then _ _ fault.cause _ (dds-read fault.cause) (
    refl))))

missing-reads : (what : Missing) → IsMissing what → missing_in (word_of (codes "NAME") (missing_text what) ∷ []) ≡ Some what
unfolding missing_in inside
missing-reads what is = some-then _ _ (missing_text what) _ (given-own (codes "NAME") (missing_text what) ([]) refl) (missing-read what is)

abbrev pub fault_words : RecordFault → List (List ℕ)
fault_words Count = (word_of (codes "FLD") (decimal 0) ∷ word_of (codes "CAUSE") (codes "Count") ∷ [])
fault_words (BadField field cause) = (word_of (codes "FLD") (decimal field) ∷ word_of (codes "CAUSE") (value_cause cause) ∷ [])

fault-follows : (x : RecordFault) → IsRecordFault x → Follows (record_fault_parameters x) (fault_words x)
fault-follows Count is = both _ _ (word_of (codes "FLD") (decimal 0) ∷ []) (word_of (codes "CAUSE") (codes "Count") ∷ [])
    (parameter-follows (codes "FLD") (decimal 0) refl refl (decimal-inside 0 (omega arith))) (parameter-follows (codes "CAUSE") (codes "Count") refl refl refl)
fault-follows (BadField field cause) is = both _ _ (word_of (codes "FLD") (decimal field) ∷ []) (word_of (codes "CAUSE") (value_cause cause) ∷ [])
    (parameter-follows (codes "FLD") (decimal field) refl refl (decimal-inside field (omega (arith, is)))) (parameter-follows (codes "CAUSE") (value_cause cause) refl refl (value-inner cause))

fault-reads : (x : RecordFault) → IsRecordFault x → record_fault_in (fault_words x) ≡ Some x
unfolding record_fault_in record_fault_of field_fault inside
fault-reads Count is =
    some-then _ _ 0 _ (number-given (codes "FLD") 0 (fault_words Count) (given-own (codes "FLD") (decimal 0) (word_of (codes "CAUSE") (codes "Count") ∷ []) refl) (omega arith)) refl
fault-reads (BadField field cause) is =
    some-then _ _ field _ (number-given (codes "FLD") field (fault_words (BadField field cause)) (given-own (codes "FLD") (decimal field) (word_of (codes "CAUSE") (value_cause cause)
    ∷ []) refl) (omega (arith, is))) (
    some-then _ _ (value_cause cause) _ (given-next (codes "CAUSE") (word_of (codes "FLD") (decimal field)) (word_of (codes "CAUSE") (value_cause cause) ∷ []) refl refl
    ∙ given-own (codes "CAUSE") (value_cause cause) [] refl) (
    cond-false (is_word (codes "Count") (value_cause cause)) (Some Count) _ (no-count cause) ∙ some-then _ _ cause _ (value-read cause) (
    cond-true (nat_le field 65535) (Some (BadField field cause)) None (le-leb field 65535 (omega (arith, is))))))

entries-done : (names : List (List ℕ)) (entries : List Entry) → AreEntries entries → IsReplyBack names (reply.Entries entries)
unfolding read_reply reply_named record_answer state_answer name_answer journal_answer limit_answer reply_of ok_reply done_answer numbered_answer inside
entries-done names [] are = ([], entries-follow [] are, refl)
entries-done names (entry ∷ entries) are = (entries_words (entry ∷ entries) are, entries-follow (entry ∷ entries) are, ap (option_map reply.Entries) (entries-read (entry ∷ entries) are))

pub reply-read : (names : List (List ℕ)) → AreDifferent names → (r : Reply) → IsReply names r → IsReplyBack names r
unfolding read_reply reply_named record_answer state_answer name_answer journal_answer limit_answer reply_of ok_reply done_answer numbered_answer inside
reply-read names different reply.Done is = ([], nothing, refl)
reply-read names different (reply.Entries entries) is = entries-done names entries is
reply-read names different reply.HeldToBoundary is = ([], nothing, refl)
reply-read names different reply.NotFound is = ([], nothing, refl)
reply-read names different reply.EndOfFile is = ([], nothing, refl)
reply-read names different reply.BeginOfFile is = ([], nothing, refl)
reply-read names different reply.NoCurrentRecord is = ([], nothing, refl)
reply-read names different reply.WrongOpen is = ([], nothing, refl)
reply-read names different reply.NoDefinition is = ([], nothing, refl)
reply-read names different reply.AlreadyStarted is = ([], nothing, refl)
reply-read names different reply.NoSuchEntry is = ([], nothing, refl)
reply-read names different reply.MemberFull is = ([], nothing, refl)
reply-read names different reply.StoreFault is = ([], nothing, refl)
reply-read names different reply.NoMemory is = ([], nothing, refl)
reply-read names different (reply.Record read) is = (
  (word_of (codes "FMT") read.format ∷ word_of (codes "RRN") (decimal read.rrn) ∷ word_of (codes "VAL") (values_text read.values) ∷ []),
  (both _ _ (word_of (codes "FMT") read.format ∷ word_of (codes "RRN") (decimal read.rrn) ∷ []) (word_of (codes "VAL") (values_text read.values) ∷ []) (both _ _
      (word_of (codes "FMT") read.format ∷ []) (word_of (codes "RRN") (decimal read.rrn) ∷ []) (parameter-follows (codes "FMT") read.format refl refl (name-inside read.format is.0))
      (parameter-follows (codes "RRN") (decimal read.rrn) refl refl (decimal-inside read.rrn (omega (arith, is.1)))))
      (parameter-follows (codes "VAL") (values_text read.values) refl refl (values-inner read.values is.2))),
  record-done read is,
)
reply-read names different (reply.Added rrn) is = (
  (word_of (codes "RRN") (decimal rrn) ∷ []),
  (parameter-follows (codes "RRN") (decimal rrn) refl refl (decimal-inside rrn (omega (arith, is)))),
  added-done rrn is,
)
reply-read names different (reply.Receiver number) is = (
  (word_of (codes "RCV") (decimal number) ∷ []),
  (parameter-follows (codes "RCV") (decimal number) refl refl (decimal-inside number (omega (arith, is)))),
  receiver-done number is,
)
reply-read names different (reply.Sequence number) is = (
  (word_of (codes "SEQ") (decimal number) ∷ []),
  (parameter-follows (codes "SEQ") (decimal number) refl refl (decimal-inside number (omega (arith, is)))),
  sequence-done number is,
)
reply-read names different (reply.Range first last changes) is = ((changes_words first last changes), (changes-follows first last changes is), range-done first last changes is)
reply-read names different (reply.RecordInUse job member rrn) is = (
  (word_of (codes "JOB") (job_name names job) ∷ word_of (codes "MBR") (decimal member)
      ∷ word_of (codes "RRN") (decimal rrn) ∷ []),
  (both _ _ (word_of (codes "JOB") (job_name names job) ∷ word_of (codes "MBR") (decimal member) ∷ []) (word_of (codes "RRN") (decimal rrn)
      ∷ []) (both _ _ (word_of (codes "JOB") (job_name names job) ∷ []) (word_of (codes "MBR") (decimal member) ∷ [])
      (parameter-follows (codes "JOB") (job_name names job) refl refl (name-inside (job_name names job) (job-is-name names job different is.0)))
      (parameter-follows (codes "MBR") (decimal member) refl refl (decimal-inside member (omega (arith, is.1)))))
      (parameter-follows (codes "RRN") (decimal rrn) refl refl (decimal-inside rrn (omega (arith, is.2))))),
  in-use-reads names job member rrn different is,
)
reply-read names different (reply.DuplicateKey file rrn) is = (
  (word_of (codes "FILE") file ∷ word_of (codes "RRN") (decimal rrn) ∷ []),
  (both _ _ (word_of (codes "FILE") file ∷ [])
      (word_of (codes "RRN") (decimal rrn) ∷ []) (parameter-follows (codes "FILE") file refl refl (name-inside file is.0))
      (parameter-follows (codes "RRN") (decimal rrn) refl refl (decimal-inside rrn (omega (arith, is.1))))),
  duplicate-reads file rrn is,
)
reply-read names different (reply.DoesNotFit sequence rrn) is = (
  (word_of (codes "SEQ") (decimal sequence) ∷ word_of (codes "RRN") (decimal rrn) ∷ []),
  (both _ _
      (word_of (codes "SEQ") (decimal sequence) ∷ []) (word_of (codes "RRN") (decimal rrn) ∷ [])
      (parameter-follows (codes "SEQ") (decimal sequence) refl refl (decimal-inside sequence (omega (arith, is.0))))
      (parameter-follows (codes "RRN") (decimal rrn) refl refl (decimal-inside rrn (omega (arith, is.1))))),
  fit-reads sequence rrn is,
)
reply-read names different (reply.LimitReached which number) is = (
  (word_of (codes "LIMIT") (limit_text which) ∷ word_of (codes "NBR") (decimal number) ∷ []),
  (both _ _
      (word_of (codes "LIMIT") (limit_text which) ∷ []) (word_of (codes "NBR") (decimal number) ∷ []) (parameter-follows (codes "LIMIT") (limit_text which) refl refl (limit-inner which))
      (parameter-follows (codes "NBR") (decimal number) refl refl (decimal-inside number (omega (arith, is))))),
  limit-reads which number is,
)
reply-read names different (reply.DdsFault fault) is = (
  (word_of (codes "LINE") (decimal fault.line) ∷ word_of (codes "COL") (decimal fault.column)
      ∷ word_of (codes "CAUSE") (dds_cause fault.cause) ∷ []),
  (both _ _ (word_of (codes "LINE") (decimal fault.line) ∷ word_of (codes "COL") (decimal fault.column) ∷ [])
      (word_of (codes "CAUSE") (dds_cause fault.cause) ∷ []) (both _ _ (word_of (codes "LINE") (decimal fault.line) ∷ []) (word_of (codes "COL") (decimal fault.column) ∷ [])
      (parameter-follows (codes "LINE") (decimal fault.line) refl refl (decimal-inside fault.line (omega (arith, is.0))))
      (parameter-follows (codes "COL") (decimal fault.column) refl refl (decimal-inside fault.column (omega (arith, is.1)))))
      (parameter-follows (codes "CAUSE") (dds_cause fault.cause) refl refl (dds-inner fault.cause))),
  ap (option_map reply.DdsFault) (dds-reads fault is),
)
reply-read names different (reply.NoSuchName what) is = (
  (word_of (codes "NAME") (missing_text what) ∷ []),
  (parameter-follows (codes "NAME") (missing_text what) refl refl (missing-inner what is)),
  ap (option_map reply.NoSuchName) (missing-reads what is),
)
reply-read names different (reply.BadValue fault) is = ((fault_words fault), (fault-follows fault is), ap (option_map reply.BadValue) (fault-reads fault is))
reply-read names different (reply.InUse job) is = (
  (word_of (codes "JOB") (job_name names job) ∷ []),
  (parameter-follows (codes "JOB") (job_name names job) refl refl (name-inside (job_name names job) (job-is-name names job different is))),
  ap (option_map reply.InUse) (job-given names (codes "JOB") job _ different is (given-own (codes "JOB") (job_name names job) ([]) refl)),
)
reply-read names different (reply.HeldByGroup rrn) is = (
  (word_of (codes "RRN") (decimal rrn) ∷ []),
  (parameter-follows (codes "RRN") (decimal rrn) refl refl (decimal-inside rrn (omega (arith, is)))),
  ap (option_map reply.HeldByGroup) (number-given (codes "RRN") rrn
      (word_of (codes "RRN") (decimal rrn) ∷ []) (given-own (codes "RRN") (decimal rrn) ([]) refl) is),
)
reply-read names different (reply.PlaceInUse rrn) is = (
  (word_of (codes "RRN") (decimal rrn) ∷ []),
  (parameter-follows (codes "RRN") (decimal rrn) refl refl (decimal-inside rrn (omega (arith, is)))),
  ap (option_map reply.PlaceInUse) (number-given (codes "RRN") rrn
      (word_of (codes "RRN") (decimal rrn) ∷ []) (given-own (codes "RRN") (decimal rrn) ([]) refl) is),
)
reply-read names different (reply.NameExists name) is = (
  (word_of (codes "NAME") name ∷ []),
  (parameter-follows (codes "NAME") name refl refl (name-inside name is)),
  ap (option_map reply.NameExists) (name-given (codes "NAME") name (word_of (codes "NAME") name ∷ [])
      (given-own (codes "NAME") name ([]) refl) is),
)
reply-read names different (reply.Dependents name) is = (
  (word_of (codes "NAME") name ∷ []),
  (parameter-follows (codes "NAME") name refl refl (name-inside name is)),
  ap (option_map reply.Dependents) (name-given (codes "NAME") name (word_of (codes "NAME") name ∷ [])
      (given-own (codes "NAME") name ([]) refl) is),
)
reply-read names different (reply.NotJournaled member) is = (
  (word_of (codes "MBR") (decimal member) ∷ []),
  (parameter-follows (codes "MBR") (decimal member) refl refl (decimal-inside member (omega (arith, is)))),
  ap (option_map reply.NotJournaled) (number-given (codes "MBR") member
      (word_of (codes "MBR") (decimal member) ∷ []) (given-own (codes "MBR") (decimal member) ([]) refl) is),
)
reply-read names different (reply.PendingChanges group) is = (
  (word_of (codes "GRP") (decimal group) ∷ []),
  (parameter-follows (codes "GRP") (decimal group) refl refl (decimal-inside group (omega (arith, is)))),
  ap (option_map reply.PendingChanges) (long-given (codes "GRP") group
      (word_of (codes "GRP") (decimal group) ∷ []) (given-own (codes "GRP") (decimal group) ([]) refl) is),
)
reply-read names different (reply.Straddled group) is = (
  (word_of (codes "GRP") (decimal group) ∷ []),
  (parameter-follows (codes "GRP") (decimal group) refl refl (decimal-inside group (omega (arith, is)))),
  ap (option_map reply.Straddled) (long-given (codes "GRP") group
      (word_of (codes "GRP") (decimal group) ∷ []) (given-own (codes "GRP") (decimal group) ([]) refl) is),
)
reply-read names different (reply.NeedsBoth sequence) is = (
  (word_of (codes "SEQ") (decimal sequence) ∷ []),
  (parameter-follows (codes "SEQ") (decimal sequence) refl refl (decimal-inside sequence (omega (arith, is)))),
  ap (option_map reply.NeedsBoth) (long-given (codes "SEQ") sequence
      (word_of (codes "SEQ") (decimal sequence) ∷ []) (given-own (codes "SEQ") (decimal sequence) ([]) refl) is),
)
reply-read names different (reply.Gap sequence) is = (
  (word_of (codes "SEQ") (decimal sequence) ∷ []),
  (parameter-follows (codes "SEQ") (decimal sequence) refl refl (decimal-inside sequence (omega (arith, is)))),
  ap (option_map reply.Gap) (long-given (codes "SEQ") sequence
      (word_of (codes "SEQ") (decimal sequence) ∷ []) (given-own (codes "SEQ") (decimal sequence) ([]) refl) is),
)
reply-read names different (reply.NotRemovable sequence) is = (
  (word_of (codes "SEQ") (decimal sequence) ∷ []),
  (parameter-follows (codes "SEQ") (decimal sequence) refl refl (decimal-inside sequence (omega (arith, is)))),
  ap (option_map reply.NotRemovable) (long-given (codes "SEQ") sequence
      (word_of (codes "SEQ") (decimal sequence) ∷ []) (given-own (codes "SEQ") (decimal sequence) ([]) refl) is),
)
reply-read names different (reply.ReceiverGone sequence) is = (
  (word_of (codes "SEQ") (decimal sequence) ∷ []),
  (parameter-follows (codes "SEQ") (decimal sequence) refl refl (decimal-inside sequence (omega (arith, is)))),
  ap (option_map reply.ReceiverGone) (long-given (codes "SEQ") sequence
      (word_of (codes "SEQ") (decimal sequence) ∷ []) (given-own (codes "SEQ") (decimal sequence) ([]) refl) is),
)
reply-read names different (reply.BlockChanged sequence) is = (
  (word_of (codes "SEQ") (decimal sequence) ∷ []),
  (parameter-follows (codes "SEQ") (decimal sequence) refl refl (decimal-inside sequence (omega (arith, is)))),
  ap (option_map reply.BlockChanged) (long-given (codes "SEQ") sequence
      (word_of (codes "SEQ") (decimal sequence) ∷ []) (given-own (codes "SEQ") (decimal sequence) ([]) refl) is),
)
reply-read names different (reply.StillNeeded sequence) is = (
  (word_of (codes "SEQ") (decimal sequence) ∷ []),
  (parameter-follows (codes "SEQ") (decimal sequence) refl refl (decimal-inside sequence (omega (arith, is)))),
  ap (option_map reply.StillNeeded) (long-given (codes "SEQ") sequence
      (word_of (codes "SEQ") (decimal sequence) ∷ []) (given-own (codes "SEQ") (decimal sequence) ([]) refl) is),
)
