-- Entries of the journal, read back. Of a source the listing has its length alone, and what is read has that many blanks.
use Rattle.std.specs.Prelude.{ℕ, Bool, true, ◌&&◌, ◌==◌, nat_le, nat_lt, if◌then◌else◌, Option, Some, None, List, [], ◌∷◌, length, replicate, codes, option_map}
use Rattle.std.specs.Option.{option_map_or}
use Rattle.entry_codec.specs.Placing.{is_placed}
use Rattle.entry_codec.specs.declared.entries.Entry.{Entry}
use Rattle.entry_codec.specs.declared.kinds.EntryKind.{EntryKind}
use Rattle.entry_codec.specs.declared.kinds.EntryKind.TheVariants as kind
use Rattle.entry_codec.specs.declared.kinds.FileKind.{FileKind}
use Rattle.entry_codec.specs.declared.kinds.TheConstants.{MIN_RECORD_LENGTH, MAX_RECORD_LENGTH}
use Rattle.statement_reader.specs.Commands.{is_word}
use Rattle.statement_reader.specs.Lists.{let_some, onto_others}
use Rattle.statement_reader.specs.Words.{words, has_text}
use Rattle.listing_words.specs.Choices.{file_kind_of}
use Rattle.listing_words.specs.EntryTypes.{entry_named}
use Rattle.listing_words.specs.Parameters.{level_in, images_in}
use Rattle.listing_words.specs.Values.{units, number_in, long_in, text_of}
use Rattle.listing_words.specs.Words.{given, behind_given, let_word, name_of, name_in}
use Rattle.listing_reader.specs.declared.entry_fields.Origin.{Origin}
use Rattle.listing_reader.specs.declared.entry_fields.Changes.{Changes}
use Rattle.listing_words.specs.declared.entry_types.EntryType.{EntryType}
use Rattle.listing_words.specs.declared.entry_types.EntryType.TheVariants as entry_type
use Rattle.listing_words.specs.declared.numbers.TheConstants.{MOST_LONG}

-- ---- fields

-- the first two words
abbrev pub two : List (List ℕ) → Option (List ℕ × List ℕ)
two [] = None
two (first ∷ []) = None
two (first ∷ second ∷ more) = Some (first, second)

-- an image behind its flag
unfoldable pub image_of : List ℕ → Option (List ℕ)
image_of text = let_some (two (words text)) (λ parts. text_of parts.1)

unfoldable pub image_in : List (List ℕ) → Option (List ℕ)
image_in words = let_some (given (codes "IMG") words) image_of

-- an image behind its flag, or the flag alone
unfoldable pub optional_image_of : List ℕ → Option (Option (List ℕ))
optional_image_of text = option_map_or (λ parts. option_map (λ image. Some image) (text_of parts.1)) (two (words text)) (Some None)

unfoldable pub optional_image_in : List (List ℕ) → Option (Option (List ℕ))
optional_image_in words = let_some (given (codes "IMG") words) optional_image_of

-- whether the flag of an after image says that its before image stands before it
unfoldable pub flag_of : List ℕ → Option Bool
flag_of text = option_map (λ parts. is_word (codes "2") parts.0) (two (words text))

unfoldable pub flag_in : List (List ℕ) → Option Bool
flag_in words = let_some (given (codes "IMG") words) flag_of

unfoldable pub file_kind_in : List (List ℕ) → Option FileKind
file_kind_in words = let_some (given (codes "KIND") words) file_kind_of

-- a range of sequences, and how many changes there were
unfoldable pub ends_of : List ℕ → Option (ℕ × ℕ)
ends_of text =
    let_some (two (words text)) (λ ends.
    let_some (units MOST_LONG ends.0) (λ first.
    let_some (units MOST_LONG ends.1) (λ last.
    Some (first, last))))

unfoldable pub changes_in : List (List ℕ) → Option Changes
changes_in words =
    let_some (given (codes "ENT") words) (λ text.
    let_some (ends_of text) (λ ends.
    let_some (number_in (codes "CHG") words) (λ changes.
    Some (record { first = ends.0; last = ends.1; changes = changes }))))

-- a name, or nothing
unfoldable pub optional_name_of : List ℕ → Option (Option (List ℕ))
optional_name_of word = if has_text word then option_map (λ name. Some name) (name_of word) else Some None

unfoldable pub optional_name_in : List ℕ → List (List ℕ) → Option (Option (List ℕ))
optional_name_in keyword words = let_some (given keyword words) optional_name_of

-- a number that is there, counted from 1
abbrev pub counted : ℕ → Option ℕ
counted number = if number == 0 then None else Some number

-- the job, the timestamp, the commit cycle, the member and the relative record number
unfoldable pub origin_in : List (List ℕ) → Option Origin
origin_in words =
    let_some (optional_name_in (codes "JOB") words) (λ job.
    let_some (long_in (codes "AT") words) (λ moment.
    let_some (long_in (codes "GRP") words) (λ group.
    let_some (number_in (codes "MBR") words) (λ member.
    let_some (number_in (codes "RRN") words) (λ rrn.
    Some (record { job = job; moment = moment; group = counted group; member = counted member; rrn = counted rrn }))))))

-- ---- bodies

unfoldable pub file_created : List (List ℕ) → Option EntryKind
file_created words =
    let_some (file_kind_in words) (λ file_kind.
    let_some (name_in (codes "NAME") words) (λ name.
    let_some (number_in (codes "LEN") words) (λ count.
    Some (kind.FileCreated file_kind name (replicate count 32)))))

unfoldable pub member_added : List (List ℕ) → Option EntryKind
member_added words =
    let_some (name_in (codes "NAME") words) (λ file.
    let_some (name_in (codes "MBR") words) (λ name.
    Some (kind.MemberAdded file name)))

unfoldable pub journaling_started : List (List ℕ) → Option EntryKind
journaling_started words =
    let_some (images_in (codes "IMAGES") words) (λ images.
    let_some (number_in (codes "SLOTS") words) (λ slots.
    Some (kind.JournalingStarted images slots)))

unfoldable pub after_image : List (List ℕ) → Option EntryKind
after_image words =
    let_some (flag_in words) (λ has_before.
    let_some (image_in words) (λ image.
    Some (kind.AfterImage has_before image)))

unfoldable pub undo_after_image : List (List ℕ) → Option EntryKind
undo_after_image words =
    let_some (flag_in words) (λ has_before.
    let_some (image_in words) (λ image.
    Some (kind.UndoAfterImage has_before image)))

-- what an entry of this type holds
unfoldable pub body_of : EntryType → List (List ℕ) → Option EntryKind
body_of entry_type.FileCreated words = file_created words
body_of entry_type.FileDeleted words = option_map kind.FileDeleted (name_in (codes "NAME") words)
body_of entry_type.MemberAdded words = member_added words
body_of entry_type.JournalingStarted words = journaling_started words
body_of entry_type.InitialSlot words = option_map kind.InitialSlot (image_in words)
body_of entry_type.JournalingEnded words = Some kind.JournalingEnded
body_of entry_type.MemberCleared words = Some kind.MemberCleared
body_of entry_type.MemberReorganized words = Some kind.MemberReorganized
body_of entry_type.ChangesApplied words = option_map (λ c. kind.ChangesApplied c.first c.last c.changes) (changes_in words)
body_of entry_type.ChangesRemoved words = option_map (λ c. kind.ChangesRemoved c.first c.last c.changes) (changes_in words)
body_of entry_type.RecordAdded words = option_map kind.RecordAdded (image_in words)
body_of entry_type.RecordAddedAtNumber words = option_map kind.RecordAddedAtNumber (image_in words)
body_of entry_type.BeforeImage words = option_map kind.BeforeImage (image_in words)
body_of entry_type.AfterImage words = after_image words
body_of entry_type.RecordDeleted words = option_map kind.RecordDeleted (optional_image_in words)
body_of entry_type.UndoBeforeImage words = option_map kind.UndoBeforeImage (image_in words)
body_of entry_type.UndoAfterImage words = undo_after_image words
body_of entry_type.UndoDelete words = option_map kind.UndoDelete (image_in words)
body_of entry_type.CommitmentStarted words = option_map kind.CommitmentStarted (level_in (codes "LVL") words)
body_of entry_type.CommitCycleStarted words = Some kind.CommitCycleStarted
body_of entry_type.CommitCycleCommitted words = Some kind.CommitCycleCommitted
body_of entry_type.CommitCycleRolledBack words = Some kind.CommitCycleRolledBack
body_of entry_type.CommitmentEnded words = Some kind.CommitmentEnded
body_of entry_type.AbnormalEnd words = Some kind.AbnormalEnd
body_of entry_type.NextReceiver words = option_map kind.NextReceiver (number_in (codes "RCV") words)
body_of entry_type.PreviousReceiver words = option_map kind.PreviousReceiver (number_in (codes "RCV") words)

-- ---- which entries a journal can hold

abbrev pub is_image : List ℕ → Bool
is_image image = nat_le MIN_RECORD_LENGTH (length image) && nat_le (length image) MAX_RECORD_LENGTH

abbrev pub is_optional_image : Option (List ℕ) → Bool
is_optional_image None = true
is_optional_image (Some image) = is_image image

-- each image could be a record, and a source isn't too long
abbrev pub holds_fields : EntryKind → Bool
holds_fields (kind.FileCreated file_kind name source) = nat_lt (length source) 4294967236
holds_fields (kind.FileDeleted name) = true
holds_fields (kind.MemberAdded file name) = true
holds_fields (kind.JournalingStarted images slots) = true
holds_fields (kind.InitialSlot image) = is_image image
holds_fields kind.JournalingEnded = true
holds_fields kind.MemberCleared = true
holds_fields kind.MemberReorganized = true
holds_fields (kind.ChangesApplied first last changes) = true
holds_fields (kind.ChangesRemoved first last changes) = true
holds_fields (kind.RecordAdded image) = is_image image
holds_fields (kind.RecordAddedAtNumber image) = is_image image
holds_fields (kind.BeforeImage image) = is_image image
holds_fields (kind.AfterImage has_before image) = is_image image
holds_fields (kind.RecordDeleted before) = is_optional_image before
holds_fields (kind.UndoBeforeImage image) = is_image image
holds_fields (kind.UndoAfterImage has_before image) = is_image image
holds_fields (kind.UndoDelete image) = is_image image
holds_fields (kind.CommitmentStarted level) = true
holds_fields kind.CommitCycleStarted = true
holds_fields kind.CommitCycleCommitted = true
holds_fields kind.CommitCycleRolledBack = true
holds_fields kind.CommitmentEnded = true
holds_fields kind.AbnormalEnd = true
holds_fields (kind.NextReceiver number) = true
holds_fields (kind.PreviousReceiver number) = true

abbrev pub has_spelling : Entry → Bool
has_spelling e = is_placed e && holds_fields e.kind

abbrev pub spelled : Entry → Option Entry
spelled e = if has_spelling e then Some e else None

-- ---- entries

abbrev pub entry_from : ℕ → Origin → EntryKind → Entry
entry_from sequence origin kind =
    record { sequence = sequence; job = origin.job; moment = origin.moment; group = origin.group; member = origin.member; rrn = origin.rrn; kind = kind }

-- an entry of this sequence and type, with the words behind them
unfoldable pub typed_entry : List ℕ → List ℕ → List (List ℕ) → Option Entry
typed_entry number letters words =
    let_some (units MOST_LONG number) (λ sequence.
    let_some (entry_named letters) (λ entry_type.
    let_some (origin_in words) (λ origin.
    let_some (behind_given (codes "RRN") words) (λ body.
    let_some (body_of entry_type body) (λ kind.
    spelled (entry_from sequence origin kind))))))

-- the entry behind a stroke: ENT, its sequence, its code and its type, and the rest
unfoldable pub entry_of : List (List ℕ) → Option Entry
entry_of words =
    let_word words (λ mark words.
    let_word words (λ number words.
    let_word words (λ code words.
    let_word words (λ letters words. typed_entry number letters words))))

-- the entries, each behind a stroke
abbrev pub entries_in : List (List ℕ) → Option (List Entry)
entries_in [] = Some []
entries_in (word ∷ words) = if is_word (codes "/") word then onto_others (entry_of words) (entries_in words) else entries_in words
