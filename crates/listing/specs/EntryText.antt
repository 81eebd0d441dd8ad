-- How an entry of the journal is printed: where it stands, what it belongs to, and what it holds. (Our own; DSPJRN of Journal Management shows the same.)
use Rattle.std.specs.Prelude.{ℕ, Bool, true, false, Option, Some, None, List, [], ◌∷◌, ◌++◌, take, drop, codes, length}
use Rattle.std.specs.List.{flat_map}
use Rattle.std.specs.Option.{unwrap_or}
use Rattle.std.specs.Fmt.{decimal}
use Rattle.entry_codec.specs.Placing.{letters}
use Rattle.entry_codec.specs.declared.entries.Entry.{Entry}
use Rattle.entry_codec.specs.declared.kinds.FileKind.{FileKind}
use Rattle.entry_codec.specs.declared.kinds.FileKind.TheVariants.{Physical, Logical}
use Rattle.entry_codec.specs.declared.kinds.EntryKind.{EntryKind}
use Rattle.entry_codec.specs.declared.kinds.EntryKind.TheVariants as kind
use Rattle.listing.specs.Texts.{parameter, number_parameter, text_literal}
use Rattle.listing.specs.RequestText.{level_text, images_text}

-- the name of the job that caused it; nothing where none did
abbrev pub job_text : Option (List ℕ) → List ℕ
job_text None = []
job_text (Some name) = name

abbrev pub file_kind_text : FileKind → List ℕ
file_kind_text Physical = codes "*PHY"
file_kind_text Logical = codes "*LGL"

-- an image after its flag
abbrev pub image_parameter : List ℕ → List ℕ → List ℕ
image_parameter flag image = parameter (codes "IMG") (flag ++ 32 ∷ text_literal image)

-- the flag of an after image: 2 where the entry before it has the before image
abbrev pub after_flag : Bool → List ℕ
after_flag false = codes "1"
after_flag true = codes "2"

abbrev pub optional_image_parameter : Option (List ℕ) → List ℕ
optional_image_parameter None = parameter (codes "IMG") (codes "0")
optional_image_parameter (Some image) = image_parameter (codes "1") image

abbrev pub range_parameter : ℕ → ℕ → ℕ → List ℕ
range_parameter first last changes = parameter (codes "ENT") (decimal first ++ 32 ∷ decimal last) ++ number_parameter (codes "CHG") changes

-- what the entry holds; of a source its length alone
abbrev pub body_text : EntryKind → List ℕ
body_text (kind.FileCreated file_kind name source) =
    parameter (codes "KIND") (file_kind_text file_kind) ++ parameter (codes "NAME") name ++ number_parameter (codes "LEN") (length source)
body_text (kind.FileDeleted name) = parameter (codes "NAME") name
body_text (kind.MemberAdded file name) = parameter (codes "NAME") file ++ parameter (codes "MBR") name
body_text (kind.JournalingStarted images slots) = parameter (codes "IMAGES") (images_text images) ++ number_parameter (codes "SLOTS") slots
body_text (kind.InitialSlot image) = image_parameter (codes "1") image
body_text kind.JournalingEnded = []
body_text kind.MemberCleared = []
body_text kind.MemberReorganized = []
body_text (kind.ChangesApplied first last changes) = range_parameter first last changes
body_text (kind.ChangesRemoved first last changes) = range_parameter first last changes
body_text (kind.RecordAdded image) = image_parameter (codes "1") image
body_text (kind.RecordAddedAtNumber image) = image_parameter (codes "1") image
body_text (kind.BeforeImage image) = image_parameter (codes "1") image
body_text (kind.AfterImage has_before image) = image_parameter (after_flag has_before) image
body_text (kind.RecordDeleted before) = optional_image_parameter before
body_text (kind.UndoBeforeImage image) = image_parameter (codes "1") image
body_text (kind.UndoAfterImage has_before image) = image_parameter (after_flag has_before) image
body_text (kind.UndoDelete image) = image_parameter (codes "1") image
body_text (kind.CommitmentStarted level) = parameter (codes "LVL") (level_text level)
body_text kind.CommitCycleStarted = []
body_text kind.CommitCycleCommitted = []
body_text kind.CommitCycleRolledBack = []
body_text kind.CommitmentEnded = []
body_text kind.AbnormalEnd = []
body_text (kind.NextReceiver number) = number_parameter (codes "RCV") number
body_text (kind.PreviousReceiver number) = number_parameter (codes "RCV") number

-- its sequence, its code and its type
unfoldable pub place_text : Entry → List ℕ
place_text e = codes "ENT " ++ decimal e.sequence ++ 32 ∷ (take 1 (letters e.kind) ++ 32 ∷ drop 1 (letters e.kind))

-- the job, the timestamp, the commit cycle, the member and the relative record number; 0 where there is none
unfoldable pub origin_text : Entry → List ℕ
origin_text e =
    parameter (codes "JOB") (job_text e.job) ++ number_parameter (codes "AT") e.moment ++ number_parameter (codes "GRP") (unwrap_or e.group 0)
    ++ number_parameter (codes "MBR") (unwrap_or e.member 0) ++ number_parameter (codes "RRN") (unwrap_or e.rrn 0)

abbrev pub entry_text : Entry → List ℕ
entry_text e = place_text e ++ origin_text e ++ body_text e.kind

-- each after a blank, a stroke and a blank
abbrev pub stroked_entry : Entry → List ℕ
stroked_entry e = codes " / " ++ entry_text e

unfoldable pub entries_text : List Entry → List ℕ
entries_text entries = flat_map stroked_entry entries
