-- What each step of building a library does to one that is built so far. (Our own.)
use Rattle.std.specs.Prelude.{◌≡◌, ℕ, Option, Some, None, Ok, Err, List, [], ◌∷◌, ◌++◌, length}
use Rattle.entry_codec.specs.declared.entries.Entry.{Entry}
use Rattle.entry_codec.specs.declared.kinds.FileKind.{FileKind}
use Rattle.entry_codec.specs.declared.kinds.Images.{Images}
use Rattle.journal_model.specs.Catalogue.{CatalogFile}
use Rattle.journal_replay.specs.Standing.{HeldMember}
use Rattle.member_slots.specs.Member.{records}
use Rattle.member_slots.specs.Members.{member_of}
use Rattle.member_slots.specs.Member.{MemberState}
use Rattle.member_slots.specs.declared.slot.Slot.{Slot}
use Rattle.record_fmt.specs.declared.formats.Format.{Format}
use Rattle.dds_source.specs.declared.faults.DdsFault.{DdsFault}
use Rattle.library_steps.specs.CreateLogicalFile.{NewLogical, logical_described}
use Rattle.library_steps.specs.CreatePhysicalFile.{NewFile, described}
use Rattle.library_steps.specs.Journaling.{journaled_from, no_longer_journaled}
use Rattle.library_steps.specs.State.{Memory, State, MemberStatus}
use Rattle.replay_members.specs.Bodies.{Body}
use Rattle.restarted_library.specs.Built.{IsAdded, IsBuilt}

-- whatever library has these files and members of a journal, it has those then
abbrev pub Leads : (old : State) → List CatalogFile → List HeldMember → (new : State) → List CatalogFile → List HeldMember → Type 0
Leads old catalog members new later_catalog later_members =
    (entries : List Entry) (attached : ℕ) → IsBuilt entries attached catalog members old → IsBuilt entries attached later_catalog later_members new

-- one member more
abbrev pub AddsMember : (old new : State) → HeldMember → Type 0
AddsMember old new m = (catalog : List CatalogFile) (members : List HeldMember) → Leads old catalog members new catalog (members ++ m ∷ [])

-- one file more, without members
abbrev pub AddsFile : (old new : State) → FileKind → (name source : List ℕ) → Type 0
AddsFile old new kind name source = (created : ℕ) (catalog : List CatalogFile) (members : List HeldMember)
    → Leads old catalog members new (catalog ++ record { created = created; kind = kind; name = name; source = source } ∷ []) members

-- one file more, with its first member
abbrev pub AddsOwner : (old new : State) → FileKind → (name source : List ℕ) → HeldMember → Type 0
AddsOwner old new kind name source m = (created : ℕ) (catalog : List CatalogFile) (members : List HeldMember)
    → Leads old catalog members new (catalog ++ record { created = created; kind = kind; name = name; source = source } ∷ []) (members ++ m ∷ [])

-- one file more, with all members up to its first
abbrev pub AddsOwned : (old new : State) → FileKind → (name source : List ℕ) → (members later_members : List HeldMember) → Type 0
AddsOwned old new kind name source members later_members = (created : ℕ) (catalog : List CatalogFile)
    → Leads old catalog members new (catalog ++ record { created = created; kind = kind; name = name; source = source } ∷ []) later_members

-- a member that was added gets its slots and its journaling
abbrev pub Fills : (old new : State) → HeldMember → Type 0
Fills old new m = (entries : List Entry) (attached : ℕ) (catalog : List CatalogFile) (members : List HeldMember) → IsAdded entries attached catalog members m old
    → IsBuilt entries attached catalog (members ++ m ∷ []) new

-- ---- its journaling

abbrev pub status_set : Option Images → (sequence count : ℕ) → MemberStatus → MemberStatus
status_set (Some images) sequence count = journaled_from sequence images
status_set None sequence count = no_longer_journaled sequence count

-- as the journal leaves it
abbrev pub status_by : Body → MemberStatus → MemberStatus
status_by body = status_set body.images body.last_break (length (records (record { record_length = 0; slots = body.slots })))

-- ---- its slots

-- the member of this number with these slots
abbrev pub filled_by : State → (number : ℕ) → List Slot → MemberState
filled_by s number slots = record { record_length = (member_of number s.members).record_length; slots = slots }

-- ---- its file

-- this text, and what it describes
abbrev pub IsFileOf : (List ℕ → Option Format) → (text : List ℕ) → NewFile → Type 0
IsFileOf formats text new = (new.source ≡ text) × (described formats text ≡ Ok new.spec)

-- this text and the logical file that it describes; none where something is wrong with it
abbrev pub IsViewOf : Memory → (text : List ℕ) → Option NewLogical → Type 0
IsViewOf m text None = (fault : DdsFault) × (logical_described m text ≡ Err fault)
IsViewOf m text (Some new) = (new.source ≡ text) × (logical_described m text ≡ Ok new.spec)
