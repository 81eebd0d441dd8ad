-- Which library stands when so many files and members that a journal leaves have been put into it, in the order of their creation? (Our own.)
use Rattle.std.specs.Prelude.{◌≡◌, ℕ, ◌<◌, Bool, true, false, List, [], ◌∷◌, ◌++◌, map, filter, if◌then◌else◌}
use Rattle.std.specs.List.{AllByRecursion}
use Rattle.std.specs.Option.{is_some}
use Rattle.std.specs.Str.{bytes_eq}
use Rattle.entry_codec.specs.declared.entries.Entry.{Entry}
use Rattle.member_slots.specs.Members.{Numbered, NumberedMembers}
use Rattle.member_slots.specs.Member.{MemberState, empty_member}
use Rattle.journal_model.specs.Catalogue.{CatalogFile}
use Rattle.journal_replay.specs.Standing.{HeldMember}
use Rattle.library_model.specs.Named.{Named, named}
use Rattle.library_steps.specs.CreatePhysicalFile.{new_status}
use Rattle.library_steps.specs.State.{State, FileState, MemberStatus}
use Rattle.restart_model.specs.Libraries.{record_length_in, records_then}
use Rattle.restart_model.specs.Sources.{described_files}

-- ---- members among the files

-- the status of a member as the journal leaves it, under its name
abbrev pub status_held : HeldMember → List ℕ × MemberStatus
status_held m = (
  m.name,
  record { number = m.number; images = m.images; changed = false; records_then = records_then m.images m.slots; last_break = m.last_break },
)

abbrev pub is_of : (file : List ℕ) → HeldMember → Bool
is_of file m = bytes_eq m.file file

abbrev pub statuses_of : (file : List ℕ) → List HeldMember → Named MemberStatus
statuses_of file held = map status_held (filter (is_of file) held)

-- the file with those of the members that are its own
abbrev pub with_statuses : List HeldMember → List ℕ × FileState → List ℕ × FileState
with_statuses held entry = (entry.0, record entry.1 { members = statuses_of entry.0 held })

abbrev pub files_built : Named FileState → List HeldMember → Named FileState
files_built described held = map (with_statuses held) described

-- ---- members

-- the bytes of the member's records, by its file
abbrev pub length_in : Named FileState → HeldMember → ℕ
length_in described m = record_length_in (named m.file described)

abbrev pub member_built : Named FileState → HeldMember → Numbered MemberState
member_built described m = record { number = m.number; item = record { record_length = length_in described m; slots = m.slots } }

abbrev pub members_built : Named FileState → List HeldMember → NumberedMembers
members_built described held = map (member_built described) held

-- ---- the library

-- beside files and members it has these entries, and this receiver is attached
pub record IsBare (entries : List Entry) (attached : ℕ) (s : State) : Type 0 where
  pub gone : s.gone ≡ 0
  pub kept : s.entries ≡ entries
  pub receivers : s.receivers ≡ record { first = 1; attached = attached }
  pub checkpoint : s.checkpoint ≡ 0
  pub locks : s.locks ≡ []
  pub jobs : s.jobs ≡ []

-- the files of the catalogue that are described, and these members
pub record IsBuilt (entries : List Entry) (attached : ℕ) (catalog : List CatalogFile) (held : List HeldMember) (s : State) : Type 0 where
  pub bare : IsBare entries attached s
  pub files : s.files ≡ files_built (described_files catalog) held
  pub members : s.members ≡ members_built (described_files catalog) held
  pub below : AllByRecursion (λ (m : HeldMember). m.number < s.next_member) held
  pub owned : AllByRecursion (λ (m : HeldMember). is_some (named m.file (described_files catalog)) ≡ true) held

-- ---- one member more, without its slots and its journaling

abbrev pub status_added : (file : List ℕ) → HeldMember → Named MemberStatus
status_added file m = if is_of file m then (m.name, new_status m.number) ∷ [] else []

abbrev pub with_added : List HeldMember → HeldMember → List ℕ × FileState → List ℕ × FileState
with_added held m entry = (entry.0, record entry.1 { members = statuses_of entry.0 held ++ status_added entry.0 m })

abbrev pub files_added : Named FileState → List HeldMember → HeldMember → Named FileState
files_added described held m = map (with_added held m) described

abbrev pub members_added : Named FileState → List HeldMember → HeldMember → NumberedMembers
members_added described held m = members_built described held ++ record { number = m.number; item = empty_member (length_in described m) } ∷ []

pub record IsAdded (entries : List Entry) (attached : ℕ) (catalog : List CatalogFile) (held : List HeldMember) (m : HeldMember) (s : State) : Type 0 where
  pub bare : IsBare entries attached s
  pub files : s.files ≡ files_added (described_files catalog) held m
  pub members : s.members ≡ members_added (described_files catalog) held m
  pub next : m.number < s.next_member
  pub below : AllByRecursion (λ (other : HeldMember). other.number < m.number) held
  pub owned : AllByRecursion (λ (other : HeldMember). is_some (named other.file (described_files catalog)) ≡ true) held
  pub own : is_some (named m.file (described_files catalog)) ≡ true
