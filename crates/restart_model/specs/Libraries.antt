-- Which library does a journal leave, once a restart has brought it to its end? (Journal Management, "Recovery operations using journaling"; Commitment
-- Control, "Commitment control during abnormal job end and restart".) No job has begun, nothing is locked, and no commit cycle is open. A member that
-- isn't journaled stands as its last journaled moment left it, so nothing has changed it since.
use Rattle.std.specs.Prelude.{ℕ, ◌-◌, false, Option, Some, None, List, [], length, map, filter, codes}
use Rattle.entry_codec.specs.declared.entries.Entry.{Entry}
use Rattle.entry_codec.specs.declared.kinds.Images.{Images}
use Rattle.member_slots.specs.declared.slot.Slot.{Slot}
use Rattle.member_slots.specs.Member.{MemberState, records}
use Rattle.member_slots.specs.Members.{Numbered}
use Rattle.record_fmt.specs.Layout.{record_length}
use Rattle.journal_model.specs.Catalogue.{CatalogMember, is_in_file}
use Rattle.journal_model.specs.Journal.{Journal, catalogue_of, entries, restarted, state_of}
use Rattle.journal_replay.specs.Left.{empty_journal, last_break_of}
use Rattle.library_model.specs.Named.{Named, named}
use Rattle.library_steps.specs.State.{State, FileState, MemberStatus, fields_of}
use Rattle.restart_model.specs.Sources.{described_files}

-- ---- members

abbrev pub record_length_in : Option FileState → ℕ
record_length_in None = 0
record_length_in (Some file) = record_length (fields_of file)

-- the member with its records, by the file that it belongs to
abbrev pub member_left : Named FileState → Journal → CatalogMember → Numbered MemberState
member_left files j m = record { number = m.number; item = record { record_length = record_length_in (named m.file files); slots = (state_of j m.number).slots } }

-- how many records it had when its journaling ended
abbrev pub records_then : Option Images → List Slot → ℕ
records_then None slots = length (records (record { record_length = 0; slots = slots }))
records_then (Some images) slots = 0

-- where the checkpoint has these last breaks
abbrev pub status_left : (breaks : ℕ → ℕ) → Journal → CatalogMember → List ℕ × MemberStatus
status_left breaks j m = (
  m.name,
  record {
    number = m.number;
    images = m.images;
    changed = false;
    records_then = records_then m.images (state_of j m.number).slots;
    last_break = last_break_of breaks j m.number;
  },
)

-- ---- files

abbrev pub file_left : (breaks : ℕ → ℕ) → Journal → List ℕ × FileState → List ℕ × FileState
file_left breaks j entry =
    (entry.0, record entry.1 { members = map (status_left breaks j) (filter (is_in_file entry.0) (catalogue_of j).members) })

abbrev pub files_left : (breaks : ℕ → ℕ) → Journal → Named FileState
files_left breaks j = map (file_left breaks j) (described_files (catalogue_of j).files)

-- ---- the library

-- the receivers that are kept are these
abbrev pub library_left : (breaks : ℕ → ℕ) → (attached : ℕ) → Journal → State
library_left breaks attached j = record {
  files = files_left breaks j;
  members = map (member_left (files_left breaks j) j) (catalogue_of j).members;
  next_member = (catalogue_of j).next_member;
  gone = j.checkpoint - length j.kept;
  entries = entries j;
  receivers = record { first = j.receiver; attached = attached };
  checkpoint = j.checkpoint;
  locks = [];
  jobs = [];
}

-- the job's name on what a restart deposits
abbrev pub restart_job : Option (List ℕ)
restart_job = Some (codes "RESTART")

-- the library after a restart at this time
abbrev pub library_restarted : (breaks : ℕ → ℕ) → (attached moment : ℕ) → Journal → State
library_restarted breaks attached moment j = library_left breaks attached (restarted restart_job moment j)

-- ---- a journal from the beginning

-- the journal of a store from which nothing is gone, and which has no checkpoint
abbrev pub journal_with : List Entry → Journal
journal_with entries = record empty_journal { later = entries }
