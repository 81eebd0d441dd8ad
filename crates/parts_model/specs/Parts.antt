-- What contracts see of a library in memory: its state, and its room for more apart from it. (Our own.)
use Rattle.std.specs.Prelude.{ℕ, ◌-◌, List}
use Rattle.member_slots.specs.Members.{Numbered, RoomyMembers}
use Rattle.lock_table.specs.Table.{Locks}
use Rattle.file_catalogue.specs.Parts.{Files}
use Rattle.memory_journal.specs.Journal.{Held}
use Rattle.job_table.specs.Table.{JobTable}
use Rattle.job_table.specs.Opens.{OpenOrder}
use Rattle.path_set.specs.declared.moves.PathMove.{PathMove}
use Rattle.path_set.specs.KeptPaths.{KeptPaths}
use Rattle.library_model.specs.Named.{Named}
use Rattle.library_steps.specs.State.{State}

-- for how many more there is room: files, members among the files' names, members with slots, slots of each member, and
-- entries besides those that boundaries may still deposit; for how many locks in all, and for how many changes of each job's commit cycle in all.
-- Beside these the access paths, with their room, how each job's opens read, and the moves that take back the changes of its commit cycle
pub record Room : Type 0 where
  pub files : ℕ
  pub member_names : ℕ
  pub members : ℕ
  pub spares : List (Numbered ℕ)
  pub entries : ℕ
  pub locks : ℕ
  pub undos : List ℕ
  pub paths : KeptPaths
  pub orders : List (Named OpenOrder)
  pub moves : List (List (List PathMove))

pub record LibraryParts : Type 0 where
  pub state : State
  pub room : Room

-- the parts as one state
abbrev pub state_of : Files → RoomyMembers → (next_member : ℕ) → Held → Locks → JobTable → State
state_of catalogue members next_member journal locks jobs = record {
  files = catalogue.files;
  members = members.members;
  next_member = next_member;
  gone = journal.journal.gone;
  entries = journal.journal.entries;
  receivers = journal.journal.receivers;
  checkpoint = journal.journal.checkpoint;
  locks = locks.held;
  jobs = jobs.jobs;
}

abbrev pub room_of : Files → RoomyMembers → Held → Locks → JobTable → (due : ℕ) → KeptPaths → Room
room_of catalogue members journal locks jobs due paths = record {
  files = catalogue.room;
  member_names = catalogue.member_room;
  members = members.room;
  spares = members.spares;
  entries = journal.room - due;
  locks = locks.room;
  undos = jobs.rooms;
  paths = paths;
  orders = jobs.orders;
  moves = jobs.moves;
}

abbrev pub joined : Files → RoomyMembers → (next_member : ℕ) → Held → Locks → JobTable → (due : ℕ) → KeptPaths → LibraryParts
joined catalogue members next_member journal locks jobs due paths =
    record { state = state_of catalogue members next_member journal locks jobs; room = room_of catalogue members journal locks jobs due paths }
