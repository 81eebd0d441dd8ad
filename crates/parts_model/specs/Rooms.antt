-- For what there has to be room before an effect. (Our own.)
use Rattle.std.specs.Prelude.{ℕ, ◌≤◌, unwrap_or}
use Rattle.member_slots.specs.Members.{item_at}
use Rattle.job_table.specs.Table.{HasRoomFor}
use Rattle.parts_model.specs.Parts.{Room, LibraryParts}

-- a file and a member can be added
pub record HasFileRoom (room : Room) : Type 0 where
  pub files : 1 ≤ room.files
  pub names : 1 ≤ room.member_names
  pub members : 1 ≤ room.members

-- a member can be added to a file
pub record HasMemberRoom (room : Room) : Type 0 where
  pub names : 1 ≤ room.member_names
  pub members : 1 ≤ room.members

-- how many slots can be added to the member
abbrev pub spare_slots : Room → ℕ → ℕ
spare_slots room member = unwrap_or (item_at member room.spares) 0

-- a slot can be added to the member
abbrev pub HasSlotRoom : Room → ℕ → Type 0
HasSlotRoom room member = 1 ≤ unwrap_or (item_at member room.spares) 0

-- a change can be added to the job's commit cycle
abbrev pub HasUndoRoom : ℕ → LibraryParts → Type 0
HasUndoRoom job parts = HasRoomFor job (record { jobs = parts.state.jobs; rooms = parts.room.undos; orders = parts.room.orders; moves = parts.room.moves })
