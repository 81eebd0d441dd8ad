-- How a job's opens are kept, and what they are asked: which of them are over a member, and which are under commitment control. (Our own.)
use Rattle.std.specs.Prelude.{◌≡◌, ℕ, ◌<◌, ◌≤◌, ◌==◌, ◌&&◌, Bool, Option, Some, None, List, map, All, AllPairs}
use Rattle.std.specs.List.{list_any}
use Rattle.key_spec.specs.declared.KeyPart.{KeyPart}
use Rattle.file_model.specs.Joins.{RowPlace}
use Rattle.file_model.specs.Positions.{Position, Start}
use Rattle.join_position.specs.OpenStand.{OpenStand}
use Rattle.library_model.specs.declared.limits.TheConstants.{MOST_OPENS}
use Rattle.library_model.specs.Named.{Named, same_name}
use Rattle.lawful_states.specs.State.{OpenState}
use Rattle.job_table.specs.declared.reads.OpenReads.{OpenReads}
use Rattle.job_table.specs.declared.reads.OpenRows.{OpenRows}

-- how the rows of a join file are read: the numbers of the secondary files' paths, the positions of the primary's key, and that of
-- JDUPSEQ in each secondary file
pub record JoinOrder : Type 0 where
  pub paths : List ℕ
  pub parts : List KeyPart
  pub sequences : List KeyPart

-- how an open reads: its number, the number of its path where it reads by one, the positions of the key in each format, and the rows
-- of a join file
pub record OpenOrder : Type 0 where
  pub number : ℕ
  pub path : Option ℕ
  pub formats : List (List KeyPart)
  pub join : Option JoinOrder

-- an open as it is kept
pub record KeptOpen : Type 0 where
  pub state : OpenState
  pub order : OpenOrder

-- ---- the rows of a join file

-- where it stands among them
abbrev pub rows_in : Option OpenRows → Position RowPlace
rows_in None = Start
rows_in (Some rows) = rows.position.position

abbrev pub join_by : Option OpenRows → Option JoinOrder
join_by None = None
join_by (Some rows) = Some (record { paths = rows.paths; parts = rows.position.parts; sequences = rows.position.sequences })

-- ---- a new open

-- it stands at the start, and keeps the position at boundaries where it is under commitment
abbrev pub IsNewReads : (commit : Bool) → OpenReads → Type 0
IsNewReads commit reads = (reads.position ≡ record { position = Start; boundary = Start; formats = reads.position.formats; marks = commit }) × (rows_in reads.rows ≡ Start)

abbrev pub order_by : (number : ℕ) → OpenReads → OpenOrder
order_by number reads = record { number = number; path = reads.path; formats = reads.position.formats; join = join_by reads.rows }

-- the position of an open: it is kept at boundaries where the open is under commitment
pub record IsPositionOf (commit : Bool) (stand : OpenStand) : Type 0 where
  pub marks : stand.marks ≡ commit

-- the open, where it is at a format over this member
abbrev pub placed_at : (format member : ℕ) → KeptOpen → KeptOpen
placed_at format member kept = record { state = record kept.state { format = format; member = member }; order = kept.order }

-- ---- opens and how they read, side by side

-- an open and its order stand at one place
abbrev pub SameOpen : List ℕ × OpenState → List ℕ × OpenOrder → Type 0
SameOpen entry order = (entry.0 ≡ order.0) × (entry.1.number ≡ order.1.number)

-- what is true of those of this number
abbrev pub AllOfNumber : (number : ℕ) → (OpenOrder → Type 0) → Named OpenOrder → Type 0
AllOfNumber number P orders = All (λ entry. entry.1.number ≡ number → P entry.1) orders

abbrev pub state_in : List ℕ × KeptOpen → List ℕ × OpenState
state_in entry = (entry.0, entry.1.state)

abbrev pub order_in : List ℕ × KeptOpen → List ℕ × OpenOrder
order_in entry = (entry.0, entry.1.order)

abbrev pub states_of : Named KeptOpen → Named OpenState
states_of opens = map state_in opens

abbrev pub orders_of : Named KeptOpen → Named OpenOrder
orders_of opens = map order_in opens

-- ---- the opens of a job

-- so many opens are no more than a job may have, and there is room for as many as that
pub record HasRoomForAll (count room : ℕ) : Type 0 where
  pub few : count ≤ MOST_OPENS
  pub room_for_all : MOST_OPENS ≤ room

-- over one of its members
abbrev pub is_over : ℕ → List ℕ × OpenState → Bool
is_over member entry = list_any (λ base. base == member) entry.1.members

-- of the file
abbrev pub is_of : (file : List ℕ) → List ℕ × OpenState → Bool
is_of file entry = same_name file entry.1.file

abbrev pub has_committed : List ℕ × OpenState → Bool
has_committed entry = entry.1.commit

abbrev pub is_committed_in : ℕ → List ℕ × OpenState → Bool
is_committed_in number entry = (entry.1.number == number) && entry.1.commit

-- the numbers of a job's opens ascend, and none is greater than that of the last open that it has had
pub record AreNumbered (opens : Named OpenState) (opened : ℕ) : Type 0 where
  pub ascending : AllPairs (λ former later. former.1.number < later.1.number) opens
  pub had : All (λ entry. entry.1.number ≤ opened) opens

-- each has one number, as an open and as what tells how it reads
abbrev pub HasOneNumber : List ℕ × KeptOpen → Type 0
HasOneNumber entry = entry.1.order.number ≡ entry.1.state.number

pub record AreKept (opens : Named KeptOpen) (opened : ℕ) : Type 0 where
  pub numbered : AreNumbered (states_of opens) opened
  pub alike : All HasOneNumber opens
