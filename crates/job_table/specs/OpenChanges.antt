-- What a call makes of each open of its job. (Database Programming, "Reading database records"; Commitment Control.)
use Rattle.std.specs.Prelude.{◌≡◌, ◌==◌, Option, Some, None, List, [], ◌∷◌, map, if◌then◌else◌}
use Rattle.key_spec.specs.declared.KeyPart.{KeyPart}
use Rattle.file_model.specs.KeyOrder.{merged_parts}
use Rattle.file_model.specs.Joins.{RowPlace}
use Rattle.file_model.specs.Paths.{PathEntry}
use Rattle.file_model.specs.Positions.{Position}
use Rattle.dds_logical.specs.declared.join_views.JoinView.{JoinView}
use Rattle.file_cursor.specs.CursorPosition.{entry_of}
use Rattle.join_position.specs.RowStand as rows
use Rattle.join_position.specs.RowReads.{CanBeKept, place_of}
use Rattle.join_position.below.open_position.specs.declared.position.Side.{Side}
use Rattle.join_position.below.open_position.specs.declared.position.StandAt.{StandAt}
use Rattle.join_position.specs.OpenStand.{IsEntryIn}
use Rattle.join_position.specs.Reads.{stood, IsStandAt, entry_hit}
use Rattle.library_model.specs.Named.{Named}
use Rattle.lawful_states.specs.State.{OpenState, JobState}
use Rattle.lawful_states.specs.Reads.{positioned, has_read, entry_found, row_found}
use Rattle.lawful_states.specs.ChangeRecord.{without_current, without_record}
use Rattle.lawful_states.specs.Commitment.{committed_open, rolled_back_open}
use Rattle.job_table.specs.declared.opens.OpenChange.{OpenChange}
use Rattle.job_table.specs.declared.opens.OpenChange.TheVariants.{Positioned, HasRead, HasReadRow, WithoutCurrent, WithoutRecord, Committed, RolledBack}
use Rattle.job_table.specs.declared.opens.RowRead.{RowRead}
use Rattle.job_table.specs.Opens.{JoinOrder, OpenOrder, KeptOpen}

-- an open of a join file stands among its rows
abbrev pub among_rows : Position RowPlace → OpenState → OpenState
among_rows position opened = record opened { rows = position; current = None; last_read = None }

abbrev pub stood_by : Option JoinOrder → Side → StandAt → List (List KeyPart) → OpenState → OpenState
stood_by None side at formats opened = positioned None (stood side (merged_parts formats) at) opened
stood_by (Some join) side at formats opened = among_rows (rows.stood side join.parts at) opened

-- the place of a row that was read
abbrev pub place_by : Option JoinOrder → RowRead → RowPlace
place_by None read = place_of [] read.join.spec.now read.join.members.now.members read.row.now
place_by (Some join) read = place_of join.parts read.join.spec.now read.join.members.now.members read.row.now

-- the state of an open that reads in this order
abbrev pub state_after : OpenChange → OpenOrder → OpenState → OpenState
state_after (Positioned number side at) order = λ opened. if opened.number == number then stood_by order.join side at order.formats opened else opened
state_after (HasRead number call hit) order = λ opened. if opened.number == number then has_read call (entry_found (entry_hit (merged_parts order.formats) hit)) opened else opened
state_after (HasReadRow number call read) order = λ opened. if opened.number == number then has_read call (row_found (place_by order.join read)) opened else opened
state_after (WithoutCurrent number) order = λ opened. if opened.number == number then without_current opened else opened
state_after (WithoutRecord member rrn) order = without_record member rrn
state_after Committed order = committed_open
state_after RolledBack order = rolled_back_open

-- how it reads stays
abbrev pub open_after : OpenChange → KeptOpen → KeptOpen
open_after change kept = record kept { state = state_after change kept.order kept.state }

-- the open can stand there
abbrev pub CanStand : Option JoinOrder → List (List KeyPart) → StandAt → Type 0
CanStand None formats at = IsStandAt formats at
CanStand (Some join) formats at = rows.IsStandAt join.parts at

-- the row is one of the join file of the open
abbrev pub IsRowRead : Option JoinOrder → RowRead → Type 0
IsRowRead None read = ⊥
IsRowRead (Some join) read =
    (map (λ file. file.sequence) read.join.spec.now.secondaries ≡ join.sequences) × CanBeKept join.parts read.join.spec.now read.join.members.now.members read.row.now

-- of a join file, or of another, by what its definitions say of a position that is set
abbrev pub IsStood : Option JoinView → Option JoinOrder → Side → StandAt → List (List KeyPart) → Position PathEntry → Type 0
IsStood None None side at formats position = stood side (merged_parts formats) at ≡ position
IsStood None (Some join) side at formats position = ⊥
IsStood (Some view) None side at formats position = ⊥
IsStood (Some view) (Some join) side at formats position = stood side join.parts at ≡ position

-- what is asked before: where a position is set, it is one of the open's formats, or of its rows, and what a read found is in one
abbrev pub CanMake : OpenChange → OpenOrder → Type 0
CanMake (Positioned number side at) order = order.number ≡ number → CanStand order.join order.formats at
CanMake (HasReadRow number call read) order = order.number ≡ number → IsRowRead order.join read
CanMake (HasRead number call hit) order = order.number ≡ number → IsEntryIn order.formats (entry_of hit)
CanMake (WithoutCurrent number) order = Unit {0}
CanMake (WithoutRecord member rrn) order = Unit {0}
CanMake Committed order = Unit {0}
CanMake RolledBack order = Unit {0}

-- the opens of a job, of which it is told beside how each reads
abbrev pub opens_after : OpenChange → Named OpenState → Named OpenOrder → Named OpenState
opens_after change [] orders = []
opens_after change (entry ∷ opens) [] = []
opens_after change (entry ∷ opens) (order ∷ orders) = (entry.0, state_after change order.1 entry.1) ∷ opens_after change opens orders

abbrev pub job_after : OpenChange → Named OpenOrder → JobState → JobState
job_after change orders job = record job { opens = opens_after change job.opens orders }
