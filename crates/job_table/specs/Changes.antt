-- What contracts see of a job's changes: the changes of its open commit cycle, the moves in the access paths that take each back, and for how many
-- changes it has room. (Our own.)
use Rattle.std.specs.Prelude.{◌≡◌, ℕ, ◌+◌, ◌-◌, ◌<◌, ◌≤◌, ◌==◌, ◌&&◌, Bool, Option, Some, None, List, [], length, map}
use Rattle.std.specs.List.{sum_by}
use Rattle.std.specs.Option.{option_map}
use Rattle.member_slots.specs.declared.slot.Slot.{Slot}
use Rattle.journal_model.specs.Rollback.{MemberChange}
use Rattle.path_set.specs.declared.moves.PathMove.{PathMove}
use Rattle.lawful_states.below.library_steps.specs.declared.limits.TheConstants.{MOST_GROUP_BYTES}
use Rattle.lawful_states.specs.State.{CycleState}
use Rattle.lawful_states.specs.SlotChange.{change_bytes}

-- a change as it is kept: with the moves that take it back in all paths
pub record KeptUndo : Type 0 where
  pub change : MemberChange
  pub moves : List PathMove

-- changes, the last one first, the moves that take each back, and for how many there is room in all
pub record RoomyChanges : Type 0 where
  pub changes : List MemberChange
  pub moves : List (List PathMove)
  pub room : ℕ

-- the open commit cycle of a job, the moves that take each of its changes back, and for how many changes there is room in all
pub record RoomyCycle : Type 0 where
  pub cycle : Option CycleState
  pub moves : List (List PathMove)
  pub room : ℕ

abbrev pub changes_of : List KeptUndo → List MemberChange
changes_of undos = map (λ undo. undo.change) undos

abbrev pub moves_of : List KeptUndo → List (List PathMove)
moves_of undos = map (λ undo. undo.moves) undos

-- there is room for one change more
abbrev pub HasRoom : List MemberChange → ℕ → Type 0
HasRoom changes room = length changes < room

-- the cycle with its start and its changes
abbrev pub cycle_of : Option ℕ → List MemberChange → Option CycleState
cycle_of started changes = option_map (λ sequence. record { sequence = sequence; undos = changes }) started

-- the bytes of images in the entries that would take these changes back
abbrev pub bytes_of : List MemberChange → ℕ
bytes_of changes = sum_by change_bytes changes

-- a change of the record with this number, in a commit cycle, of one slot to another
abbrev pub change_of : (member rrn cycle : ℕ) → (before after : Slot) → MemberChange
change_of member rrn cycle before after =
    record { member = member; change = record { place = rrn - 1; cycle = Some cycle; before = Some before; after = after } }

-- the bytes of the changes are counted, and are no more than commit cycles may have
pub record AreWeighed (changes : List MemberChange) (bytes : ℕ) : Type 0 where
  pub bytes_are : bytes ≡ bytes_of changes
  pub few : bytes ≤ MOST_GROUP_BYTES

-- there is a cycle wherever there are changes
abbrev pub IsOfCycle : Option ℕ → List MemberChange → Type 0
IsOfCycle started changes = started ≡ None → changes ≡ []

abbrev pub is_of_member : ℕ → MemberChange → Bool
is_of_member member undo = undo.member == member

abbrev pub is_of_record : (member rrn : ℕ) → MemberChange → Bool
is_of_record member rrn undo = (undo.member == member) && (undo.change.place + 1 == rrn)
