-- How does an open keep where it stands? (Our own.)
use Rattle.std.specs.Prelude.{◌≡◌, ℕ, ◌≤◌, Bool, Option, Some, None, List, length, IsTrue}
use Rattle.key_spec.specs.declared.KeyPart.{KeyPart}
use Rattle.key_spec.specs.declared.KeyPart.TheVariants.{Absent}
use Rattle.file_model.specs.KeyOrder.{either_part, merged_parts}
use Rattle.access_path.below.key_order.specs.declared.widths.TheConstants.{MOST_POSITIONS}
use Rattle.access_path.specs.KeyFields.{ArePositions, key_width}
use Rattle.file_cursor.specs.declared.places.Place.{Place}
use Rattle.file_cursor.specs.CursorPosition.{CursorState, CursorPosition, lower_limit, greater_than}
use Rattle.open_position.specs.declared.position.Side.{Side}
use Rattle.open_position.specs.declared.position.Side.TheVariants.{Before, Past}
use Rattle.open_position.specs.OpenStand.{OpenStand, AreFormatKeys, position_by, IsStandIn}

-- what a cursor stands for, in an open of formats with these positions of the key
abbrev pub stand_of : List (List KeyPart) → CursorState → Bool → OpenStand
stand_of formats cursor marks = record {
  position = position_by (merged_parts formats) cursor.position;
  boundary = position_by (merged_parts formats) cursor.kept;
  formats = formats;
  marks = marks;
}

-- both positions are some that the open can have, and there is room for a key, with marks in both; the positions of all formats together are at hand
pub record IsKeptStand (formats : List (List KeyPart)) (merged : List KeyPart) (cursor : CursorState) (marks : Bool) : Type 0 where
  pub merged_are : merged ≡ merged_parts formats
  pub keys : AreFormatKeys formats
  pub position : IsStandIn formats cursor.position
  pub boundary : IsStandIn formats cursor.kept
  pub room : key_width (merged_parts formats) ≤ cursor.room
  pub kept_room : IsTrue marks → cursor.room ≤ cursor.kept_room

-- ---- the positions of two formats

-- of those at one place, where they have one, the first
abbrev pub either_at : Option KeyPart → Option KeyPart → KeyPart
either_at None None = Absent
either_at None (Some other) = other
either_at (Some part) None = part
either_at (Some part) (Some other) = either_part part other

-- ---- setting a position

-- the positions of the key, and the bytes of the values that were given last
pub record KeyGiven : Type 0 where
  pub parts : List KeyPart
  pub bytes : List ℕ

-- the values can be compared with keys, and there is room for the bytes of any
pub record IsGivenKey (parts : List KeyPart) (capacity : ℕ) : Type 0 where
  pub few : length parts ≤ MOST_POSITIONS
  pub allowed : ArePositions parts
  pub room : key_width parts ≤ capacity

-- to this side of a place in bytes
abbrev pub side_in : Side → Place → CursorPosition
side_in Before to = lower_limit to
side_in Past to = greater_than to
