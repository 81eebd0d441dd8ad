-- Where does an open of a join file stand, and where can it be set? (Database Programming, "Setting a position in the file"; DDS for
-- Physical and Logical Files, "JDUPSEQ". That a join file isn't set by relative record numbers is this project's own.)
use Rattle.std.specs.Prelude.{◌≡◌, None, List}
use Rattle.key_spec.specs.declared.KeyPart.{KeyPart}
use Rattle.file_model.specs.KeyOrder.{given_key}
use Rattle.file_model.specs.Joins.{RowPlace}
use Rattle.file_model.specs.Positions.{Bound, KeyBound, NumberBound, Position, Start, End, Before, Past}
use Rattle.access_path.specs.GivenValues.{key_fault}
use Rattle.open_position.specs.declared.position.Side.{Side}
use Rattle.open_position.specs.declared.position.Side.TheVariants as sides
use Rattle.open_position.specs.declared.position.StandAt.{StandAt}
use Rattle.open_position.specs.declared.position.StandAt.TheVariants as places

-- where an open of a join file stands; the positions of the primary's key, and that of JDUPSEQ in each secondary file
pub record JoinStand : Type 0 where
  pub position : Position RowPlace
  pub parts : List KeyPart
  pub sequences : List KeyPart

-- ---- setting a position

abbrev pub side_of : Side → Bound → Position RowPlace
side_of sides.Before bound = Before bound
side_of sides.Past bound = Past bound

-- to this side of a place, by the positions of the primary's key
abbrev pub stood : Side → List KeyPart → StandAt → Position RowPlace
stood side parts places.Low = Start
stood side parts places.High = End
stood side parts (places.Values values) = side_of side (KeyBound (given_key parts values.now))
stood side parts (places.Number rrn) = side_of side (NumberBound rrn)

-- an open can stand there: by values that the primary's key can have
abbrev pub IsStandAt : List KeyPart → StandAt → Type 0
IsStandAt parts places.Low = Unit {0}
IsStandAt parts places.High = Unit {0}
IsStandAt parts (places.Values values) = key_fault parts values.now ≡ None
IsStandAt parts (places.Number rrn) = ⊥
