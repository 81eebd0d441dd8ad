-- What is asked of an open, and among what does it find it? (Database Programming, "Reading database records"; ILE RPG Reference, "READE" and "CHAIN".)
use Rattle.std.specs.Prelude.{◌≡◌, ℕ, Bool, List, map, All, Option, None}
use Rattle.key_spec.specs.declared.KeyPart.{KeyPart}
use Rattle.key_pages.specs.declared.entries.Entry.{Entry}
use Rattle.key_pages.specs.EntryList.{EntryList}
use Rattle.member_slots.specs.Member.{MemberState}
use Rattle.member_slots.specs.Members.{NumberedMembers}
use Rattle.file_model.specs.declared.paths.PathSpec.{PathSpec}
use Rattle.file_model.specs.KeyOrder.{given_key, merged_parts}
use Rattle.file_model.specs.Paths.{PathEntry, path}
use Rattle.file_model.specs.Positions.{Bound, KeyBound, NumberBound, Position, Start, End, Before, Past, Reading, next_from, prior_from, next_equal, prior_equal, chain_key, chain_number}
use Rattle.access_path.specs.PathBytes.{is_falling, in_bytes, IsInBytes}
use Rattle.access_path.specs.GivenValues.{key_fault}
use Rattle.key_values.specs.KeyValues.{values_in}
use Rattle.file_cursor.specs.CursorPosition.{CursorPosition, entry_of}
use Rattle.file_cursor.specs.Finding as bytes
use Rattle.file_cursor.specs.PositionBytes.{HasKeysWithin}
use Rattle.file_cursor.specs.Reading.{AreNumbered, IsByNumber}
use Rattle.file_cursor.specs.declared.places.Hit.{Hit}
use Rattle.file_cursor.specs.declared.places.Order.{Order}
use Rattle.file_cursor.specs.declared.places.Order.TheVariants.{Arrival, Path}
use Rattle.open_position.specs.declared.reads.ReadBy.{ReadBy}
use Rattle.open_position.specs.declared.reads.ReadBy.TheVariants as asked
use Rattle.open_position.specs.declared.position.Side.{Side}
use Rattle.open_position.specs.declared.position.Side.TheVariants as sides
use Rattle.open_position.specs.declared.position.StandAt.{StandAt}
use Rattle.open_position.specs.declared.position.StandAt.TheVariants as places
use Rattle.open_position.specs.OpenStand.{AreGivenBytes, HasNoKey, entry_by}

-- ---- setting a position

abbrev pub side_of : Side → Bound → Position PathEntry
side_of sides.Before bound = Before bound
side_of sides.Past bound = Past bound

-- to this side of a place, by the positions of the file's key
abbrev pub stood : Side → List KeyPart → StandAt → Position PathEntry
stood side parts places.Low = Start
stood side parts places.High = End
stood side parts (places.Values values) = side_of side (KeyBound (given_key parts values.now))
stood side parts (places.Number rrn) = side_of side (NumberBound rrn)

-- an open of these formats can stand there: by values that its key can have, by a number where it has no key
abbrev pub IsStandAt : List (List KeyPart) → StandAt → Type 0
IsStandAt formats places.Low = Unit {0}
IsStandAt formats places.High = Unit {0}
IsStandAt formats (places.Values values) = key_fault (merged_parts formats) values.now ≡ None
IsStandAt formats (places.Number rrn) = HasNoKey formats

-- ---- reading

-- what a read finds in a reading, from a position
abbrev pub asked_of : ReadBy → List KeyPart → Reading PathEntry → Position PathEntry → Option PathEntry
asked_of asked.Next parts reading position = next_from reading position
asked_of asked.Prior parts reading position = prior_from reading position
asked_of (asked.NextEqual key) parts reading position = next_equal reading (values_in parts key.now) position
asked_of (asked.PriorEqual key) parts reading position = prior_equal reading (values_in parts key.now) position
asked_of (asked.FirstEqual key) parts reading position = chain_key reading (values_in parts key.now)
asked_of (asked.Number rrn) parts reading position = chain_number reading rrn

-- what is asked for can be asked of these formats
abbrev pub IsAskedOf : List (List KeyPart) → ReadBy → Type 0
IsAskedOf formats asked.Next = Unit {0}
IsAskedOf formats asked.Prior = Unit {0}
IsAskedOf formats (asked.NextEqual key) = AreGivenBytes (merged_parts formats) key.now
IsAskedOf formats (asked.PriorEqual key) = AreGivenBytes (merged_parts formats) key.now
IsAskedOf formats (asked.FirstEqual key) = AreGivenBytes (merged_parts formats) key.now
IsAskedOf formats (asked.Number rrn) = HasNoKey formats

-- an open without a key reads in arrival order, or by a path whose entries stand by their numbers; one with a key by a path
abbrev pub IsOrderOf : List (List KeyPart) → Order → Type 0
IsOrderOf formats (Arrival member) = HasNoKey formats
IsOrderOf formats (Path path) = HasNoKey formats → AreNumbered path.now

abbrev pub IsByPath : Order → Type 0
IsByPath (Arrival member) = ⊥
IsByPath (Path path) = Unit {0}

-- a key is looked up along a path alone
abbrev pub IsLookedUp : ReadBy → Order → Type 0
IsLookedUp asked.Next over = Unit {0}
IsLookedUp asked.Prior over = Unit {0}
IsLookedUp (asked.NextEqual key) over = Unit {0}
IsLookedUp (asked.PriorEqual key) over = Unit {0}
IsLookedUp (asked.FirstEqual key) over = IsByPath over
IsLookedUp (asked.Number rrn) over = Unit {0}

-- what a cursor asks of an order: also that a number is looked up where records stand by their numbers
abbrev pub CanFind : ReadBy → Order → Type 0
CanFind asked.Next over = Unit {0}
CanFind asked.Prior over = Unit {0}
CanFind (asked.NextEqual key) over = Unit {0}
CanFind (asked.PriorEqual key) over = Unit {0}
CanFind (asked.FirstEqual key) over = IsByPath over
CanFind (asked.Number rrn) over = IsByNumber over

-- what a read finds among entries in bytes, from a position in bytes
abbrev pub found_of : ReadBy → (falling : Bool) → List Entry → CursorPosition → Option Entry
found_of asked.Next falling entries position = bytes.next_from falling entries position
found_of asked.Prior falling entries position = bytes.prior_from falling entries position
found_of (asked.NextEqual key) falling entries position = bytes.next_equal falling entries key.now position
found_of (asked.PriorEqual key) falling entries position = bytes.prior_equal falling entries key.now position
found_of (asked.FirstEqual key) falling entries position = bytes.chain_key key.now entries
found_of (asked.Number rrn) falling entries position = bytes.chain_number rrn entries

-- what holds of the entries of the path that is read
abbrev pub IfPath : Order → (EntryList → Type 0) → Type 0
IfPath (Arrival member) P = Unit {0}
IfPath (Path path) P = P path.now

-- what holds of the member that is read in arrival order
abbrev pub IfArrival : Order → (MemberState → Type 0) → Type 0
IfArrival (Arrival member) P = P member.now.state
IfArrival (Path path) P = Unit {0}

-- ---- among what it is found

-- the entries are those of a path over these members, whose keys have these positions
pub record IsPathOver (formats : List (List KeyPart)) (spec : PathSpec) (members : NumberedMembers) (list : EntryList) : Type 0 where
  pub keys : map (λ format. format.key) spec.formats ≡ formats
  pub entries : list.entries ≡ map (in_bytes spec.formats) (path spec members)
  pub falling : list.falling ≡ is_falling spec.ties
  pub comparable : IsInBytes spec members
  pub held : (most : ℕ) × All (HasKeysWithin most members) spec.formats

-- the entry that a hit shows
abbrev pub entry_hit : List KeyPart → Hit → PathEntry
entry_hit parts hit = entry_by parts (entry_of hit)
