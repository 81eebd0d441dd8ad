-- What the journal tells of the records of the members that files have: records of the file's fields, at places that its members may have.
-- (Journal Management, "Before-images and after-images".)
use Rattle.std.specs.Prelude.{◌≡◌, ℕ, ◌*◌, ◌<◌, ◌≤◌, true, Option, Some, None, is_some, IfSome, List, length}
use Rattle.std.specs.List.{AllByRecursion}
use Rattle.entry_codec.specs.declared.entries.Entry.{Entry}
use Rattle.entry_codec.specs.Placing.{place}
use Rattle.member_slots.specs.declared.member.TheConstants.{MOST_SLOTS, MOST_BYTES}
use Rattle.record_fmt.specs.declared.formats.Field.{Field}
use Rattle.record_fmt.specs.Layout.{record_length}
use Rattle.record_fmt.specs.Records.{record_held}
use Rattle.journaled_entries.specs.Images.{images_of}
use Rattle.journaled_entries.specs.Deposited.{is_of_record}
use Rattle.library_model.specs.Named.{Named}
use Rattle.lawful_states.specs.Owners.{Owns}
use Rattle.lawful_states.specs.State.{State, FileState, fields_of}

-- a record of these fields: as long as they are together, with a value in each
pub record IsRecordOf (fields : List Field) (image : List ℕ) : Type 0 where
  pub long : length image ≡ record_length fields
  pub values : is_some (record_held fields image) ≡ true

-- a member with records of these fields may have one at this number
pub record MayHavePlace (fields : List Field) (rrn : ℕ) : Type 0 where
  pub counted : 1 ≤ rrn
  pub few : rrn ≤ MOST_SLOTS
  pub small : rrn * record_length fields ≤ MOST_BYTES

abbrev pub NamesPlace : List Field → Option ℕ → Type 0
NamesPlace fields None = ⊥
NamesPlace fields (Some rrn) = MayHavePlace fields rrn

-- the images of an entry are records of these fields, and the record that it names is at a place for them
pub record TellsRecord (fields : List Field) (e : Entry) : Type 0 where
  pub images : AllByRecursion (IsRecordOf fields) (images_of e.kind)
  pub place : is_of_record (place e.kind) ≡ true → NamesPlace fields e.rrn

-- the same of an entry that names a member which one of these files has
abbrev pub IsTold : Named FileState → Entry → Type 0
IsTold files e = (name : List ℕ) (file : FileState) (number : ℕ) → Owns files name file number → e.member ≡ Some number → TellsRecord (fields_of file) e

-- so are all entries that are kept, and none names a member that isn't made yet
pub record AreTold (s : State) : Type 0 where
  pub records : AllByRecursion (IsTold s.files) s.entries
  pub members : AllByRecursion (λ e. IfSome e.member (λ number. number < s.next_member)) s.entries
