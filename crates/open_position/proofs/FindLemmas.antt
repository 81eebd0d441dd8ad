-- What a read finds in an order, by the position of an open.
use Rattle.std.proofs.Common.{◌≡◌, ℕ, Bool, Option, None, List, sym, subst}
use Rattle.std.specs.Prelude.{All, IfSome}
use Rattle.std.specs.Option.{option_map}
use Rattle.field_types.specs.declared.values.Value.{Value}
use Rattle.key_spec.specs.declared.KeyPart.{KeyPart}
use Rattle.key_pages.specs.EntryList.{EntryList}
use Rattle.member_slots.specs.Member.{MemberState}
use Rattle.member_slots.specs.Members.{NumberedMembers}
use Rattle.file_model.specs.declared.paths.PathSpec.{PathSpec}
use Rattle.file_model.specs.KeyOrder.{key_of, given_key, merged_parts}
use Rattle.file_model.specs.Paths.{path}
use Rattle.file_model.specs.Positions.{path_reading, arrival_reading}
use Rattle.access_path.specs.KeyBytes.{encoded, encoded_values}
use Rattle.access_path.specs.KeyFields.{AreBytes, ArePositions, HasKey}
use Rattle.access_path.specs.GivenValues.{IsOfBytes, key_fault}
use Rattle.key_values.specs.KeyValues.{values_in, AreAmong}
use Rattle.file_cursor.specs.declared.places.Hit.{Hit}
use Rattle.file_cursor.specs.declared.places.Order.{Order}
use Rattle.file_cursor.specs.declared.places.Order.TheVariants as orders
use Rattle.file_cursor.specs.CursorPosition.{CursorState, CursorPosition, entry_of}
use Rattle.file_cursor.specs.Reading.{falls, entries_in}
use Rattle.open_position.specs.declared.reads.ReadBy.{ReadBy}
use Rattle.open_position.specs.declared.reads.ReadBy.TheVariants as asked
use Rattle.open_position.specs.OpenStand.{OpenStand, AreFormatKeys, IsEntryIn, IsStandIn, parts_at, position_by}
use Rattle.open_position.specs.Kept.{stand_of, IsKeptStand}
use Rattle.open_position.specs.Reads.{asked_of, IsAskedOf, IsOrderOf, IsLookedUp, found_of, IfPath, IfArrival, IsPathOver, entry_hit}
use Rattle.open_position.proofs.StandLemmas.{among-at, in-one}
use Rattle.open_position.proofs.PathLemmas.{KeysBack, GivenBack, ShowsAsked, finds-in-path}
use Rattle.open_position.proofs.NumberLemmas.{NotFirst, finds-in-arrival}

-- ---- what is read back

module _ (formats : List (List KeyPart)) (keys : AreFormatKeys formats) where
  pub keys-back : ((own file : List KeyPart) (image : List ℕ) → AreAmong own file → AreBytes image → HasKey own image → values_in file (encoded own image) ≡ key_of own image)
      → KeysBack formats
  keys-back law number image low bytes has = law (parts_at formats number) (merged_parts formats) image (among-at formats keys number low) bytes has

  pub given-back : ((parts : List KeyPart) (values : List Value) → ArePositions parts → key_fault parts values ≡ None → All IsOfBytes values
      → values_in parts (encoded_values parts values) ≡ given_key parts values)
      → GivenBack (merged_parts formats)
  given-back law values good bytes = law (merged_parts formats) values keys.allowed good bytes

-- ---- in an order

pub path-so : (over : Order) (P Q : EntryList → Type 0) → ((list : EntryList) → P list → Q list) → IfPath over P → IfPath over Q
path-so (orders.Arrival member) P Q so is = tt
path-so (orders.Path kept) P Q so is = so kept.now is

pub arrival-so : (over : Order) (P Q : MemberState → Type 0) → ((member : MemberState) → P member → Q member) → IfArrival over P → IfArrival over Q
arrival-so (orders.Arrival member) P Q so is = so member.now.state is
arrival-so (orders.Path kept) P Q so is = tt

not-first : (member : _) (by : ReadBy) → IsLookedUp by (orders.Arrival member) → NotFirst by
not-first member asked.Next looked = tt
not-first member asked.Prior looked = tt
not-first member (asked.NextEqual key) looked = tt
not-first member (asked.PriorEqual key) looked = tt
not-first member (asked.FirstEqual key) looked = looked
not-first member (asked.Number rrn) looked = tt

module _ (formats : List (List KeyPart)) (by : ReadBy) (position : CursorPosition) (result : Option Hit) (stands : IsStandIn formats position) (can : IsAskedOf formats by) where
  pub by-path : (over : Order) → KeysBack formats → GivenBack (merged_parts formats) → option_map entry_of result ≡ found_of by (falls over) (entries_in over) position
      → (spec : PathSpec) (members : NumberedMembers) → IfPath over (λ list. IsPathOver formats spec members list → ShowsAsked formats by spec members position result)
  by-path (orders.Arrival member) back given found spec members = tt
  by-path (orders.Path kept) back given found spec members = λ is. finds-in-path spec members kept.now by position result found formats is back given stands can

abbrev pub ShowsNumber : (formats : List (List KeyPart)) → ReadBy → CursorPosition → Option Hit → MemberState → Type 0
ShowsNumber formats by position result member =
    (option_map (entry_hit (merged_parts formats)) result ≡ asked_of by (merged_parts formats) (arrival_reading member) (position_by (merged_parts formats) position))
    × IfSome result (λ hit. IsEntryIn formats (entry_of hit))

abbrev FindsNumber : ReadBy → CursorPosition → Option Hit → MemberState → List (List KeyPart) → Type 0
FindsNumber by position result member formats = IsStandIn formats position → IsAskedOf formats by → ShowsNumber formats by position result member

pub by-number : (formats : List (List KeyPart)) (by : ReadBy) (position : CursorPosition) (result : Option Hit) (over : Order) → IsOrderOf formats over → IsLookedUp by over
    → option_map entry_of result ≡ found_of by (falls over) (entries_in over) position → IsStandIn formats position → IsAskedOf formats by → IfArrival over (ShowsNumber formats by position result)
by-number formats by position result (orders.Arrival member) none looked found stands can =
    subst (FindsNumber by position result member.now.state) (sym none)
    (λ stands can. finds-in-arrival member.now.state by position result found stands can (not-first member by looked)) stands can
by-number formats by position result (orders.Path kept) none looked found stands can = tt

-- ---- what contracts see

-- what is found is what the definition finds, and can be stood on
pub record Finds (now : OpenStand) (over : Order) (by : ReadBy) (result : Option Hit) : Type 0 where
  pub by_path : (spec : PathSpec) (members : NumberedMembers) → IfPath over (λ list. IsPathOver now.formats spec members list
      → option_map (entry_hit (merged_parts now.formats)) result ≡ asked_of by (merged_parts now.formats) (path_reading spec.ties (path spec members)) now.position)
  pub by_number : IfArrival over (λ member. option_map (entry_hit (merged_parts now.formats)) result ≡ asked_of by (merged_parts now.formats) (arrival_reading member) now.position)
  pub bytes : (spec : PathSpec) (members : NumberedMembers) → IfPath over (λ list. IsPathOver now.formats spec members list → IfSome result (λ hit. IsEntryIn now.formats (entry_of hit)))
  pub bytes_by_number : IfArrival over (λ member. IfSome result (λ hit. IsEntryIn now.formats (entry_of hit)))

module _ (formats : List (List KeyPart)) (merged : List KeyPart) (cursor : CursorState) (marks : Bool) (kept : IsKeptStand formats merged cursor marks) (over : Order) (by : ReadBy) (result : Option Hit) where
  finds-here : IsOrderOf formats over → IsAskedOf formats by → IsLookedUp by over → KeysBack formats → GivenBack (merged_parts formats)
      → option_map entry_of result ≡ found_of by (falls over) (entries_in over) cursor.position → Finds (stand_of formats cursor marks) over by result
  finds-here order can looked back given found =
      let along = by-path formats by cursor.position result kept.position can over back given found in
      let numbered = by-number formats by cursor.position result over order looked found kept.position can in
      record {
        by_path = λ spec members.
            path-so over (λ list. IsPathOver formats spec members list → ShowsAsked formats by spec members cursor.position result)
            (λ list. IsPathOver formats spec members list
            → option_map (entry_hit (merged_parts formats)) result
            ≡ asked_of by (merged_parts formats) (path_reading spec.ties (path spec members)) (position_by (merged_parts formats) cursor.position))
            (λ list shows is. (shows is).0) (along spec members);
        by_number =
            arrival-so over (ShowsNumber formats by cursor.position result)
            (λ member. option_map (entry_hit (merged_parts formats)) result
            ≡ asked_of by (merged_parts formats) (arrival_reading member) (position_by (merged_parts formats) cursor.position))
            (λ member shows. shows.0) numbered;
        bytes = λ spec members.
            path-so over (λ list. IsPathOver formats spec members list → ShowsAsked formats by spec members cursor.position result)
            (λ list. IsPathOver formats spec members list → IfSome result (λ hit. IsEntryIn formats (entry_of hit)))
            (λ list shows is. (shows is).1) (along spec members);
        bytes_by_number =
            arrival-so over (ShowsNumber formats by cursor.position result) (λ member. IfSome result (λ hit. IsEntryIn formats (entry_of hit)))
            (λ member shows. shows.1) numbered;
      }

  pub finds : (now : OpenStand) → stand_of formats cursor marks ≡ now → IsOrderOf now.formats over → IsAskedOf now.formats by → IsLookedUp by over
      → ((own file : List KeyPart) (image : List ℕ) → AreAmong own file → AreBytes image → HasKey own image → values_in file (encoded own image) ≡ key_of own image)
      → ((parts : List KeyPart) (values : List Value) → ArePositions parts → key_fault parts values ≡ None → All IsOfBytes values
      → values_in parts (encoded_values parts values) ≡ given_key parts values)
      → option_map entry_of result ≡ found_of by (falls over) (entries_in over) cursor.position → Finds now over by result
  finds now is order can looked keys given found =
      subst (λ (s : OpenStand). Finds s over by result) is
      (finds-here
      (in-one (stand_of formats cursor marks) now is (λ fs. IsOrderOf fs over) order)
      (in-one (stand_of formats cursor marks) now is (λ fs. IsAskedOf fs by) can)
      looked
      (keys-back formats kept.keys keys)
      (given-back formats kept.keys given)
      found)
