-- What does a join file need so that its rows can be read below a row so far, and where does a position stand there in
-- bytes? (Our own.)
use Rattle.std.specs.Prelude.{◌≡◌, ℕ, ◌+◌, ◌<◌, Bool, List, [], ◌∷◌, length, Option, Some, None, All, if◌then◌else◌}
use Rattle.std.specs.List.{AllByRecursion}
use Rattle.key_pages.specs.EntryList.{EntryList}
use Rattle.member_slots.specs.Member.{records}
use Rattle.member_slots.specs.Members.{NumberedMembers, member_of}
use Rattle.file_model.specs.declared.joins.Secondary.{Secondary}
use Rattle.file_model.specs.Joins.{Match, NoRecord, RecordAt, JoinRow, image_in, secondary_path}
use Rattle.access_path.specs.KeyFields.{AreBytes}
use Rattle.join_rows.specs.declared.positions.MatchPlace.{MatchPlace}
use Rattle.join_rows.specs.declared.positions.MatchPlace.TheVariants.{Missing, Record}
use Rattle.join_rows.specs.declared.positions.Left.{Left}
use Rattle.join_rows.specs.declared.positions.Left.TheVariants.{Nothing, Places}
use Rattle.join_rows.specs.NextRow.{next_below, prior_below}
use Rattle.join_rows.specs.WantedBytes.{CanBeSought}
use Rattle.join_rows.specs.Places.{IsPathOf, AreJoinable, IsMatchOf, sequence_bytes}

-- ---- what is read

-- records of a secondary file can be looked for by this image
pub record IsFrom (image : List ℕ) (file : Secondary) : Type 0 where
  pub bytes : AreBytes image
  pub sought : AllByRecursion (CanBeSought image) file.pairs

-- those of each file that is joined from the file at this place in JFILE
abbrev pub Feeds : (number : ℕ) → List Secondary → List ℕ → Type 0
Feeds number files image = AllByRecursion (λ file. file.from ≡ number → IsFrom image file) files

-- and those of each file that is joined from a file of the row so far
abbrev pub AreFed : List (List ℕ) → List Secondary → Type 0
AreFed images files = AllByRecursion (λ file. file.from < length images → IsFrom (image_in file.from images) file) files

-- a secondary file at this place in JFILE, before these, can be read by its path
pub record IsReadable (members : NumberedMembers) (number : ℕ) (file : Secondary) (further : List Secondary) (list : EntryList) : Type 0 where
  -- it is joined from an earlier file
  pub from : file.from < number
  pub path : IsPathOf list (secondary_path file) members
  pub joinable : AreJoinable file members
  pub records : All (λ pair. Feeds number further pair.1) (records (member_of file.member members))
  pub default : Feeds number further file.default

-- and so can those from this place on
abbrev pub AreReadable : NumberedMembers → (number : ℕ) → List Secondary → List EntryList → Type 0
AreReadable members number [] lists = Unit {0}
AreReadable members number (file ∷ files) [] = ⊥
AreReadable members number (file ∷ files) (list ∷ lists) = IsReadable members number file files list × AreReadable members (number + 1) files lists

-- ---- what is left of a position

abbrev pub left_list : Left → Option (List MatchPlace)
left_list Nothing = None
left_list (Places places) = Some places.now

abbrev pub first_place : List MatchPlace → Option MatchPlace
first_place [] = None
first_place (place ∷ places) = Some place

abbrev pub after_first : List MatchPlace → Option (List MatchPlace)
after_first [] = None
after_first (place ∷ places) = Some places

-- the place of the next file, and what is left below it
abbrev pub place_in : Option (List MatchPlace) → Option MatchPlace
place_in None = None
place_in (Some places) = first_place places

abbrev pub rest_in : Option (List MatchPlace) → Option (List MatchPlace)
rest_in None = None
rest_in (Some places) = after_first places

-- a place in bytes stands for a record of a position
abbrev pub IsPlaceOf : Secondary → MatchPlace → Match → Type 0
IsPlaceOf file Missing NoRecord = Unit {0}
IsPlaceOf file Missing (RecordAt v rrn) = ⊥
IsPlaceOf file (Record sequence number) NoRecord = ⊥
IsPlaceOf file (Record sequence number) (RecordAt v rrn) = (sequence.now ≡ sequence_bytes file.sequence v) × (number ≡ rrn) × (rrn < 4294967295) × IsMatchOf file (RecordAt v rrn)

-- a place for each secondary file
abbrev pub ArePlacesOf : List Secondary → List MatchPlace → List Match → Type 0
ArePlacesOf [] [] [] = Unit {0}
ArePlacesOf [] [] (m ∷ matches) = ⊥
ArePlacesOf [] (p ∷ places) matches = ⊥
ArePlacesOf (file ∷ files) [] matches = ⊥
ArePlacesOf (file ∷ files) (p ∷ places) [] = ⊥
ArePlacesOf (file ∷ files) (p ∷ places) (m ∷ matches) = IsPlaceOf file p m × ArePlacesOf files places matches

-- what is left in bytes stands for what is left
abbrev pub IsLeft : List Secondary → Option (List MatchPlace) → Option (List Match) → Type 0
IsLeft files None None = Unit {0}
IsLeft files None (Some matches) = ⊥
IsLeft files (Some places) None = ⊥
IsLeft files (Some places) (Some matches) = ArePlacesOf files places matches

-- ---- what is found

-- below the last file stands the row itself, unless it is that of the position
abbrev pub leaf_numbers : Option (List MatchPlace) → Option (List (Option ℕ))
leaf_numbers None = Some []
leaf_numbers (Some places) = None

-- the first row below a row so far after what is left of a position, or the last before it
abbrev pub found_below : (back keeps_missing : Bool) → NumberedMembers → List Secondary → JoinRow → Option (List Match) → Option JoinRow
found_below back keeps_missing members files row from = if back then prior_below keeps_missing members files row from else next_below keeps_missing members files row from
