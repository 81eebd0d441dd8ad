-- Which entries does a library deposit, beyond that they can be replayed? (Journal Management, "Journal code finder". That only journaled members have
-- entries of their records is this project's own.)
use Rattle.std.specs.Prelude.{◌≡◌, Bool, true, false, ◌&&◌, ◌||◌, not, IsSome, IsTrue, Option, Some, None, List, [], ◌∷◌}
use Rattle.std.specs.List.{AllByRecursion}
use Rattle.std.specs.Option.{is_some}
use Rattle.entry_codec.specs.declared.entries.Entry.{Entry}
use Rattle.entry_codec.specs.declared.places.Place.{Place}
use Rattle.entry_codec.specs.declared.places.Place.TheVariants.{Library, Member, Slot, Record, Commitment, CycleStart, CycleEnd}
use Rattle.entry_codec.specs.Placing.{is_placed, place}
use Rattle.journal_model.specs.Catalogue.{Catalogue, CatalogMember, catalogue_by, empty_catalogue, member_numbered}
use Rattle.journal_model.specs.Journal.{OfMember}

-- an entry with this place names a record
abbrev pub is_of_record : Place → Bool
is_of_record Library = false
is_of_record Member = false
is_of_record Slot = true
is_of_record Record = true
is_of_record Commitment = false
is_of_record CycleStart = false
is_of_record CycleEnd = false

-- an entry of a record is of a member that is journaled when it comes
abbrev pub IsJournaledThen : Catalogue → Entry → Type 0
IsJournaledThen c e = is_of_record (place e.kind) ≡ true → OfMember (member_numbered e.member c) (λ member. IsSome member.images)

abbrev pub AreJournaled : Catalogue → List Entry → Type 0
AreJournaled c [] = Unit {0}
AreJournaled c (e ∷ entries) = IsJournaledThen c e × AreJournaled (catalogue_by e.kind e c) entries

-- each names a commit cycle, a member and a record as its kind wants: no other entry is read from the disk
abbrev pub ArePlaced : List Entry → Type 0
ArePlaced entries = AllByRecursion (λ e. IsTrue (is_placed e)) entries

pub record AreDeposited (entries : List Entry) : Type 0 where
  pub placed : ArePlaced entries
  pub journaled : AreJournaled empty_catalogue entries

-- ---- tested

-- a member that is there is journaled
abbrev pub is_journaled : Option CatalogMember → Bool
is_journaled None = true
is_journaled (Some member) = is_some member.images

abbrev pub is_journaled_then : Catalogue → Entry → Bool
is_journaled_then c e = not (is_of_record (place e.kind)) || is_journaled (member_numbered e.member c)

abbrev pub may_be_deposited : Catalogue → Entry → Bool
may_be_deposited c e = is_placed e && is_journaled_then c e
