-- Which rows can a position of an open be on, and what does it keep of them? (Our own.)
use Rattle.std.specs.Prelude.{◌≡◌, ◌≤◌, ◌<◌, List, [], ◌∷◌}
use Rattle.file_model.specs.declared.joins.Secondary.{Secondary}
use Rattle.file_model.specs.declared.joins.JoinSpec.{JoinSpec}
use Rattle.file_model.specs.Joins.{Match, NoRecord, RecordAt, RowPlace}
use Rattle.file_cursor.specs.PositionBytes.{IsEntryOf}
use Rattle.join_rows.specs.declared.positions.MatchPlace.{MatchPlace}
use Rattle.join_rows.specs.declared.positions.MatchPlace.TheVariants.{Missing, Record}
use Rattle.join_rows.specs.Places.{IsMatchOf, sequence_bytes}

-- a record that a row has of a secondary file
abbrev pub IsMatchAt : Secondary → Match → Type 0
IsMatchAt file NoRecord = Unit {0}
IsMatchAt file (RecordAt v rrn) = (rrn < 4294967295) × IsMatchOf file (RecordAt v rrn)

-- one of each file
abbrev pub AreMatchesOf : List Secondary → List Match → Type 0
AreMatchesOf [] [] = Unit {0}
AreMatchesOf [] (m ∷ matches) = ⊥
AreMatchesOf (file ∷ files) [] = ⊥
AreMatchesOf (file ∷ files) (m ∷ matches) = IsMatchAt file m × AreMatchesOf files matches

-- an entry of the primary's path, and records of the secondary files
pub record CanBeStoodOn (spec : JoinSpec) (place : RowPlace) : Type 0 where
  pub is_entry : IsEntryOf spec.primary.formats place.primary
  pub some : 1 ≤ place.primary.rrn
  pub most : place.primary.rrn < 4294967295
  pub matches : AreMatchesOf spec.secondaries place.matches

-- the bytes of the value under JDUPSEQ are kept of a record, and its number
abbrev pub IsKept : Secondary → MatchPlace → Match → Type 0
IsKept file Missing NoRecord = Unit {0}
IsKept file Missing (RecordAt v rrn) = ⊥
IsKept file (Record sequence number) NoRecord = ⊥
IsKept file (Record sequence number) (RecordAt v rrn) = (sequence.now ≡ sequence_bytes file.sequence v) × (number ≡ rrn)

abbrev pub AreKept : List Secondary → List MatchPlace → List Match → Type 0
AreKept [] [] [] = Unit {0}
AreKept [] [] (m ∷ matches) = ⊥
AreKept [] (p ∷ places) matches = ⊥
AreKept (file ∷ files) [] matches = ⊥
AreKept (file ∷ files) (p ∷ places) [] = ⊥
AreKept (file ∷ files) (p ∷ places) (m ∷ matches) = IsKept file p m × AreKept files places matches
