-- What a row compares: the records of a path, and what reads find one after another.
use Rattle.std.specs.Prelude.{ℕ, zero, suc, List, [], ◌∷◌, map, Option, Some, None}
use Rattle.std.specs.Option.{option_map}
use Rattle.member_slots.specs.Members.{NumberedMembers}
use Rattle.file_model.specs.declared.paths.PathSpec.{PathSpec}
use Rattle.file_model.specs.declared.joins.JoinSpec.{JoinSpec}
use Rattle.file_model.specs.Joins.{RowPlace, Match, NoRecord, RecordAt, rows_of, row_image}
use Rattle.file_model.specs.Paths.{PathEntry, path}
use Rattle.file_model.specs.Positions.{Position, On, Reading, next_from, prior_from, path_reading, join_reading}

abbrev pub rrn_of : PathEntry → ℕ
rrn_of entry = entry.rrn

-- the format, numbered from 0, and the relative record number
abbrev pub place_of : PathEntry → ℕ × ℕ
place_of entry = (entry.format, entry.rrn)

-- the relative record number of a secondary's record, 0 where there is none
abbrev pub match_rrn : Match → ℕ
match_rrn NoRecord = 0
match_rrn (RecordAt sequence rrn) = rrn

-- the relative record numbers of a row
abbrev pub row_rrns : RowPlace → List ℕ
row_rrns place = place.primary.rrn ∷ map match_rrn place.matches

-- the records of a path
abbrev pub rrns_of : PathSpec → NumberedMembers → List ℕ
rrns_of spec members = map rrn_of (path spec members)

abbrev pub places_of : PathSpec → NumberedMembers → List (ℕ × ℕ)
places_of spec members = map place_of (path spec members)

-- the images of the rows of a join file
abbrev pub images_of : JoinSpec → NumberedMembers → List (List ℕ)
images_of spec members = map (row_image spec) (rows_of spec members)

-- an access path and the rows of a join file, to be read
abbrev pub reading_of : PathSpec → NumberedMembers → Reading PathEntry
reading_of spec members = path_reading spec.ties (path spec members)

abbrev pub rows_to_read : JoinSpec → NumberedMembers → Reading RowPlace
rows_to_read spec members = join_reading spec.primary.ties (rows_of spec members)

-- on what was found, or where the open stood
abbrev pub moved : {A : Type 0} → Position A → Option A → Position A
moved position None = position
moved position (Some item) = On item

-- what so many READs find, one after another
abbrev pub reads : {A : Type 0} → ℕ → Reading A → Position A → List (Option A)
reads zero reading position = []
reads (suc n) reading position = next_from reading position ∷ reads n reading (moved position (next_from reading position))

-- what so many READPs find
abbrev pub reads_back : {A : Type 0} → ℕ → Reading A → Position A → List (Option A)
reads_back zero reading position = []
reads_back (suc n) reading position = prior_from reading position ∷ reads_back n reading (moved position (prior_from reading position))

abbrev pub numbers : List (Option PathEntry) → List (Option ℕ)
numbers found = map (option_map rrn_of) found

abbrev pub row_numbers : List (Option RowPlace) → List (Option (List ℕ))
row_numbers found = map (option_map row_rrns) found
