-- Which row does a read find, level by level: an entry of the primary's path, and then a record of each secondary?
-- (Database Programming, "Reading database records"; DDS for Physical and Logical Files, join logical files.)
use Rattle.std.specs.Prelude.{Bool, true, false, not, List, map, filter, reverse, Option, Some, None, if◌then◌else◌}
use Rattle.std.specs.List.{find}
use Rattle.std.specs.declared.cmp.Ordering.TheVariants.{Less, Greater}
use Rattle.std.specs.Ordering.{ordering_then, is_lt, is_eq, is_gt}
use Rattle.key_spec.specs.declared.Ties.{Ties}
use Rattle.member_slots.specs.Members.{NumberedMembers}
use Rattle.file_model.specs.declared.joins.Secondary.{Secondary}
use Rattle.file_model.specs.declared.joins.JoinSpec.{JoinSpec}
use Rattle.file_model.specs.Joins.{Match, Matched, RowPlace, JoinRow, compare_matches, matches_of, or_missing, row_with, primary_row, primary_records, rows_of}
use Rattle.file_model.specs.Paths.{PathEntry, compare_entries, path}
use Rattle.file_model.specs.Positions.{Position, Reading, Start, End, On, Before, Past, compare_bound, side_of, join_reading}
use Rattle.join_rows.specs.Levels.{first_of, next_leaf, prior_leaf}

-- ---- what a read finds

abbrev pub rows_reading : JoinSpec → NumberedMembers → Reading RowPlace
rows_reading spec members = join_reading spec.primary.ties (rows_of spec members)

-- the first row after a position
abbrev pub next_row : JoinSpec → NumberedMembers → Position RowPlace → Option JoinRow
next_row spec members position = find (λ row. is_gt (side_of (rows_reading spec members) position row.place)) (rows_of spec members)

-- the last row before it
abbrev pub prior_row : JoinSpec → NumberedMembers → Position RowPlace → Option JoinRow
prior_row spec members position = find (λ row. is_lt (side_of (rows_reading spec members) position row.place)) (reverse (rows_of spec members))

-- ---- level by level

-- what a row becomes by a secondary file
abbrev pub level_of : (keeps_missing : Bool) → NumberedMembers → Secondary → JoinRow → List Matched
level_of keeps_missing members file row = or_missing keeps_missing file (matches_of file members row)

abbrev pub levels_of : (keeps_missing : Bool) → NumberedMembers → List Secondary → List (JoinRow → List Matched)
levels_of keeps_missing members files = map (level_of keeps_missing members) files

abbrev pub match_of : Matched → Match
match_of m = m.match

-- the row of an entry alone
abbrev pub row_of_entry : JoinSpec → NumberedMembers → PathEntry → JoinRow
row_of_entry spec members entry = primary_row (primary_records spec.primary.formats members) entry

-- what is left of a position below an entry of the primary's path
abbrev pub below_entry : Ties → Position RowPlace → PathEntry → Option (List Match)
below_entry ties Start entry = None
below_entry ties End entry = None
below_entry ties (On place) entry = if is_eq (compare_entries ties entry place.primary) then Some place.matches else None
below_entry ties (Before bound) entry = None
below_entry ties (Past bound) entry = None

-- an entry that may have a row after the position
abbrev pub entry_isnt_before : Ties → Position RowPlace → PathEntry → Bool
entry_isnt_before ties Start entry = true
entry_isnt_before ties End entry = false
entry_isnt_before ties (On place) entry = not (is_lt (compare_entries ties entry place.primary))
entry_isnt_before ties (Before bound) entry = is_gt (ordering_then (compare_bound bound entry) Greater)
entry_isnt_before ties (Past bound) entry = is_gt (ordering_then (compare_bound bound entry) Less)

-- an entry that may have a row before it
abbrev pub entry_isnt_after : Ties → Position RowPlace → PathEntry → Bool
entry_isnt_after ties Start entry = false
entry_isnt_after ties End entry = true
entry_isnt_after ties (On place) entry = not (is_gt (compare_entries ties entry place.primary))
entry_isnt_after ties (Before bound) entry = is_lt (ordering_then (compare_bound bound entry) Greater)
entry_isnt_after ties (Past bound) entry = is_lt (ordering_then (compare_bound bound entry) Less)

-- the first row below an entry, or below a row so far, after what is left of a position
abbrev pub next_below : (keeps_missing : Bool) → NumberedMembers → List Secondary → JoinRow → Option (List Match) → Option JoinRow
next_below keeps_missing members files row from = next_leaf row_with match_of compare_matches (levels_of keeps_missing members files) row from

abbrev pub prior_below : (keeps_missing : Bool) → NumberedMembers → List Secondary → JoinRow → Option (List Match) → Option JoinRow
prior_below keeps_missing members files row from = prior_leaf row_with match_of compare_matches (levels_of keeps_missing members files) row from

-- the first row after a position, by the entries of the primary's path
abbrev pub next_by_levels : JoinSpec → NumberedMembers → Position RowPlace → Option JoinRow
next_by_levels spec members position =
    first_of (λ entry. next_below spec.keeps_missing members spec.secondaries (row_of_entry spec members entry) (below_entry spec.primary.ties position entry))
    (filter (entry_isnt_before spec.primary.ties position) (path spec.primary members))

-- the last row before it
abbrev pub prior_by_levels : JoinSpec → NumberedMembers → Position RowPlace → Option JoinRow
prior_by_levels spec members position =
    first_of (λ entry. prior_below spec.keeps_missing members spec.secondaries (row_of_entry spec members entry) (below_entry spec.primary.ties position entry))
    (reverse (filter (entry_isnt_after spec.primary.ties position) (path spec.primary members)))
