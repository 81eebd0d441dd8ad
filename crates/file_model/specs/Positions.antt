-- Where does an open stand, and what does a read find from there? (Database Programming, "Reading database records"
-- and "Setting a position in the file". That a position keeps its values when the record there changes, that a read
-- which finds nothing leaves it, and what READP finds at the ends, are this project's own.)
use Rattle.std.specs.Prelude.{ℕ, ◌==◌, List, [], map, reverse, Option, Some, None, if◌then◌else◌}
use Rattle.std.specs.List.{find}
use Rattle.std.specs.declared.cmp.Ordering.{Ordering}
use Rattle.std.specs.declared.cmp.Ordering.TheVariants.{Less, Greater}
use Rattle.std.specs.Ordering.{nat_cmp, ordering_then, is_lt, is_gt}
use Rattle.key_spec.specs.declared.Ties.{Ties}
use Rattle.key_spec.specs.declared.Ties.TheVariants.{Rising}
use Rattle.member_slots.specs.Member.{MemberState, records}
use Rattle.file_model.specs.KeyOrder.{KeyValue, compare_with, begins_with}
use Rattle.file_model.specs.Joins.{RowPlace, JoinRow, compare_places}
use Rattle.file_model.specs.Paths.{PathEntry, compare_entries}

-- what a position is set by: the values of the first positions of the key, or a relative record number
pub data Bound : Type 0 where
  KeyBound : List KeyValue → Bound
  NumberBound : ℕ → Bound

-- where an open stands among entries of a path, or among rows of a join
pub data Position (A : Type 0) : Type 0 where
  Start : Position A
  End : Position A
  -- on the entry that was read last, as it was then
  On : A → Position A
  -- before the first entry that isn't less
  Before : Bound → Position A
  -- past the last entry that isn't greater
  Past : Bound → Position A

-- what is read, in its order, and the entry of a path by whose key each is found
pub record Reading (A : Type 0) : Type 0 where
  pub items : List A
  pub compare : A → A → Ordering
  pub entry : A → PathEntry

-- ---- what can be read

-- an access path with these ties
abbrev pub path_reading : Ties → List PathEntry → Reading PathEntry
path_reading ties entries = record { items = entries; compare = compare_entries ties; entry = λ e. e }

-- a record in arrival order
abbrev pub arrival_entry : ℕ × List ℕ → PathEntry
arrival_entry pair = record { key = []; format = 0; rrn = pair.0 }

-- a physical file in arrival order
abbrev pub arrival_reading : MemberState → Reading PathEntry
arrival_reading member = path_reading Rising (map arrival_entry (records member))

-- the rows of a join file whose primary's path has these ties
abbrev pub join_reading : Ties → List JoinRow → Reading RowPlace
join_reading ties rows = record { items = map (λ row. row.place) rows; compare = compare_places ties; entry = λ place. place.primary }

-- ---- what a read finds

-- where an entry stands to what a position is set by
abbrev pub compare_bound : Bound → PathEntry → Ordering
compare_bound (KeyBound values) e = compare_with values e.key
compare_bound (NumberBound n) e = nat_cmp e.rrn n

-- where an item stands to a position: before it, on it, or after it
abbrev pub side_of : {A : Type 0} → Reading A → Position A → A → Ordering
side_of reading Start item = Greater
side_of reading End item = Less
side_of reading (On other) item = reading.compare item other
side_of reading (Before bound) item = ordering_then (compare_bound bound (reading.entry item)) Greater
side_of reading (Past bound) item = ordering_then (compare_bound bound (reading.entry item)) Less

-- READ: the first after the position
abbrev pub next_from : {A : Type 0} → Reading A → Position A → Option A
next_from reading position = find (λ item. is_gt (side_of reading position item)) reading.items

-- READP: the last before it
abbrev pub prior_from : {A : Type 0} → Reading A → Position A → Option A
prior_from reading position = find (λ item. is_lt (side_of reading position item)) (reverse reading.items)

-- the item, where its key begins with the values
abbrev pub where_equal : {A : Type 0} → Reading A → List KeyValue → Option A → Option A
where_equal reading values None = None
where_equal reading values (Some item) = if begins_with values (reading.entry item).key then Some item else None

-- READE
abbrev pub next_equal : {A : Type 0} → Reading A → List KeyValue → Position A → Option A
next_equal reading values position = where_equal reading values (next_from reading position)

-- READPE
abbrev pub prior_equal : {A : Type 0} → Reading A → List KeyValue → Position A → Option A
prior_equal reading values position = where_equal reading values (prior_from reading position)

-- CHAIN by the values of the first positions of the key
abbrev pub chain_key : {A : Type 0} → Reading A → List KeyValue → Option A
chain_key reading values = find (λ item. begins_with values (reading.entry item).key) reading.items

-- CHAIN by a relative record number
abbrev pub chain_number : {A : Type 0} → Reading A → ℕ → Option A
chain_number reading n = find (λ item. (reading.entry item).rrn == n) reading.items
