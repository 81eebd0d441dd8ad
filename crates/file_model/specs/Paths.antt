-- Which records does a file show under its key, and in which order? (Database Programming, "Describing access paths
-- for database files"; DDS for Physical and Logical Files: "UNIQUE", "FIFO", "LIFO". That equal keys of several formats
-- go by the formats, and what a shared path is, are this project's own.)
use Rattle.std.specs.Prelude.{ℕ, ◌≢◌, ◌+◌, ◌==◌, Bool, not, ◌&&◌, List, [], ◌∷◌, ◌++◌, map, filter, Option, Some, None, AllPairs, Contains, ◌↔◌, if◌then◌else◌}
use Rattle.std.specs.List.{find, list_any}
use Rattle.std.specs.Option.{option_map}
use Rattle.std.specs.declared.cmp.Ordering.{Ordering}
use Rattle.std.specs.Ordering.{nat_cmp, ordering_then, is_eq}
use Rattle.key_spec.specs.declared.Ties.{Ties}
use Rattle.key_spec.specs.declared.Ties.TheVariants.{Rising, Falling}
use Rattle.member_slots.specs.declared.slot.Slot.{Slot}
use Rattle.member_slots.specs.Member.{records_from}
use Rattle.member_slots.specs.Members.{NumberedMembers, member_of}
use Rattle.file_model.specs.declared.paths.PathFormat.{PathFormat}
use Rattle.file_model.specs.declared.paths.PathSpec.{PathSpec}
use Rattle.file_model.specs.KeyOrder.{KeyValue, compare_keys, key_of}
use Rattle.file_model.specs.Selection.{selects}
use Rattle.file_model.specs.Sorting.{in_order}
use Rattle.file_model.specs.Views.{view_of}

-- a record of a format, numbered from 0, with its key
pub record PathEntry : Type 0 where
  pub key : List KeyValue
  pub format : ℕ
  pub rrn : ℕ

-- ---- the order

-- FIFO, and where nothing is said; LIFO
abbrev pub compare_ties : Ties → ℕ → ℕ → Ordering
compare_ties Rising a b = nat_cmp a b
compare_ties Falling a b = nat_cmp b a

-- by key, equal keys by format, and then by relative record number
abbrev pub compare_entries : Ties → PathEntry → PathEntry → Ordering
compare_entries ties a b =
    ordering_then (compare_keys a.key b.key) (ordering_then (nat_cmp a.format b.format) (compare_ties ties a.rrn b.rrn))

-- ---- the entries

-- the key of a record in a format
abbrev pub path_key : PathFormat → List ℕ → List KeyValue
path_key format image = key_of format.key (view_of format.fields image)

-- the entry of a record
abbrev pub entry_of : ℕ → PathFormat → ℕ × List ℕ → PathEntry
entry_of number format pair = record { key = path_key format pair.1; format = number; rrn = pair.0 }

-- the records that a format selects of these slots, in arrival order
abbrev pub selected_of : PathFormat → List Slot → List (ℕ × List ℕ)
selected_of format slots = filter (λ pair. selects format.rules pair.1) (records_from 1 slots)

-- the entries of a format over these slots, in arrival order
abbrev pub entries_in : ℕ → PathFormat → List Slot → List PathEntry
entries_in number format slots = map (entry_of number format) (selected_of format slots)

-- the entries of a format, in arrival order
abbrev pub entries_of : ℕ → PathFormat → NumberedMembers → List PathEntry
entries_of number format members = entries_in number format (member_of format.member members).slots

-- the entries of the formats from this number on, not yet in order
abbrev pub entries_from : ℕ → List PathFormat → NumberedMembers → List PathEntry
entries_from number [] members = []
entries_from number (format ∷ formats) members = entries_of number format members ++ entries_from (number + 1) formats members

-- the access path
abbrev pub path : PathSpec → NumberedMembers → List PathEntry
path spec members = in_order (compare_entries spec.ties) (entries_from 0 spec.formats members)

-- ---- equal keys

abbrev pub has_equal_key : List KeyValue → PathEntry → Bool
has_equal_key key entry = is_eq (compare_keys entry.key key)

-- the least relative record number that has this key, apart from this one; the entries are in arrival order
abbrev pub other_with_key : List KeyValue → (rrn : ℕ) → List PathEntry → Option ℕ
other_with_key key rrn entries =
    option_map (λ entry. entry.rrn) (find (λ entry. has_equal_key key entry && not (entry.rrn == rrn)) entries)

-- the least relative record number that has the key of a later one; the entries are in arrival order
abbrev pub first_repeated : List PathEntry → Option ℕ
first_repeated [] = None
first_repeated (entry ∷ entries) = if list_any (has_equal_key entry.key) entries then Some entry.rrn else first_repeated entries

-- where another record of the path has the key that an image would have, as record of this number
abbrev pub clash : PathFormat → NumberedMembers → (image : List ℕ) → (rrn : ℕ) → Option ℕ
clash format members image rrn =
    if selects format.rules image then other_with_key (path_key format image) rrn (entries_of 0 format members) else None

-- where a path that may have no equal keys has them
abbrev pub repeated_in : PathSpec → NumberedMembers → Option ℕ
repeated_in spec members = if spec.unique then first_repeated (entries_from 0 spec.formats members) else None

-- ---- shared paths

-- the kept specifications are those that files have, each once
pub record AreKept (of_files kept : List PathSpec) : Type 0 where
  pub each : (spec : PathSpec) → Contains kept spec ↔ Contains of_files spec
  pub once : AllPairs (λ former later. former ≢ later) kept
