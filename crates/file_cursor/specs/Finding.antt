-- What does a read find from a position among entries with keys in bytes? (Database Programming, "Reading database
-- records". That a read which finds nothing leaves the position is this project's own.)
use Rattle.std.specs.Prelude.{ℕ, ◌==◌, Bool, List, reverse, length, take, Option, Some, None, if◌then◌else◌}
use Rattle.std.specs.List.{find}
use Rattle.std.specs.declared.cmp.Ordering.{Ordering}
use Rattle.std.specs.declared.cmp.Ordering.TheVariants.{Less, Greater}
use Rattle.std.specs.Ordering.{nat_cmp, ordering_then, is_lt, is_eq, is_gt}
use Rattle.key_pages.specs.declared.entries.Entry.{Entry}
use Rattle.key_pages.specs.Order.{key_cmp, entry_cmp}
use Rattle.file_cursor.specs.CursorPosition.{CursorBound, ByKey, ByNumber, CursorPosition, Start, End, On, Before, Past}

-- a key against the bytes that it is to begin with: they are equal where it does
abbrev pub compare_part : (part key : List ℕ) → Ordering
compare_part part key = key_cmp (take (length part) key) part

-- where an entry stands to what a position is set by
abbrev pub compare_bound : CursorBound → Entry → Ordering
compare_bound (ByKey part) entry = compare_part part entry.key
compare_bound (ByNumber n) entry = nat_cmp entry.rrn n

-- where an entry stands to a position: before it, on it, or after it
abbrev pub side_of : (falling : Bool) → CursorPosition → Entry → Ordering
side_of falling Start entry = Greater
side_of falling End entry = Less
side_of falling (On other) entry = entry_cmp falling entry other
side_of falling (Before bound) entry = ordering_then (compare_bound bound entry) Greater
side_of falling (Past bound) entry = ordering_then (compare_bound bound entry) Less

abbrev pub is_after : (falling : Bool) → CursorPosition → Entry → Bool
is_after falling position entry = is_gt (side_of falling position entry)

abbrev pub is_before : (falling : Bool) → CursorPosition → Entry → Bool
is_before falling position entry = is_lt (side_of falling position entry)

-- READ: the first after the position
abbrev pub next_from : (falling : Bool) → List Entry → CursorPosition → Option Entry
next_from falling entries position = find (is_after falling position) entries

-- READP: the last before it
abbrev pub prior_from : (falling : Bool) → List Entry → CursorPosition → Option Entry
prior_from falling entries position = find (is_before falling position) (reverse entries)

abbrev pub begins_with : (part : List ℕ) → Entry → Bool
begins_with part entry = is_eq (compare_part part entry.key)

-- the entry, where its key begins with these bytes
abbrev pub where_equal : (part : List ℕ) → Option Entry → Option Entry
where_equal part None = None
where_equal part (Some entry) = if begins_with part entry then Some entry else None

-- READE
abbrev pub next_equal : (falling : Bool) → List Entry → (part : List ℕ) → CursorPosition → Option Entry
next_equal falling entries part position = where_equal part (next_from falling entries position)

-- READPE
abbrev pub prior_equal : (falling : Bool) → List Entry → (part : List ℕ) → CursorPosition → Option Entry
prior_equal falling entries part position = where_equal part (prior_from falling entries position)

-- CHAIN by the bytes that the key begins with
abbrev pub chain_key : (part : List ℕ) → List Entry → Option Entry
chain_key part entries = find (begins_with part) entries

-- CHAIN by a relative record number
abbrev pub chain_number : ℕ → List Entry → Option Entry
chain_number n entries = find (λ entry. entry.rrn == n) entries

-- the entry, where it has this number
abbrev pub with_number : ℕ → Option Entry → Option Entry
with_number n None = None
with_number n (Some entry) = if entry.rrn == n then Some entry else None
