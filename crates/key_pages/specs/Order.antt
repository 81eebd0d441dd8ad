-- In which order do the entries of a keyed access path stand?
-- Source: IBM i, DDS for Physical and Logical Files (keyed access paths; FIFO, LIFO), and Database Programming (Access paths).
use Rattle.std.specs.Prelude.{ℕ, Bool, true, false, List}
use Rattle.std.specs.declared.cmp.Ordering.{Ordering}
use Rattle.std.specs.Ordering.{nat_cmp, ordering_then}
use Rattle.std.specs.Cmp.Lexicographic.{slice_cmp}
use Rattle.std.specs.List.Sorted.{IsStrictlySortedBy}
use Rattle.key_pages.specs.declared.entries.Entry.{Entry}

-- keys by unsigned bytes, and a key before those that it begins
abbrev pub key_cmp : List ℕ → List ℕ → Ordering
key_cmp = slice_cmp nat_cmp

-- ties by rising relative record number (FIFO), or by falling (LIFO)
abbrev pub tie_cmp : Bool → ℕ → ℕ → Ordering
tie_cmp false rrn other = nat_cmp rrn other
tie_cmp true rrn other = nat_cmp other rrn

-- by key, then by record format, then by ties
abbrev pub entry_cmp : Bool → Entry → Entry → Ordering
entry_cmp falling entry other =
    ordering_then (key_cmp entry.key other.key) (ordering_then (nat_cmp entry.format other.format) (tie_cmp falling entry.rrn other.rrn))

-- each entry is less than all later ones, so none is there twice
abbrev pub IsInOrder : Bool → List Entry → Type 0
IsInOrder falling entries = IsStrictlySortedBy (entry_cmp falling) entries
