-- Which entry of a secondary file's path is the next one whose key begins with some bytes? (Our own.)
use Rattle.std.specs.Prelude.{ℕ, Bool, ◌&&◌, List, length, take, reverse, Option}
use Rattle.std.specs.List.{find}
use Rattle.std.specs.declared.cmp.Ordering.{Ordering}
use Rattle.std.specs.Ordering.{is_lt, is_eq, is_gt}
use Rattle.key_pages.specs.declared.entries.Entry.{Entry}
use Rattle.key_pages.specs.Order.{key_cmp, entry_cmp}
use Rattle.access_path.specs.KeptEntries.{entry_with}

-- a key against the bytes that it is to begin with: they are equal where it does
abbrev pub compare_part : (part key : List ℕ) → Ordering
compare_part part key = key_cmp (take (length part) key) part

abbrev pub begins_with : (part : List ℕ) → Entry → Bool
begins_with part entry = is_eq (compare_part part entry.key)

-- the entry begins with the bytes, and comes after this key and number
abbrev pub is_match_after : (falling : Bool) → (part key : List ℕ) → (rrn : ℕ) → Entry → Bool
is_match_after falling part key rrn entry = begins_with part entry && is_gt (entry_cmp falling entry (entry_with 0 rrn key))

-- the first such entry
abbrev pub next_match : (falling : Bool) → (part key : List ℕ) → (rrn : ℕ) → List Entry → Option Entry
next_match falling part key rrn entries = find (is_match_after falling part key rrn) entries

-- the entry begins with the bytes, and comes before this key and number
abbrev pub is_match_before : (falling : Bool) → (part key : List ℕ) → (rrn : ℕ) → Entry → Bool
is_match_before falling part key rrn entry = begins_with part entry && is_lt (entry_cmp falling entry (entry_with 0 rrn key))

-- the last such entry
abbrev pub prior_match : (falling : Bool) → (part key : List ℕ) → (rrn : ℕ) → List Entry → Option Entry
prior_match falling part key rrn entries = find (is_match_before falling part key rrn) (reverse entries)

-- the last entry that begins with the bytes
abbrev pub last_match : (part : List ℕ) → List Entry → Option Entry
last_match part entries = find (begins_with part) (reverse entries)
