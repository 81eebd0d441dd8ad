-- Which other record has a key? (DDS for Physical and Logical Files, "UNIQUE".)
use Rattle.std.specs.Prelude.{ℕ, min, not, ◌&&◌, ◌==◌, Option, Some, None, List, [], ◌∷◌, if◌then◌else◌}
use Rattle.std.specs.Ordering.{is_eq}
use Rattle.key_order.below.key_pages.specs.declared.entries.Entry.{Entry}
use Rattle.key_order.specs.Order.{key_cmp}

-- the lesser of two numbers, where both are there
abbrev pub lesser : Option ℕ → Option ℕ → Option ℕ
lesser None other = other
lesser (Some n) None = Some n
lesser (Some n) (Some m) = Some (min n m)

-- the number of an entry of another record that has the key
abbrev pub other_number : (key : List ℕ) → (rrn : ℕ) → Entry → Option ℕ
other_number key rrn entry = if is_eq (key_cmp entry.key key) && not (entry.rrn == rrn) then Some entry.rrn else None

-- the least number of another record that has the key
abbrev pub least_other : (key : List ℕ) → (rrn : ℕ) → List Entry → Option ℕ
least_other key rrn [] = None
least_other key rrn (entry ∷ entries) = lesser (other_number key rrn entry) (least_other key rrn entries)

-- an entry, where it has the key
abbrev pub with_key : (key : List ℕ) → Option Entry → Option Entry
with_key key None = None
with_key key (Some entry) = if is_eq (key_cmp entry.key key) then Some entry else None
