-- Which entry of a sorted list comes next after a position, and which is the last one before it?
-- Source: IBM i, ILE RPG Reference (SETLL, SETGT, READ, READP), and Database Programming (Positioning in a file).
use Rattle.std.specs.Prelude.{◌≡◌, ℕ, Bool, ◌||◌, nat_eq, cond, Option, None, List, find, filter}
use Rattle.std.specs.List.{last_or, starts_with}
use Rattle.std.specs.declared.cmp.Ordering.{Ordering}
use Rattle.std.specs.declared.cmp.Ordering.TheVariants.{Less, Greater}
use Rattle.std.specs.Ordering.{is_lt, is_gt}
use Rattle.key_pages.specs.declared.entries.Entry.{Entry}
use Rattle.key_pages.specs.declared.positions.Position.{Position}
use Rattle.key_pages.specs.declared.positions.Position.TheVariants.{Start, End, On, Before, Past}
use Rattle.key_pages.specs.Order.{key_cmp, entry_cmp}

-- the key is less than the partial key
abbrev pub is_less : List ℕ → List ℕ → Bool
is_less key part = is_lt (key_cmp key part)

-- the key begins with the partial key
abbrev pub begins_with : List ℕ → List ℕ → Bool
begins_with key part = starts_with nat_eq key part

-- on which side of a position an entry lies: `Less` before it, `Equal` on it, `Greater` past it
abbrev pub side_of : Bool → Position → Entry → Ordering
side_of falling Start entry = Greater
side_of falling End entry = Less
side_of falling (On key format rrn) entry = entry_cmp falling entry (record { key = key.now; format = format; rrn = rrn })
side_of falling (Before part) entry = cond (is_less entry.key part.now) Less Greater
side_of falling (Past part) entry = cond (is_less entry.key part.now || begins_with entry.key part.now) Less Greater

-- the entry lies past the position
abbrev pub is_past : Bool → Position → Entry → Bool
is_past falling from entry = is_gt (side_of falling from entry)

-- the entry lies before the position
abbrev pub is_short : Bool → Position → Entry → Bool
is_short falling from entry = is_lt (side_of falling from entry)

-- the first entry past the position
abbrev pub next_entry : Bool → Position → List Entry → Option Entry
next_entry falling from entries = find (is_past falling from) entries

-- the last entry before the position
abbrev pub prior_entry : Bool → Position → List Entry → Option Entry
prior_entry falling from entries = last_or None (filter (is_short falling from) entries)

-- the position is on this entry
abbrev pub IsOn : Position → Entry → Type 0
IsOn Start entry = ⊥
IsOn End entry = ⊥
IsOn (On key format rrn) entry = (key.now ≡ entry.key) × (format ≡ entry.format) × (rrn ≡ entry.rrn)
IsOn (Before part) entry = ⊥
IsOn (Past part) entry = ⊥
