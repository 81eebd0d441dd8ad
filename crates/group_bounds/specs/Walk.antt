-- What is kept on the way over the acts of a range: the commit cycles seen, and the longest closed part so far. Our own.
use Rattle.std.specs.Prelude.{ℕ, ◌≡◌, ◌+◌, ◌≤◌, ◌<◌, ◌==◌, nat_eq, Bool, true, false, ◌&&◌, not, if◌then◌else◌, List, [], ◌∷◌, length, take, Option, Some, None, unwrap_or, is_some}
use Rattle.std.specs.Map.{lookup}
use Rattle.indexmap.specs.IndexMap.{insert_entry}
use Rattle.entry_codec.specs.declared.entries.Entry.{Entry}
use Rattle.journal_model.specs.Acts.{Act, Changed, Began, Committed, RolledBack, Journaled, Stood, Cleared, Reorganized, Ended, Nothing, act}
use Rattle.journal_model.specs.Closed.{closed_prefix}
use Rattle.journal_model.specs.Walks.{RangeFault, Straddled, numbered}
use Rattle.journal_model.specs.Ranges.{straddled}
use Rattle.group_bounds.specs.declared.roles.Role.{Role}
use Rattle.group_bounds.specs.declared.roles.Role.TheVariants.{Changes, Begins, Ends, Other}
use Rattle.group_bounds.specs.declared.marks.Mark.{Mark}
use Rattle.group_bounds.specs.declared.marks.Mark.TheVariants.{Change, Begin, End}
use Rattle.group_bounds.specs.declared.marks.Marks.{Marks}

-- what an act is to commit cycles
abbrev pub role_of : Act → Role
role_of (Changed c) = Changes c.cycle
role_of (Began n) = Begins n
role_of (Committed n) = Ends n
role_of (RolledBack n) = Ends n
role_of (Journaled images slots) = Other
role_of (Stood place image) = Other
role_of Cleared = Other
role_of Reorganized = Other
role_of Ended = Other
role_of Nothing = Other

-- what an entry is to them, as far as the member is concerned
abbrev pub entry_role : ℕ → Entry → Role
entry_role member e = role_of (act member None e)

-- ---- the cycles seen

-- nothing was seen of a cycle
abbrev pub unmarked : Marks
unmarked = record { changed = false; begun = false; ended = false }

abbrev pub with_mark : Mark → Marks → Marks
with_mark Change m = record m { changed = true }
with_mark Begin m = record m { begun = true }
with_mark End m = record m { ended = true }

-- a cycle with a change that isn't whole
abbrev pub is_open : Marks → Bool
is_open m = m.changed && not (m.begun && m.ended)

abbrev pub one_open : Marks → ℕ
one_open m = if is_open m then 1 else 0

abbrev pub Cycles : Type 0
Cycles = List (ℕ × Marks)

abbrev pub marks_at : ℕ → Cycles → Marks
marks_at cycle cycles = unwrap_or (lookup (nat_eq cycle) cycles) unmarked

-- one thing more is seen of a cycle
abbrev pub marked : ℕ → Mark → Cycles → Cycles
marked cycle mark cycles = insert_entry nat_eq cycles cycle (with_mark mark (marks_at cycle cycles))

abbrev pub opens : Cycles → ℕ
opens [] = 0
opens (e ∷ cycles) = one_open e.1 + opens cycles

-- ---- the walk

pub record WalkState : Type 0 where
  pub cycles : Cycles
  -- the commit cycle of the first change, 0 for a change without one
  pub first : Option ℕ
  pub seen : ℕ
  -- how many acts the longest closed part has, and whether it has a change
  pub closed : ℕ
  pub closed_changes : Bool

abbrev pub start : WalkState
start = record { cycles = []; first = None; seen = 0; closed = 0; closed_changes = false }

abbrev pub first_or : Option ℕ → Option ℕ → ℕ
first_or None cycle = unwrap_or cycle 0
first_or (Some first) cycle = first

abbrev pub changed : Option ℕ → WalkState → WalkState
changed None w = record w { first = Some (first_or w.first None) }
changed (Some n) w = record w { first = Some (first_or w.first (Some n)); cycles = marked n Change w.cycles }

abbrev pub noted : Role → WalkState → WalkState
noted (Changes cycle) w = changed cycle w
noted (Begins n) w = record w { cycles = marked n Begin w.cycles }
noted (Ends n) w = record w { cycles = marked n End w.cycles }
noted Other w = w

-- where no cycle is open, what was seen is the longest closed part
abbrev pub counted : WalkState → WalkState
counted w =
    if opens w.cycles == 0
    then record w { seen = w.seen + 1; closed = w.seen + 1; closed_changes = is_some w.first }
    else record w { seen = w.seen + 1 }

abbrev pub passed : Role → WalkState → WalkState
passed role w = counted (noted role w)

abbrev pub walked : List Role → WalkState → WalkState
walked [] w = w
walked (role ∷ roles) w = walked roles (passed role w)

-- ---- what it tells

-- the range has a change and its closed part has none
abbrev pub cut_by : Option ℕ → Bool → Option RangeFault
cut_by None closed_changes = None
cut_by (Some cycle) true = None
cut_by (Some cycle) false = Some (Straddled cycle)

abbrev pub verdict : WalkState → Option RangeFault
verdict w = cut_by w.first w.closed_changes

-- the walk went over these acts
pub record IsWalked (range : List Act) (w : WalkState) : Type 0 where
  pub closed : w.closed ≡ closed_prefix range
  pub within : w.closed ≤ length range
  pub some : verdict w ≡ None → 0 < length range → 0 < w.closed
  pub cut : (first second : ℕ) → straddled (numbered first range) (numbered second (take w.closed range)) ≡ verdict w
