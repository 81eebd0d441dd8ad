-- An entry that isn't in memory any more leaves a blank: it has the entry's sequence, and nothing else. No draft becomes one: a commit cycle's start names its
-- own cycle. (Our own.)
use Rattle.std.specs.Prelude.{ℕ, zero, suc, ◌+◌, Bool, true, false, not, Option, None, List, [], ◌∷◌, filter}
use Rattle.entry_codec.specs.declared.entries.Entry.{Entry}
use Rattle.entry_codec.specs.declared.kinds.EntryKind.{EntryKind}
use Rattle.entry_codec.specs.declared.kinds.EntryKind.TheVariants.{CommitCycleStarted}

abbrev pub blank : ℕ → Entry
blank sequence = record { sequence = sequence; job = None; moment = 0; group = None; member = None; rrn = None; kind = CommitCycleStarted }

-- so many, from this sequence on
abbrev pub blanks : (first count : ℕ) → List Entry
blanks first zero = []
blanks first (suc count) = blank first ∷ blanks (first + 1) count

-- the start of a commit cycle that names none
abbrev pub starts_none : EntryKind → Option ℕ → Bool
starts_none CommitCycleStarted None = true
starts_none _ group = false

abbrev pub is_blank : Entry → Bool
is_blank e = starts_none e.kind e.group

-- the entries that are in memory
abbrev pub in_memory : List Entry → List Entry
in_memory = filter (λ e. not (is_blank e))
