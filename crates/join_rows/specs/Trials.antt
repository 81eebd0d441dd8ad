-- Which records of a secondary file are tried for a row so far, one after another? (Our own.)
use Rattle.std.specs.Prelude.{◌≡◌, ℕ, ◌+◌, ◌-◌, Bool, true, false, nat_lt, List, [], ◌∷◌, ◌++◌, length, take, map, filter, reverse, Option, Some, None, if◌then◌else◌}
use Rattle.std.specs.Option.{option_map}
use Rattle.std.specs.Ordering.{nat_cmp, ordering_then, is_eq}
use Rattle.key_pages.specs.declared.entries.Entry.{Entry}
use Rattle.key_pages.specs.EntryList.{EntryList}
use Rattle.key_pages.specs.Order.{key_cmp}
use Rattle.join_rows.specs.declared.positions.MatchPlace.{MatchPlace}
use Rattle.join_rows.specs.declared.positions.MatchPlace.TheVariants.{Missing, Record}
use Rattle.join_rows.specs.declared.trials.Trial.{Trial}
use Rattle.join_rows.specs.declared.trials.Trial.TheVariants as trials
use Rattle.join_rows.specs.Reading.{place_in, rest_in}
use Rattle.join_rows.specs.Search.{is_match_after, is_match_before, next_match, prior_match, last_match}

-- an entry of the file's path; none stands for a missing record
abbrev pub tried : Trial → Option Entry
tried trials.Missing = None
tried (trials.Record entry) = Some entry.now

-- the number of its record
abbrev pub number_of : Option Entry → Option ℕ
number_of None = None
number_of (Some entry) = Some entry.rrn

-- ---- the first

abbrev pub missing : (keeps_missing : Bool) → Option (Option Entry)
missing keeps_missing = if keeps_missing then Some None else None

-- a missing record comes before all others
abbrev pub missing_from : (keeps_missing : Bool) → Option MatchPlace → Option (Option Entry)
missing_from keeps_missing None = missing keeps_missing
missing_from keeps_missing (Some Missing) = missing keeps_missing
missing_from keeps_missing (Some (Record sequence rrn)) = None

abbrev pub record_or_missing : (keeps_missing : Bool) → Option Entry → Option (Option Entry)
record_or_missing keeps_missing None = missing keeps_missing
record_or_missing keeps_missing (Some entry) = Some (Some entry)

-- the number after this one, where there is one
abbrev pub next_number : ℕ → ℕ
next_number rrn = if nat_lt rrn 4294967295 then rrn + 1 else rrn

-- the first from a place on, where keys begin with the bytes
abbrev pub first_from : (keeps_missing : Bool) → (part : List ℕ) → Option MatchPlace → (key : List ℕ) → EntryList → Option (Option Entry)
first_from keeps_missing part None key list = record_or_missing keeps_missing (next_match list.falling part part 0 list.entries)
first_from keeps_missing part (Some Missing) key list = record_or_missing keeps_missing (next_match list.falling part part 0 list.entries)
first_from keeps_missing part (Some (Record sequence rrn)) key list = option_map Some (next_match list.falling part key (rrn - 1) list.entries)

abbrev pub next_first : (keeps_missing : Bool) → (wanted : Option (List ℕ)) → Option MatchPlace → (key : List ℕ) → EntryList → Option (Option Entry)
next_first keeps_missing None place key list = missing_from keeps_missing place
next_first keeps_missing (Some part) place key list = first_from keeps_missing part place key list

-- the last until a place, where there is a last one
abbrev pub last_until : (last : Entry) → (part : List ℕ) → Option MatchPlace → (key : List ℕ) → EntryList → Option (Option Entry)
last_until last part None key list = Some (Some last)
last_until last part (Some Missing) key list = None
last_until last part (Some (Record sequence rrn)) key list = option_map Some (prior_match list.falling part key (next_number rrn) list.entries)

abbrev pub last_or_missing : (keeps_missing : Bool) → Option Entry → (part : List ℕ) → Option MatchPlace → (key : List ℕ) → EntryList → Option (Option Entry)
last_or_missing keeps_missing None part place key list = missing keeps_missing
last_or_missing keeps_missing (Some last) part place key list = last_until last part place key list

abbrev pub prior_first : (keeps_missing : Bool) → (wanted : Option (List ℕ)) → Option MatchPlace → (key : List ℕ) → EntryList → Option (Option Entry)
prior_first keeps_missing None place key list = missing keeps_missing
prior_first keeps_missing (Some part) place key list = last_or_missing keeps_missing (last_match part list.entries) part place key list

abbrev pub first_trial : (back keeps_missing : Bool) → (wanted : Option (List ℕ)) → Option MatchPlace → (key : List ℕ) → EntryList → Option (Option Entry)
first_trial back keeps_missing wanted place key list = if back then prior_first keeps_missing wanted place key list else next_first keeps_missing wanted place key list

-- the key at which the records of a place stand
abbrev pub key_in : (wanted : Option (List ℕ)) → Option MatchPlace → List ℕ
key_in None place = []
key_in (Some part) None = []
key_in (Some part) (Some Missing) = []
key_in (Some part) (Some (Record sequence rrn)) = part ++ sequence.now

-- it begins with the bytes that are wanted
abbrev pub BeginsKey : (wanted : Option (List ℕ)) → Option MatchPlace → (key : List ℕ) → Type 0
BeginsKey None place key = Unit {0}
BeginsKey (Some part) None key = Unit {0}
BeginsKey (Some part) (Some Missing) key = Unit {0}
BeginsKey (Some part) (Some (Record sequence rrn)) key = take (length part) key ≡ part

-- ---- those after it

-- the first match after a key and a number, or the last before them
abbrev pub found_match : (back : Bool) → (part key : List ℕ) → (rrn : ℕ) → EntryList → Option Entry
found_match back part key rrn list = if back then prior_match list.falling part key rrn list.entries else next_match list.falling part key rrn list.entries

abbrev pub next_behind : (back : Bool) → (wanted : Option (List ℕ)) → Entry → EntryList → Option (Option Entry)
next_behind back None entry list = None
next_behind back (Some part) entry list = option_map Some (found_match back part entry.key entry.rrn list)

-- behind a missing record there is none
abbrev pub next_trial : (back : Bool) → (wanted : Option (List ℕ)) → Option Entry → EntryList → Option (Option Entry)
next_trial back wanted None list = None
next_trial back wanted (Some entry) list = next_behind back wanted entry list

-- the key of a record that is tried begins with the bytes that are wanted
abbrev pub IsBegun : (wanted : Option (List ℕ)) → Option Entry → Type 0
IsBegun None trial = Unit {0}
IsBegun (Some part) None = Unit {0}
IsBegun (Some part) (Some entry) = take (length part) entry.key ≡ part

-- all matches after a key and a number, or before them, one after another
abbrev pub matches_by : (back : Bool) → (part key : List ℕ) → (rrn : ℕ) → EntryList → List Entry
matches_by back part key rrn list =
    if back then filter (is_match_before list.falling part key rrn) (reverse list.entries) else filter (is_match_after list.falling part key rrn) list.entries

abbrev pub all_behind : (back : Bool) → (wanted : Option (List ℕ)) → Option Entry → EntryList → List (Option Entry)
all_behind back None trial list = []
all_behind back (Some part) None list = []
all_behind back (Some part) (Some entry) list = map Some (matches_by back part entry.key entry.rrn list)

-- a trial, and all those after it
abbrev pub trials_from : (back : Bool) → (wanted : Option (List ℕ)) → Option (Option Entry) → EntryList → List (Option Entry)
trials_from back wanted None list = []
trials_from back wanted (Some trial) list = trial ∷ all_behind back wanted trial list

-- ---- what is left below one

-- the trial is the place's own
abbrev pub is_at : Option MatchPlace → (key : List ℕ) → Option Entry → Bool
is_at None key trial = false
is_at (Some Missing) key None = true
is_at (Some Missing) key (Some entry) = false
is_at (Some (Record sequence rrn)) key None = false
is_at (Some (Record sequence rrn)) key (Some entry) = is_eq (ordering_then (key_cmp entry.key key) (nat_cmp entry.rrn rrn))

abbrev pub left_at : Option (List MatchPlace) → (key : List ℕ) → Option Entry → Option (List MatchPlace)
left_at left key trial = if is_at (place_in left) key trial then rest_in left else None
