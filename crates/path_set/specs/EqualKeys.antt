-- Which of the kept paths has equal keys, and which record has the key that another would have? (DDS for Physical and
-- Logical Files, "UNIQUE".)
use Rattle.std.specs.Prelude.{ℕ, List, [], ◌∷◌, Option, Some, None, if◌then◌else◌}
use Rattle.std.specs.Option.{option_and_then}
use Rattle.key_pages.specs.declared.entries.Entry.{Entry}
use Rattle.member_slots.specs.Members.{item_at}
use Rattle.access_path.specs.Clash.{least_other}
use Rattle.path_entrants.specs.Formats.{keys_of}
use Rattle.path_entrants.specs.Repeated.{least_repeated}
use Rattle.path_set.specs.declared.repeated.Repeated.{Repeated}
use Rattle.path_set.specs.KeptPaths.{KeptPath, NumberedPaths}

-- the least record that has an equal later one, where the path may have none
abbrev pub repeated_of : KeptPath → Option ℕ
repeated_of path = if path.spec.unique then least_repeated path.entries path.entries else None

-- a path with what was found in it, or what is found elsewhere
abbrev pub found_or : (id : ℕ) → Option ℕ → Option Repeated → Option Repeated
found_or id None other = other
found_or id (Some rrn) other = Some (record { path = id; rrn = rrn })

-- the first of these paths that has equal keys and may have none, and its least such record
abbrev pub first_repeated : List ℕ → NumberedPaths → Option Repeated
first_repeated [] paths = None
first_repeated (id ∷ ids) paths = found_or id (option_and_then repeated_of (item_at id paths)) (first_repeated ids paths)

-- the least other record of these entries that has the key, where there is a key
abbrev pub other_with : Option (List ℕ) → (rrn : ℕ) → List Entry → Option ℕ
other_with None rrn entries = None
other_with (Some key) rrn entries = least_other key rrn entries

-- the least other record that has the key which a format of the path would have of the image
abbrev pub clash_in : (format : ℕ) → (image : List ℕ) → (rrn : ℕ) → KeptPath → Option ℕ
clash_in format image rrn path = other_with (keys_of path.spec.formats format image) rrn path.entries
