-- How are the entries that a path keeps those of the file's access path? (Our own.)
use Rattle.std.specs.Prelude.{◌≡◌, ℕ, ◌+◌, Bool, true, false, Option, Some, None, List, [], ◌∷◌, map, All, AllPairs, slice_index_or, if◌then◌else◌}
use Rattle.key_spec.specs.declared.KeyPart.{KeyPart}
use Rattle.key_spec.specs.declared.Ties.{Ties}
use Rattle.key_spec.specs.declared.Ties.TheVariants.{Rising, Falling}
use Rattle.key_order.below.key_pages.specs.declared.entries.Entry.{Entry}
use Rattle.member_slots.specs.Members.{NumberedMembers, member_of}
use Rattle.key_order.below.file_model.specs.declared.paths.PathFormat.{PathFormat}
use Rattle.key_order.below.file_model.specs.declared.paths.PathSpec.{PathSpec}
use Rattle.key_order.specs.Selection.{selects}
use Rattle.key_order.specs.Views.{view_of}
use Rattle.key_order.specs.Paths.{PathEntry, selected_of}
use Rattle.key_order.specs.KeyBytes.{key_bytes, encoded}
use Rattle.key_order.specs.KeyFields.{AreBytes, Matches}
use Rattle.access_path.specs.KeptEntries.{KeyOf}

abbrev pub is_falling : Ties → Bool
is_falling Rising = false
is_falling Falling = true

-- the bytes of the key that a format has of an image, where it selects it
abbrev pub format_key : PathFormat → List ℕ → Option (List ℕ)
format_key format image = if selects format.rules image then Some (encoded format.key (view_of format.fields image)) else None

-- the keys are those of the formats, the first of which has this number
abbrev pub AreKeysFrom : KeyOf → (number : ℕ) → List PathFormat → Type 0
AreKeysFrom keys number [] = Unit {0}
AreKeysFrom keys number (format ∷ formats) = ((image : List ℕ) → keys number image ≡ format_key format image) × AreKeysFrom keys (number + 1) formats

-- the number of each format's member
abbrev pub members_of : List PathFormat → List ℕ
members_of formats = map (λ format. format.member) formats

-- the positions of the key in a format
abbrev pub parts_of : List PathFormat → (number : ℕ) → List KeyPart
parts_of formats number = slice_index_or (map (λ format. format.key) formats) number []

-- an entry with its key in bytes
abbrev pub in_bytes : List PathFormat → PathEntry → Entry
in_bytes formats entry = record { key = key_bytes (parts_of formats entry.format) entry.key; format = entry.format; rrn = entry.rrn }

-- what a format shows of the records that it selects is bytes
abbrev pub ShowsBytes : NumberedMembers → PathFormat → Type 0
ShowsBytes members format = All (λ pair. AreBytes (view_of format.fields pair.1)) (selected_of format (member_of format.member members).slots)

-- keys of the path can be compared by their bytes
pub record IsInBytes (spec : PathSpec) (members : NumberedMembers) : Type 0 where
  pub match : AllPairs Matches (map (λ format. format.key) spec.formats)
  pub shown : All (ShowsBytes members) spec.formats
