-- Which keys have the formats of an access path, and which images can they be asked about? (Database Programming,
-- "Describing access paths for database files".)
use Rattle.std.specs.Prelude.{ℕ, ◌≤◌, Option, Some, None, List, length, slice_get, IfSome}
use Rattle.std.specs.List.{AllByRecursion}
use Rattle.view_rules.below.file_model.specs.declared.paths.PathFormat.{PathFormat}
use Rattle.view_rules.specs.Views.{view_of}
use Rattle.access_path.below.key_order.specs.declared.widths.TheConstants.{MOST_POSITIONS}
use Rattle.access_path.specs.KeyFields.{HasKey}
use Rattle.view_rules.specs.Shown.{HasShown, HasCompared}
use Rattle.access_path.specs.KeptEntries.{KeyOf}
use Rattle.access_path.specs.PathBytes.{format_key}

-- the image has a value in each field that the format's rules compare, shows its key fields, and has a value in each
pub record IsAskable (format : PathFormat) (image : List ℕ) : Type 0 where
  pub compared : HasCompared format.rules image
  pub shown : AllByRecursion (HasShown image) format.fields
  pub few : length format.key ≤ MOST_POSITIONS
  pub key : HasKey format.key (view_of format.fields image)

-- the format of this number can be asked about the image
abbrev pub CanBeAsked : List PathFormat → (number : ℕ) → (image : List ℕ) → Type 0
CanBeAsked formats number image = IfSome (slice_get formats number) (λ format. IsAskable format image)

-- the key that a format, where there is one, has of an image
abbrev pub key_by : Option PathFormat → List ℕ → Option (List ℕ)
key_by None image = None
key_by (Some format) image = format_key format image

-- the keys of the formats by their numbers
abbrev pub keys_of : List PathFormat → KeyOf
keys_of formats number image = key_by (slice_get formats number) image
