-- Names one after another, and the place at which each stands first. (Our own.)
use Rattle.std.specs.Prelude.{◌≡◌, ℕ, if◌then◌else◌, Option, Some, None, List, [], ◌∷◌, ◌++◌, position}
use Rattle.std.specs.List.{list_all}
use Rattle.std.specs.Option.{is_some}
use Rattle.field_types.specs.SystemName.{is_name}
use Rattle.library_model.specs.Named.{Named, named, same_name}

-- these texts, where each is a name
abbrev pub names_in : List (List ℕ) → Option (List (List ℕ))
names_in texts = if list_all is_name texts then Some texts else None

-- with the place of a name that has none
abbrev pub with_first : List ℕ → ℕ → Named ℕ → Named ℕ
with_first name place places = if is_some (named name places) then places else places ++ (name, place) ∷ []

-- the places are those at which the names stand first
abbrev pub AreFirstPlaces : List (List ℕ) → Named ℕ → Type 0
AreFirstPlaces names places = (name : List ℕ) → named name places ≡ position (same_name name) names
