-- Which line of a text is the first that no listing has there.
use Rattle.std.specs.Prelude.{◌≡◌, ◌≢◌, ℕ, zero, suc, ◌-◌, ◌==◌, if◌then◌else◌, List, [], ◌∷◌}
use Rattle.library_model.specs.declared.calls.Call.{Call}
use Rattle.listing.specs.HistoryListing.{listing}
use Rattle.listing_reader.specs.Listed.{AreCalls}

-- the first lines of a text, each with its line feed
abbrev pub first_lines : List ℕ → ℕ → List ℕ
first_lines text zero = []
first_lines [] (suc count) = []
first_lines (c ∷ text) (suc count) = c ∷ (if c == 10 then first_lines text count else first_lines text (suc count))

-- how many lines two texts begin with alike
abbrev pub shared_lines : List ℕ → List ℕ → ℕ
shared_lines [] others = 0
shared_lines (c ∷ text) [] = 0
shared_lines (c ∷ text) (d ∷ others) = if c == d then (if c == 10 then suc (shared_lines text others) else shared_lines text others) else 0

-- no listing of calls begins with the lines up to this one, and some listing begins with the lines before it
pub record IsFirstBad (names : List (List ℕ)) (bytes : List ℕ) (line : ℕ) : Type 0 where
  pub none : (calls : List Call) → AreCalls names calls → first_lines (listing names calls) line ≢ first_lines bytes line
  pub before : (calls : List Call) × (first_lines (listing names calls) (line - 1) ≡ first_lines bytes (line - 1))
