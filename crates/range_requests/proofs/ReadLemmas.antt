-- The entries of a range as they are read.
use Rattle.std.proofs.Common.{◌≡◌, ℕ, ◌<◌, length, subst, sym}
use Rattle.journal_model.specs.Journal.{AreNumbered}
use Rattle.range_images.specs.Sides.{first_sequence}
use Rattle.range_requests.specs.declared.found.Found.{Found}
use Rattle.range_requests.specs.declared.plans.Read.{Read}
use Rattle.range_requests.specs.Steps.{IsFrom}
use Rattle.range_requests.proofs.EndLemmas.{first-numbered}

-- some entries that are numbered from the range's first on
pub from-of : (found : Found) (shown : Read) → 0 < length shown.entries.now → AreNumbered found.first shown.entries.now → IsFrom found shown
from-of found shown some numbered =
    let first : first_sequence shown.entries.now ≡ found.first = first-numbered found.first shown.entries.now numbered some in
    record { some = some; first = first; numbered = subst (λ (n : ℕ). AreNumbered n shown.entries.now) (sym first) numbered }
