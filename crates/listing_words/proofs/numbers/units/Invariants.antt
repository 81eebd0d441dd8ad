use Rattle.std.proofs.Common.{◌≡◌, ◌≤◌, drop}
use Rattle.listing_words.specs.Values.{units_after}
use Rattle.listing_words.proofs.numbers.units.Given as goal

abbrev pub invariant-loop-digit : goal.invariant-loop-digit
invariant-loop-digit l =
    (units_after l.limit l.number (drop l.digit-index l.text) ≡ units_after l.limit 0 l.text) × (l.number ≤ l.limit)
