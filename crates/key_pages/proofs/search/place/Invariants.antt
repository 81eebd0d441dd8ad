-- The entries below low are passed, those from high on are not; the steps halve what is left.
use Rattle.std.proofs.Common.{◌-◌, ◌≡◌, ◌≤◌, ◌+◌, ◌*◌, ◌^◌, true, false, length}
use Rattle.std.specs.List.{AllWithin}
use Rattle.key_pages.specs.Position.{side_of}
use Rattle.key_pages.specs.Search.{is_passed}
use Rattle.key_pages.proofs.search.place.Given as goal

abbrev pub invariant-loop-low : goal.invariant-loop-low
invariant-loop-low g l = record {
  low_high : l.low ≤ l.high;
  within : l.high ≤ length l.entries.items;
  passed : AllWithin (λ entry. is_passed l.itself (side_of l.falling l.from entry) ≡ true) l.entries.items 0 l.low;
  ahead : AllWithin (λ entry. is_passed l.itself (side_of l.falling l.from entry) ≡ false) l.entries.items l.high (length l.entries.items);
  rises : l.fn.steps ≤ l.steps;
  left : 2 ^ (l.steps - l.fn.steps) * (l.high - l.low) ≤ length l.entries.items;
  cost : 2 ^ (l.steps - l.fn.steps) ≤ 2 * length l.entries.items + 1;
}

abbrev pub decreases-loop-low : goal.decreases-loop-low
decreases-loop-low g l = l.high - l.low
