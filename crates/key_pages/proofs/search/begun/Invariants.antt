-- The last page below low begins at or before the position, the page at high doesn't; the steps halve what is left.
use Rattle.std.proofs.Common.{◌-◌, ◌≡◌, ◌<◌, ◌≤◌, ◌+◌, ◌*◌, ◌^◌, true, false, length}
use Rattle.key_pages.specs.PageList.{page_at, begins_passed}
use Rattle.key_pages.proofs.search.begun.Given as goal

abbrev pub invariant-loop-low : goal.invariant-loop-low
invariant-loop-low g l = record {
  low_high : l.low ≤ l.high;
  within : l.high ≤ length l.pages.items;
  passed : 0 < l.low → begins_passed l.itself l.falling l.from (page_at l.pages.items (l.low - 1)) ≡ true;
  ahead : l.high < length l.pages.items → begins_passed l.itself l.falling l.from (page_at l.pages.items l.high) ≡ false;
  rises : l.fn.steps ≤ l.steps;
  left : 2 ^ (l.steps - l.fn.steps) * (l.high - l.low) ≤ length l.pages.items;
  cost : 2 ^ (l.steps - l.fn.steps) ≤ 2 * length l.pages.items + 1;
}

abbrev pub decreases-loop-low : goal.decreases-loop-low
decreases-loop-low g l = l.high - l.low
