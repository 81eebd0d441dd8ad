-- The least among those behind is known.
use Rattle.std.proofs.Common.{◌≡◌, ◌≤◌, length, drop}
use Rattle.lock_table.specs.Lock.{is_boundary_in}
use Rattle.lock_table.specs.Shelves.{least_on}
use Rattle.lock_table.proofs.row.least_among.Given as goal

abbrev pub invariant-loop-left : goal.invariant-loop-left
invariant-loop-left l = record {
  within : l.left ≤ length l.shelves;
  least : l.least ≡ least_on (is_boundary_in l.member) (drop l.left l.shelves);
}

abbrev pub decreases-loop-left : goal.decreases-loop-left
decreases-loop-left l = l.left
