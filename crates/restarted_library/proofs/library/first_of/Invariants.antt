use Rattle.std.proofs.Common.{◌≤◌, ◌-◌, length}
use Rattle.restarted_library.proofs.library.first_of.Given as goal

abbrev pub invariant-loop-place : goal.invariant-loop-place
invariant-loop-place l = (l.from ≤ l.place) × (l.place ≤ length l.members.members)

abbrev pub decreases-loop-place : goal.decreases-loop-place
decreases-loop-place l = length l.members.members - l.place
