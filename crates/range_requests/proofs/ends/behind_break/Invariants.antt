use Rattle.std.proofs.Common.{◌≡◌, ℕ, ◌≤◌, length, take}
use Rattle.range_requests.specs.Ends.{behind_break}
use Rattle.range_requests.proofs.ends.behind_break.Given as goal

abbrev pub invariant-loop-left : goal.invariant-loop-left
invariant-loop-left l = (l.left ≤ length l.entries) × ((now : ℕ) → behind_break l.member now l.first (take l.left l.entries) ≡ behind_break l.member now l.first l.entries)

abbrev pub decreases-loop-left : goal.decreases-loop-left
decreases-loop-left l = l.left
