use Rattle.std.proofs.Common.{◌≡◌, ◌+◌, length, take, map, reverse}
use Rattle.group_bounds.specs.Walk.{start, entry_role, walked}
use Rattle.group_bounds.proofs.walk.walk_back.Given as goal

abbrev pub invariant-loop-left : goal.invariant-loop-left
invariant-loop-left l = record {
  seen : l.walk.seen + l.left ≡ length l.entries;
  rest : walked (map (entry_role l.member) (reverse (take l.left l.entries))) l.walk ≡ walked (map (entry_role l.member) (reverse l.entries)) start;
}

abbrev pub decreases-loop-left : goal.decreases-loop-left
decreases-loop-left l = l.left
