use Rattle.std.proofs.Common.{◌≡◌, drop, map}
use Rattle.group_bounds.specs.Walk.{start, entry_role, walked}
use Rattle.group_bounds.proofs.walk.walk_forward.Given as goal

abbrev pub invariant-loop-entry : goal.invariant-loop-entry
invariant-loop-entry l = record {
  seen : l.walk.seen ≡ l.entry-index;
  rest : walked (map (entry_role l.member) (drop l.entry-index l.entries)) l.walk ≡ walked (map (entry_role l.member) l.entries) start;
}
