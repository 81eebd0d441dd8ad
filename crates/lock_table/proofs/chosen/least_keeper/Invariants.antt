-- No job before this one keeps a lock in the member.
use Rattle.std.proofs.Common.{◌-◌}
use Rattle.lock_table.specs.Lock.{is_boundary_in}
use Rattle.lock_table.proofs.Found.{NoneBefore}
use Rattle.lock_table.proofs.chosen.least_keeper.Given as goal

abbrev pub invariant-loop-first : goal.invariant-loop-first
invariant-loop-first l = NoneBefore (is_boundary_in l.member) l.from l.tree

abbrev pub decreases-loop-first : goal.decreases-loop-first
decreases-loop-first l = 4294967297 - l.from
