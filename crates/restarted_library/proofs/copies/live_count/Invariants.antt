use Rattle.std.proofs.Common.{◌≡◌, ◌≤◌, ◌+◌, length}
use Rattle.restarted_library.specs.Copies.{live_count}
use Rattle.restarted_library.proofs.copies.live_count.Given as goal

abbrev pub invariant-loop-rest : goal.invariant-loop-rest
invariant-loop-rest l = record {
  counted : l.count + live_count l.rest ≡ live_count l.slots;
  few : l.count + length l.rest ≤ length l.slots;
}

abbrev pub decreases-loop-rest : goal.decreases-loop-rest
decreases-loop-rest l = length l.rest
