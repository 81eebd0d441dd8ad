use Rattle.std.proofs.Common.{◌≡◌, ℕ, ◌≤◌, ◌-◌, max, length, vec_len}
use Rattle.store_model.specs.Past.{held}
use Rattle.store_model.proofs.past.reach.Given as goal

abbrev pub invariant-loop-alloc : goal.invariant-loop-alloc
invariant-loop-alloc l = record {
  same : (area : ℕ) → held l.areas.items area ≡ held l.fn.areas.items area;
  no_fewer : length l.fn.areas.items ≤ length l.areas.items;
  few : length l.areas.items ≤ max (length l.fn.areas.items) l.count;
}

abbrev pub decreases-loop-alloc : goal.decreases-loop-alloc
decreases-loop-alloc l = l.count - vec_len l.areas
