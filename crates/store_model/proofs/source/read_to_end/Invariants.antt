use Rattle.std.proofs.Common.{◌≡◌, ◌++◌, ◌≤◌, ◌-◌, vec_len}
use Rattle.store_model.proofs.source.read_to_end.Given as goal

abbrev pub invariant-loop-bytes : goal.invariant-loop-bytes
invariant-loop-bytes g l = record {
  within : vec_len l.bytes ≤ l.bound;
  taken : g.I.Source.tells → g.I.Source.left l.fn.source ≡ l.bytes.items ++ g.I.Source.left l.source;
  faults : g.I.Source.faults l.fn.source ≤ g.I.Source.faults l.source;
}

abbrev pub decreases-loop-bytes : goal.decreases-loop-bytes
decreases-loop-bytes g l = l.bound - vec_len l.bytes
