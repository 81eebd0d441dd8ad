use Rattle.std.proofs.Common.{◌≡◌, drop, flat_map}
use Rattle.dds_physical.specs.Faults.{first_after}
use Rattle.dds_logical.specs.LineOrder.{kind_faults}
use Rattle.dds_logical.proofs.line_order.note_kinds.Given as goal

abbrev pub invariant-loop-line : goal.invariant-loop-line
invariant-loop-line l = first_after l.first.fault (flat_map (kind_faults l.is_join) (drop l.line-index l.body)) ≡ first_after l.fn.first.fault (flat_map (kind_faults l.is_join) l.body)
