use Rattle.std.proofs.Common.{◌≡◌, ◌≤◌, drop}
use Rattle.dds_physical.specs.Faults.{first_after}
use Rattle.dds_logical.specs.LineOrder.{stage_faults}
use Rattle.dds_logical.proofs.line_order.note_stages.Given as goal

abbrev pub invariant-loop-line : goal.invariant-loop-line
invariant-loop-line l = first_after l.first.fault (stage_faults l.reached (drop l.line-index l.body)) ≡ first_after l.fn.first.fault (stage_faults 0 l.body)
