use Rattle.std.proofs.Common.{◌≡◌, ◌≤◌, drop}
use Rattle.dds_physical.specs.Faults.{first_after}
use Rattle.dds_logical.specs.JudgedKeys.{positions_of}
use Rattle.dds_logical.proofs.key_mismatches.note_positions.Given as goal

abbrev pub invariant-loop-line : goal.invariant-loop-line
invariant-loop-line l = (l.place ≤ l.line-index)
    × (first_after l.first.fault (positions_of l.place l.earlier l.named (drop l.line-index l.lines)) ≡ first_after l.fn.first.fault (positions_of 0 l.earlier l.named l.lines))
