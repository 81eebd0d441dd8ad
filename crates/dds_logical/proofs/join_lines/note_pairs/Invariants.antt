use Rattle.std.proofs.Common.{◌≡◌, drop, flat_map}
use Rattle.dds_physical.specs.Faults.{first_after}
use Rattle.dds_logical.specs.JoinLines.{pair_faults}
use Rattle.dds_logical.proofs.join_lines.note_pairs.Given as goal

abbrev pub invariant-loop-keyword : goal.invariant-loop-keyword
invariant-loop-keyword l = first_after l.first.fault (flat_map (pair_faults l.from l.to) (drop l.keyword-index l.keywords))
    ≡ first_after l.fn.first.fault (flat_map (pair_faults l.from l.to) l.keywords)
