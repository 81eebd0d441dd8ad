use Rattle.std.proofs.Common.{◌≡◌, drop, flat_map}
use Rattle.dds_physical.specs.Faults.{first_after}
use Rattle.dds_logical.specs.Fields.{letter_faults}
use Rattle.dds_logical.proofs.fields.note_letters.Given as goal

abbrev pub invariant-loop-line : goal.invariant-loop-line
invariant-loop-line l = first_after l.first.fault (flat_map (letter_faults l.is_join) (drop l.line-index l.lines)) ≡ first_after l.fn.first.fault (flat_map (letter_faults l.is_join) l.lines)
