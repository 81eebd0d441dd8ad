use Rattle.std.proofs.Common.{◌≡◌, drop, []}
use Rattle.dds_physical.specs.Faults.{first_after}
use Rattle.dds_logical.specs.Fields.{names_twice}
use Rattle.dds_logical.specs.Judged.{lines_of}
use Rattle.dds_logical.proofs.fields.note_names_twice.Given as goal

abbrev pub invariant-loop-line : goal.invariant-loop-line
invariant-loop-line l = first_after l.first.fault (names_twice l.earlier (lines_of l.kind (drop l.line-index l.lines))) ≡ first_after l.fn.first.fault (names_twice [] (lines_of l.kind l.lines))
