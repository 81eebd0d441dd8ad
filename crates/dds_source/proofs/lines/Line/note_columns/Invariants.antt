use Rattle.std.proofs.Common.{◌≡◌, ◌+◌, drop}
use Rattle.dds_source.specs.Faults.{first_after}
use Rattle.dds_source.specs.Entries.{column_faults}
use Rattle.dds_source.proofs.lines.Line.note_columns.Given as goal

abbrev pub invariant-loop-c : goal.invariant-loop-c
invariant-loop-c l = record {
  counted : l.column ≡ l.c-index + 1;
  noted : first_after l.first.fault (column_faults l.self.number l.column (drop l.c-index l.c-items)) ≡ first_after l.fn.first.fault (column_faults l.self.number 1 l.c-items);
}
