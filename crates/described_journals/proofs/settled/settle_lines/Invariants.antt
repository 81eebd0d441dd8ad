use Rattle.std.proofs.Common.{List, length}
use Rattle.std.specs.List.{filter_map}
use Rattle.named_bases.specs.Sources.{file_of_line}
use Rattle.described_journals.specs.declared.settled.NamedFile.{NamedFile}
use Rattle.described_journals.specs.Kept.{AreSettled}
use Rattle.described_journals.proofs.settled.settle_lines.Given as goal

abbrev pub invariant-loop-rest : goal.invariant-loop-rest
invariant-loop-rest l = (new : List NamedFile) → AreSettled l.files (filter_map file_of_line l.rest) l.others.items new → AreSettled l.files (filter_map file_of_line l.lines) l.initial.others.items new

abbrev pub decreases-loop-rest : goal.decreases-loop-rest
decreases-loop-rest l = length l.rest
