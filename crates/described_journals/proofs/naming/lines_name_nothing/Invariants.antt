use Rattle.std.proofs.Common.{◌≡◌, length}
use Rattle.std.specs.List.{filter_map}
use Rattle.named_bases.specs.Sources.{file_of_line}
use Rattle.described_journals.proofs.naming.lines_name_nothing.Given as goal

abbrev pub invariant-loop-rest : goal.invariant-loop-rest
invariant-loop-rest l = filter_map file_of_line l.rest ≡ filter_map file_of_line l.lines

abbrev pub decreases-loop-rest : goal.decreases-loop-rest
decreases-loop-rest l = length l.rest
