use Rattle.std.proofs.Common.{◌≡◌, drop}
use Rattle.std.specs.List.{list_any}
use Rattle.dds_logical.specs.KeywordArguments.{names_among}
use Rattle.dds_logical.specs.WholeFile.{is_no_base}
use Rattle.dds_logical.proofs.whole_file.names_no_base.Given as goal

abbrev pub invariant-loop-argument : goal.invariant-loop-argument
invariant-loop-argument g l = list_any (is_no_base (g.B.Bases.bases l.bases)) (names_among (drop l.argument-index l.arguments)) ≡ list_any (is_no_base (g.B.Bases.bases l.bases)) (names_among l.arguments)
