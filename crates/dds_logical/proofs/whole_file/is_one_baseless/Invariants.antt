use Rattle.std.proofs.Common.{◌≡◌, drop, is_none}
use Rattle.std.specs.List.{list_any}
use Rattle.dds_logical.specs.FormatLines.{formats_in, based_on}
use Rattle.dds_logical.proofs.whole_file.is_one_baseless.Given as goal

abbrev pub invariant-loop-line : goal.invariant-loop-line
invariant-loop-line l = list_any (λ f. is_none (based_on f.head.keywords)) (formats_in (drop l.line-index l.specifications)) ≡ list_any (λ f. is_none (based_on f.head.keywords)) (formats_in l.specifications)
