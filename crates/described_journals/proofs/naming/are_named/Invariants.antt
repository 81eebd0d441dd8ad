use Rattle.std.proofs.Common.{◌≡◌, length}
use Rattle.std.specs.List.{filter_map, list_any}
use Rattle.std.specs.Str.{bytes_eq}
use Rattle.dds_physical.specs.KeywordRules.{argument_name}
use Rattle.described_journals.proofs.naming.are_named.Given as goal

abbrev pub invariant-loop-rest : goal.invariant-loop-rest
invariant-loop-rest l = list_any (bytes_eq l.name) (filter_map argument_name l.rest) ≡ list_any (bytes_eq l.name) (filter_map argument_name l.arguments)

abbrev pub decreases-loop-rest : goal.decreases-loop-rest
decreases-loop-rest l = length l.rest
