use Rattle.std.proofs.Common.{◌≡◌, drop}
use Rattle.dds_logical.specs.KeywordArguments.{names_among}
use Rattle.dds_logical.specs.Origins.{fields_of_names}
use Rattle.dds_logical.specs.Made.{first_of}
use Rattle.dds_logical.proofs.origins.first_field.Given as goal

abbrev pub invariant-loop-argument : goal.invariant-loop-argument
invariant-loop-argument l = first_of (fields_of_names l.base (names_among (drop l.argument-index l.arguments))) ≡ first_of (fields_of_names l.base (names_among l.arguments))
