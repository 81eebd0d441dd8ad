use Rattle.std.proofs.Common.{sym, subst, Option}
use Rattle.record_fmt.specs.declared.formats.Field.{Field}
use Rattle.dds_logical.specs.KeywordArguments.{names_among}
use Rattle.dds_logical.specs.Made.{IsLow}
use Rattle.dds_logical.proofs.OriginLemmas.{first_low}
use Rattle.dds_logical.proofs.origins.substring.Goals as goal

pub part_of_first-requires : goal.part_of_first-requires
part_of_first-requires c = subst (λ (o : Option Field). IsLow o) (sym c.first_field.ensures) (first_low c.args.base.now (names_among c.args.arguments.now) c.requires)
