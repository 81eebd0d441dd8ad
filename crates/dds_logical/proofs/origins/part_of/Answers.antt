use Rattle.std.proofs.Common.{arith}
use Rattle.dds_logical.proofs.OriginLemmas.{within_parts}
use Rattle.dds_logical.proofs.origins.part_of.Goals as goal

pub overflow_cast-start : goal.overflow_cast-start
overflow_cast-start c = let parts = within_parts c.args.length c.args.part c.requires.within in omega (arith, parts)

pub overflow_add-result : goal.overflow_add-result
overflow_add-result c = let parts = within_parts c.args.length c.args.part c.requires.within in omega (arith, parts, c.requires.low)

pub overflow_cast-result : goal.overflow_cast-result
overflow_cast-result c = let parts = within_parts c.args.length c.args.part c.requires.within in omega (arith, parts)
