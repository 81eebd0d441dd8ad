use Rattle.std.proofs.Common.{◌∙◌}
use Rattle.dds_logical.proofs.OriginLemmas.{lacks_is}
use Rattle.dds_logical.proofs.origins.lacks_one.Goals as goal

pub returns : goal.returns
returns c = c.one_lacks.ensures ∙ lacks_is c.args.base.now c.args.arguments.now
