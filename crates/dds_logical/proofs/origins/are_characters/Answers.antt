use Rattle.std.proofs.Common.{◌∙◌}
use Rattle.dds_logical.proofs.OriginLemmas.{are_characters_is}
use Rattle.dds_logical.proofs.origins.are_characters.Goals as goal

pub returns : goal.returns
returns c = c.all_are_texts.ensures ∙ are_characters_is c.args.base.now c.args.arguments.now
