use Rattle.std.proofs.Common.{◌∙◌}
use Rattle.dds_logical.proofs.OriginLemmas.{pieces_are}
use Rattle.dds_logical.proofs.origins.pieces_of.Goals as goal

pub returns : goal.returns
returns c = c.in_ok-pieces.ensures ∙ pieces_are c.args.base.now c.args.arguments.now
