use Rattle.std.proofs.Common.{◌∙◌}
use Rattle.dds_logical.specs.Origins.{origin_names}
use Rattle.dds_logical.proofs.JoinFieldLemmas.{having_are}
use Rattle.dds_logical.proofs.join_fields.count_with.Goals as goal

pub returns : goal.returns
returns g c = c.count_having.ensures ∙ having_are (g.B.Bases.bases c.args.bases.now) 0 (origin_names c.args.line.now) c.args.files.now
