use Rattle.std.proofs.Common.{◌∙◌, ap}
use Rattle.dds_logical.specs.Judged.{first_line}
use Rattle.dds_logical.proofs.JoinLineLemmas.{reaching_are}
use Rattle.dds_logical.proofs.join_links.first_to.Goals as goal

pub returns : goal.returns
returns c = c.first_reaching.ensures ∙ ap first_line (reaching_are c.args.files.now c.args.place c.args.lines.now)
