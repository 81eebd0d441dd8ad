use Rattle.std.proofs.Common.{◌∙◌}
use Rattle.dds_logical.proofs.JoinLineLemmas.{wrong_are}
use Rattle.dds_logical.proofs.join_lines.is_one_link_wrong.Goals as goal

pub returns : goal.returns
returns c = c.one_links_wrong.ensures ∙ wrong_are c.args.files.now c.args.lines.now
