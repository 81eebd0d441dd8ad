use Rattle.std.proofs.Common.{◌∙◌}
use Rattle.parts_model.proofs.FilledLemmas.{with-put}
use Rattle.parts_model.proofs.ResultLemmas.{on_ok}
use Rattle.library_parts.proofs.restart.replace.Goals as goal

pub returns : goal.returns
returns c =
    on_ok c.put.result c.unwrap.result c.unwrap.ensures c.put.ensures.put ∙ with-put c.args.number c.args.member.state c.args.members.now.members c.at-there.ensures.lawful c.requires
