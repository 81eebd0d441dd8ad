use Rattle.std.proofs.Common.{◌∙◌, sym}
use Rattle.restarted_library.proofs.FitLemmas.{has-same}
use Rattle.restarted_library.proofs.filling.file_found.Goals as goal

pub returns : goal.returns
returns c =
    has-same c.args.contents.now.state c.file.result c.args.member.now.file c.in_ok-file.field-0.file.now c.in_ok-file.field-0.status.number c.args.number c.file.ensures
    (sym c.number.ensures ∙ c.if-number.false) c.in_ok-file.ensures.there
