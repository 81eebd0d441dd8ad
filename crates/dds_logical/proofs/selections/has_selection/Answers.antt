use Rattle.std.proofs.Common.{◌∙◌, sym}
use Rattle.dds_logical.proofs.TestedLemmas.{selection_among}
use Rattle.dds_logical.proofs.selections.has_selection.Goals as goal

pub returns : goal.returns
returns c = c.has_select_or_omit.ensures ∙ sym (selection_among c.args.lines.now)
