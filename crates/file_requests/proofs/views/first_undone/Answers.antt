use Rattle.std.proofs.Common.{◌∙◌}
use Rattle.library_steps.specs.State.{memory_of}
use Rattle.file_requests.proofs.ViewLemmas.{undone-first}
use Rattle.file_requests.proofs.views.first_undone.Goals as goal

pub returns-in-len1-up : goal.returns-in-len1-up
returns-in-len1-up c = c.undone_number.ensures ∙ undone-first (memory_of c.args.contents.now.state) c.args.members.now c.in-len1-up.len_at_least
