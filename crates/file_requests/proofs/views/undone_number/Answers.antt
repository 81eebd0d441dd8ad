use Rattle.std.proofs.Common.{◌∙◌, sym}
use Rattle.library_steps.specs.State.{memory_of}
use Rattle.file_requests.proofs.ViewLemmas.{undone-one}
use Rattle.file_requests.proofs.views.undone_number.Goals as goal

pub returns-in-Some : goal.returns-in-Some
returns-in-Some c =
    undone-one (memory_of c.args.contents.now.state) c.args.member c.in-Some.status c.has_undone.result c.number.result c.undone_if.result c.undone_if.ensures c.has_undone.ensures c.number.ensures
    (sym c.status.ensures ∙ c.in-Some.is)
