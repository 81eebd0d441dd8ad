use Rattle.std.proofs.Common.{sym}
use Rattle.std.proofs.lemmas.Result.{err_from_is_err_and}
use Rattle.library_steps.specs.State.{memory_of}
use Rattle.file_requests.proofs.OpenLemmas.{logical-goes, logical-stopped}
use Rattle.file_requests.proofs.opens.view_members.Goals as goal

pub returns-in_err-view_opens-clause-plan : goal.returns-in_err-view_opens-clause-plan
returns-in_err-view_opens-clause-plan c =
    let p = err_from_is_err_and c.from_residual-in_err-view_opens.result c.from_residual-in_err-view_opens.ensures.1 in
    rw (p.1, p.2)
    (logical-stopped (memory_of c.args.contents.now.state) c.args.job c.args.args.now c.args.view.now c.in_ok-members.members (sym c.in_ok-members.ensures)
    c.in_err-view_opens.field-0.0 (rw c.as_slice.ensures at c.in_err-view_opens.ensures.allowed))

pub returns-clause-plan : goal.returns-clause-plan
returns-clause-plan c =
    logical-goes (memory_of c.args.contents.now.state) c.args.job c.args.args.now c.args.view.now c.in_ok-members.members (sym c.in_ok-members.ensures)
    (rw c.as_slice.ensures at c.in_ok-view_opens.ensures.allowed)

pub returns-clause-over : goal.returns-clause-over
returns-clause-over c = sym c.in_ok-members.ensures
