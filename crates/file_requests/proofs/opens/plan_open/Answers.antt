use Rattle.std.proofs.Common.{Ok, Err}
use Rattle.std.proofs.lemmas.Result.{err_from_is_err_and}
use Rattle.library_model.specs.Named.{named}
use Rattle.library_steps.specs.State.{memory_of}
use Rattle.file_requests.proofs.OpenLemmas.{opens-there, plan-goes, plan-stopped, read-so}
use Rattle.file_requests.proofs.opens.plan_open.Goals as goal

pub returns-in_err-file-clause-plan : goal.returns-in_err-file-clause-plan
returns-in_err-file-clause-plan c =
    let p = err_from_is_err_and c.from_residual.result c.from_residual.ensures.1 in
    rw (p.1, p.2) (plan-stopped (memory_of c.args.contents.now.state) c.args.job c.args.args.now c.in_err-file.field-0.0 c.in_err-file.ensures.plan)

pub returns-in_err-members-clause-plan : goal.returns-in_err-members-clause-plan
returns-in_err-members-clause-plan c =
    let p = err_from_is_err_and c.from_residual-in_err-members.result c.from_residual-in_err-members.ensures.1 in
    rw (p.1, p.2)
    (plan-goes (memory_of c.args.contents.now.state) c.args.job c.args.args.now c.in_ok-file.file.now (Err c.in_err-members.field-0.0) c.in_ok-file.ensures.plan c.in_err-members.ensures.plan)

pub returns-clause-plan : goal.returns-clause-plan
returns-clause-plan c =
    plan-goes (memory_of c.args.contents.now.state) c.args.job c.args.args.now c.in_ok-file.file.now (Ok c.in_ok-members.members) c.in_ok-file.ensures.plan c.in_ok-members.ensures.plan

pub returns-clause-there : goal.returns-clause-there
returns-clause-there c =
    let files = c.args.contents.now.state.files in
    opens-there files c.in_ok-members.members c.in_ok-file.file.now (named c.args.args.now.file files) c.in_ok-file.ensures.there c.in_ok-members.ensures.opens

pub returns-clause-so : goal.returns-clause-so
returns-clause-so c =
    read-so c.args.args.now c.in_ok-file.file.now (named c.args.args.now.file c.args.contents.now.state.files) c.in_ok-file.ensures.there c.in_ok-members.ensures.so
