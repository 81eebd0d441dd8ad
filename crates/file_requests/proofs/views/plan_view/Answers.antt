use Rattle.library_steps.specs.State.{memory_of}
use Rattle.file_requests.proofs.ViewLemmas.{is-new, plans-view}
use Rattle.file_requests.proofs.views.plan_view.Goals as goal

pub returns-clause-plan : goal.returns-clause-plan
returns-clause-plan c = plans-view c.args.sources.now (memory_of c.args.contents.now.state) c.args.args.now c.plan_but_keys.result c.plan_but_keys.ensures.plan

pub returns-clause-new : goal.returns-clause-new
returns-clause-new c =
    let plan = c.plan_but_keys.ensures in
    is-new c.args.contents.now.state c.args.args.now.file c.plan_but_keys.result plan.absent plan.described plan.unchanged
