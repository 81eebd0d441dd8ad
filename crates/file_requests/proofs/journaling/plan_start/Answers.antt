use Rattle.std.proofs.Common.{◌≡◌, ◌∙◌, true, false, sym, ap}
use Rattle.std.specs.Option.{is_some}
use Rattle.std.proofs.lemmas.Result.{err_from_is_err_and}
use Rattle.library_model.specs.declared.replies.Reply.TheVariants.{AlreadyStarted}
use Rattle.library_steps.specs.State.{memory_of}
use Rattle.file_requests.proofs.PlanLemmas.{start_plan-stopped, start_plan-found, refused-then, allowed-then}
use Rattle.file_requests.proofs.journaling.plan_start.Goals as goal

pub returns-in_err-status-clause-plan : goal.returns-in_err-status-clause-plan
returns-in_err-status-clause-plan c =
    let p = err_from_is_err_and c.from_residual.result c.from_residual.ensures.1 in
    rw (p.1, p.2) (start_plan-stopped (memory_of c.args.contents.now.state) c.args.args.now c.in_err-status.field-0.0 c.in_err-status.ensures.plan)

pub returns-then-is_some-clause-plan : goal.returns-then-is_some-clause-plan
returns-then-is_some-clause-plan c =
    let status = c.in_ok-status.status in
    let test : is_some status.images ≡ true = ap is_some (sym c.images.ensures) ∙ sym c.is_some.ensures ∙ c.if-is_some.true in
    start_plan-found (memory_of c.args.contents.now.state) c.args.args.now status c.in_ok-status.ensures.plan ∙ refused-then _ AlreadyStarted status test

pub returns-clause-plan : goal.returns-clause-plan
returns-clause-plan c =
    let status = c.in_ok-status.status in
    let test : is_some status.images ≡ false = ap is_some (sym c.images.ensures) ∙ sym c.is_some.ensures ∙ c.if-is_some.false in
    start_plan-found (memory_of c.args.contents.now.state) c.args.args.now status c.in_ok-status.ensures.plan ∙ allowed-then _ AlreadyStarted status test
