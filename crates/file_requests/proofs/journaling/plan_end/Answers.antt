use Rattle.std.proofs.Common.{◌≡◌, ◌∙◌, true, false, rules}
use Rattle.std.specs.Option.{is_none}
use Rattle.std.proofs.lemmas.Result.{err_from_is_err_and}
use Rattle.library_model.specs.declared.replies.Reply.TheVariants.{NotJournaled}
use Rattle.library_steps.specs.State.{memory_of}
use Rattle.file_requests.proofs.PlanLemmas.{end_plan-stopped, end_plan-found, refused-then, allowed-then}
use Rattle.file_requests.proofs.journaling.plan_end.Goals as goal

pub returns-in_err-status-clause-plan : goal.returns-in_err-status-clause-plan
returns-in_err-status-clause-plan c =
    let p = err_from_is_err_and c.from_residual.result c.from_residual.ensures.1 in
    rw (p.1, p.2) (end_plan-stopped (memory_of c.args.contents.now.state) c.args.args.now c.in_err-status.field-0.0 c.in_err-status.ensures.plan)

pub returns-then-is_none-clause-plan : goal.returns-then-is_none-clause-plan
returns-then-is_none-clause-plan c =
    let status = c.in_ok-status.status in
    let test : is_none status.images ≡ true = rw (← c.images.ensures) (search rules) in
    rw c.number.ensures (end_plan-found (memory_of c.args.contents.now.state) c.args.args.now status c.in_ok-status.ensures.plan ∙ refused-then _ (NotJournaled c.in_ok-status.status.number) status test)

pub returns-clause-plan : goal.returns-clause-plan
returns-clause-plan c =
    let status = c.in_ok-status.status in
    let test : is_none status.images ≡ false = rw (← c.images.ensures) (search rules) in
    end_plan-found (memory_of c.args.contents.now.state) c.args.args.now status c.in_ok-status.ensures.plan ∙ allowed-then _ (NotJournaled c.in_ok-status.status.number) status test
