use Rattle.std.proofs.Common.{◌≡◌, option_map, IfSome, subst, ap, ◌∙◌}
use Rattle.library_model.specs.Named.{named}
use Rattle.job_table.specs.Opens.{AllOfNumber}
use Rattle.job_table.specs.Table.{RoomyJob}
use Rattle.job_table.proofs.OpenLemmas.{named-state, named-order, named-alone}
use Rattle.job_table.proofs.job.Job.open_named.Goals as goal

pub returns-clause-state : goal.returns-clause-state
returns-clause-state c =
    ap (option_map (λ o. o.state)) c.named.ensures
    ∙ named-state c.args.name.now c.self.inside.opens
    ∙ ap (λ (j : RoomyJob). named c.args.name.now j.state.opens) c.self.view_is

pub returns-clause-order : goal.returns-clause-order
returns-clause-order c =
    ap (option_map (λ o. o.order)) c.named.ensures
    ∙ named-order c.args.name.now c.self.inside.opens
    ∙ ap (λ (j : RoomyJob). named c.args.name.now j.orders) c.self.view_is

pub returns-clause-alone : goal.returns-clause-alone
returns-clause-alone c =
    subst (λ (j : RoomyJob). IfSome c.named.result (λ o. AllOfNumber o.now.state.number (λ order. order ≡ o.now.order) j.orders)) c.self.view_is
    (named-alone c.args.name.now c.self.inside.opens c.self.inside.opened c.named.result c.self.invariant.0 c.named.ensures)
