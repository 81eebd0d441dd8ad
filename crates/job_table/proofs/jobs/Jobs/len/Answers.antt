use Rattle.std.proofs.Common.{◌≡◌, length, subst}
use Rattle.std.specs.List.{AllZip}
use Rattle.lawful_states.specs.Uses.{changes_in}
use Rattle.job_table.specs.Opens.{SameOpen}
use Rattle.job_table.specs.Table.{JobTable}
use Rattle.job_table.proofs.TableLemmas.{ordered_all, counted_all}
use Rattle.job_table.proofs.jobs.Jobs.len.Goals as goal

pub returns-clause-ordered : goal.returns-clause-ordered
returns-clause-ordered c =
    let P : JobTable → Type 0 = λ t. AllZip (λ job orders. AllZip SameOpen job.opens orders) t.jobs t.orders in
    subst P c.self.view_is (ordered_all c.self.inside.jobs.items c.self.invariant.1)

pub returns-clause-counted : goal.returns-clause-counted
returns-clause-counted c =
    let P : JobTable → Type 0 = λ t. AllZip (λ job moves. length moves ≡ length (changes_in job.cycle)) t.jobs t.moves in
    subst P c.self.view_is (counted_all c.self.inside.jobs.items c.self.invariant.1)
