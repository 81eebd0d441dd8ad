use Rattle.std.proofs.Common.{◌≡◌, ◌∙◌, length, ap, arith}
use Rattle.library_steps.specs.State.{job_at, or_new}
use Rattle.library_steps.specs.Uses.{changes_in}
use Rattle.parts_model.proofs.DueLemmas.{cycle_due-changes, job_due-part}
use Rattle.library_parts.proofs.contents.Contents.cycle_due.Goals as goal

pub overflow_mul-result : goal.overflow_mul-result
overflow_mul-result c =
    let jobs = c.self.inside.jobs.jobs in
    let cycle = (or_new (job_at c.args.job jobs)).cycle in
    let count : c.len.result ≡ length (changes_in cycle) = c.len.ensures ∙ ap length c.undos.ensures in
    omega (arith, count, cycle_due-changes cycle, job_due-part jobs c.args.job, c.self.invariant.1.counted, c.self.invariant.1.few)

pub overflow_add-result : goal.overflow_add-result
overflow_add-result c =
    let jobs = c.self.inside.jobs.jobs in
    let cycle = (or_new (job_at c.args.job jobs)).cycle in
    let count : c.len.result ≡ length (changes_in cycle) = c.len.ensures ∙ ap length c.undos.ensures in
    omega (arith, count, cycle_due-changes cycle, job_due-part jobs c.args.job, c.self.invariant.1.counted, c.self.invariant.1.few)
