use Rattle.std.proofs.Common.{◌≡◌, ◌∙◌, ap, arith, not, length}
use Rattle.std.proofs.lemmas.List.Elements.{All-filter}
use Rattle.lock_table.specs.Lock.{is_by}
use Rattle.lawful_states.specs.Jobs.{HasBegun}
use Rattle.library_steps.specs.State.{job_at, or_new}
use Rattle.library_steps.specs.EndJob.{ended_job}
use Rattle.parts_model.specs.Due.{cycle_due, level_due}
use Rattle.parts_model.proofs.IndexChanges.{IsIndexed-ended}
use Rattle.lawful_states.proofs.LawfulLemmas.{AreOne-ended}
use Rattle.parts_model.proofs.DueLemmas.{HasDue-changed, job_due-part}
use Rattle.library_parts.proofs.contents.Contents.end_job.Goals as goal

pub overflow_sub-self : goal.overflow_sub-self
overflow_sub-self c =
    let inside = c.self.inside in
    let job = or_new (job_at c.args.job inside.jobs.jobs) in
    let before : c.level_due-before.result ≡ level_due job.level = c.level_due-before.ensures ∙ ap level_due c.level.ensures in
    let part = job_due-part inside.jobs.jobs c.args.job in
    let counted = c.self.invariant.1.counted in
    omega (arith, before, part, counted)

pub invariant_of-self : goal.invariant_of-self
invariant_of-self c =
    let inside = c.self.inside in
    let job = or_new (job_at c.args.job inside.jobs.jobs) in
    let running = rw (← c.self.view_is) at c.requires.running in
    let before : c.level_due-before.result ≡ level_due job.level = c.level_due-before.ensures ∙ ap level_due c.level.ensures in
    let none : cycle_due job.cycle ≡ 0 = ap cycle_due (rw (← c.self.view_is) at c.requires.unchanged) in
    let part = job_due-part inside.jobs.jobs c.args.job in
    let counted = c.self.invariant.1.counted in
    let fits = c.self.invariant.1.fits in
    let few = c.self.invariant.1.few in
    rw (c.release_job.ensures.locks, c.end-none.ensures.jobs, c.end-none.ensures.orders, c.end-none.ensures.moves) (
      AreOne-ended _ _ _ _ c.self.invariant.0 (All-filter (λ lock. not (is_by c.args.job lock)) (λ lock. HasBegun (length inside.jobs.jobs) lock.job) inside.locks.held c.self.invariant.0.lawful.keepers),
      HasDue-changed inside.jobs.jobs inside.due inside.journal.room _ _ c.args.job ended_job running c.self.invariant.1
          (omega (arith, before, none, part, counted)) (omega (arith, fits)) (omega (arith, few)),
      IsIndexed-ended _ _ _ _ _ _ _ c.self.invariant.2,
    )
