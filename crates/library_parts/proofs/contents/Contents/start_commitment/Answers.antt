use Rattle.std.proofs.Common.{◌≡◌, ◌∙◌, Some, ap, arith}
use Rattle.library_steps.specs.State.{job_at, or_new}
use Rattle.library_steps.specs.Commitment.{with_level}
use Rattle.parts_model.specs.Due.{level_due}
use Rattle.parts_model.proofs.IndexOpens.{IsIndexed-with_level}
use Rattle.lawful_states.proofs.LawfulLemmas.{AreOne-job_changed}
use Rattle.parts_model.proofs.DueLemmas.{HasDue-changed, job_due-part}
use Rattle.library_parts.proofs.contents.Contents.start_commitment.Goals as goal

pub invariant_of-self : goal.invariant_of-self
invariant_of-self c =
    let inside = c.self.inside in
    let job = or_new (job_at c.args.job inside.jobs.jobs) in
    let running = rw (← c.self.view_is) at c.requires.running in
    let room = rw (← c.self.view_is) at c.requires.room in
    let before : c.level_due-before.result ≡ level_due job.level = c.level_due-before.ensures ∙ ap level_due c.level.ensures in
    let part = job_due-part inside.jobs.jobs c.args.job in
    let counted = c.self.invariant.1.counted in
    let most = c.bounds-bounds.ensures.room in
    rw c.start_commitment.ensures (
      AreOne-job_changed _ _ _ (with_level (Some c.args.level)) c.self.invariant.0 (λ job holds. holds) (λ job back. back),
      HasDue-changed inside.jobs.jobs inside.due inside.journal.room _ _ c.args.job (with_level (Some c.args.level)) running c.self.invariant.1
          (omega (arith, before, part, counted)) (omega (arith, room)) (omega (arith, room, most)),
      IsIndexed-with_level _ _ _ _ _ _ _ (Some c.args.level) c.self.invariant.2,
    )
