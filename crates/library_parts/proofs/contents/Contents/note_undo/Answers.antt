use Rattle.std.proofs.Common.{◌≡◌, ◌∙◌, ◌+◌, if◌then◌else◌, is_some, ap, sym, subst, arith}
use Rattle.library_steps.specs.State.{job_at, or_new}
use Rattle.library_steps.specs.SlotChange.{noted, with_cycle}
use Rattle.lawful_states.specs.Jobs.{cycle_from}
use Rattle.lawful_states.specs.Lawful.{GoesBack}
use Rattle.parts_model.proofs.IndexChanges.{IsIndexed-noted}
use Rattle.parts_model.proofs.IndexMoves.{spares-held}
use Rattle.lawful_states.proofs.LawfulLemmas.{AreOne-noted}
use Rattle.lawful_states.proofs.BackLemmas.{CycleGoesBack-noted, CycleGoesBack-of}
use Rattle.parts_model.proofs.DueLemmas.{HasDue-changed, few-noted, noted-due, some-mapped}
use Rattle.library_parts.proofs.contents.Contents.note_undo.Goals as goal

pub invariant_of-self : goal.invariant_of-self
invariant_of-self c =
    let inside = c.self.inside in
    let files = inside.catalogue.files in
    let members = inside.members.members in
    let job = or_new (job_at c.args.job inside.jobs.jobs) in
    let sequence = c.bounds-last.result.1 + 1 in
    let running = rw (← c.self.view_is) at c.requires.running in
    let room = rw (← c.self.view_is) at c.requires.entries in
    let goes : GoesBack files members (cycle_from sequence job.cycle).sequence c.args.undo.change =
    subst (λ n. GoesBack files members (cycle_from (n + 1) job.cycle).sequence c.args.undo.change) (sym c.bounds-last.ensures.last) (rw (← c.self.view_is) at c.requires.goes_back) in
    let more : c.noted_due-more.result ≡ (if is_some job.cycle then 2 else 3) =
    c.noted_due-more.ensures ∙ ap (λ b. if b then 2 else 3) (c.is_some.ensures ∙ ap is_some c.cycle.ensures ∙ some-mapped _ job.cycle) in
    let after = noted-due sequence job.cycle c.args.undo.change in
    let few = few-noted (is_some job.cycle) in
    let most = c.bounds-last.ensures.room in
    rw c.note.ensures (
      AreOne-noted _ _ _ (noted c.args.undo.change (cycle_from sequence job.cycle)) c.self.invariant.0
          (CycleGoesBack-noted files members sequence job.cycle c.args.undo.change (CycleGoesBack-of files members c.args.job inside.jobs.jobs c.self.invariant.0.lawful.changes) goes),
      HasDue-changed inside.jobs.jobs inside.due inside.journal.room _ _ c.args.job (with_cycle (noted c.args.undo.change (cycle_from sequence job.cycle))) running c.self.invariant.1
          (omega (arith, more, after)) (omega (arith, room, more, few)) (omega (arith, room, more, few, most)),
      IsIndexed-noted files members inside.jobs.jobs inside.jobs.orders inside.jobs.moves inside.paths c.args.job sequence c.args.undo.change c.args.undo.moves running
          (rw (← c.self.view_is) at c.requires.moves) (spares-held c.args.undo.change.member 1 inside.jobs.jobs inside.paths (rw (← c.self.view_is) at c.requires.moves_room) c.self.invariant.2.room) c.self.invariant.2,
    )

pub returns-clause-left : goal.returns-clause-left
returns-clause-left c =
    let job = or_new (job_at c.args.job c.self.inside.jobs.jobs) in
    let more : c.noted_due-more.result ≡ (if is_some job.cycle then 2 else 3) =
    c.noted_due-more.ensures ∙ ap (λ b. if b then 2 else 3) (c.is_some.ensures ∙ ap is_some c.cycle.ensures ∙ some-mapped _ job.cycle) in
    rw (← c.self.view_is) (omega (arith, more, few-noted (is_some job.cycle)))
