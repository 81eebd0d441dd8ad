use Rattle.std.proofs.Common.{◌≡◌, ◌∙◌, ◌-◌, ℕ, List, None, [], ◌∷◌, ap, arith, not, length}
use Rattle.std.proofs.lemmas.List.Elements.{All-filter}
use Rattle.entry_codec.specs.declared.entries.Draft.{Draft}
use Rattle.entry_codec.specs.declared.kinds.EntryKind.TheVariants.{CommitmentEnded}
use Rattle.lock_table.specs.Lock.{is_of_group}
use Rattle.lock_table.specs.Table.{freed}
use Rattle.parts_model.specs.Journal.{deposited}
use Rattle.lawful_states.specs.Jobs.{HasBegun}
use Rattle.library_steps.specs.State.{job_at, job_changed, or_new}
use Rattle.library_steps.specs.Commitment.{with_level}
use Rattle.library_steps.specs.Drafts.{library_draft}
use Rattle.parts_model.specs.Boundaries.{author}
use Rattle.parts_model.specs.Due.{level_due}
use Rattle.parts_model.specs.Parts.{state_of}
use Rattle.parts_model.proofs.BoundaryLemmas.{ended-answers}
use Rattle.parts_model.proofs.IndexOpens.{IsIndexed-with_level}
use Rattle.lawful_states.proofs.LawfulLemmas.{AreOne-commitment_ended, AreOne-journal}
use Rattle.parts_model.proofs.DueLemmas.{HasDue-changed, job_due-part, started-due}
use Rattle.library_parts.proofs.contents.Contents.end_commitment.Goals as goal

pub deposit-sequence-requires : goal.deposit-sequence-requires
deposit-sequence-requires c =
    let inside = c.self.inside in
    let one = started-due (or_new (job_at c.args.job inside.jobs.jobs)).level (rw (← c.self.view_is) at c.requires.started) in
    omega (arith, one, job_due-part inside.jobs.jobs c.args.job, c.self.invariant.1.counted, c.self.invariant.1.fits)

pub overflow_sub-self : goal.overflow_sub-self
overflow_sub-self c =
    let inside = c.self.inside in
    let one = started-due (or_new (job_at c.args.job inside.jobs.jobs)).level (rw (← c.self.view_is) at c.requires.started) in
    omega (arith, one, job_due-part inside.jobs.jobs c.args.job, c.self.invariant.1.counted)

pub invariant_of-self : goal.invariant_of-self
invariant_of-self c =
    let inside = c.self.inside in
    let state = state_of inside.catalogue inside.members inside.next_member inside.journal inside.locks inside.jobs in
    let job = or_new (job_at c.args.job inside.jobs.jobs) in
    let running = rw (← c.self.view_is) at c.requires.running in
    let one : level_due job.level ≡ 1 = started-due job.level (rw (← c.self.view_is) at c.requires.started) in
    let part = job_due-part inside.jobs.jobs c.args.job in
    let counted = c.self.invariant.1.counted in
    let fits = c.self.invariant.1.fits in
    let few = c.self.invariant.1.few in
    let kept = c.deposit-sequence.ensures.room in
    rw (c.release_group.ensures, c.end_commitment.ensures) (
      AreOne-journal (record state { jobs = job_changed (c.args.job - 1) (with_level None) state.jobs; locks = freed (is_of_group c.args.job) state.locks }) _ _ _ _ _
          (AreOne-commitment_ended state _ _ (freed (is_of_group c.args.job) state.locks) c.self.invariant.0
          (All-filter (λ lock. not (is_of_group c.args.job lock)) (λ lock. HasBegun (length inside.jobs.jobs) lock.job) inside.locks.held c.self.invariant.0.lawful.keepers)),
      HasDue-changed inside.jobs.jobs inside.due inside.journal.room _ _ c.args.job (with_level None) running c.self.invariant.1
          (omega (arith, one, part, counted)) (omega (arith, one, part, counted, fits, kept)) (omega (arith, few)),
      IsIndexed-with_level _ _ _ _ _ _ (c.args.job - 1) None c.self.invariant.2,
    )

pub returns : goal.returns
returns c =
    let parts = c.self.inside in
    let state = state_of parts.catalogue parts.members parts.next_member parts.journal parts.locks parts.jobs in
    let draft = c.of_library-draft.ensures ∙ ap (λ (name : List ℕ). library_draft (author name c.args.timestamp) CommitmentEnded) c.name.ensures in
    let journal = c.deposit-sequence.ensures.deposited ∙ ap (λ (d : Draft). deposited (d ∷ []) parts.journal.journal) draft in
    rw (← c.self.view_is, journal, c.release_group.ensures, c.end_commitment.ensures) (ended-answers state c.args.job c.args.timestamp)
