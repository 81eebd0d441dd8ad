use Rattle.std.proofs.Common.{◌≡◌, ◌∙◌, ◌-◌, ℕ, Option, List, not, length, option_to_list, refl, subst, sym, ap, arith}
use Rattle.std.specs.List.{AllByRecursion}
use Rattle.std.proofs.lemmas.List.Elements.{All-filter}
use Rattle.journal_model.specs.Rollback.{MemberChange}
use Rattle.lock_table.specs.Lock.{is_by}
use Rattle.lock_table.specs.Table.{Locks, freed}
use Rattle.parts_model.specs.Journal.{deposited}
use Rattle.lawful_states.specs.Jobs.{HasBegun}
use Rattle.library_steps.specs.State.{memory_of, job_of, job_at, job_changed, or_new, with_opens}
use Rattle.library_steps.specs.Locking.{is_committed}
use Rattle.library_steps.specs.Uses.{changes_in}
use Rattle.lawful_states.specs.Back.{members_back}
use Rattle.parts_model.specs.Boundaries.{roll_drafts}
use Rattle.parts_model.specs.Due.{cycle_due}
use Rattle.lawful_states.specs.Lawful.{FitsPlace}
use Rattle.parts_model.specs.Parts.{state_of}
use Rattle.lawful_states.proofs.BackLemmas.{CycleGoesBack-of}
use Rattle.parts_model.proofs.UndoingLemmas.{can-take_back, indexed-as, undos-rolled_back}
use Rattle.parts_model.proofs.DueLemmas.{HasDue-changed, job_due-part}
use Rattle.lawful_states.proofs.LawfulLemmas.{AreOne-journal}
use Rattle.library_steps.specs.Commitment.{rolled_back_open, without_cycle}
use Rattle.lawful_states.proofs.BoundaryLemmas.{AreOne-rolled_back, cycle-places}
use Rattle.parts_model.proofs.BoundaryLemmas.{rollback-answers, rolled-due}
use Rattle.library_parts.proofs.contents.Contents.rollback.Goals as goal

pub roll_back-requires-clause-fit : goal.roll_back-requires-clause-fit
roll_back-requires-clause-fit c =
    let inside = c.self.inside in
    let cycle = (or_new (job_at c.args.job inside.jobs.jobs)).cycle in
    subst (AllByRecursion (FitsPlace inside.members.members)) (sym c.rollback-undos.ensures.changes)
    (cycle-places inside.catalogue.files inside.members.members cycle (CycleGoesBack-of inside.catalogue.files inside.members.members c.args.job inside.jobs.jobs c.self.invariant.0.lawful.changes))

pub roll_back-requires-clause-can : goal.roll_back-requires-clause-can
roll_back-requires-clause-can c =
    let inside = c.self.inside in
    let cycle = (or_new (job_at c.args.job inside.jobs.jobs)).cycle in
    let running = rw (← c.self.view_is) at c.requires.running in
    let fit = cycle-places inside.catalogue.files inside.members.members cycle
    (CycleGoesBack-of inside.catalogue.files inside.members.members c.args.job inside.jobs.jobs c.self.invariant.0.lawful.changes) in
    can-take_back _ _ _ _ _ _ _ _
    (undos-rolled_back inside.catalogue.files inside.members.members inside.jobs.jobs inside.jobs.orders inside.jobs.moves inside.paths c.args.job running c.rollback-undos.result.changes
    c.rollback-undos.result.moves c.rollback-undos.ensures.changes c.rollback-undos.ensures.given c.self.invariant.2 fit
    (rw (← c.self.view_is) at c.requires.stand))

pub roll_back-requires-clause-room : goal.roll_back-requires-clause-room
roll_back-requires-clause-room c =
    let inside = c.self.inside in
    let cycle = (or_new (job_at c.args.job inside.jobs.jobs)).cycle in
    let changes = ap (λ (us : List MemberChange). length us) c.rollback-undos.ensures.changes in
    let one = ap (λ (o : Option ℕ). length (option_to_list o)) c.cycle-cycle.ensures in
    omega (arith, changes, one, rolled-due cycle, job_due-part inside.jobs.jobs c.args.job, c.self.invariant.1.counted, c.self.invariant.1.fits)

pub overflow_sub-self : goal.overflow_sub-self
overflow_sub-self c =
    let jobs = c.self.inside.jobs.jobs in
    let due : c.cycle_due-due.result ≡ cycle_due (or_new (job_at c.args.job jobs)).cycle = rw (← c.self.view_is) at c.cycle_due-due.ensures in
    omega (arith, due, job_due-part jobs c.args.job, c.self.invariant.1.counted)

pub invariant_of-self : goal.invariant_of-self
invariant_of-self c =
    let inside = c.self.inside in
    let state = state_of inside.catalogue inside.members inside.next_member inside.journal inside.locks inside.jobs in
    let job = or_new (job_at c.args.job inside.jobs.jobs) in
    let running = rw (← c.self.view_is) at c.requires.running in
    let back = CycleGoesBack-of inside.catalogue.files inside.members.members c.args.job inside.jobs.jobs c.self.invariant.0.lawful.changes in
    let due : c.cycle_due-due.result ≡ cycle_due job.cycle = rw (← c.self.view_is) at c.cycle_due-due.ensures in
    let changes = ap (λ (us : List MemberChange). length us) c.rollback-undos.ensures.changes in
    let one = ap (λ (o : Option ℕ). length (option_to_list o)) c.cycle-cycle.ensures in
    let sum = rolled-due job.cycle in
    let part = job_due-part inside.jobs.jobs c.args.job in
    let counted = c.self.invariant.1.counted in
    let fits = c.self.invariant.1.fits in
    let few = c.self.invariant.1.few in
    let kept = c.roll_back.ensures.room in
    let fit = cycle-places inside.catalogue.files inside.members.members job.cycle back in
    let taking = undos-rolled_back inside.catalogue.files inside.members.members inside.jobs.jobs inside.jobs.orders inside.jobs.moves inside.paths c.args.job running c.rollback-undos.result.changes
    c.rollback-undos.result.moves c.rollback-undos.ensures.changes c.rollback-undos.ensures.given c.self.invariant.2 fit
    (rw (← c.self.view_is) at c.requires.stand) in
    let undone = c.roll_back.ensures.members ∙ ap (λ (us : List MemberChange). members_back us state.members) c.rollback-undos.ensures.changes in
    rw (c.roll_back.ensures.members, c.rollback-undos.ensures.changes, c.release_job.ensures.locks, c.rollback-undos.ensures.jobs) (
      AreOne-journal (record state {
        members = members_back (changes_in job.cycle) state.members;
        jobs = job_changed (c.args.job - 1) (λ j. with_opens rolled_back_open (without_cycle j)) state.jobs;
        locks = freed (is_by c.args.job) state.locks;
      }) _ _ _ _ _
          (AreOne-rolled_back state _ _ (freed (is_by c.args.job) state.locks) job.cycle c.self.invariant.0 back
          (All-filter (λ lock. not (is_by c.args.job lock)) (λ lock. HasBegun (length inside.jobs.jobs) lock.job) inside.locks.held c.self.invariant.0.lawful.keepers)),
      HasDue-changed inside.jobs.jobs inside.due inside.journal.room _ _ c.args.job (λ j. with_opens rolled_back_open (without_cycle j)) running c.self.invariant.1
          (omega (arith, due, part, counted)) (omega (arith, due, part, counted, fits, kept, changes, one, sum)) (omega (arith, few)),
      indexed-as _ _ _ _ _ _ _ _ _ _ (sym undone) refl c.rollback-undos.ensures.orders c.rollback-undos.ensures.moves (c.roll_back.ensures.indexed _ _ _ _ taking),
    )

pub returns : goal.returns
returns c =
    let parts = c.self.inside in
    let state = state_of parts.catalogue parts.members parts.next_member parts.journal parts.locks parts.jobs in
    let job = job_of c.args.job (memory_of state) in
    let back = CycleGoesBack-of parts.catalogue.files parts.members.members c.args.job parts.jobs.jobs c.self.invariant.0.lawful.changes in
    let left = ap (λ (t : Locks). t.held) (c.release_job.ensures.rollback job.level 0 (record { member = 0; rrn = 0 }) (is_committed job)) in
    let members = c.roll_back.ensures.members ∙ ap (λ (us : List MemberChange). members_back us state.members) c.rollback-undos.ensures.changes in
    let journal = c.roll_back.ensures.journal
    ∙ (λ i. deposited (roll_drafts (c.name-name.ensures i) c.args.timestamp (c.cycle-cycle.ensures i) (c.rollback-undos.ensures.changes i)) parts.journal.journal) in
    rw (← c.self.view_is, members, journal) (rollback-answers state c.args.job c.args.timestamp c.release_job.new.self.held c.rollback-undos.new.self.jobs back left c.rollback-undos.ensures.jobs)
