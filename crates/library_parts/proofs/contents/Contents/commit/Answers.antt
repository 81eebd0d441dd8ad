use Rattle.std.proofs.Common.{◌≡◌, ◌∙◌, ◌-◌, ℕ, None, Option, length, option_to_list, ◌==◌, ap, arith}
use Rattle.std.specs.List.{list_any}
use Rattle.std.specs.Option.{option_map}
use Rattle.entry_codec.specs.declared.entries.Draft.{Draft}
use Rattle.entry_codec.specs.declared.kinds.EntryKind.TheVariants.{CommitCycleCommitted}
use Rattle.lock_table.specs.Table.{Locks}
use Rattle.lock_table.specs.declared.levels.Call.TheVariants.{Commit}
use Rattle.lock_table.specs.Levels.{locks_after}
use Rattle.library_steps.specs.State.{memory_of, job_of, job_at, job_changed, or_new, with_opens}
use Rattle.library_steps.specs.Commitment.{committed_open, without_cycle}
use Rattle.parts_model.specs.Boundaries.{cycle_end}
use Rattle.parts_model.specs.Due.{cycle_due}
use Rattle.parts_model.specs.Parts.{state_of}
use Rattle.parts_model.proofs.BoundaryLemmas.{commit-answers, length-cycle_end}
use Rattle.parts_model.proofs.DueLemmas.{HasDue-changed, job_due-part}
use Rattle.parts_model.proofs.IndexChanges.{IsIndexed-committed}
use Rattle.lawful_states.proofs.LawfulLemmas.{AreOne-committed, AreOne-journal, committed-memory}
use Rattle.lawful_states.proofs.LockLemmas.{All-locks_after, running-HasBegun}
use Rattle.library_parts.proofs.contents.Contents.commit.Goals as goal

pub deposit_if-requires : goal.deposit_if-requires
deposit_if-requires c =
    let inside = c.self.inside in
    let job = or_new (job_at c.args.job inside.jobs.jobs) in
    let same : c.committed-end.result ≡ cycle_end job.name c.args.timestamp CommitCycleCommitted (option_map (λ x. x.sequence) job.cycle) =
    c.committed-end.ensures ∙ (λ i. cycle_end (c.name.ensures i) c.args.timestamp CommitCycleCommitted (c.cycle.ensures i)) in
    let drafts = ap (λ (d : Option Draft). length (option_to_list d)) same in
    let few = length-cycle_end job.name c.args.timestamp CommitCycleCommitted job.cycle in
    let part = job_due-part inside.jobs.jobs c.args.job in
    omega (arith, drafts, few, part, c.self.invariant.1.counted, c.self.invariant.1.fits)

pub overflow_sub-self : goal.overflow_sub-self
overflow_sub-self c =
    let jobs = c.self.inside.jobs.jobs in
    let due : c.cycle_due-due.result ≡ cycle_due (or_new (job_at c.args.job jobs)).cycle = rw (← c.self.view_is) at c.cycle_due-due.ensures in
    omega (arith, due, job_due-part jobs c.args.job, c.self.invariant.1.counted)

pub invariant_of-self : goal.invariant_of-self
invariant_of-self c =
    let inside = c.self.inside in
    let state = state_of inside.catalogue inside.members inside.next_member inside.journal inside.locks inside.jobs in
    let job = or_new (job_at c.args.job inside.jobs.jobs) in
    let running = rw (← c.self.view_is) at c.requires in
    let begun = running-HasBegun inside.jobs.jobs c.args.job running in
    let locks = locks_after Commit None (record { job = c.args.job; opened = 0 }) (record { member = 0; rrn = 0 }) (λ n. list_any (λ o. o == n) c.as_slice.result.now) inside.locks.held in
    let due : c.cycle_due-due.result ≡ cycle_due job.cycle = rw (← c.self.view_is) at c.cycle_due-due.ensures in
    let same : c.committed-end.result ≡ cycle_end job.name c.args.timestamp CommitCycleCommitted (option_map (λ x. x.sequence) job.cycle) =
    c.committed-end.ensures ∙ (λ i. cycle_end (c.name.ensures i) c.args.timestamp CommitCycleCommitted (c.cycle.ensures i)) in
    let drafts = ap (λ (d : Option Draft). length (option_to_list d)) same in
    let fewer = length-cycle_end job.name c.args.timestamp CommitCycleCommitted job.cycle in
    let part = job_due-part inside.jobs.jobs c.args.job in
    let counted = c.self.invariant.1.counted in
    let fits = c.self.invariant.1.fits in
    let few = c.self.invariant.1.few in
    let kept = c.deposit_if.ensures.room in
    rw (c.release_commit.ensures None 0 (record { member = 0; rrn = 0 }), c.commit.ensures.jobs, c.commit.ensures.orders, c.commit.ensures.moves) (
      AreOne-journal (record state { jobs = job_changed (c.args.job - 1) (λ j. with_opens committed_open (without_cycle j)) state.jobs; locks = locks }) _ _ _ _ _
          (AreOne-committed state _ _ locks c.self.invariant.0 (All-locks_after (length inside.jobs.jobs) (record { job = c.args.job; opened = 0 }) (record { member = 0; rrn = 0 })
          (λ n. list_any (λ o. o == n) c.as_slice.result.now) begun Commit None inside.locks.held c.self.invariant.0.lawful.keepers)),
      HasDue-changed inside.jobs.jobs inside.due inside.journal.room _ _ c.args.job (λ j. with_opens committed_open (without_cycle j)) running c.self.invariant.1
          (omega (arith, due, part, counted)) (omega (arith, due, part, counted, fits, kept, drafts, fewer)) (omega (arith, few)),
      IsIndexed-committed _ _ _ _ _ _ (c.args.job - 1) c.self.invariant.2,
    )

pub returns : goal.returns
returns c =
    let parts = c.self.inside in
    let state = state_of parts.catalogue parts.members parts.next_member parts.journal parts.locks parts.jobs in
    let job = job_of c.args.job (memory_of state) in
    let left = ap (λ (t : Locks). t.held) (c.release_commit.ensures job.level 0 (record { member = 0; rrn = 0 })) in
    let is = committed-memory state c.args.job c.release_commit.new.self.held c.commit.new.self.jobs c.as_slice.result.now (λ (n : ℕ). rw c.as_slice.ensures
    (c.committed_opens-opens.ensures n)) left c.commit.ensures.jobs in
    let same : c.committed-end.result ≡ cycle_end job.name c.args.timestamp CommitCycleCommitted (option_map (λ x. x.sequence) job.cycle) =
    c.committed-end.ensures ∙ (λ i. cycle_end (c.name.ensures i) c.args.timestamp CommitCycleCommitted (c.cycle.ensures i)) in
    rw (← c.self.view_is, c.deposit_if.ensures.journal, same) (commit-answers state c.args.job c.args.timestamp c.release_commit.new.self.held c.commit.new.self.jobs is)
