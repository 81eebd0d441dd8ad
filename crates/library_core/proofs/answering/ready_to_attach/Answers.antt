use Rattle.std.proofs.Common.{◌≡◌, ◌≤◌, ◌+◌, Ok, sym, subst, arith}
use Rattle.library_steps.specs.Receivers.{attach_plan}
use Rattle.library_steps.specs.State.{State, memory_of}
use Rattle.library_steps.specs.declared.limits.TheConstants.{LAST_SEQUENCE}
use Rattle.library_core.proofs.JournalLemmas.{more-none}
use Rattle.library_core.proofs.answering.ready_to_attach.Goals as goal

pub returns-in_err-number-clause-same : goal.returns-in_err-number-clause-same
returns-in_err-number-clause-same c = more-none c.args.journal.now

pub returns-in_err-prepare_attach-clause-same : goal.returns-in_err-prepare_attach-clause-same
returns-in_err-prepare_attach-clause-same c = more-none c.args.journal.now

pub returns-clause-plan : goal.returns-clause-plan
returns-clause-plan c = subst (λ (s : State). attach_plan (memory_of s) ≡ Ok c.in_ok-number.number) (sym c.prepare_attach.ensures.state) c.in_ok-number.ensures.plan

pub returns-clause-next : goal.returns-clause-next
returns-clause-next c = subst (λ (s : State). c.in_ok-number.number ≡ s.receivers.attached + 1) (sym c.prepare_attach.ensures.state) c.in_ok-number.ensures.next

pub returns-clause-left : goal.returns-clause-left
returns-clause-left c = subst (λ (s : State). (memory_of s).last_entry ≤ LAST_SEQUENCE) (sym c.prepare_attach.ensures.state) c.in_ok-number.ensures.left

pub returns-clause-places : goal.returns-clause-places
returns-clause-places c = omega (arith, c.in_ok-reserve_for.ensures.room, c.jobs_begun.ensures.count)
