use Rattle.std.proofs.Common.{◌≡◌, Ok, true, subst, sym}
use Rattle.member_slots.specs.declared.slot.Slot.{Slot}
use Rattle.member_slots.specs.declared.slot.Slot.TheVariants.{Live}
use Rattle.lock_table.specs.declared.table.TheConstants.{MOST_LOCKS}
use Rattle.library_steps.specs.State.{memory_of}
use Rattle.library_steps.specs.SlotChange.{few_changes}
use Rattle.record_changes.proofs.ChangeLemmas.{few-of}
use Rattle.record_changes.proofs.write.plan_given.Goals as goal

pub returns-clause-few : goal.returns-clause-few
returns-clause-few c =
    let memory = memory_of c.args.contents.now.state in
    let opened = c.args.opened.now.state in
    rw c.of.ensures
    (subst (λ (slot : Slot). few_changes opened.commit slot (Live c.in_ok-image.image) memory ≡ Ok true) (sym c.in_ok-rrn.ensures.empty) (rw c.commit.ensures at c.in_ok-few_changes.ensures))

pub returns-clause-locks : goal.returns-clause-locks
returns-clause-locks c = rw c.of.ensures (record { unlocked = c.in_ok-rrn.ensures.unlocked; few = few-of MOST_LOCKS _ _ (rw c.write_call.ensures.call at c.in_ok-few_locks_to_write.ensures) })
