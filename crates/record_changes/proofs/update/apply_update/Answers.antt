use Rattle.std.proofs.Common.{refl}
use Rattle.library_steps.specs.State.{memory_of, with_job}
use Rattle.library_steps.specs.Reads.{open_changed}
use Rattle.library_steps.specs.ChangeRecord.{without_current}
use Rattle.library_steps.specs.Locking.{locks_left}
use Rattle.lock_table.specs.declared.levels.Call.TheVariants.{Update}
use Rattle.library_model.specs.declared.replies.Reply.TheVariants.{Done}
use Rattle.record_changes.specs.Plans.{new_slot}
use Rattle.record_changes.proofs.ChangeLemmas.{Answers-changed, changed-running}
use Rattle.record_changes.proofs.update.apply_update.Goals as goal

pub give_up_current-requires : goal.give_up_current-requires
give_up_current-requires c =
    changed-running c.args.job c.args.timestamp (new_slot c.args.planned) c.leave_locks.new.contents.state c.change_slot.new.contents.state c.change_slot.ensures
    (rw c.leave_locks.ensures.state c.requires.running)

pub returns : goal.returns
returns c =
    let planned = new_slot c.args.planned in
    let old = c.args.contents.now.state in
    Answers-changed c.args.job c.args.timestamp planned old c.leave_locks.new.contents.state c.change_slot.new.contents.state c.give_up_current.new.self.state
    (locks_left Update c.args.job planned.opened planned.rrn (memory_of old)) (with_job c.args.job (open_changed c.args.planned.opened.number without_current)) Done (record { last = λ m n. refl; same = λ m. refl; gone = λ m. refl })
    c.leave_locks.ensures.state c.change_slot.ensures (rw c.number-number.ensures at c.give_up_current.ensures.memory) c.give_up_current.ensures.entries
