use Rattle.std.proofs.Common.{refl}
use Rattle.library_steps.specs.State.{memory_of}
use Rattle.library_steps.specs.Locking.{locks_left}
use Rattle.library_steps.specs.WriteRecord.{write_call}
use Rattle.library_model.specs.declared.replies.Reply.TheVariants.{Added}
use Rattle.record_changes.specs.Plans.{new_slot}
use Rattle.record_changes.proofs.ChangeLemmas.{Answers-changed}
use Rattle.record_changes.proofs.write.apply_write.Goals as goal

pub returns : goal.returns
returns c =
    let planned = new_slot c.args.planned in
    let old = c.args.contents.now.state in
    Answers-changed c.args.job c.args.timestamp planned old c.leave_locks.new.contents.state c.change_slot.new.contents.state c.change_slot.new.contents.state
    (locks_left (write_call c.args.asked) c.args.job planned.opened planned.rrn (memory_of old)) (λ m. m) (Added planned.rrn) (record { last = λ m n. refl; same = λ m. refl; gone = λ m. refl })
    (rw (← c.write_call.ensures.call) c.leave_locks.ensures.state) c.change_slot.ensures refl refl
