use Rattle.std.proofs.Common.{refl}
use Rattle.library_steps.specs.State.{memory_of, with_job, with_opens}
use Rattle.library_steps.specs.ChangeRecord.{without_record}
use Rattle.library_steps.specs.Locking.{locks_left}
use Rattle.lock_table.specs.declared.levels.Call.TheVariants.{Delete}
use Rattle.library_model.specs.declared.replies.Reply.TheVariants.{Done}
use Rattle.record_changes.specs.Plans.{new_slot}
use Rattle.record_changes.proofs.ChangeLemmas.{Answers-changed, changed-running}
use Rattle.record_changes.proofs.delete.apply_delete.Goals as goal

pub give_up_record-requires : goal.give_up_record-requires
give_up_record-requires c =
    changed-running c.args.job c.args.timestamp (new_slot c.args.planned) c.leave_locks.new.contents.state c.change_slot.new.contents.state c.change_slot.ensures
    (rw c.leave_locks.ensures.state c.requires.running)

pub returns : goal.returns
returns c =
    let planned = new_slot c.args.planned in
    let old = c.args.contents.now.state in
    Answers-changed c.args.job c.args.timestamp planned old c.leave_locks.new.contents.state c.change_slot.new.contents.state c.give_up_record.new.self.state
    (locks_left Delete c.args.job planned.opened planned.rrn (memory_of old)) (with_job c.args.job (with_opens (without_record c.args.planned.opened.member c.args.planned.rrn))) Done (record { last = λ m n. refl; same = λ m. refl; gone = λ m. refl })
    c.leave_locks.ensures.state c.change_slot.ensures (rw c.member-member.ensures at c.give_up_record.ensures.memory) c.give_up_record.ensures.entries
