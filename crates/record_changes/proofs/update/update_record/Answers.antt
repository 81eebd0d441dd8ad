use Rattle.std.proofs.Common.{refl}
use Rattle.library_steps.specs.State.{memory_of}
use Rattle.library_steps.specs.ChangeRecord.{update_change, update_plan}
use Rattle.record_changes.specs.Opens.{bare_slot}
use Rattle.record_changes.specs.Plans.{new_slot}
use Rattle.record_changes.proofs.AnswerLemmas.{Answers-planned}
use Rattle.record_changes.proofs.update.update_record.Goals as goal

pub returns : goal.returns
returns c =
    let old = c.args.contents.now.state in
    record {
      answers = Answers-planned bare_slot (λ m. update_change m c.args.job c.args.timestamp) (λ m new. refl) old c.prepare_change.new.contents.state c.apply_update.new.contents.state
          c.apply_update.result (update_plan (memory_of old) c.args.job c.args.args.now) (new_slot c.in_ok-planned.planned) c.in_ok-planned.ensures.plan c.in_ok-prepared.ensures.state c.apply_update.ensures;
    }
