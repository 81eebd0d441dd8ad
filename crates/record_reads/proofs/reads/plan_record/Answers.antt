use Rattle.library_steps.specs.State.{memory_of}
use Rattle.record_reads.proofs.ReadLemmas.{record-planned}
use Rattle.record_reads.proofs.reads.plan_record.Goals as goal

pub returns-clause-plan : goal.returns-clause-plan
returns-clause-plan c = λ it its.
    record-planned (memory_of c.args.contents.now.state) c.args.job c.args.file.now c.args.opened.now.state c.args.lock c.args.found.now.rrn it.row _ c.read_call-call.ensures.call
    c.in_ok-not_locked.ensures c.in_ok-few_locks_to_read.ensures _ c.used_open.ensures _ (c.in_ok-shown.ensures it its)
