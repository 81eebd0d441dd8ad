use Rattle.library_steps.specs.State.{memory_of}
use Rattle.record_reads.specs.Plans.{opened_with}
use Rattle.record_reads.proofs.PlanLemmas.{key-chained, key-not-chained}
use Rattle.record_reads.proofs.reads.chained_by_key.Goals as goal

pub returns-in-Ok : goal.returns-in-Ok
returns-in-Ok c =
    key-chained (memory_of c.args.contents.now.state) 0 (opened_with c.args.opened.now.state c.args.file.now) c.args.values.now c.in-Ok.key
    (rw c.in-Ok.is at c.given_key.ensures)

pub returns-in-Err : goal.returns-in-Err
returns-in-Err c =
    key-not-chained (memory_of c.args.contents.now.state) 0 (opened_with c.args.opened.now.state c.args.file.now) c.args.values.now c.in-Err.stop (rw c.in-Err.is at c.given_key.ensures)
