use Rattle.file_model.specs.Positions.{Before}
use Rattle.library_steps.specs.LogicalFiles.{bases_of}
use Rattle.library_steps.specs.State.{memory_of}
use Rattle.record_reads.specs.Plans.{opened_with}
use Rattle.record_reads.proofs.SimpleLemmas.{takes-number, no-key}
use Rattle.record_reads.proofs.PlanLemmas.{number-chained, number-not-chained}
use Rattle.record_reads.proofs.reads.chained_by_number.Goals as goal

pub returns-in-Ok : goal.returns-in-Ok
returns-in-Ok c =
    let m = memory_of c.args.contents.now.state in
    let its = opened_with c.args.opened.now.state c.args.file.now in
    let can = rw c.in-Ok.is at c.may_stand_at.ensures in
    let takes = takes-number its c.args.rrn (can Before) in
    number-chained m 0 its c.args.rrn takes.numbered (no-key (bases_of m) its.file its.opened takes.numbered c.requires.so takes.unkeyed) takes.asked

pub returns-in-Err : goal.returns-in-Err
returns-in-Err c =
    number-not-chained (memory_of c.args.contents.now.state) 0 (opened_with c.args.opened.now.state c.args.file.now) c.args.rrn c.in-Err.stop (rw c.in-Err.is at c.may_stand_at.ensures)
