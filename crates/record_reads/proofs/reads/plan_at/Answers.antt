use Rattle.library_steps.specs.State.{memory_of}
use Rattle.record_reads.proofs.ReadLemmas.{found-read, found-stopped}
use Rattle.record_reads.proofs.reads.plan_at.Goals as goal

pub plan_record-requires-clause-shows : goal.plan_record-requires-clause-shows
plan_record-requires-clause-shows c = λ none. rw c.at-at.ensures.state (c.requires.shows none)

pub plan_record-requires-clause-found : goal.plan_record-requires-clause-found
plan_record-requires-clause-found c = (c.requires.found.it, c.requires.found.row)

pub returns-in-Ok : goal.returns-in-Ok
returns-in-Ok c =
    let gives = rw (c.in-Ok.is, c.at-at.ensures.state) at c.plan_record.ensures.plan in
    found-read (memory_of c.args.contents.now.state) c.args.job c.args.file.now c.args.opened.now.state c.args.lock c.args.by c.requires.asked c.args.found c.requires.found c.in-Ok.read
    (gives c.requires.found.it c.requires.found.row) c.in-Ok.ensures.lockable (rw c.at-at.ensures.state at c.in-Ok.ensures.through)

pub returns-in-Err : goal.returns-in-Err
returns-in-Err c =
    let gives = rw (c.in-Err.is, c.at-at.ensures.state) at c.plan_record.ensures.plan in
    found-stopped (memory_of c.args.contents.now.state) c.args.job c.args.file.now c.args.opened.now.state c.args.lock c.args.by c.requires.asked c.args.found c.requires.found c.in-Err.stop
    (gives c.requires.found.it c.requires.found.row)
