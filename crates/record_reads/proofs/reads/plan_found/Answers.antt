use Rattle.library_steps.specs.State.{memory_of}
use Rattle.record_reads.proofs.ReadLemmas.{nothing-read}
use Rattle.record_reads.proofs.reads.plan_found.Goals as goal

pub plan_at-requires-clause-found : goal.plan_at-requires-clause-found
plan_at-requires-clause-found c = rw c.in-Ok.is at c.find_asked.ensures.finds

pub plan_at-requires-clause-shows : goal.plan_at-requires-clause-shows
plan_at-requires-clause-shows c = rw c.in-Ok.is at c.find_asked.ensures.shows

pub returns-in-Err : goal.returns-in-Err
returns-in-Err c =
    nothing-read (memory_of c.args.contents.now.state) c.args.job c.args.file.now c.args.opened.now.state c.args.lock c.args.by c.in-Err.stop (rw c.in-Err.is at c.find_asked.ensures.finds)
