use Rattle.std.proofs.Common.{Ok, subst}
use Rattle.library_steps.specs.State.{State, memory_of}
use Rattle.library_parts.specs.Answers.{Answers}
use Rattle.record_reads.specs.Plans.{IsWanted}
use Rattle.record_reads.proofs.reads.read_by.Goals as goal

pub apply_read-requires-clause-plan : goal.apply_read-requires-clause-plan
apply_read-requires-clause-plan c = rw c.in_ok-reserve_lock.ensures.state c.requires.plan

pub returns : goal.returns
returns c = λ wanted. subst
    (λ (s : State). IsWanted (memory_of s) c.args.job c.args.name.now c.args.by.now c.args.plan wanted → Answers s c.apply_read.new.contents.state (Ok c.apply_read.result) wanted)
    c.in_ok-reserve_lock.ensures.state (c.apply_read.ensures wanted)
