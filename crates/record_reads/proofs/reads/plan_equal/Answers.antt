use Rattle.std.proofs.Common.{◌∙◌, sym, ap}
use Rattle.library_steps.specs.State.{memory_of}
use Rattle.record_reads.specs.declared.asked.AskedBy.{AskedBy}
use Rattle.record_reads.specs.Plans.{opened_with, read_found}
use Rattle.record_reads.proofs.PlanLemmas.{equal-asked, equal-through}
use Rattle.record_reads.proofs.ReadLemmas.{requested}
use Rattle.record_reads.proofs.reads.plan_equal.Goals as goal

pub plan_found-requires-clause-asked : goal.plan_found-requires-clause-asked
plan_found-requires-clause-asked c =
    rw c.equal.ensures
    (equal-asked c.args.direction c.in_ok-key.key c.in_ok-opened.field-0.file.now c.in_ok-opened.field-0.opened.now.state (memory_of c.args.contents.now.state)
    c.in_ok-key.ensures.2.bytes)

pub returns : goal.returns
returns c =
    let m = memory_of c.args.contents.now.state in
    let its = opened_with c.in_ok-opened.field-0.opened.now.state c.in_ok-opened.field-0.file.now in
    requested m c.args.job c.args.args.now.open_id its _ _ c.plan_found.result c.in_ok-opened.ensures.found
    (equal-through m c.args.job its c.args.direction c.args.args.now c.in_ok-key.key c.in_ok-opened.ensures.found
    (rw c.as_slice.ensures at c.in_ok-key.ensures)
    ∙ ap (λ (by : AskedBy). read_found m c.args.job its c.args.args.now.lock by) (sym c.equal.ensures))
    c.plan_found.ensures
