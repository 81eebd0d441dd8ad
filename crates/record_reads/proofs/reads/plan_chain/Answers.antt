use Rattle.library_steps.specs.State.{memory_of}
use Rattle.record_reads.specs.Plans.{opened_with}
use Rattle.record_reads.proofs.PlanLemmas.{chain-through}
use Rattle.record_reads.proofs.ReadLemmas.{requested}
use Rattle.record_reads.proofs.reads.plan_chain.Goals as goal

pub plan_found-requires-clause-asked : goal.plan_found-requires-clause-asked
plan_found-requires-clause-asked c = c.in_ok-by.ensures.asked

pub returns : goal.returns
returns c =
    let m = memory_of c.args.contents.now.state in
    let its = opened_with c.in_ok-opened.field-0.opened.now.state c.in_ok-opened.field-0.file.now in
    requested m c.args.job c.args.args.now.open_id its _ _ c.plan_found.result c.in_ok-opened.ensures.found
    (chain-through m c.args.job its c.args.args.now c.in_ok-by.by c.in_ok-opened.ensures.found c.in_ok-by.ensures)
    c.plan_found.ensures
