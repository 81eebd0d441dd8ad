use Rattle.record_reads.proofs.reads.read_prior.Goals as goal

pub returns : goal.returns
returns c = record { answers = c.carry_out.ensures _ c.in_ok-plan.ensures.leads }
