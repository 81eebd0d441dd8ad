use Rattle.std.proofs.Common.{◌∙◌, sym, arith, drop}
use Rattle.job_language.proofs.ReplyLemmas.{put_into-short}
use Rattle.job_language.proofs.steps.put_into.Goals as goal

pub returns-in_default-clause-now : goal.returns-in_default-clause-now
returns-in_default-clause-now c =
    sym (put_into-short (drop c.loop-variable.variable-index c.args.into.now) c.loop-variable.rest.now c.loop-variable.variables.now (omega (arith, c.in_default.len_below)))
    ∙ c.loop-variable.invariant.put
