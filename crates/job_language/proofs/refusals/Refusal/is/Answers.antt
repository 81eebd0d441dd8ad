use Rattle.std.proofs.Common.{◌∙◌}
use Rattle.job_language.proofs.RefusalLemmas.{same}
use Rattle.job_language.proofs.refusals.Refusal.is.Goals as goal

pub returns : goal.returns
returns c = c.eq.ensures ∙ same c.args.self c.args.other
