use Rattle.std.proofs.Common.{[]}
use Rattle.job_runner.proofs.MadeLemmas.{HasMade-none}
use Rattle.ibmi_batch.proofs.RunLemmas.{in-turn-none}
use Rattle.ibmi_batch.proofs.running.run_jobs.Goals as goal

pub returns-in-Err-clause-made : goal.returns-in-Err-clause-made
returns-in-Err-clause-made g c = ([], HasMade-none g.S.Store.tells g.S.Store.disk g.C.Clock.gives c.args.session.now, λ serial. in-turn-none _ _ _)
