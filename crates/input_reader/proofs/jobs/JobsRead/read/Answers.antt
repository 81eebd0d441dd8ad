use Rattle.input_reader.proofs.JobLemmas.{askable-push}
use Rattle.input_reader.proofs.jobs.JobsRead.read.Goals as goal

pub returns-in-Ok-clause-askable : goal.returns-in-Ok-clause-askable
returns-in-Ok-clause-askable c = askable-push c.push.result c.args.self.now.scripts c.push.new.self c.in-Ok.script c.push.ensures.pushed c.in-Ok.ensures.askable
