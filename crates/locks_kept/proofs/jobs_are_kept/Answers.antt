use Rattle.locks_kept.proofs.JobsKept.{jobs-kept}
use Rattle.locks_kept.proofs.jobs_are_kept.Goals as goal

pub returns-clause-idle : goal.returns-clause-idle
returns-clause-idle c = λ s done does place job at. (jobs-kept s done does place job at).idle

pub returns-clause-control : goal.returns-clause-control
returns-clause-control c = λ s done does place job at. (jobs-kept s done does place job at).control

pub returns-clause-opens : goal.returns-clause-opens
returns-clause-opens c = λ s done does place job at. (jobs-kept s done does place job at).opens
