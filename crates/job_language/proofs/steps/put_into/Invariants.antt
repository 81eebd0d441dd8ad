use Rattle.std.proofs.Common.{◌≡◌, drop}
use Rattle.job_language.specs.Replies.{put_into}
use Rattle.job_language.proofs.steps.put_into.Given as goal

abbrev pub invariant-loop-variable : goal.invariant-loop-variable
invariant-loop-variable l = record {
  put : put_into (drop l.variable-index l.into) l.rest l.variables.now ≡ put_into l.fn.into l.fn.fields l.fn.variables.now;
  before : l.variables.before ≡ l.fn.variables.before;
}
