use Rattle.std.proofs.Common.{length, ap, sym, ◌∙◌}
use Rattle.lawful_states.specs.Uses.{changes_in}
use Rattle.job_table.proofs.OpenLemmas.{same-opens}
use Rattle.job_table.proofs.job.Job.end_cycle.Goals as goal

pub returns-clause-whole : goal.returns-clause-whole
returns-clause-whole c = record {
  ordered = same-opens c.self.inside.opens c.self.invariant.0.alike;
  counted = ap (λ l. length l) c.end.ensures.emptied ∙ sym (ap (λ cycle. length (changes_in cycle)) c.end.ensures.ended);
}
