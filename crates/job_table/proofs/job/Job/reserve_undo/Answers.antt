use Rattle.std.proofs.Common.{length, ap, sym, ◌∙◌}
use Rattle.lawful_states.specs.Uses.{changes_in}
use Rattle.job_table.proofs.OpenLemmas.{same-opens}
use Rattle.job_table.proofs.job.Job.reserve_undo.Goals as goal

pub returns-clause-whole : goal.returns-clause-whole
returns-clause-whole c = record {
  ordered = same-opens c.self.inside.opens c.self.invariant.0.alike;
  counted = ap (λ l. length l) c.reserve.ensures.moves ∙ c.self.invariant.1 ∙ sym (ap (λ cycle. length (changes_in cycle)) c.reserve.ensures.cycle);
}
