use Rattle.std.proofs.Common.{length, ap, sym, ◌∙◌}
use Rattle.lawful_states.specs.Uses.{changes_in}
use Rattle.job_table.proofs.OpenLemmas.{same-opens}
use Rattle.job_table.proofs.TableLemmas.{counted-noted}
use Rattle.job_table.proofs.job.Job.note.Goals as goal

pub returns-clause-whole : goal.returns-clause-whole
returns-clause-whole c = record {
  ordered = same-opens c.self.inside.opens c.self.invariant.0.alike;
  counted = ap (λ l. length l) c.note.ensures.moves
      ∙ counted-noted c.self.inside.cycle.moves c.self.inside.cycle.cycle c.args.sequence c.args.undo.moves c.args.undo.change c.self.invariant.1
      ∙ sym (ap (λ cycle. length (changes_in cycle)) c.note.ensures.cycle);
}
