use Rattle.std.proofs.Common.{◌==◌, if◌then◌else◌}
use Rattle.lawful_states.specs.Reads.{has_read, row_found}
use Rattle.job_table.specs.declared.opens.OpenChange.TheVariants.{HasReadRow}
use Rattle.job_table.proofs.OpenLemmas.{opens_after-row}
use Rattle.job_table.proofs.TableLemmas.{changed-each}
use Rattle.job_table.proofs.jobs.Jobs.note_row.Goals as goal

pub returns : goal.returns
returns c = λ place all.
    changed-each (HasReadRow c.args.opened c.args.call c.args.read) (λ opened. if opened.number == c.args.opened then has_read c.args.call (row_found place) opened else opened)
    c.args.number c.args.self.now _ c.requires.running c.change_opens.ensures.changed (opens_after-row c.args.opened c.args.call c.args.read place _ _ c.change_opens.ensures.ordered all)
