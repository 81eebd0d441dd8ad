use Rattle.std.proofs.Common.{◌==◌, if◌then◌else◌}
use Rattle.lawful_states.specs.Reads.{has_read, entry_found}
use Rattle.job_table.specs.declared.opens.OpenChange.TheVariants.{HasRead}
use Rattle.job_table.proofs.OpenLemmas.{opens_after-read}
use Rattle.job_table.proofs.TableLemmas.{changed-each}
use Rattle.job_table.proofs.jobs.Jobs.note_read.Goals as goal

pub returns : goal.returns
returns c = λ entry all.
    changed-each (HasRead c.args.opened c.args.call c.args.hit.now) (λ opened. if opened.number == c.args.opened then has_read c.args.call (entry_found entry) opened else opened)
    c.args.number c.args.self.now _ c.requires.running c.change_opens.ensures.changed (opens_after-read c.args.opened c.args.call c.args.hit.now entry _ _ c.change_opens.ensures.ordered all)
