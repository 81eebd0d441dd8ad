use Rattle.std.proofs.Common.{◌==◌, if◌then◌else◌}
use Rattle.lawful_states.specs.Reads.{positioned}
use Rattle.job_table.specs.declared.opens.OpenChange.TheVariants.{Positioned}
use Rattle.job_table.proofs.OpenLemmas.{opens_after-positioned}
use Rattle.job_table.proofs.TableLemmas.{changed-each}
use Rattle.job_table.proofs.jobs.Jobs.set_position.Goals as goal

pub returns : goal.returns
returns c = λ join position all.
    changed-each (Positioned c.args.opened c.args.side c.args.at) (λ opened. if opened.number == c.args.opened then positioned join position opened else opened)
    c.args.number c.args.self.now _ c.requires.running c.change_opens.ensures.changed (opens_after-positioned c.args.opened c.args.side c.args.at join position _ _ c.change_opens.ensures.ordered all)
