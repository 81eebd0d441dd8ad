use Rattle.std.proofs.Common.{◌==◌, if◌then◌else◌, refl}
use Rattle.lawful_states.specs.ChangeRecord.{without_current}
use Rattle.job_table.specs.declared.opens.OpenChange.TheVariants.{WithoutCurrent}
use Rattle.job_table.proofs.OpenLemmas.{none-asked, opens_after-same}
use Rattle.job_table.proofs.TableLemmas.{changed-each}
use Rattle.job_table.proofs.jobs.Jobs.give_up_current.Goals as goal

pub change_opens-requires-clause-possible : goal.change_opens-requires-clause-possible
change_opens-requires-clause-possible c = none-asked _

pub returns : goal.returns
returns c =
    changed-each (WithoutCurrent c.args.opened) (λ opened. if opened.number == c.args.opened then without_current opened else opened) c.args.number c.args.self.now _ c.requires
    c.change_opens.ensures.changed (opens_after-same (WithoutCurrent c.args.opened) _ _ _ c.change_opens.ensures.ordered (λ formats opened. refl))
