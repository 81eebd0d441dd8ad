use Rattle.std.proofs.Common.{refl}
use Rattle.lawful_states.specs.ChangeRecord.{without_record}
use Rattle.job_table.specs.declared.opens.OpenChange.TheVariants.{WithoutRecord}
use Rattle.job_table.proofs.OpenLemmas.{none-asked, opens_after-same}
use Rattle.job_table.proofs.TableLemmas.{changed-each}
use Rattle.job_table.proofs.jobs.Jobs.give_up_record.Goals as goal

pub change_opens-requires-clause-possible : goal.change_opens-requires-clause-possible
change_opens-requires-clause-possible c = none-asked _

pub returns : goal.returns
returns c =
    changed-each (WithoutRecord c.args.member c.args.rrn) (without_record c.args.member c.args.rrn) c.args.number c.args.self.now _ c.requires
    c.change_opens.ensures.changed (opens_after-same (WithoutRecord c.args.member c.args.rrn) _ _ _ c.change_opens.ensures.ordered (λ formats opened. refl))
