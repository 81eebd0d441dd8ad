use Rattle.std.proofs.Common.{◌<◌, length, arith}
use Rattle.std.proofs.lemmas.List.Edits.{map_over_more}
use Rattle.job_table.specs.OpenChanges.{open_after}
use Rattle.job_table.proofs.OpenLemmas.{changed_entry}
use Rattle.job_table.proofs.opens.Opens.change_each.Goals as goal

pub loop-entry-preserved : goal.loop-entry-preserved
loop-entry-preserved c =
    let within : c.loop-entry.entry-index < length c.deref_mut-entry-items.result.now = omega arith in
    rw (c.make.ensures, ← c.entry-item.is)
    (map_over_more (changed_entry (open_after c.args.change.now)) c.deref_mut-entry-items.result.now c.loop-entry.entry-items c.loop-entry.entry-index c.entry-item.result within
    c.loop-entry.invariant c.entry-item.is)
