use Rattle.std.proofs.Common.{◌≡◌, ◌++◌, map, take, drop}
use Rattle.job_table.specs.OpenChanges.{open_after}
use Rattle.job_table.proofs.OpenLemmas.{changed_entry}
use Rattle.job_table.proofs.opens.Opens.change_each.Given as goal

abbrev pub invariant-loop-entry : goal.invariant-loop-entry
invariant-loop-entry l =
    l.entry-items ≡ map (changed_entry (open_after l.change)) (take l.entry-index l.initial.entry-items) ++ drop l.entry-index l.initial.entry-items
