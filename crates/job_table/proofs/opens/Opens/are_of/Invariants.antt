use Rattle.std.proofs.Common.{◌≡◌, drop}
use Rattle.std.specs.List.{list_any}
use Rattle.job_table.specs.Opens.{is_of, states_of}
use Rattle.job_table.proofs.opens.Opens.are_of.Given as goal

abbrev pub invariant-loop-entry : goal.invariant-loop-entry
invariant-loop-entry l = list_any (is_of l.file) (states_of (drop l.entry-index l.entry-items)) ≡ list_any (is_of l.file) (states_of l.self)
