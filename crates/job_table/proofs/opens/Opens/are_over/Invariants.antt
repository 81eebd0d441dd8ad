use Rattle.std.proofs.Common.{◌≡◌, drop}
use Rattle.std.specs.List.{list_any}
use Rattle.job_table.specs.Opens.{is_over, states_of}
use Rattle.job_table.proofs.opens.Opens.are_over.Given as goal

abbrev pub invariant-loop-entry : goal.invariant-loop-entry
invariant-loop-entry l = list_any (is_over l.member) (states_of (drop l.entry-index l.entry-items)) ≡ list_any (is_over l.member) (states_of l.self)
