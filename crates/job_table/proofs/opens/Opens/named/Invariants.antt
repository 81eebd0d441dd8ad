use Rattle.std.proofs.Common.{◌≡◌, drop}
use Rattle.library_model.specs.Named.{named}
use Rattle.job_table.proofs.opens.Opens.named.Given as goal

abbrev pub invariant-loop-entry : goal.invariant-loop-entry
invariant-loop-entry l = named l.name (drop l.entry-index l.entry-items) ≡ named l.name l.self
