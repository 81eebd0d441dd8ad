use Rattle.std.proofs.Common.{◌≡◌, drop}
use Rattle.journal_model.specs.Replayable.{is_one_of}
use Rattle.open_cycles.proofs.cycles.OpenCycles.is_open.Given as goal

abbrev pub invariant-loop-open : goal.invariant-loop-open
invariant-loop-open l = is_one_of (drop l.open-index l.open-items) l.cycle ≡ is_one_of l.self.cycles l.cycle
