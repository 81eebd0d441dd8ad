use Rattle.std.proofs.Common.{take}
use Rattle.store_model.specs.Replayed.{IsReplayed}
use Rattle.store_model.proofs.replay.replay.Given as goal

abbrev pub invariant-loop-change : goal.invariant-loop-change
invariant-loop-change l = IsReplayed (take l.change-index l.changes) l.area l.replayed
