use Rattle.std.proofs.Common.{drop}
use Rattle.parts_model.proofs.IndexDetached.{IsGivingUp}
use Rattle.library_parts.proofs.files.detach_paths.Given as goal

abbrev pub invariant-loop-status : goal.invariant-loop-status
invariant-loop-status l = IsGivingUp l.gone l.initial.paths (drop l.status-index l.status-items) l.paths
