use Rattle.std.proofs.Common.{length}
use Rattle.parts_model.proofs.TakingBackLemmas.{IsUnderway}
use Rattle.parts_model.proofs.UndoingLemmas.{IsUndoing}
use Rattle.library_parts.proofs.boundaries.take_all_back.Given as goal

abbrev pub invariant-loop-undo : goal.invariant-loop-undo
invariant-loop-undo l =
    IsUnderway l.job l.moment l.fn.undos.changes l.fn.members l.fn.journal l.left.changes l.members l.journal
    × IsUndoing l.fn.members.members l.fn.paths l.fn.undos.changes l.fn.undos.moves l.left.changes l.left.moves l.members.members l.paths

abbrev pub decreases-loop-undo : goal.decreases-loop-undo
decreases-loop-undo l = length l.left.changes
