use Rattle.std.proofs.Common.{◌≡◌, ◌≤◌, ◌++◌, length, take}
use Rattle.journal_model.specs.Rollback.{undo_drafts}
use Rattle.open_cycles.specs.Kept.{live}
use Rattle.restart_drafts.specs.Undos.{of_cycle}
use Rattle.restart_drafts.proofs.drafts.put_undos.Given as goal

abbrev pub invariant-loop-left : goal.invariant-loop-left
invariant-loop-left l = (l.left ≤ length l.changes)
    × (l.drafts.items ++ undo_drafts l.by.job l.by.moment (of_cycle l.cycle (live (take l.left l.changes))) ≡ l.fn.drafts.items ++ undo_drafts l.by.job l.by.moment (of_cycle l.cycle (live l.changes)))

abbrev pub decreases-loop-left : goal.decreases-loop-left
decreases-loop-left l = l.left
