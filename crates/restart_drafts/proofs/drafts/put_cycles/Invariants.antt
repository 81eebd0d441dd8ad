use Rattle.std.proofs.Common.{◌≡◌, ◌++◌, drop}
use Rattle.journal_model.specs.Rollback.{all_rollback_drafts}
use Rattle.restart_drafts.proofs.drafts.put_cycles.Given as goal

abbrev pub invariant-loop-cycle : goal.invariant-loop-cycle
invariant-loop-cycle l =
    l.drafts.items ++ all_rollback_drafts l.by.job l.by.moment (drop l.cycle-index l.cycles) l.those.undos ≡ l.fn.drafts.items ++ all_rollback_drafts l.by.job l.by.moment l.cycles l.those.undos
