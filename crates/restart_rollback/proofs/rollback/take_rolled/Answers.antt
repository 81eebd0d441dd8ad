use Rattle.std.proofs.Common.{◌++◌, ℕ, Option, subst}
use Rattle.journal_opening.specs.Takings.{AreTaken}
use Rattle.restart_rollback.proofs.Rolling.{whatever}
use Rattle.restart_rollback.proofs.rollback.take_rolled.Goals as goal

pub returns-in-None-clause-left : goal.returns-in-None-clause-left
returns-in-None-clause-left g c =
    whatever c.all_closed.result (λ before left. subst (λ (o : Option ℕ). AreTaken (g.D.Describe.rules c.args.by.now) (before ++ c.args.more.now) c.take_all.new.replay o) c.in-None.is
    (c.in_ok-found.ensures before left))
