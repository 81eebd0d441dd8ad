use Rattle.journal_limits.proofs.LimitSteps.{fits-stays, stays-fits}
use Rattle.journal_limits.proofs.laws.entries_keep_limits.Goals as goal

pub returns : goal.returns
returns c = λ d keeps entries e s next left after stays. ((λ further. stays-fits d entries e next after further), (λ fits. fits-stays d keeps entries s left e next after stays fits))
