use Rattle.std.proofs.Common.{rules}
use Rattle.job_history.proofs.CountingLemmas.{is_full-calls, is_full-bytes}
use Rattle.job_history.proofs.history.History.is_full.Goals as goal

pub returns-then-self-ge-MOST_CALLS : goal.returns-then-self-ge-MOST_CALLS
returns-then-self-ge-MOST_CALLS c = rw (← c.self.view_is) (is_full-calls _ _ _ c.self.invariant c.if-self-ge-MOST_CALLS.true)

pub returns-else-self-ge-MOST_CALLS : goal.returns-else-self-ge-MOST_CALLS
returns-else-self-ge-MOST_CALLS c = rw (← c.self.view_is) (is_full-bytes _ _ _ c.self.invariant c.if-self-ge-MOST_CALLS.false)
