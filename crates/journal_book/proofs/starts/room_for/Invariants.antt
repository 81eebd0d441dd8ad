use Rattle.std.proofs.Common.{◌≤◌, ◌-◌}
use Rattle.receiver_chain.specs.Chain.{attached_of}
use Rattle.journal_book.proofs.starts.room_for.Given as goal

abbrev pub invariant-loop-receiver : goal.invariant-loop-receiver
invariant-loop-receiver l = record { from : l.chain.first ≤ l.receiver; upto : l.receiver ≤ attached_of l.chain }

abbrev pub decreases-loop-receiver : goal.decreases-loop-receiver
decreases-loop-receiver l = attached_of l.chain - l.receiver
