-- One lock more has room.
use Rattle.std.proofs.Common.{◌≤◌, rules}
use Rattle.lock_table.specs.declared.lock.Reach.TheVariants.{Open, Boundary}
use Rattle.lock_table.specs.Table.{spare}
use Rattle.lock_table.proofs.Counts.{HasRoom-spare}
use Rattle.index_tests.proofs.locks.ask.Goals as goal

pub ask-requires : goal.ask-requires
ask-requires g c = let more : 1 ≤ spare c.reserve.new.self = search rules in HasRoom-spare _ _ _ Open c.reserve.new.self more

pub ask_to_boundary-requires : goal.ask_to_boundary-requires
ask_to_boundary-requires g c = let more : 1 ≤ spare c.reserve.new.self = search rules in HasRoom-spare _ _ _ Boundary c.reserve.new.self more
