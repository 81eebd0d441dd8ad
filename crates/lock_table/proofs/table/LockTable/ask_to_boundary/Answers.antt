-- No job blocks the request.
use Rattle.std.proofs.Common.{sym}
use Rattle.lock_table.proofs.table.LockTable.ask_to_boundary.Goals as goal

pub hold_to_boundary-requires-clause-unlocked : goal.hold_to_boundary-requires-clause-unlocked
hold_to_boundary-requires-clause-unlocked c = sym c.in_default.ensures
