use Rattle.std.proofs.Common.{false}
use Rattle.lawful_states.proofs.LockLemmas.{gained-unlocked}
use Rattle.library_parts.proofs.leave.leave.Goals as goal

pub keep-requires-clause-unlocked : goal.keep-requires-clause-unlocked
keep-requires-clause-unlocked c =
    rw (c.gained.ensures, c.free.ensures (λ n. false), c.released-released.ensures)
    (gained-unlocked c.args.call c.args.level c.args.holder c.args.at (λ n. false) c.args.locks.now.held c.requires.unlocked)
