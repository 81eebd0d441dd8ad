use Rattle.std.proofs.Common.{length, false}
use Rattle.lawful_states.proofs.LawfulLemmas.{AreOne-locks}
use Rattle.lawful_states.proofs.LockLemmas.{All-locks_after, running-HasBegun}
use Rattle.library_parts.proofs.contents.Contents.lock_for.Goals as goal

pub invariant_of-self : goal.invariant_of-self
invariant_of-self c =
    let inside = c.self.inside in
    let begun = running-HasBegun inside.jobs.jobs c.args.holder.job (rw (← c.self.view_is) at c.requires.running) in
    rw (c.leave.ensures (λ n. false)) (
      AreOne-locks _ _ _ c.self.invariant.0 (All-locks_after (length inside.jobs.jobs) c.args.holder c.args.at
          (λ n. false) begun c.args.call c.args.level inside.locks.held c.self.invariant.0.lawful.keepers),
      c.self.invariant.1,
      c.self.invariant.2,
    )
