use Rattle.std.proofs.Common.{◌≤◌, length, false, refl, arith}
use Rattle.parts_model.proofs.AnswerLemmas.{AsksNone-of_open, AsksNone-unlocked, length-AsksNone}
use Rattle.lawful_states.proofs.LawfulLemmas.{AreOne-locks}
use Rattle.lawful_states.proofs.LockLemmas.{All-locks_after, running-HasBegun}
use Rattle.library_parts.proofs.contents.Contents.free_for.Goals as goal

pub leave-requires-clause-call : goal.leave-requires-clause-call
leave-requires-clause-call c = AsksNone-of_open c.args.call c.requires.call

pub leave-requires-clause-unlocked : goal.leave-requires-clause-unlocked
leave-requires-clause-unlocked c = AsksNone-unlocked c.args.call c.args.level _ c.requires.call

pub leave-requires-clause-room : goal.leave-requires-clause-room
leave-requires-clause-room c =
    let held = c.self.inside.locks.held in
    let fewer = length-AsksNone c.args.call c.args.level c.args.holder c.args.at (λ n. false) held c.requires.call in
    let fits : length held ≤ c.self.inside.locks.room = c.count-count.ensures.table.fits in
    omega (arith, fewer, fits)

pub invariant_of-self : goal.invariant_of-self
invariant_of-self c =
    let inside = c.self.inside in
    let begun = running-HasBegun inside.jobs.jobs c.args.holder.job (rw (← c.self.view_is) at c.requires.running) in
    rw (c.leave.ensures (λ n. false)) (
      AreOne-locks _ _ _ c.self.invariant.0 (All-locks_after (length inside.jobs.jobs) c.args.holder c.args.at
          (λ n. false) begun c.args.call c.args.level inside.locks.held c.self.invariant.0.lawful.keepers),
      c.self.invariant.1,
      c.self.invariant.2,
    )

pub returns-clause-room : goal.returns-clause-room
returns-clause-room c = rw (← c.self.view_is, c.leave.ensures (λ n. false)) refl
