use Rattle.std.proofs.Common.{map}
use Rattle.std.specs.String.{string_bytes}
use Rattle.ibmi_batch.proofs.RunLemmas.{session-at, session-outcome, session-ran, session-rose}
use Rattle.ibmi_batch.proofs.running.run_session.Goals as goal

pub returns-clause-ran : goal.returns-clause-ran
returns-clause-ran g c = λ from forced.
    let words = map string_bytes c.args.words.now in
    let made = c.run_jobs-ran.ensures.made in
    let later = c.run_jobs-ran.new.session in
    let outcome = session-outcome g.S.Store.tells g.S.Store.disk g.C.Clock.gives words c.args.session later made.0 from c.requires.calls forced made.1 made.2 in
    let at = session-at g.S.Store.tells g.S.Store.disk g.C.Clock.gives words c.args.session later made.0 from c.requires.calls forced made.1 made.2 in
    rw (c.into_parts-store.ensures.store, c.into_parts-store.ensures.clock)
    (session-ran g.S.Store.tells g.S.Store.disk g.C.Clock.gives words c.args.session later made.0 from c.requires.calls forced made.1 made.2 c.write_outcome-status.result _ (c.write_outcome-status.ensures.ran outcome at))

pub returns-clause-cause : goal.returns-clause-cause
returns-clause-cause g c = λ fault alive.
    let made = c.run_jobs-ran.ensures.made in
    rw c.into_parts-store.ensures.store
    (session-rose g.S.Store.tells g.S.Store.disk g.C.Clock.gives c.args.session c.run_jobs-ran.new.session made.0 made.1 alive (c.write_outcome-status.ensures.cause fault))
