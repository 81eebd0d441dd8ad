use Rattle.receiver_chain.specs.Chain.{attached_of}
use Rattle.opened_library.proofs.OpenedLemmas.{at-rest, if-opened, not-built, not-opened, restarted-by, restarts-by, sound-within}
use Rattle.opened_library.proofs.opening.open_by.Goals as goal

pub returns-in-Err-clause-refused : goal.returns-in-Err-clause-refused
returns-in-Err-clause-refused g c =
    not-opened g.S.Store.tells (g.S.Store.disk c.args.store) (g.S.Store.disk c.restart_journal.new.store) c.in-Err.fault c.restart_journal.result c.in-Err.is
    (restarts-by g.S.Store.tells (g.S.Store.disk c.args.store) (g.S.Store.disk c.restart_journal.new.store) _ _ c.restarter.ensures.job c.restarter.ensures.moment c.restart_journal.ensures.moments)
    c.restart_journal.ensures.not_a_library c.restart_journal.ensures.empty_stays c.restart_journal.ensures.damaged c.restart_journal.ensures.something c.restart_journal.ensures.damaged_stays
    c.restart_journal.ensures.cause

pub build_library-requires-clause-rest : goal.build_library-requires-clause-rest
build_library-requires-clause-rest g c =
    at-rest g.S.Store.tells (g.S.Store.disk c.args.store) (g.S.Store.disk c.restart_journal.new.store) _ _ c.in-Ok.restarted.journal c.in-Ok.restarted.entries.items c.in-Ok.restarted.replay
    c.in-Ok.ensures.restarted

pub build_library-requires-clause-sound : goal.build_library-requires-clause-sound
build_library-requires-clause-sound g c =
    sound-within c.restarted_libraries_are_sound.ensures g.S.Store.tells (g.S.Store.disk c.args.store) (g.S.Store.disk c.restart_journal.new.store) c.in-Ok.restarted.journal
    c.in-Ok.restarted.entries.items c.in-Ok.restarted.replay (attached_of c.in-Ok.restarted.journal.chain)
    (restarted-by g.S.Store.tells (g.S.Store.disk c.args.store) (g.S.Store.disk c.restart_journal.new.store) _ _ _ _ _ c.restarter.ensures.job c.restarter.ensures.moment c.in-Ok.ensures.restarted)

pub returns-in-Ok-clause-opened : goal.returns-in-Ok-clause-opened
returns-in-Ok-clause-opened g c =
    if-opened g.S.Store.tells g.S.Store.disk (g.S.Store.disk c.args.store) c.restart_journal.new.store c.in-Ok.restarted.journal c.in-Ok.restarted.entries.items c.in-Ok.restarted.replay
    c.build_library.result
    (restarted-by g.S.Store.tells (g.S.Store.disk c.args.store) (g.S.Store.disk c.restart_journal.new.store) _ _ _ _ _ c.restarter.ensures.job c.restarter.ensures.moment c.in-Ok.ensures.restarted)
    (restarts-by g.S.Store.tells (g.S.Store.disk c.args.store) (g.S.Store.disk c.restart_journal.new.store) _ _ c.restarter.ensures.job c.restarter.ensures.moment c.restart_journal.ensures.moments)
    c.restart_journal.ensures.faults c.in-Ok.ensures.durable c.build_library.ensures.built c.build_library.ensures.store

pub returns-in-Ok-clause-refused : goal.returns-in-Ok-clause-refused
returns-in-Ok-clause-refused g c =
    not-built g.S.Store.tells g.S.Store.disk (g.S.Store.disk c.args.store) c.restart_journal.new.store c.build_library.result
    (restarts-by g.S.Store.tells (g.S.Store.disk c.args.store) (g.S.Store.disk c.restart_journal.new.store) _ _ c.restarter.ensures.job c.restarter.ensures.moment c.restart_journal.ensures.moments)
    c.build_library.ensures.refused
