use Rattle.std.proofs.Common.{arith}
use Rattle.path_set.proofs.ManyPrepareLemmas.{all-first, all-takes-at, all-next-at, all-wider, all-end}
use Rattle.path_set.proofs.set.PathSet.prepare_all.Goals as goal

pub loop-turn-init : goal.loop-turn-init
loop-turn-init c = all-first _ _ _ _ _ c.new-moves.ensures

pub prepare_more-requires-clause-old : goal.prepare_more-requires-clause-old
prepare_more-requires-clause-old c = (all-takes-at _ _ _ _ _ _ _ _ c.loop-turn.invariant (omega arith) c.requires).0

pub prepare_more-requires-clause-new : goal.prepare_more-requires-clause-new
prepare_more-requires-clause-new c = (all-takes-at _ _ _ _ _ _ _ _ c.loop-turn.invariant (omega arith) c.requires).1

pub loop-turn-preserved : goal.loop-turn-preserved
loop-turn-preserved c =
    all-next-at _ _ _ _ _ _ _ _ _ _ c.loop-turn.invariant (omega arith) c.in_ok-prepare_more.ensures.moves c.prepare_more.ensures.paths c.prepare_more.ensures.rooms
    c.in_ok-prepare_more.ensures.room

pub returns-in_err-prepare_more-clause-rooms : goal.returns-in_err-prepare_more-clause-rooms
returns-in_err-prepare_more-clause-rooms c = all-wider _ _ _ _ _ _ _ c.prepare_more.new.self c.loop-turn.invariant c.prepare_more.ensures.rooms

pub returns-clause-moves : goal.returns-clause-moves
returns-clause-moves c = all-end _ _ _ _ _ _ _ c.loop-turn.invariant (omega arith)
