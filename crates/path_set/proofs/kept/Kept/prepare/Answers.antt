use Rattle.std.proofs.Common.{◌+◌, arith}
use Rattle.path_set.specs.Entries.{change_of}
use Rattle.path_set.proofs.PrepareLemmas.{preparing-first, preparing-next, preparing-end, more-room-then}
use Rattle.path_set.proofs.kept.Kept.prepare.Goals as goal

pub loop-format-init : goal.loop-format-init
loop-format-init c = preparing-first c.args.self.now (change_of c.args.asked) (c.args.asked.held + 2) c.args.moves.now

pub prepare_format-requires-clause-there : goal.prepare_format-requires-clause-there
prepare_format-requires-clause-there c = rw c.loop-format.invariant.same.by (omega arith)

pub prepare_format-requires-clause-old : goal.prepare_format-requires-clause-old
prepare_format-requires-clause-old c = rw c.loop-format.invariant.same.by c.requires.old

pub prepare_format-requires-clause-new : goal.prepare_format-requires-clause-new
prepare_format-requires-clause-new c = rw c.loop-format.invariant.same.by c.requires.new

pub loop-format-preserved : goal.loop-format-preserved
loop-format-preserved c =
    preparing-next _ _ _ _ _ _ _ _ _ c.loop-format.invariant (omega arith) c.prepare_format.ensures.same c.in_ok-prepare_format.ensures.moves c.in_ok-prepare_format.ensures.room

pub returns-clause-moves : goal.returns-clause-moves
returns-clause-moves c = preparing-end _ _ _ _ _ _ _ c.loop-format.invariant (omega arith)

pub returns-clause-same : goal.returns-clause-same
returns-clause-same c = c.loop-format.invariant.same

pub returns-clause-room : goal.returns-clause-room
returns-clause-room c k low same = c.loop-format.invariant.room k (omega arith) same

pub returns-in_err-prepare_format-clause-same : goal.returns-in_err-prepare_format-clause-same
returns-in_err-prepare_format-clause-same c = more-room-then _ _ _ c.loop-format.invariant.same c.prepare_format.ensures.same
