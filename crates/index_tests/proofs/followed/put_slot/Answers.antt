use Rattle.std.proofs.Common.{refl}
use Rattle.index_tests.proofs.FollowLemmas.{followed-moved, followed-put, moves-same, put-can, slot-fits}
use Rattle.index_tests.proofs.followed.put_slot.Goals as goal

pub returns-in_err-moves : goal.returns-in_err-moves
returns-in_err-moves c = followed-moved c.args.members.now.members c.args.members.now.members c.args.paths.now.paths c.prepared.new.paths.paths refl c.prepared.ensures.paths c.requires.followed

pub set-old-requires-clause-fits : goal.set-old-requires-clause-fits
set-old-requires-clause-fits c = slot-fits c.args.members.now.members c.args.paths.now.paths c.args.slot c.requires.followed c.requires.fits

pub change-back-requires : goal.change-back-requires
change-back-requires c =
    put-can c.args.rrn c.args.slot c.in_ok-moves.moves c.args.members.now.members c.prepared.new.paths c.kept-kept.ensures.shared
    (followed-moved c.args.members.now.members c.args.members.now.members c.args.paths.now.paths c.prepared.new.paths.paths refl c.prepared.ensures.paths c.requires.followed)
    (moves-same c.args.members.now.members c.args.paths.now.paths c.prepared.new.paths.paths c.args.rrn c.args.slot c.in_ok-moves.moves c.prepared.ensures.paths c.in_ok-moves.ensures.moves) c.in_ok-moves.ensures.room

pub returns : goal.returns
returns c =
    followed-put c.args.rrn c.args.slot c.in_ok-moves.moves c.args.members.now.members c.prepared.new.paths c.kept-kept.ensures.shared
    (followed-moved c.args.members.now.members c.args.members.now.members c.args.paths.now.paths c.prepared.new.paths.paths refl c.prepared.ensures.paths c.requires.followed)
    (moves-same c.args.members.now.members c.args.paths.now.paths c.prepared.new.paths.paths c.args.rrn c.args.slot c.in_ok-moves.moves c.prepared.ensures.paths c.in_ok-moves.ensures.moves) c.in_ok-moves.ensures.room
    c.set-old.new.self.members c.change-back.new.self.paths c.set-old.ensures.changed c.change-back.ensures.paths c.requires.fits
