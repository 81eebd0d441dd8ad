use Rattle.std.proofs.Common.{refl}
use Rattle.index_tests.proofs.FollowLemmas.{followed-back, followed-moved, moves-same, put-back-can, put-can}
use Rattle.index_tests.proofs.followed.there_and_back.Goals as goal

pub returns-in_err-moves : goal.returns-in_err-moves
returns-in_err-moves c = followed-moved c.args.members.now.members c.args.members.now.members c.args.paths.now.paths c.prepared.new.paths.paths refl c.prepared.ensures.paths c.requires.followed

pub change-back-requires : goal.change-back-requires
change-back-requires c =
    put-can c.args.rrn c.args.slot.now c.in_ok-moves.moves c.args.members.now.members c.prepared.new.paths c.kept-kept.ensures.shared
    (followed-moved c.args.members.now.members c.args.members.now.members c.args.paths.now.paths c.prepared.new.paths.paths refl c.prepared.ensures.paths c.requires.followed)
    (moves-same c.args.members.now.members c.args.paths.now.paths c.prepared.new.paths.paths c.args.rrn c.args.slot.now c.in_ok-moves.moves c.prepared.ensures.paths c.in_ok-moves.ensures.moves) c.in_ok-moves.ensures.room

pub change_back-again-requires : goal.change_back-again-requires
change_back-again-requires c =
    put-back-can c.args.rrn c.args.slot.now c.in_ok-moves.moves c.args.members.now.members c.prepared.new.paths c.kept-kept.ensures.shared
    (followed-moved c.args.members.now.members c.args.members.now.members c.args.paths.now.paths c.prepared.new.paths.paths refl c.prepared.ensures.paths c.requires.followed)
    (moves-same c.args.members.now.members c.args.paths.now.paths c.prepared.new.paths.paths c.args.rrn c.args.slot.now c.in_ok-moves.moves c.prepared.ensures.paths c.in_ok-moves.ensures.moves) c.in_ok-moves.ensures.room
    c.change-back.result c.change-back.new.self c.change-back.ensures.opposite c.change-back.ensures.paths c.change-back.ensures.rooms

pub returns : goal.returns
returns c =
    followed-back c.args.rrn c.args.slot.now c.in_ok-moves.moves c.args.members.now.members c.prepared.new.paths c.kept-kept.ensures.shared
    (followed-moved c.args.members.now.members c.args.members.now.members c.args.paths.now.paths c.prepared.new.paths.paths refl c.prepared.ensures.paths c.requires.followed)
    (moves-same c.args.members.now.members c.args.paths.now.paths c.prepared.new.paths.paths c.args.rrn c.args.slot.now c.in_ok-moves.moves c.prepared.ensures.paths c.in_ok-moves.ensures.moves) c.in_ok-moves.ensures.room
    c.change-back.result c.change-back.new.self c.change_back-again.new.self.paths c.change-back.ensures.opposite c.change-back.ensures.paths c.change_back-again.ensures.paths
