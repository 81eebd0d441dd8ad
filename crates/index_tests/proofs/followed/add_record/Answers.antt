use Rattle.std.proofs.Common.{◌∙◌, ap, refl}
use Rattle.member_slots.specs.Members.{RoomyMembers}
use Rattle.index_tests.proofs.FollowLemmas.{add-can, added-same, followed-added, followed-moved, image-fits}
use Rattle.index_tests.proofs.followed.add_record.Goals as goal

pub returns-in_err-moves : goal.returns-in_err-moves
returns-in_err-moves c =
    followed-moved c.args.members.now.members c.args.members.now.members c.args.paths.now.paths c.prepared_record.new.paths.paths refl c.prepared_record.ensures.paths c.requires.followed

pub returns-in_err-reserve : goal.returns-in_err-reserve
returns-in_err-reserve c =
    followed-moved c.args.members.now.members c.reserve.new.self.members c.args.paths.now.paths c.prepared_record.new.paths.paths c.reserve.ensures.unchanged
    c.prepared_record.ensures.paths c.requires.followed

pub append-requires-clause-there : goal.append-requires-clause-there
append-requires-clause-there c =
    (followed-moved c.args.members.now.members c.reserve.new.self.members c.args.paths.now.paths c.prepared_record.new.paths.paths c.reserve.ensures.unchanged
    c.prepared_record.ensures.paths c.requires.followed).there

pub append-requires-clause-fits : goal.append-requires-clause-fits
append-requires-clause-fits c =
    image-fits c.reserve.new.self.members c.prepared_record.new.paths.paths c.args.image
    (followed-moved c.args.members.now.members c.reserve.new.self.members c.args.paths.now.paths c.prepared_record.new.paths.paths c.reserve.ensures.unchanged
    c.prepared_record.ensures.paths c.requires.followed) c.requires.fits

pub change-back-requires : goal.change-back-requires
change-back-requires c =
    add-can c.args.image c.in_ok-moves.moves c.reserve.new.self.members c.prepared_record.new.paths c.kept-kept.ensures.shared
    (followed-moved c.args.members.now.members c.reserve.new.self.members c.args.paths.now.paths c.prepared_record.new.paths.paths c.reserve.ensures.unchanged
    c.prepared_record.ensures.paths c.requires.followed)
    (added-same c.args.members.now.members c.reserve.new.self.members c.args.paths.now.paths c.prepared_record.new.paths.paths c.args.image c.in_ok-moves.moves c.reserve.ensures.unchanged
    c.prepared_record.ensures.paths c.in_ok-moves.ensures.moves) c.in_ok-moves.ensures.room

pub returns-in-Ok : goal.returns-in-Ok
returns-in-Ok c =
    followed-added c.args.image c.in_ok-moves.moves c.reserve.new.self.members c.prepared_record.new.paths c.kept-kept.ensures.shared
    (followed-moved c.args.members.now.members c.reserve.new.self.members c.args.paths.now.paths c.prepared_record.new.paths.paths c.reserve.ensures.unchanged
    c.prepared_record.ensures.paths c.requires.followed)
    (added-same c.args.members.now.members c.reserve.new.self.members c.args.paths.now.paths c.prepared_record.new.paths.paths c.args.image c.in_ok-moves.moves c.reserve.ensures.unchanged
    c.prepared_record.ensures.paths c.in_ok-moves.ensures.moves) c.in_ok-moves.ensures.room
    c.append.new.self.members c.change-back.new.self.paths c.in-Ok.ensures.appended c.change-back.ensures.paths c.requires.fits

pub returns-in-Err : goal.returns-in-Err
returns-in-Err c =
    followed-moved c.args.members.now.members c.append.new.self.members c.args.paths.now.paths c.prepared_record.new.paths.paths
    (ap (λ (m : RoomyMembers). m.members) c.in-Err.ensures.refused ∙ c.reserve.ensures.unchanged) c.prepared_record.ensures.paths c.requires.followed
