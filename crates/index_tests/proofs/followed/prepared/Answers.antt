use Rattle.std.specs.Option.{option_copied}
use Rattle.index_tests.proofs.FollowLemmas.{place-in, old-takes, new-takes, moves-prepared}
use Rattle.index_tests.proofs.followed.prepared.Goals as goal

pub slot-requires : goal.slot-requires
slot-requires c = place-in c.args.members.now.members c.in-Some.member.now.state c.args.rrn c.in-Some.ensures.found c.requires.place

pub prepare-requires-clause-old : goal.prepare-requires-clause-old
prepare-requires-clause-old c =
    old-takes c.args.members.now.members c.args.paths.now.paths c.in-Some.member.now.state c.args.rrn c.slot.result.now c.args.slot.now c.requires.followed c.in-Some.ensures.found c.slot.ensures.value
    c.requires.fits (option_copied c.image_in-old.result) c.image_in-old.ensures

pub prepare-requires-clause-new : goal.prepare-requires-clause-new
prepare-requires-clause-new c =
    new-takes c.args.members.now.members c.args.paths.now.paths c.in-Some.member.now.state c.args.rrn c.slot.result.now c.args.slot.now c.requires.followed c.in-Some.ensures.found c.slot.ensures.value
    c.requires.fits (option_copied c.image_in-new.result) c.image_in-new.ensures

pub returns-clause-moves : goal.returns-clause-moves
returns-clause-moves c =
    moves-prepared c.args.members.now.members c.args.paths.now.paths c.in-Some.member.now.state c.args.rrn c.slot.result.now c.args.slot.now c.requires.followed c.in-Some.ensures.found
    c.slot.ensures.value c.requires.fits (option_copied c.image_in-old.result) (option_copied c.image_in-new.result) c.in_ok-moves.moves c.image_in-old.ensures c.image_in-new.ensures c.in_ok-moves.ensures.moves
