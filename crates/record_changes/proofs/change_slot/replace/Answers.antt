use Rattle.record_changes.proofs.MoveLemmas.{moved-back, room-but, room-of-one}
use Rattle.record_changes.proofs.PlaceLemmas.{MayReturn-within, stands-within}
use Rattle.record_changes.proofs.change_slot.replace.Goals as goal

pub set_slot-requires-clause-moves_room : goal.set_slot-requires-clause-moves_room
set_slot-requires-clause-moves_room c = room-of-one c.args.contents.now c.args.member c.requires.moves_room

pub returns-clause-back : goal.returns-clause-back
returns-clause-back c =
    MayReturn-within c.args.contents.now.state c.set_slot.new.self.state c.args.member c.args.rrn c.args.slot c.set_slot.result.slot c.set_slot.ensures.memory c.requires.may c.set_slot.ensures.fitted
    c.set_slot.ensures.stood c.requires.within

pub returns-clause-moves : goal.returns-clause-moves
returns-clause-moves c =
    let stands = stands-within c.args.contents.now.state c.set_slot.new.self.state c.args.member c.args.rrn c.args.slot c.set_slot.ensures.memory c.requires.may c.requires.within in
    moved-back c.set_slot.new.self c.args.member c.args.rrn c.args.slot c.set_slot.result.slot c.set_slot.result.back stands c.set_slot.ensures.back

pub returns-clause-moves_room : goal.returns-clause-moves_room
returns-clause-moves_room c = c.set_slot.ensures.left 1 c.requires.moves_room

pub returns-clause-room : goal.returns-clause-room
returns-clause-room c = room-but c.args.contents.now.room c.set_slot.new.self.room c.set_slot.ensures.room
