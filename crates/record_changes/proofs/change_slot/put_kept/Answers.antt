use Rattle.record_changes.proofs.ChangeLemmas.{slots-alike, kept-may, kept-changed, kept-left}
use Rattle.library_steps.specs.State.{memory_of}
use Rattle.record_changes.proofs.change_slot.put_kept.Goals as goal

pub put_slot-taken-requires-clause-moves : goal.put_slot-taken-requires-clause-moves
put_slot-taken-requires-clause-moves c = rw c.member-member.ensures c.requires.ready.moves

pub put_slot-taken-requires-clause-moves_room : goal.put_slot-taken-requires-clause-moves_room
put_slot-taken-requires-clause-moves_room c = rw c.member-member.ensures c.requires.ready.moves_room

pub undo_by-kept-requires-clause-first : goal.undo_by-kept-requires-clause-first
undo_by-kept-requires-clause-first c = c.requires.ready.may.first

pub undo_by-kept-requires-clause-alike : goal.undo_by-kept-requires-clause-alike
undo_by-kept-requires-clause-alike c = slots-alike c.args.contents.now c.args.job c.args.planned c.args.prepared c.requires.ready

pub keep_change-requires-clause-may : goal.keep_change-requires-clause-may
keep_change-requires-clause-may c =
    let stood = rw c.member-member.ensures at c.put_slot-taken.ensures.before in
    let back = rw c.member-member.ensures at c.put_slot-taken.ensures.back in
    let put = rw c.member-member.ensures at c.put_slot-taken.ensures.memory in
    let kept = rw c.member-member.ensures at c.undo_by-kept.ensures in
    let moved = rw c.member-member.ensures at c.put_slot-taken.ensures.moves in
    let moves_room = rw c.member-member.ensures at c.put_slot-taken.ensures.moves_room in
    kept-may c.args.contents.now c.put_slot-taken.new.contents c.args.job c.args.planned c.args.prepared c.put_slot-taken.result.slot c.put_slot-taken.result.back c.undo_by-kept.result
    c.requires.ready stood back put c.put_slot-taken.ensures.room kept moved moves_room

pub returns-clause-memory : goal.returns-clause-memory
returns-clause-memory c =
    let stood = rw c.member-member.ensures at c.put_slot-taken.ensures.before in
    let back = rw c.member-member.ensures at c.put_slot-taken.ensures.back in
    let put = rw c.member-member.ensures at c.put_slot-taken.ensures.memory in
    let kept = rw c.member-member.ensures at c.undo_by-kept.ensures in
    kept-changed c.args.contents.now c.put_slot-taken.new.contents c.args.job c.args.planned c.args.prepared c.put_slot-taken.result.slot c.put_slot-taken.result.back c.undo_by-kept.result
    c.requires.ready stood back put c.put_slot-taken.ensures.room kept
    (memory_of c.keep_change.new.contents.state) (memory_of c.touch.new.self.state) c.keep_change.ensures.memory (rw c.member-member.ensures at c.touch.ensures.memory)

pub returns-clause-left : goal.returns-clause-left
returns-clause-left c some =
    let stood = rw c.member-member.ensures at c.put_slot-taken.ensures.before in
    let back = rw c.member-member.ensures at c.put_slot-taken.ensures.back in
    let put = rw c.member-member.ensures at c.put_slot-taken.ensures.memory in
    let kept = rw c.member-member.ensures at c.undo_by-kept.ensures in
    rw c.touch.ensures.room
    (kept-left c.args.contents.now c.put_slot-taken.new.contents c.args.job c.args.planned c.args.prepared c.put_slot-taken.result.slot c.put_slot-taken.result.back c.undo_by-kept.result
    c.requires.ready stood back put c.put_slot-taken.ensures.room kept
    c.keep_change.new.contents.room.entries some c.keep_change.ensures.room)
