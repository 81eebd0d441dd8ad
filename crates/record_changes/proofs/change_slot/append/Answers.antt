use Rattle.std.proofs.Common.{◌≡◌, ℕ, sym, subst, rules}
use Rattle.member_slots.specs.declared.slot.Slot.TheVariants.{Deleted}
use Rattle.library_steps.specs.State.{memory_of}
use Rattle.library_steps.specs.SlotChange.{with_slot}
use Rattle.library_parts.specs.Moved.{AreMovesOf}
use Rattle.record_changes.proofs.MoveLemmas.{moved-back, room-of-one}
use Rattle.record_changes.proofs.PlaceLemmas.{MayReturn-behind, stands-behind}
use Rattle.record_changes.proofs.change_slot.append.Goals as goal

pub append_record-requires-clause-moves_room : goal.append_record-requires-clause-moves_room
append_record-requires-clause-moves_room c = room-of-one c.args.contents.now c.args.member c.requires.moves_room

pub returns-in-Live-clause-back : goal.returns-in-Live-clause-back
returns-in-Live-clause-back c =
    let old = c.args.contents.now.state in
    let put : memory_of c.append_record.new.self.state ≡ with_slot c.args.member c.args.rrn c.args.slot (memory_of old) = search rules in
    MayReturn-behind old c.append_record.new.self.state c.args.member c.args.rrn c.args.slot Deleted put c.requires.may tt (λ name file owns. tt) c.requires.behind

pub returns-in-Live-clause-moves : goal.returns-in-Live-clause-moves
returns-in-Live-clause-moves c =
    let old = c.args.contents.now.state in
    let put : memory_of c.append_record.new.self.state ≡ with_slot c.args.member c.args.rrn c.args.slot (memory_of old) = search rules in
    let stands = stands-behind old c.append_record.new.self.state c.args.member c.args.rrn c.args.slot put c.requires.may c.requires.behind in
    let back = subst (λ (n : ℕ). AreMovesOf c.append_record.new.self c.args.member n Deleted c.append_record.result) (sym c.requires.behind) c.append_record.ensures.back in
    moved-back c.append_record.new.self c.args.member c.args.rrn c.args.slot Deleted c.append_record.result stands back

pub returns-in-Live-clause-moves_room : goal.returns-in-Live-clause-moves_room
returns-in-Live-clause-moves_room c = c.append_record.ensures.left 1 c.requires.moves_room
