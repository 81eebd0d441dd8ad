use Rattle.std.proofs.Common.{◌≡◌, ℕ, ap, subst, ◌∙◌}
use Rattle.library_parts.specs.Moved.{AreMovesOf, HasMovesRoom}
use Rattle.library_parts.specs.Parts.{Room}
use Rattle.record_changes.specs.Places.{HasPlaceRoom}
use Rattle.record_changes.proofs.ReadyLemmas.{place-stays, entries-stay, moves-stay, moves-room-stays}
use Rattle.record_changes.proofs.prepare.prepare_change.Goals as goal

pub returns-clause-ready : goal.returns-clause-ready
returns-clause-ready c =
    let planned = c.args.planned.now in
    let first = c.args.contents.now in
    let member = c.member-member.result in
    let placed = c.reserve_place.new.contents in
    let moved = c.prepare_moves.new.self in
    let told = c.reserve_entries.new.contents in
    let last = c.reserve_undo.new.contents in
    let undo = c.in_ok-reserve_undo.ensures in
    let entries = c.in_ok-reserve_entries.ensures in
    let moves = c.in_ok-moves.ensures in
    let since_moved : last.state ≡ moved.state = undo.state ∙ entries.state in
    let since_placed : last.state ≡ placed.state = since_moved ∙ moves.state in
    let since : last.state ≡ first.state = since_placed ∙ c.in_ok-reserve_place.ensures.state ∙ c.in_ok-reserve_lock.ensures.state in
    let paths : last.room.paths ≡ moved.room.paths = ap (λ (r : Room). r.paths) undo.others ∙ ap (λ (r : Room). r.paths) entries.others in
    let spares : last.room.spares ≡ placed.room.spares = ap (λ (r : Room). r.spares) undo.others ∙ ap (λ (r : Room). r.spares) entries.others ∙ ap (λ (r : Room). r.spares) moves.others in
    record {
      left = rw since c.requires.left;
      few = rw since c.requires.few;
      may = rw since c.requires.may;
      place = subst (λ (n : ℕ). HasPlaceRoom last n planned.rrn) c.member-member.ensures (place-stays placed last member since_placed planned.rrn spares c.in_ok-reserve_place.ensures.room);
      entries = entries-stay told last planned.opened.member undo.state planned.opened.commit (ap (λ (r : Room). r.entries) undo.others) entries.room;
      again = c.in_ok-again.ensures;
      undo = c.in_ok-undo.ensures;
      undo_room = undo.room;
      moves = subst (λ (n : ℕ). AreMovesOf last n planned.rrn planned.slot c.in_ok-moves.moves) c.member-member.ensures (moves-stay moved last member since_moved planned.rrn planned.slot c.in_ok-moves.moves paths moves.moves);
      moves_room = subst (λ (n : ℕ). HasMovesRoom last n 2) c.member-member.ensures (moves-room-stays moved last member since_moved 2 paths moves.room);
    }
