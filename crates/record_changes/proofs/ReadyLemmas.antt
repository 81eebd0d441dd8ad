-- What is ready for a change stays so while memory is taken for the rest of it: the state stays, and of the room only what was asked for changes.
use Rattle.std.proofs.Common.{◌≡◌, ℕ, Bool, true, false, List}
use Rattle.member_slots.specs.declared.slot.Slot.{Slot}
use Rattle.path_set.specs.declared.moves.PathMove.{PathMove}
use Rattle.library_parts.specs.Parts.{LibraryParts}
use Rattle.library_parts.specs.Moved.{AreMovesOf, HasMovesRoom}
use Rattle.record_changes.specs.Places.{HasEntryRoom, HasPlaceRoom}

module _ (first last : LibraryParts) (member : ℕ) (state : last.state ≡ first.state) where
  pub place-stays : (rrn : ℕ) → last.room.spares ≡ first.room.spares → HasPlaceRoom first member rrn → HasPlaceRoom last member rrn
  place-stays rrn spares has = rw (state, spares) has

  pub entries-stay : (commit : Bool) → last.room.entries ≡ first.room.entries → HasEntryRoom first commit member → HasEntryRoom last commit member
  entries-stay false entries has = rw (state, entries) has
  entries-stay true entries has = rw entries has

  pub moves-stay : (rrn : ℕ) (new : Slot) (moves : List PathMove) → last.room.paths ≡ first.room.paths → AreMovesOf first member rrn new moves → AreMovesOf last member rrn new moves
  moves-stay rrn new moves paths are = rw (state, paths) are

  pub moves-room-stays : (more : ℕ) → last.room.paths ≡ first.room.paths → HasMovesRoom first member more → HasMovesRoom last member more
  moves-room-stays more paths has = rw (state, paths) has
