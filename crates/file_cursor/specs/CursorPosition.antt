-- Where does an open stand, with the keys in bytes? (Database Programming, "Setting a position in the file"; ILE RPG
-- Reference, "SETLL" and "SETGT".)
use Rattle.std.specs.Prelude.{ℕ, List, []}
use Rattle.key_pages.specs.declared.entries.Entry.{Entry}
use Rattle.file_cursor.specs.declared.places.Place.{Place}
use Rattle.file_cursor.specs.declared.places.Place.TheVariants.{Low, High, Key, Rrn}
use Rattle.file_cursor.specs.declared.places.Hit.{Hit}
use Rattle.file_cursor.specs.declared.spot.Stand.{Stand}
use Rattle.file_cursor.specs.declared.spot.Stand.TheVariants as stands

-- what a position is set by: the bytes that a key begins with, or a relative record number
pub data CursorBound : Type 0 where
  ByKey : List ℕ → CursorBound
  ByNumber : ℕ → CursorBound

pub data CursorPosition : Type 0 where
  Start : CursorPosition
  End : CursorPosition
  -- on the entry that was read last, as it was then
  On : Entry → CursorPosition
  -- before the first entry that isn't less
  Before : CursorBound → CursorPosition
  -- past the last entry that isn't greater
  Past : CursorBound → CursorPosition

-- where a cursor stands, the position that it keeps beside, and how many bytes of a key it has room for in each
pub record CursorState : Type 0 where
  pub position : CursorPosition
  pub kept : CursorPosition
  pub room : ℕ
  pub kept_room : ℕ

-- a position and the room for its key
pub record SpotState : Type 0 where
  pub position : CursorPosition
  pub room : ℕ

-- ---- what sets a position

-- the bytes of a key that a place has
abbrev pub key_in : Place → List ℕ
key_in Low = []
key_in High = []
key_in (Key key) = key.now
key_in (Rrn rrn) = []

-- SETLL
abbrev pub lower_limit : Place → CursorPosition
lower_limit Low = Start
lower_limit High = End
lower_limit (Key key) = Before (ByKey key.now)
lower_limit (Rrn rrn) = Before (ByNumber rrn)

-- SETGT
abbrev pub greater_than : Place → CursorPosition
greater_than Low = Start
greater_than High = End
greater_than (Key key) = Past (ByKey key.now)
greater_than (Rrn rrn) = Past (ByNumber rrn)

-- the entry that a read found
abbrev pub entry_of : Hit → Entry
entry_of hit = record { key = hit.key.now; format = hit.format; rrn = hit.rrn }

-- the cursor, standing elsewhere
abbrev pub moved_to : CursorPosition → CursorState → CursorState
moved_to position cursor = record cursor { position = position }

-- the cursor, which keeps its position
abbrev pub marked : CursorState → CursorState
marked cursor = record cursor { kept = cursor.position }

-- ---- how a position stands in memory

abbrev pub position_of : Stand → List ℕ → CursorPosition
position_of stands.Start key = Start
position_of stands.End key = End
position_of (stands.On format rrn) key = On (record { key = key; format = format; rrn = rrn })
position_of stands.BeforeKey key = Before (ByKey key)
position_of stands.PastKey key = Past (ByKey key)
position_of (stands.BeforeNumber rrn) key = Before (ByNumber rrn)
position_of (stands.PastNumber rrn) key = Past (ByNumber rrn)
