-- What a read asks of an open, and what the definitions find by it. (Database Programming, "Reading database records"; ILE RPG Reference,
-- "READE" and "CHAIN".)
use Rattle.std.specs.Prelude.{◌≡◌, ℕ, Bool, IsTrue, Option, None, List}
use Rattle.key_spec.specs.declared.KeyPart.{KeyPart}
use Rattle.file_model.specs.KeyOrder.{KeyValue, merged_parts}
use Rattle.file_model.specs.Paths.{PathEntry}
use Rattle.file_model.specs.Positions.{Position, Reading, next_from, prior_from, next_equal, prior_equal, chain_key, chain_number}
use Rattle.key_values.specs.KeyValues.{values_in}
use Rattle.open_position.specs.OpenStand.{AreGivenBytes, HasNoKey}
use Rattle.open_position.specs.Reads.{IsAskedOf, asked_of}
use Rattle.open_position.specs.declared.reads.ReadBy.{ReadBy}
use Rattle.join_position.specs.RowReads as rows
use Rattle.library_model.specs.declared.replies.Reply.{Reply}
use Rattle.library_model.specs.declared.replies.Reply.TheVariants.{EndOfFile, BeginOfFile, NotFound}
use Rattle.library_steps.specs.LogicalFiles.{bases_of}
use Rattle.library_steps.specs.Records.{is_keyed}
use Rattle.library_steps.specs.State.{Memory, FileState, OpenState}
use Rattle.library_parts.specs.Reads.{IsLookedIn, formats_read, parts_read}
use Rattle.record_reads.specs.declared.asked.AskedBy.{AskedBy}
use Rattle.record_reads.specs.declared.asked.AskedBy.TheVariants.{Next, Prior, NextEqual, PriorEqual, FirstEqual, Number}
use Rattle.record_reads.specs.declared.asked.Direction.{Direction}
use Rattle.record_reads.specs.declared.asked.Direction.TheVariants as directions
use Rattle.file_model.specs.Joins.{RowPlace}
use Rattle.logical_model.specs.Bases.{FileSpec}
use Rattle.logical_model.specs.Readings.{join_in}
use Rattle.library_steps.specs.Reads.{Found, find_in}

-- what is found in a reading, from a position; the key is in bytes
abbrev pub found_in : {A : Type 0} → AskedBy → List KeyPart → Reading A → Position A → Option A
found_in Next parts reading position = next_from reading position
found_in Prior parts reading position = prior_from reading position
found_in (NextEqual key) parts reading position = next_equal reading (values_in parts key) position
found_in (PriorEqual key) parts reading position = prior_equal reading (values_in parts key) position
found_in (FirstEqual key) parts reading position = chain_key reading (values_in parts key)
found_in (Number rrn) parts reading position = chain_number reading rrn

-- what the open finds in what it reads, of a join among its rows
abbrev pub found_through : AskedBy → FileState → OpenState → Memory → Option Found
found_through by file opened m =
    find_in (record { opened = opened; file = file }) m (λ reading. found_in by (parts_read (bases_of m) file opened) reading opened.position)
    (λ reading. found_in by (parts_read (bases_of m) file opened) reading opened.rows)

-- it can be asked of these formats
abbrev pub IsOfFormats : AskedBy → List (List KeyPart) → Type 0
IsOfFormats Next formats = Unit {0}
IsOfFormats Prior formats = Unit {0}
IsOfFormats (NextEqual key) formats = AreGivenBytes (merged_parts formats) key
IsOfFormats (PriorEqual key) formats = AreGivenBytes (merged_parts formats) key
IsOfFormats (FirstEqual key) formats = AreGivenBytes (merged_parts formats) key
IsOfFormats (Number rrn) formats = HasNoKey formats

-- a key is looked up where the open reads by one
abbrev pub IsLookedFor : (keyed : Bool) → AskedBy → Type 0
IsLookedFor keyed Next = Unit {0}
IsLookedFor keyed Prior = Unit {0}
IsLookedFor keyed (NextEqual key) = Unit {0}
IsLookedFor keyed (PriorEqual key) = Unit {0}
IsLookedFor keyed (FirstEqual key) = IsTrue keyed
IsLookedFor keyed (Number rrn) = Unit {0}

-- a number is asked of a file whose records have one, not of a join
abbrev pub HasNumberFor : AskedBy → FileSpec → Type 0
HasNumberFor Next spec = Unit {0}
HasNumberFor Prior spec = Unit {0}
HasNumberFor (NextEqual key) spec = Unit {0}
HasNumberFor (PriorEqual key) spec = Unit {0}
HasNumberFor (FirstEqual key) spec = Unit {0}
HasNumberFor (Number rrn) spec = join_in spec ≡ None

-- it can be asked of the rows of a join by these positions of its key
abbrev pub IsOfParts : AskedBy → List KeyPart → Type 0
IsOfParts Next parts = Unit {0}
IsOfParts Prior parts = Unit {0}
IsOfParts (NextEqual key) parts = AreGivenBytes parts key
IsOfParts (PriorEqual key) parts = AreGivenBytes parts key
IsOfParts (FirstEqual key) parts = AreGivenBytes parts key
IsOfParts (Number rrn) parts = ⊥

-- it can be asked of the open
pub record CanBeAsked (by : AskedBy) (file : FileState) (opened : OpenState) (m : Memory) : Type 0 where
  pub formats : IsOfFormats by (formats_read (bases_of m) file opened)
  pub looked : IsLookedFor (is_keyed file opened) by
  pub numbered : HasNumberFor by file.spec

-- the same is asked
pub record AsksThe (same : AskedBy) (by : ReadBy) : Type 0 where
  pub found : (parts : List KeyPart) (reading : Reading PathEntry) (position : Position PathEntry) → asked_of by parts reading position ≡ found_in same parts reading position
  pub formats : (formats : List (List KeyPart)) → IsOfFormats same formats → IsAskedOf formats by
  pub looked : (keyed : Bool) → IsLookedFor keyed same → IsLookedIn keyed by
  pub among : (parts : List KeyPart) (reading : Reading RowPlace) (position : Position RowPlace) → rows.asked_of by parts reading position ≡ found_in same parts reading position
  pub parts : (parts : List KeyPart) → IsOfParts same parts → rows.IsAskedOf parts by

-- the reply where nothing is found
abbrev pub nothing_found : AskedBy → Reply
nothing_found Next = EndOfFile
nothing_found Prior = BeginOfFile
nothing_found (NextEqual key) = EndOfFile
nothing_found (PriorEqual key) = BeginOfFile
nothing_found (FirstEqual key) = NotFound
nothing_found (Number rrn) = NotFound

-- ---- by the direction of a read

-- any record that lies next in it
abbrev pub any_in : Direction → AskedBy
any_in directions.Next = Next
any_in directions.Prior = Prior

-- the same, where it has the key
abbrev pub equal_in : Direction → (key : List ℕ) → AskedBy
equal_in directions.Next key = NextEqual key
equal_in directions.Prior key = PriorEqual key

abbrev pub any_from : {A : Type 0} → Direction → Reading A → Position A → Option A
any_from directions.Next = next_from
any_from directions.Prior = prior_from

abbrev pub equal_from : {A : Type 0} → Direction → Reading A → List KeyValue → Position A → Option A
equal_from directions.Next = next_equal
equal_from directions.Prior = prior_equal

-- the reply where no record lies in the direction
abbrev pub end_in : Direction → Reply
end_in directions.Next = EndOfFile
end_in directions.Prior = BeginOfFile
