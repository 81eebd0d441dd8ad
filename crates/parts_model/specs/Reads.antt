-- How an open of the library reads, what it is asked, and what it finds. (Database Programming, "Reading database records".)
use Rattle.std.specs.Prelude.{◌≡◌, ℕ, ◌-◌, ◌||◌, nat_lt, Any, Bool, true, false, not, IsTrue, Option, Some, None, IfSome, Result, Ok, Err, is_ok, List, [], ◌∷◌, length, map, option_map, slice_index_or}
use Rattle.field_types.specs.declared.values.Value.{Value}
use Rattle.key_spec.specs.declared.KeyPart.{KeyPart}
use Rattle.file_model.specs.declared.paths.PathSpec.{PathSpec}
use Rattle.file_model.specs.KeyOrder.{KeyValue, given_key, merged_parts}
use Rattle.file_model.specs.Paths.{PathEntry, path}
use Rattle.file_model.specs.Positions.{Bound, KeyBound, NumberBound, Position, Start, End, Reading, arrival_reading, path_reading}
use Rattle.member_slots.specs.Member.{MemberState}
use Rattle.member_slots.specs.Members.{NumberedMembers, member_at}
use Rattle.access_path.specs.GivenValues.{key_fault}
use Rattle.key_pages.specs.EntryList.{EntryList}
use Rattle.open_position.specs.KeyValues.{values_in}
use Rattle.job_table.specs.Reading.{AreNumbered}
use Rattle.library_steps.specs.Bases.{Bases}
use Rattle.open_position.specs.OpenStand.{AreGivenBytes, HasNoKey}
use Rattle.open_position.specs.Reads.{IsAskedOf, IsPathOver, asked_of, side_of}
use Rattle.open_position.specs.declared.position.Side.{Side}
use Rattle.open_position.specs.declared.reads.ReadBy.{ReadBy}
use Rattle.open_position.specs.declared.reads.ReadBy.TheVariants as asked
use Rattle.path_set.specs.KeptPaths.{KeptPaths, NumberedPaths, pages_at}
use Rattle.path_set.specs.Sharing.{IsNew}
use Rattle.job_table.specs.declared.reads.OpenReads.{OpenReads}
use Rattle.job_table.specs.Opens.{KeptOpen, OpenOrder, IsNewReads, order_by}
use Rattle.library_model.specs.Named.{Named, named}
use Rattle.library_model.specs.declared.replies.Reply.{Reply}
use Rattle.library_model.specs.declared.replies.Reply.TheVariants.{BadValue, WrongOpen}
use Rattle.field_types.specs.declared.faults.RecordFault.{RecordFault}
use Rattle.library_model.specs.declared.requests.OpenFile.{OpenFile}
use Rattle.library_model.specs.declared.requests.Limit.{Limit}
use Rattle.library_model.specs.declared.requests.Limit.TheVariants as limits
use Rattle.library_steps.specs.LogicalFiles.{bases_in, bases_of}
use Rattle.library_steps.specs.Opens.{new_open}
use Rattle.library_steps.specs.Records.{is_file_path, is_keyed, reading_of, key_asked}
use Rattle.library_steps.specs.Reads.{bound_asked}
use Rattle.library_steps.specs.Refusals.{OpenedFile, opened_file}
use Rattle.library_steps.specs.State.{Memory, FileState, OpenState, memory_of}
use Rattle.parts_model.specs.declared.stop.Stop.{Stop}
use Rattle.parts_model.specs.declared.stop.Stop.TheVariants.{NoMemory, Refused}
use Rattle.parts_model.specs.declared.reading.Found.{Found}
use Rattle.parts_model.specs.Indexed.{IsReadSo, IsUnjoined, ReadsBy, ReadsFile, ReadsRowsBy, path_read}
use Rattle.parts_model.specs.Parts.{LibraryParts}

-- the positions of the key by which an open reads, in each format; an open without a key reads one format that has none
abbrev pub formats_by : Option PathSpec → List (List KeyPart)
formats_by None = [] ∷ []
formats_by (Some spec) = map (λ format. format.key) spec.formats

abbrev pub formats_read : Bases → FileState → OpenState → List (List KeyPart)
formats_read bases file opened = formats_by (path_read bases file opened)

abbrev pub parts_read : Bases → FileState → OpenState → List KeyPart
parts_read bases file opened = merged_parts (formats_read bases file opened)

-- the open reads by a key
abbrev pub has_positions : List (List KeyPart) → Bool
has_positions formats = nat_lt 0 (length (merged_parts formats))

-- a new open of the file may read so
abbrev pub MayReadSo : OpenFile → Option FileState → Type 0
MayReadSo args file = IfSome file (λ f. IsReadSo (is_file_path args.access_path) f.spec)

-- the path of this specification is kept under that number
abbrev pub IsNumberOf : PathSpec → Option ℕ → NumberedPaths → Type 0
IsNumberOf spec None paths = IsNew spec paths
IsNumberOf spec (Some id) paths = Any (λ path. (path.number ≡ id) × (path.item.spec ≡ spec)) paths

-- the open is one of this library, and so is the way in which it reads
pub record ReadsAs (parts : LibraryParts) (opened : KeptOpen) (file : FileState) : Type 0 where
  pub by : ReadsBy parts.room.paths.paths (path_read (bases_in parts.state.files) file opened.state) opened.order
  pub so : IsReadSo (is_file_path opened.state.access_path) file.spec
  pub rows : ReadsRowsBy (bases_in parts.state.files) parts.room.paths.paths file.spec opened.order.join

-- how the opens of the job read, by their names
abbrev pub orders_in : (job : ℕ) → LibraryParts → Named OpenOrder
orders_in job parts = slice_index_or parts.room.orders (job - 1) []

-- a new open reads by the path of this specification, where it is kept, or in arrival order
abbrev pub ReadsByNumber : NumberedPaths → Option PathSpec → OpenReads → Type 0
ReadsByNumber paths None reads = (reads.path ≡ None) × (reads.position.formats ≡ [] ∷ [])
ReadsByNumber paths (Some spec) reads = IsNumberOf spec reads.path paths × (reads.position.formats ≡ map (λ format. format.key) spec.formats)

-- so, from the start
pub record ReadsNew (commit : Bool) (paths : NumberedPaths) (spec : Option PathSpec) (reads : OpenReads) : Type 0 where
  pub start : IsNewReads commit reads
  pub by : ReadsByNumber paths spec reads

-- how a new open over these members reads
pub record ReadsFor (parts : LibraryParts) (args : OpenFile) (members : List ℕ) (reads : OpenReads) : Type 0 where
  pub start : IsNewReads args.commit reads
  pub order : ReadsFile (bases_in parts.state.files) parts.room.paths.paths (new_open args 0 members) (order_by 0 reads) (named args.file parts.state.files)

-- ---- the key that a request gives

-- the refusal of a key
abbrev pub refusal : (keyed : Bool) → Option RecordFault → Option Reply
refusal false fault = Some WrongOpen
refusal true fault = option_map (λ f. BadValue f) fault

-- the key in bytes, which stands for the values that were asked for
pub record StandsFor (parts : List KeyPart) (given : List KeyValue) (key : List ℕ) : Type 0 where
  pub bytes : AreGivenBytes parts key
  pub values : values_in parts key ≡ given

abbrev pub GivesKey : Bases → FileState → OpenState → List Value → Result (List ℕ) Stop → Type 0
GivesKey bases file opened values (Ok key) = (given : List KeyValue) × (key_asked file opened values ≡ Ok given) × StandsFor (parts_read bases file opened) given key
GivesKey bases file opened values (Err NoMemory) = Unit {0}
GivesKey bases file opened values (Err (Refused reply)) = key_asked file opened values ≡ Err reply

-- the same by the positions of the key
pub record IsKeyOf (parts : List KeyPart) (values : List Value) (key : List ℕ) : Type 0 where
  pub fits : key_fault parts values ≡ None
  pub stands : StandsFor parts (given_key parts values) key

abbrev pub HasKeyOf : (keyed : Bool) → (parts : List KeyPart) → List Value → Result (List ℕ) Stop → Type 0
HasKeyOf keyed parts values (Ok key) = (keyed ≡ true) × IsKeyOf parts values key
HasKeyOf keyed parts values (Err NoMemory) = Unit {0}
HasKeyOf keyed parts values (Err (Refused reply)) = refusal keyed (key_fault parts values) ≡ Some reply

-- ---- among what an open reads

-- in arrival order, among the records of its member
pub record IsInArrival (members : NumberedMembers) (member : ℕ) (formats : List (List KeyPart)) (reading : Reading PathEntry) : Type 0 where
  pub there : (state : MemberState) × (member_at member members ≡ Some state) × (reading ≡ arrival_reading state)
  pub none : HasNoKey formats

-- by key, along a kept path
pub record IsAlongPath (members : NumberedMembers) (kept : KeptPaths) (id : ℕ) (formats : List (List KeyPart)) (reading : Reading PathEntry) : Type 0 where
  pub spec : PathSpec
  pub list : EntryList
  pub pages : pages_at kept id ≡ Some list
  pub over : IsPathOver formats spec members list
  pub numbered : HasNoKey formats → AreNumbered list
  pub along : reading ≡ path_reading spec.ties (path spec members)

abbrev pub ReadsAmong : NumberedMembers → KeptPaths → (member : ℕ) → (formats : List (List KeyPart)) → (path : Option ℕ) → Reading PathEntry → Type 0
ReadsAmong members kept member formats None reading = IsInArrival members member formats reading
ReadsAmong members kept member formats (Some id) reading = IsAlongPath members kept id formats reading

-- a key is looked up where the open reads by one
abbrev pub IsLookedIn : (keyed : Bool) → ReadBy → Type 0
IsLookedIn keyed asked.Next = Unit {0}
IsLookedIn keyed asked.Prior = Unit {0}
IsLookedIn keyed (asked.NextEqual key) = Unit {0}
IsLookedIn keyed (asked.PriorEqual key) = Unit {0}
IsLookedIn keyed (asked.FirstEqual key) = IsTrue keyed
IsLookedIn keyed (asked.Number rrn) = Unit {0}

-- ---- what is found

-- what the open finds in what it reads
abbrev pub found_by : ReadBy → FileState → OpenState → Memory → Option PathEntry
found_by by file opened m = asked_of by (parts_read (bases_of m) file opened) (reading_of file opened m) opened.position

abbrev pub FindsEntry : Option Found → Option PathEntry → Type 0
FindsEntry None wanted = wanted ≡ None
FindsEntry (Some found) wanted = (entry : PathEntry) × (wanted ≡ Some entry) × (entry.rrn ≡ found.rrn) × (entry.format ≡ found.format)

-- the job's open of this name, of a file that is no join, through which something is found
pub record CanNote (parts : LibraryParts) (job : ℕ) (name : List ℕ) (by : ReadBy) : Type 0 where
  pub its : OpenedFile
  pub opened : opened_file name job (memory_of parts.state) ≡ Ok its
  pub unjoined : IsUnjoined its.file.spec
  pub asked : IsAskedOf (formats_read (bases_of (memory_of parts.state)) its.file its.opened) by
  pub looked : IsLookedIn (is_keyed its.file its.opened) by
  pub found : (entry : PathEntry) × (found_by by its.file its.opened (memory_of parts.state) ≡ Some entry)

-- ---- where a position is set

-- the place is one, to whichever side, or its refusal; memory is never short
abbrev pub Stands : OpenedFile → Limit → Result (Unit {0}) Stop → Type 0
Stands its to (Ok nothing) = (side : Bound → Position PathEntry) → is_ok (bound_asked its side to) ≡ true
Stands its to (Err NoMemory) = ⊥
Stands its to (Err (Refused reply)) = (side : Bound → Position PathEntry) → bound_asked its side to ≡ Err reply

-- the open reads by a key, which the values can be, or the refusal
abbrev pub MayHaveKey : (keyed : Bool) → (parts : List KeyPart) → List Value → Result (Unit {0}) Stop → Type 0
MayHaveKey keyed parts values (Ok nothing) = (keyed ≡ true) × (key_fault parts values ≡ None)
MayHaveKey keyed parts values (Err NoMemory) = ⊥
MayHaveKey keyed parts values (Err (Refused reply)) = refusal keyed (key_fault parts values) ≡ Some reply

-- the open reads by a key, or in arrival order, as is wanted
abbrev pub ReadsSo : (keyed wanted : Bool) → Result (Unit {0}) Stop → Type 0
ReadsSo keyed wanted (Ok nothing) = keyed ≡ wanted
ReadsSo keyed wanted (Err NoMemory) = ⊥
ReadsSo keyed wanted (Err (Refused reply)) = (keyed ≡ not wanted) × (reply ≡ WrongOpen)

-- the open reads by no key, and its file is one in which a number says which record is meant; or it is refused
abbrev pub TakesNumbers : (keyed numbered : Bool) → Result (Unit {0}) Stop → Type 0
TakesNumbers keyed numbered (Ok nothing) = (keyed ≡ false) × (numbered ≡ true)
TakesNumbers keyed numbered (Err NoMemory) = ⊥
TakesNumbers keyed numbered (Err (Refused reply)) = ((keyed || not numbered) ≡ true) × (reply ≡ WrongOpen)

-- an open of these formats can stand there
abbrev pub CanStandIn : List (List KeyPart) → Limit → Type 0
CanStandIn formats limits.LowValue = Unit {0}
CanStandIn formats limits.HighValue = Unit {0}
CanStandIn formats (limits.Key values) = key_fault (merged_parts formats) values ≡ None
CanStandIn formats (limits.RecordNumber rrn) = HasNoKey formats

-- an open of a join can, by these positions of its key
abbrev pub CanStandAmong : List KeyPart → Limit → Type 0
CanStandAmong parts limits.LowValue = Unit {0}
CanStandAmong parts limits.HighValue = Unit {0}
CanStandAmong parts (limits.Key values) = key_fault parts values ≡ None
CanStandAmong parts (limits.RecordNumber rrn) = ⊥

-- where it stands then
abbrev pub stood_at : Side → List KeyPart → Limit → Position PathEntry
stood_at side parts limits.LowValue = Start
stood_at side parts limits.HighValue = End
stood_at side parts (limits.Key values) = side_of side (KeyBound (given_key parts values))
stood_at side parts (limits.RecordNumber rrn) = side_of side (NumberBound rrn)

-- the job's open of this name, which can stand there
pub record CanStand (parts : LibraryParts) (job : ℕ) (name : List ℕ) (to : Limit) : Type 0 where
  pub its : OpenedFile
  pub opened : opened_file name job (memory_of parts.state) ≡ Ok its
  pub place : (side : Bound → Position PathEntry) → is_ok (bound_asked its side to) ≡ true
