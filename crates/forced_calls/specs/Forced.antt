-- Which calls are on the disk before they are answered, by what is asked and what was deposited. (Which calls are forced is our own.)
use Rattle.std.specs.Prelude.{Bool, true, false, not, List, [], ◌∷◌}
use Rattle.std.specs.List.{list_any}
use Rattle.std.specs.Option.{is_some}
use Rattle.entry_codec.specs.declared.entries.Entry.{Entry}
use Rattle.library_model.specs.declared.requests.Request.{Request}
use Rattle.library_model.specs.declared.requests.Request.TheVariants.{CreatePhysicalFile, CreateLogicalFile, DeleteFile, AddMember, ClearMember, ReorganizeMember, StartJournaling, EndJournaling, ChangeJournal, DeleteReceiver, Checkpoint, DisplayJournal, ApplyChanges, RemoveChanges, StartCommitment, EndCommitment, Commit, Rollback, OpenFile, CloseFile, SetLowerLimit, SetGreaterThan, Read, ReadPrior, ReadEqual, ReadPriorEqual, Chain, Write, Update, Delete, Unlock, EndJob}

-- one belongs to a commit cycle
abbrev pub has_cycle : List Entry → Bool
has_cycle entries = list_any (λ (e : Entry). is_some e.group) entries

-- none does
abbrev pub are_free : List Entry → Bool
are_free entries = not (has_cycle entries)

abbrev pub is_nil : List Entry → Bool
is_nil [] = true
is_nil (e ∷ entries) = false

-- the change of a record where it belongs to no commit cycle, COMMIT where it ends one, ENDJOB, and each request that changes files, members, journaling
-- or a range of changes
abbrev pub is_forced : Request → List Entry → Bool
is_forced (CreatePhysicalFile args) entries = true
is_forced (CreateLogicalFile args) entries = true
is_forced (DeleteFile args) entries = true
is_forced (AddMember args) entries = true
is_forced (ClearMember args) entries = true
is_forced (ReorganizeMember args) entries = true
is_forced (StartJournaling args) entries = true
is_forced (EndJournaling args) entries = true
is_forced ChangeJournal entries = true
is_forced (DeleteReceiver args) entries = false
is_forced Checkpoint entries = true
is_forced (DisplayJournal args) entries = false
is_forced (ApplyChanges args) entries = true
is_forced (RemoveChanges args) entries = true
is_forced (StartCommitment args) entries = false
is_forced EndCommitment entries = false
is_forced Commit entries = not (is_nil entries)
is_forced Rollback entries = false
is_forced (OpenFile args) entries = false
is_forced (CloseFile args) entries = false
is_forced (SetLowerLimit args) entries = false
is_forced (SetGreaterThan args) entries = false
is_forced (Read args) entries = false
is_forced (ReadPrior args) entries = false
is_forced (ReadEqual args) entries = false
is_forced (ReadPriorEqual args) entries = false
is_forced (Chain args) entries = false
is_forced (Write args) entries = are_free entries
is_forced (Update args) entries = are_free entries
is_forced (Delete args) entries = are_free entries
is_forced (Unlock args) entries = false
is_forced (EndJob args) entries = true
