-- Which keys a record may not have: those of other records of a unique path, and those that an open commit cycle keeps to itself.
-- (DDS for Physical and Logical Files, "UNIQUE"; Database Programming. That a commit cycle reserves the keys that it took away is our own.)
use Rattle.std.specs.Prelude.{ℕ, ◌+◌, ◌==◌, ◌&&◌, nat_lt, Bool, true, false, not, Option, Some, None, Result, Ok, List, [], ◌∷◌, ◌++◌, map, flat_map, filter, if◌then◌else◌}
use Rattle.std.specs.List.{filter_map, find}
use Rattle.std.specs.Option.{option_map, is_some}
use Rattle.std.specs.Ordering.{is_eq}
use Rattle.logical_model.below.member_slots.specs.declared.slot.Slot.{Slot}
use Rattle.logical_model.below.member_slots.specs.declared.slot.Slot.TheVariants.{Live, Deleted}
use Rattle.dds_physical.specs.declared.physical_files.PhysicalSpec.{PhysicalSpec}
use Rattle.logical_model.below.dds_logical.specs.declared.views.LogicalSpec.{LogicalSpec}
use Rattle.file_model.specs.declared.paths.PathFormat.{PathFormat}
use Rattle.file_model.specs.declared.paths.PathSpec.{PathSpec}
use Rattle.file_model.specs.FilePaths.{physical_path}
use Rattle.file_model.specs.KeyOrder.{KeyValue, compare_keys}
use Rattle.file_model.specs.Paths.{path_key, entries_of, other_with_key, repeated_in}
use Rattle.file_model.specs.Selection.{selects}
use Rattle.logical_model.specs.Bases.{FileSpec, PhysicalFile, LogicalFile}
use Rattle.logical_model.specs.FilePaths.{is_over, logical_paths}
use Rattle.journal_model.specs.Rollback.{MemberChange}
use Rattle.library_model.specs.declared.replies.Reply.{Reply}
use Rattle.library_model.specs.declared.replies.Reply.TheVariants.{RecordInUse, HeldByGroup, DuplicateKey}
use Rattle.library_model.specs.Named.{Named}
use Rattle.library_steps.specs.State.{Memory, FileState, MemberStatus, JobState}
use Rattle.library_steps.specs.LogicalFiles.{bases_of}
use Rattle.library_steps.specs.Refusals.{◌>>=◌, refuse_with}
use Rattle.library_steps.specs.Uses.{changes_in}

-- ---- the unique paths over a member

-- a unique path, and the file that has it
pub record UniquePath : Type 0 where
  pub file : List ℕ
  pub path : PathSpec

abbrev pub has_member : ℕ → Named MemberStatus → Bool
has_member number members = is_some (find (λ entry. entry.1.number == number) members)

-- the unique path of a physical file over one of its members
abbrev pub own_unique : (file : List ℕ) → (member : ℕ) → PhysicalSpec → Named MemberStatus → List UniquePath
own_unique file member spec members =
    if spec.keys.unique && has_member member members
    then record { file = file; path = physical_path member spec.format.fields spec.keys } ∷ [] else []

-- the unique path of a logical file, where it is over the member
abbrev pub view_unique : Memory → (file : List ℕ) → (member : ℕ) → LogicalSpec → List UniquePath
view_unique m file member spec =
    map (λ path. record { file = file; path = path }) (filter (λ path. path.unique && is_over member path) (logical_paths (bases_of m) spec))

abbrev pub uniques_by : FileSpec → Memory → ℕ → List ℕ × FileState → List UniquePath
uniques_by (PhysicalFile spec) m member entry = own_unique entry.0 member spec entry.1.members
uniques_by (LogicalFile spec) m member entry = view_unique m entry.0 member spec

-- by the order in which their files were made
abbrev pub unique_paths : ℕ → Memory → List UniquePath
unique_paths member m = flat_map (λ entry. uniques_by entry.1.spec m member entry) m.files

-- ---- the key that a record would have anew

-- the key of an image in a format over the member, where it is selected
abbrev pub key_in : PathFormat → List ℕ → Option (List KeyValue)
key_in format image = if selects format.rules image then Some (path_key format image) else None

abbrev pub key_of_slot : PathFormat → Slot → Option (List KeyValue)
key_of_slot format (Live image) = key_in format image
key_of_slot format Deleted = None

abbrev pub has_key : Option (List KeyValue) → List KeyValue → Bool
has_key None key = false
has_key (Some other) key = is_eq (compare_keys other key)

-- the key that comes into the path: that of the new image, where the old slot hasn't the same
abbrev pub if_new : Option (List KeyValue) → Option (List KeyValue) → Option (List KeyValue)
if_new old None = None
if_new old (Some key) = if has_key old key then None else Some key

-- a key that comes into a unique path, by the path's file, and the format over the member
pub record NewKey : Type 0 where
  pub file : List ℕ
  pub format : PathFormat
  pub key : List KeyValue

abbrev pub new_key_in : List ℕ → Slot → (image : List ℕ) → PathFormat → Option NewKey
new_key_in file old image format =
    option_map (λ key. record { file = file; format = format; key = key }) (if_new (key_of_slot format old) (key_in format image))

-- the keys that come into the unique paths of the member by an image in the place of a slot, in the order of the paths
abbrev pub new_keys : ℕ → Slot → (image : List ℕ) → Memory → List NewKey
new_keys member old image m = flat_map (λ unique. filter_map (new_key_in unique.file old image) unique.path.formats) (unique_paths member m)

-- ---- keys that open commit cycles took away

-- a record whose key a job's open commit cycle keeps to itself
pub record Reservation : Type 0 where
  pub job : ℕ
  pub rrn : ℕ

-- the change took a record with this key away
abbrev pub took_from : PathFormat → List KeyValue → Option Slot → Bool
took_from format key None = false
took_from format key (Some before) = has_key (key_of_slot format before) key

abbrev pub takes_key : PathFormat → List KeyValue → MemberChange → Bool
takes_key format key undo = (undo.member == format.member) && took_from format key undo.change.before

abbrev pub reserved_by : NewKey → ℕ → JobState → List Reservation
reserved_by new number job =
    filter_map (λ undo. if takes_key new.format new.key undo then Some (record { job = number; rrn = undo.change.place + 1 }) else None) (changes_in job.cycle)

-- all reservations of the key, the first of these jobs having this number
abbrev pub reservations : NewKey → ℕ → List JobState → List Reservation
reservations new number [] = []
reservations new number (job ∷ jobs) = reserved_by new number job ++ reservations new (number + 1) jobs

abbrev pub lesser : Reservation → Option Reservation → Option Reservation
lesser r None = Some r
lesser r (Some other) = if nat_lt other.rrn r.rrn then Some other else Some r

-- that of the least relative record number
abbrev pub least : List Reservation → Option Reservation
least [] = None
least (r ∷ others) = lesser r (least others)

-- of another job, and of the job itself where it writes outside its commit cycle
abbrev pub reservation_of_others : ℕ → NewKey → Memory → Option Reservation
reservation_of_others job new m = least (filter (λ r. not (r.job == job)) (reservations new 1 m.jobs))

abbrev pub own_reservation : ℕ → (commit : Bool) → NewKey → Memory → Option Reservation
own_reservation job true new m = None
own_reservation job false new m = least (filter (λ r. r.job == job) (reservations new 1 m.jobs))

abbrev pub not_reserved : ℕ → (commit : Bool) → NewKey → Memory → Result Bool Reply
not_reserved job commit new m = do
  _ ← refuse_with (λ r. RecordInUse r.job new.format.member r.rrn) (reservation_of_others job new m)
  refuse_with (λ r. HeldByGroup r.rrn) (own_reservation job commit new m)

-- none of the keys is reserved, in their order
abbrev pub none_reserved : ℕ → (commit : Bool) → List NewKey → Memory → Result Bool Reply
none_reserved job commit [] m = Ok true
none_reserved job commit (new ∷ keys) m = do
  _ ← not_reserved job commit new m
  none_reserved job commit keys m

-- ---- equal keys

-- the least other record that has the key
abbrev pub other_record : NewKey → (rrn : ℕ) → Memory → Option ℕ
other_record new rrn m = other_with_key new.key rrn (entries_of 0 new.format m.members)

-- none of the keys is another record's, in their order
abbrev pub none_repeated : (rrn : ℕ) → List NewKey → Memory → Result Bool Reply
none_repeated rrn [] m = Ok true
none_repeated rrn (new ∷ keys) m = do
  _ ← refuse_with (λ other. DuplicateKey new.file other) (other_record new rrn m)
  none_repeated rrn keys m

-- the image may have its keys in the place of the slot with this number, which its job writes
abbrev pub keys_free : ℕ → (commit : Bool) → (member rrn : ℕ) → Slot → (image : List ℕ) → Memory → Result Bool Reply
keys_free job commit member rrn old image m = do
  _ ← none_reserved job commit (new_keys member old image m) m
  none_repeated rrn (new_keys member old image m) m

-- no unique path of the member has two records with one key
abbrev pub all_apart : List UniquePath → Memory → Result Bool Reply
all_apart [] m = Ok true
all_apart (unique ∷ paths) m = do
  _ ← refuse_with (λ rrn. DuplicateKey unique.file rrn) (repeated_in unique.path m.members)
  all_apart paths m
