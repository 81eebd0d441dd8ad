-- Which records have a key in a path of one format, and which of them do the changes of open commit cycles keep to themselves?
-- (Our own.)
use Rattle.std.specs.Prelude.{◌≡◌, ℕ, ◌+◌, ◌==◌, nat_lt, Bool, true, false, Option, Some, None, unwrap_or, Result, Ok, List, [], ◌∷◌, flat_map, if◌then◌else◌}
use Rattle.std.specs.List.{AllByRecursion, filter_map}
use Rattle.file_model.specs.KeyOrder.{KeyValue}
use Rattle.file_model.specs.Paths.{clash, path_key}
use Rattle.file_model.specs.Views.{view_of}
use Rattle.access_path.specs.KeyBytes.{encoded}
use Rattle.file_model.specs.declared.paths.PathFormat.{PathFormat}
use Rattle.access_path.specs.KeyFields.{AreBytes}
use Rattle.member_slots.specs.Member.{slot_at}
use Rattle.member_slots.specs.Members.{item_at, member_of}
use Rattle.member_slots.specs.declared.slot.Slot.{Slot}
use Rattle.member_slots.specs.declared.slot.Slot.TheVariants.{Live, Deleted}
use Rattle.journal_model.specs.Rollback.{MemberChange}
use Rattle.library_model.specs.declared.replies.Reply.{Reply}
use Rattle.library_model.specs.declared.replies.Reply.TheVariants.{HeldByGroup, RecordInUse}
use Rattle.path_set.specs.Formats.{IsAskable}
use Rattle.path_set.specs.EqualKeys.{clash_in}
use Rattle.path_set.specs.KeptPaths.{AreShared, KeptPath, NumberedPaths}
use Rattle.path_set.specs.MemberSteps.{image_in, is_over}
use Rattle.path_set.specs.RecordChanges.{TakeImage}
use Rattle.library_steps.specs.Records.{slot_there}
use Rattle.library_steps.specs.Refusals.{◌>>=◌, refuse_with}
use Rattle.library_steps.specs.State.{Memory, JobState, memory_of}
use Rattle.library_steps.specs.UniqueKeys.{NewKey, Reservation, UniquePath, new_key_in, new_keys, none_repeated, none_reserved, takes_key, unique_paths}
use Rattle.library_steps.specs.Uses.{changes_in}
use Rattle.parts_model.specs.declared.keys.Reservation.{Reservation as Kept}
use Rattle.parts_model.specs.declared.keys.Test.{Test}
use Rattle.parts_model.specs.declared.keys.Test.TheVariants.{Reserved, Repeated}
use Rattle.parts_model.specs.Parts.{LibraryParts}

-- the path of this number has this one format, which is over the member
pub record IsFormatAt (id member : ℕ) (format : PathFormat) (paths : NumberedPaths) : Type 0 where
  pub path : KeptPath
  pub at : item_at id paths ≡ Some path
  pub formats : path.spec.formats ≡ format ∷ []
  pub its : format.member ≡ member

-- ---- keys

-- these bytes are the key of the image, which the format selects
abbrev pub ShowsKey : PathFormat → (image : List ℕ) → Option (List ℕ) → Option (List KeyValue) → Type 0
ShowsKey format image None wanted = wanted ≡ None
ShowsKey format image (Some bytes) wanted = (wanted ≡ Some (path_key format image)) × (bytes ≡ encoded format.key (view_of format.fields image))

-- these bytes stand for the key of some image
pub record IsKeyIn (format : PathFormat) (bytes : List ℕ) (key : List KeyValue) : Type 0 where
  pub image : List ℕ
  pub are : AreBytes image
  pub encoded_is : bytes ≡ encoded format.key (view_of format.fields image)
  pub key_is : key ≡ path_key format image

-- so they do in the path of a number
pub record IsKeyAt (id member : ℕ) (bytes : List ℕ) (format : PathFormat) (key : List KeyValue) (paths : NumberedPaths) : Type 0 where
  pub over : IsFormatAt id member format paths
  pub shows : IsKeyIn format bytes key

-- the records with the key that changes took away
abbrev pub taken : PathFormat → List KeyValue → List MemberChange → List ℕ
taken format key undos = filter_map (λ undo. if takes_key format key undo then Some (undo.change.place + 1) else None) undos

-- the format can be asked about an image of bytes
abbrev pub MayBeAsked : PathFormat → (image : List ℕ) → Type 0
MayBeAsked format image = AreBytes image → IsAskable format image

-- so it can about the record that was taken away
abbrev pub IsAskedIn : PathFormat → Option Slot → Type 0
IsAskedIn format None = Unit {0}
IsAskedIn format (Some Deleted) = Unit {0}
IsAskedIn format (Some (Live image)) = MayBeAsked format image

abbrev pub IsAskedBefore : PathFormat → (member : ℕ) → MemberChange → Type 0
IsAskedBefore format member undo = undo.member ≡ member → IsAskedIn format undo.change.before

abbrev pub AreAskedBefore : PathFormat → (member : ℕ) → List MemberChange → Type 0
AreAskedBefore format member undos = AllByRecursion (IsAskedBefore format member) undos

-- in each of the jobs
abbrev pub AllAreAskedBefore : PathFormat → (member : ℕ) → List JobState → Type 0
AllAreAskedBefore format member jobs = AllByRecursion (λ job. AreAskedBefore format member (changes_in job.cycle)) jobs

-- ---- the least of them

abbrev pub lesser_of : ℕ → Option ℕ → Option ℕ
lesser_of rrn None = Some rrn
lesser_of rrn (Some other) = if nat_lt other rrn then Some other else Some rrn

abbrev pub least_of : List ℕ → Option ℕ
least_of [] = None
least_of (rrn ∷ rrns) = lesser_of rrn (least_of rrns)

abbrev pub lesser_reserved : (job rrn : ℕ) → Option Reservation → Option Reservation
lesser_reserved job rrn None = Some (record { job = job; rrn = rrn })
lesser_reserved job rrn (Some other) = if nat_lt other.rrn rrn then Some other else Some (record { job = job; rrn = rrn })

-- a reservation as the definitions have it
abbrev pub reservation_of : Kept → Reservation
reservation_of its = record { job = its.job; rrn = its.rrn }

-- that of a job before those of the jobs behind it
abbrev pub first_reserved : (job : ℕ) → Option ℕ → Option Reservation → Option Reservation
first_reserved job None rest = rest
first_reserved job (Some rrn) rest = lesser_reserved job rrn rest

-- of all jobs but this one, the first of which has that number
abbrev pub least_reserved : PathFormat → List KeyValue → (job number : ℕ) → List JobState → Option Reservation
least_reserved format key job number [] = None
least_reserved format key job number (one ∷ jobs) =
    if number == job then least_reserved format key job (number + 1) jobs
    else first_reserved number (least_of (taken format key (changes_in one.cycle))) (least_reserved format key job (number + 1) jobs)

-- ---- whether open commit cycles keep the key to themselves

-- that of the job itself is no hindrance under commitment
abbrev pub own_reserved : (commit : Bool) → Option ℕ → Option ℕ
own_reserved true rrn = None
own_reserved false rrn = rrn

abbrev pub own_kept : PathFormat → List KeyValue → (commit : Bool) → (own : List MemberChange) → Result Bool Reply
own_kept format key commit own = refuse_with (λ rrn. HeldByGroup rrn) (own_reserved commit (least_of (taken format key own)))

abbrev pub keys_kept : PathFormat → List KeyValue → (job : ℕ) → (commit : Bool) → (own : List MemberChange) → List JobState → Result Bool Reply
keys_kept format key job commit own jobs = do
  _ ← refuse_with (λ r. RecordInUse r.job format.member r.rrn) (least_reserved format key job 1 jobs)
  own_kept format key commit own

-- ---- one path of a file: nothing where no key comes into it

-- the key that comes into the path, in the place of the slot with that number
abbrev pub new_in : (file : List ℕ) → Memory → (member rrn : ℕ) → (image : List ℕ) → PathFormat → List NewKey
new_in file m member rrn image format = filter_map (new_key_in file (slot_there member rrn m) image) (format ∷ [])

-- what refuses some new keys, of the one kind or of the other
abbrev pub refused_by : Test → (job : ℕ) → (commit : Bool) → (rrn : ℕ) → List NewKey → Memory → Result Bool Reply
refused_by Reserved job commit rrn keys m = none_reserved job commit keys m
refused_by Repeated job commit rrn keys m = none_repeated rrn keys m

-- what refuses that of the path
abbrev pub tested : Test → (file : List ℕ) → Memory → (job : ℕ) → (commit : Bool) → (member rrn : ℕ) → (image : List ℕ) → PathFormat → Result Bool Reply
tested test file m job commit member rrn image format = refused_by test job commit rrn (new_in file m member rrn image format) m

-- nothing, whichever file has the path
pub record AreFreeIn (m : Memory) (job : ℕ) (commit : Bool) (member rrn : ℕ) (image : List ℕ) (format : PathFormat) : Type 0 where
  pub free : (test : Test) (file : List ℕ) → tested test file m job commit member rrn image format ≡ Ok true

-- ---- all paths

-- the keys that come into these unique paths
abbrev pub new_in_paths : List UniquePath → Memory → (member rrn : ℕ) → (image : List ℕ) → List NewKey
new_in_paths uniques m member rrn image = flat_map (λ unique. filter_map (new_key_in unique.file (slot_there member rrn m) image) unique.path.formats) uniques

-- what the unique paths over a member refuse of this kind, in the order of their files
abbrev pub keys_tested : Test → (job : ℕ) → (commit : Bool) → (member rrn : ℕ) → (image : List ℕ) → Memory → Result Bool Reply
keys_tested test job commit member rrn image m = refused_by test job commit rrn (new_keys member (slot_there member rrn m) image m) m

-- the unique path is kept, and has one format, which is over the member
pub record IsKeptOver (member : ℕ) (paths : NumberedPaths) (unique : UniquePath) : Type 0 where
  pub id : ℕ
  pub format : PathFormat
  pub over : IsFormatAt id member format paths
  pub same : over.path.spec ≡ unique.path
  pub once : unique.path.unique ≡ true

-- the paths over the member can be asked about the image, about the record that it is to take the place of, and about those that open commit
-- cycles took away; each has one format, and tells which record has the key; and the unique paths of files over the member are among them
pub record IsNewFor (parts : LibraryParts) (member rrn : ℕ) (image : List ℕ) : Type 0 where
  pub new : TakeImage member (Some image) parts.room.paths.paths
  pub old : TakeImage member (image_in (unwrap_or (slot_at (member_of member parts.state.members) rrn) Deleted)) parts.room.paths.paths
  pub before : (id : ℕ) (format : PathFormat) → IsFormatAt id member format parts.room.paths.paths → AllAreAskedBefore format member parts.state.jobs
  pub bytes : AreBytes image
  pub shared : AreShared parts.room.paths.paths
  pub one : (id : ℕ) (path : KeptPath) → item_at id parts.room.paths.paths ≡ Some path → path.spec.unique ≡ true → is_over member path.spec ≡ true
      → (format : PathFormat) × IsFormatAt id member format parts.room.paths.paths
  pub told : (id : ℕ) (format : PathFormat) (over : IsFormatAt id member format parts.room.paths.paths) → clash_in 0 image rrn over.path ≡ clash format parts.state.members image rrn
  pub kept : AllByRecursion (IsKeptOver member parts.room.paths.paths) (unique_paths member (memory_of parts.state))
