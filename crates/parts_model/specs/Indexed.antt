-- What the kept access paths are of a library's files, members and jobs: each path of a file is kept, with the entries that the members give it; each
-- open reads by the path of its file, or in arrival order; and for each change of an open commit cycle the moves that take it back are at hand, with
-- memory for them. (Our own.)
use Rattle.std.specs.Prelude.{◌≡◌, ℕ, ◌+◌, ◌*◌, ◌≤◌, Bool, IsTrue, Option, Some, None, IsSome, List, [], ◌∷◌, length, map, filter, slice_get, All, Any, if◌then◌else◌}
use Rattle.std.specs.List.{AllByRecursion, AllZip, sum_by}
use Rattle.member_slots.specs.declared.slot.Slot.{Slot}
use Rattle.member_slots.specs.declared.slot.Slot.TheVariants.{Live, Deleted}
use Rattle.member_slots.specs.Member.{MemberState}
use Rattle.member_slots.specs.Members.{NumberedMembers}
use Rattle.access_path.specs.KeyFields.{AreBytes}
use Rattle.key_spec.specs.declared.Ties.TheVariants.{Rising}
use Rattle.file_model.specs.declared.paths.PathSpec.{PathSpec}
use Rattle.file_model.specs.FilePaths.{key_parts, physical_path}
use Rattle.file_model.specs.Joins.{secondary_path}
use Rattle.library_steps.below.dds_logical.specs.declared.join_views.JoinView.{JoinView}
use Rattle.library_steps.below.dds_logical.specs.declared.views.LogicalSpec.{LogicalSpec}
use Rattle.library_steps.below.dds_logical.specs.declared.views.LogicalSpec.TheVariants.{Simple, Multi, Join}
use Rattle.library_steps.specs.Bases.{Bases, FileSpec, PhysicalFile, LogicalFile, base_names}
use Rattle.library_steps.specs.FilePaths.{secondary_of}
use Rattle.library_paths.specs.Mapped.{AreSameBases, IsSpecMapped}
use Rattle.view_records.specs.KeyedViews.{IsKeyedLogical}
use Rattle.view_records.specs.Steps.{own_path}
use Rattle.view_records.specs.Through.{HasFormats, HasBytesIn}
use Rattle.join_records.specs.Linked.{IsLinkedLogical}
use Rattle.library_paths.specs.AllPaths.{AreKeptFor, all_paths}
use Rattle.journal_model.specs.Replay.{before_of}
use Rattle.journal_model.specs.Rollback.{MemberChange}
use Rattle.path_set.specs.declared.moves.PathMove.{PathMove}
use Rattle.path_set.specs.KeptPaths.{KeptPaths, NumberedPaths, spare_of}
use Rattle.path_set.specs.RecordChanges.{RecordChange, reversed, moves_in}
use Rattle.path_set.specs.MemberSteps.{is_over, slot_replaced}
use Rattle.job_table.specs.Opens.{JoinOrder, OpenOrder}
use Rattle.library_model.specs.Named.{Named, named}
use Rattle.library_steps.specs.LogicalFiles.{bases_in}
use Rattle.library_steps.specs.Opens.{first_of}
use Rattle.library_steps.specs.Records.{is_file_path, is_keyed}
use Rattle.library_steps.specs.State.{FileState, OpenState, JobState}
use Rattle.library_steps.specs.Uses.{changes_in}

-- ---- the paths of files

-- each path that a file has is kept, and has the entries that the members give it; each kept path is that of a file
abbrev pub ArePaths : Named FileState → NumberedMembers → NumberedPaths → Type 0
ArePaths files members paths = AreKeptFor (all_paths files) members paths

-- a physical file is read by its key over a member, where it is, and a logical file by its path
abbrev pub path_by : Bases → (keyed : Bool) → (member : ℕ) → FileSpec → Option PathSpec
path_by bases keyed member (PhysicalFile spec) = if keyed then Some (physical_path member spec.format.fields spec.keys) else None
path_by bases keyed member (LogicalFile spec) = Some (own_path bases spec)

-- the file is no join
abbrev pub IsUnjoined : FileSpec → Type 0
IsUnjoined (PhysicalFile spec) = Unit {0}
IsUnjoined (LogicalFile (Simple view)) = Unit {0}
IsUnjoined (LogicalFile (Multi views)) = Unit {0}
IsUnjoined (LogicalFile (Join view)) = ⊥

-- where a file of one format has no key, its records stand by their rising numbers
abbrev pub RisesIfKeyless : LogicalSpec → Type 0
RisesIfKeyless (Simple view) = view.keys.parts ≡ [] → view.keys.ties ≡ Rising
RisesIfKeyless (Multi views) = Unit {0}
RisesIfKeyless (Join view) = Unit {0}

-- a file of several formats has two at least
abbrev pub HasSeveral : LogicalSpec → Type 0
HasSeveral (Simple view) = Unit {0}
HasSeveral (Multi views) = 2 ≤ length views
HasSeveral (Join view) = Unit {0}

-- it has a format; its key is by fields of its base files, and what is stored through it lies in whole fields of these; the fields of its formats are
-- those of what it shows, and what they are made of has a byte; a join is joined from earlier files, by fields of theirs
pub record IsView (bases : Bases) (spec : LogicalSpec) : Type 0 where
  pub some : IsSome (slice_get (base_names spec) 0)
  pub several : HasSeveral spec
  pub keyed : IsKeyedLogical bases spec
  pub mapped : IsSpecMapped bases spec
  pub rises : RisesIfKeyless spec
  pub formats : HasFormats spec
  pub bytes : HasBytesIn spec
  pub linked : IsLinkedLogical bases spec

-- the bases of a logical file are the same
abbrev pub AreSameBasesBy : Bases → Bases → FileSpec → Type 0
AreSameBasesBy bases others (PhysicalFile spec) = Unit {0}
AreSameBasesBy bases others (LogicalFile spec) = AreSameBases bases others spec

abbrev pub IsViewBeside : Named FileState → FileSpec → Type 0
IsViewBeside files (PhysicalFile spec) = Unit {0}
IsViewBeside files (LogicalFile spec) = IsView (bases_in files) spec

abbrev pub AreViewsBeside : (all files : Named FileState) → Type 0
AreViewsBeside all files = AllByRecursion (λ entry. IsViewBeside all entry.1.spec) files

abbrev pub AreViews : Named FileState → Type 0
AreViews files = AreViewsBeside files files

-- ---- opens

-- in arrival order there is no path, and no position of a key
pub record IsByArrival (order : OpenOrder) : Type 0 where
  pub path : order.path ≡ None
  pub formats : order.formats ≡ [] ∷ []

-- by the path of this specification, which has the number
pub record IsByPath (paths : NumberedPaths) (spec : PathSpec) (order : OpenOrder) : Type 0 where
  pub path : (id : ℕ) × (order.path ≡ Some id) × Any (λ path. (path.number ≡ id) × (path.item.spec ≡ spec)) paths
  pub formats : order.formats ≡ map (λ format. format.key) spec.formats

abbrev pub ReadsBy : NumberedPaths → Option PathSpec → OpenOrder → Type 0
ReadsBy paths None order = IsByArrival order
ReadsBy paths (Some spec) order = IsByPath paths spec order

-- the path by which an open of a file reads, where it reads by one
abbrev pub path_read : Bases → FileState → OpenState → Option PathSpec
path_read bases file opened = path_by bases (is_keyed file opened) (first_of opened.members) file.spec

-- a logical file isn't read in arrival order
abbrev pub IsReadSo : (by_path : Bool) → FileSpec → Type 0
IsReadSo by_path (PhysicalFile spec) = Unit {0}
IsReadSo by_path (LogicalFile spec) = IsTrue by_path

-- the paths of these specifications are kept under these numbers
abbrev pub AreNumbersOf : NumberedPaths → List PathSpec → List ℕ → Type 0
AreNumbersOf kept specs ids = AllZip (λ spec id. Any (λ path. (path.number ≡ id) × (path.item.spec ≡ spec)) kept) specs ids

-- the paths over the secondary files of a join; no other file has such
abbrev pub rows_paths : Bases → FileSpec → List PathSpec
rows_paths bases (PhysicalFile spec) = []
rows_paths bases (LogicalFile (Simple view)) = []
rows_paths bases (LogicalFile (Multi views)) = []
rows_paths bases (LogicalFile (Join view)) = map secondary_path (map (secondary_of bases) view.secondaries)

-- by these the rows of a join are read, and an open stands among them by its key and the positions of JDUPSEQ
pub record IsByRows (bases : Bases) (kept : NumberedPaths) (view : JoinView) (join : JoinOrder) : Type 0 where
  pub paths : AreNumbersOf kept (rows_paths bases (LogicalFile (Join view))) join.paths
  pub parts : key_parts 0 view.keys.parts ≡ join.parts
  pub sequences : map (λ joined. joined.sequence) view.secondaries ≡ join.sequences

-- an open of any other file has no rows
abbrev pub ReadsRowsBy : Bases → NumberedPaths → FileSpec → Option JoinOrder → Type 0
ReadsRowsBy bases kept (PhysicalFile spec) join = join ≡ None
ReadsRowsBy bases kept (LogicalFile (Simple view)) join = join ≡ None
ReadsRowsBy bases kept (LogicalFile (Multi views)) join = join ≡ None
ReadsRowsBy bases kept (LogicalFile (Join view)) None = ⊥
ReadsRowsBy bases kept (LogicalFile (Join view)) (Some join) = IsByRows bases kept view join

abbrev pub ReadsFile : Bases → NumberedPaths → OpenState → OpenOrder → Option FileState → Type 0
ReadsFile bases paths opened order None = ⊥
ReadsFile bases paths opened order (Some file) = ReadsBy paths (path_read bases file opened) order × IsReadSo (is_file_path opened.access_path) file.spec × ReadsRowsBy bases paths file.spec order.join

abbrev pub ReadsIn : Named FileState → NumberedPaths → List ℕ × OpenState → List ℕ × OpenOrder → Type 0
ReadsIn files paths entry order = ReadsFile (bases_in files) paths entry.1 order.1 (named entry.1.file files)

abbrev pub OpensRead : Named FileState → NumberedPaths → JobState → Named OpenOrder → Type 0
OpensRead files paths job orders = AllZip (ReadsIn files paths) job.opens orders

-- ---- open commit cycles

-- the change of a record that a change of a commit cycle was
abbrev pub record_change : MemberChange → RecordChange
record_change undo = slot_replaced undo.member (undo.change.place + 1) (before_of undo.change) undo.change.after

-- the moves that take it back
abbrev pub moves_back : NumberedPaths → MemberChange → List PathMove
moves_back paths undo = moves_in (reversed (record_change undo)) paths

abbrev pub moves_of_job : NumberedPaths → JobState → List (List PathMove)
moves_of_job paths job = map (moves_back paths) (changes_in job.cycle)

-- how many changes of members that the path is over the open commit cycles have
abbrev pub changes_over : PathSpec → List JobState → ℕ
changes_over spec jobs = sum_by (λ job. length (filter (λ undo. is_over undo.member spec) (changes_in job.cycle))) jobs

-- each kept path has memory for the moves of so many changes
abbrev pub HaveSpares : (PathSpec → ℕ) → KeptPaths → Type 0
HaveSpares count kept = All (λ path. count path.item.spec * length path.item.spec.formats ≤ spare_of path.number kept) kept.paths

-- ---- bytes

abbrev pub HasBytes : Slot → Type 0
HasBytes (Live image) = AreBytes image
HasBytes Deleted = Unit {0}

abbrev pub MemberHasBytes : MemberState → Type 0
MemberHasBytes member = AllByRecursion HasBytes member.slots

abbrev pub AreOfBytes : NumberedMembers → Type 0
AreOfBytes members = AllByRecursion (λ entry. MemberHasBytes entry.item) members

-- ---- all of it

-- the same of whatever paths files have
pub record IsIndexedFor (specs : List PathSpec) (files : Named FileState) (members : NumberedMembers) (jobs : List JobState) (reads : List (Named OpenOrder)) (backs : List (List (List PathMove)))
    (kept : KeptPaths) : Type 0 where
  pub paths : AreKeptFor specs members kept.paths
  pub orders : AllZip (OpensRead files kept.paths) jobs reads
  pub moves : backs ≡ map (moves_of_job kept.paths) jobs
  pub room : HaveSpares (λ spec. changes_over spec jobs) kept
  pub bytes : AreOfBytes members
  pub views : AreViews files

abbrev pub IsIndexed : Named FileState → NumberedMembers → List JobState → List (Named OpenOrder) → List (List (List PathMove)) → KeptPaths → Type 0
IsIndexed files members jobs reads backs kept = IsIndexedFor (all_paths files) files members jobs reads backs kept
