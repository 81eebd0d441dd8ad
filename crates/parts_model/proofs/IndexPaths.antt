-- What the kept paths are to files, opens and changes of commit cycles, where paths come, go, or change in their entries alone.
use Rattle.std.proofs.Common.{ℕ, zero, suc, ◌+◌, ◌*◌, ◌≤◌, ◌≡◌, ◌≢◌, ◌==◌, ◌&&◌, ◌||◌, ◌⊎◌, inl, inr, nat_lt, Bool, true, false, if◌then◌else◌, List, [], ◌∷◌, ◌++◌, length, map, get_or, Option, Some, None, refl, sym, ap, arith, ◌∙◌, subst}
use Rattle.std.specs.Prelude.{All, Any, filter}
use Rattle.std.specs.List.{AllByRecursion, AllZip, list_any}
use Rattle.std.proofs.lemmas.Bool.{cond-false}
use Rattle.std.proofs.lemmas.Bool.Decides.{nat_tests}
use Rattle.std.proofs.lemmas.List.Sums.{sum_by-cons}
use Rattle.std.proofs.Math.Nat.{mul-le-mul_right}
use Rattle.key_pages.specs.declared.entries.Entry.{Entry}
use Rattle.member_slots.specs.Members.{Numbered, NumberedMembers}
use Rattle.file_model.specs.declared.paths.PathFormat.{PathFormat}
use Rattle.file_model.specs.declared.paths.PathSpec.{PathSpec}
use Rattle.file_model.specs.FilePaths.{every_record, own_fields, path_format, physical_path}
use Rattle.library_steps.below.dds_physical.specs.declared.physical_files.PhysicalSpec.{PhysicalSpec}
use Rattle.library_steps.below.dds_logical.specs.declared.views.LogicalSpec.{LogicalSpec}
use Rattle.library_steps.below.dds_logical.specs.declared.views.LogicalSpec.TheVariants.{Simple, Multi, Join}
use Rattle.library_steps.specs.Bases.{Bases, FileSpec, PhysicalFile, LogicalFile}
use Rattle.library_steps.specs.FilePaths.{view_format, secondary_of}
use Rattle.library_steps.specs.Formats.{has_key}
use Rattle.library_paths.specs.Mapped.{AreSameBases}
use Rattle.library_paths.proofs.LogicalLawsListLemmas.{each-append, each-contained}
use Rattle.library_paths.proofs.SameLemmas.{same-paths}
use Rattle.view_records.specs.Steps.{own_path, shown_in_join}
use Rattle.library_paths.specs.AllPaths.{AreKeptFor, all_paths, paths_among, paths_by}
use Rattle.library_paths.specs.KeptOnce.{with_entries}
use Rattle.library_paths.proofs.KeptLemmas.{kept-contained}
use Rattle.journal_model.specs.Rollback.{MemberChange}
use Rattle.path_set.specs.declared.moves.PathMove.{PathMove}
use Rattle.path_set.specs.KeptPaths.{AreShared, KeptPath, KeptPaths, NumberedPaths, spare_of}
use Rattle.path_set.specs.RecordChanges.{RecordChange, reversed, moves_of, in_path, moves_in, HaveRoom}
use Rattle.path_set.specs.MemberSteps.{is_over}
use Rattle.lawful_states.proofs.NameLemmas.{some-equal}
use Rattle.job_table.specs.Opens.{OpenOrder, JoinOrder}
use Rattle.library_model.specs.Named.{Named, named}
use Rattle.library_steps.specs.Opens.{first_of}
use Rattle.library_steps.specs.Records.{is_file_path}
use Rattle.library_steps.specs.LogicalFiles.{bases_in}
use Rattle.library_steps.specs.State.{FileState, MemberStatus, OpenState, CycleState, JobState, job_changed}
use Rattle.library_steps.specs.Uses.{changes_in}
use Rattle.parts_model.specs.Indexed.{AreViews, AreViewsBeside, IsViewBeside, AreSameBasesBy, IsIndexedFor, IsReadSo, OpensRead, ReadsBy, ReadsFile, ReadsIn, HaveSpares, changes_over, moves_back, moves_of_job, path_by, record_change, AreNumbersOf, IsByRows, ReadsRowsBy, rows_paths}
use Rattle.lawful_states.specs.Lawful.{GoesBack, CycleGoesBack, AllGoBack}
use Rattle.lawful_states.proofs.BaseLemmas.{IsKept}
use Rattle.file_model.specs.Joins.{secondary_path}
use Rattle.library_steps.below.dds_logical.specs.declared.join_views.JoinView.{JoinView}
use Rattle.library_steps.below.dds_logical.specs.declared.join_views.JoinedFile.{JoinedFile}

-- ---- lists

pub any-none : {X : Type 0} (P : X → Type 0) → Any P [] → ⊥
any-none P (k, x, low, at, is) = absurd (omega (arith, low))

pub any-first : {X : Type 0} (P : X → Type 0) (x : X) (xs : List X) → P x → Any P (x ∷ xs)
any-first P x xs is = (zero, x, (omega arith), refl, is)

pub any-later : {X : Type 0} (P : X → Type 0) (x : X) (xs : List X) → Any P xs → Any P (x ∷ xs)
any-later P x xs (k, y, low, at, is) = (suc k, y, (omega (arith, low)), at, is)

pub any-cons : {X : Type 0} (P : X → Type 0) (x : X) (xs : List X) → Any P (x ∷ xs) → (P x) ⊎ Any P xs
any-cons P x xs (zero, y, low, at, is) = inl (subst P (sym at) is)
any-cons P x xs (suc k, y, low, at, is) = inr (k, y, (omega (arith, low)), at, is)

pub any-each : {X : Type 0} (P Q : X → Type 0) (xs : List X) → ((x : X) → P x → Q x) → Any P xs → Any Q xs
any-each P Q xs each (k, x, low, at, is) = (k, x, low, at, each x is)

-- what holds of all holds of the one that is there
pub any-both : {X : Type 0} (P Q : X → Type 0) (xs : List X) → All P xs → Any Q xs → (x : X) × P x × Q x
any-both P Q xs all (k, x, low, at, is) = (x, subst P at (all k x low), is)

pub any-map : {X Y : Type 0} (P : Y → Type 0) (f : X → Y) (xs : List X) → Any (λ (x : X). P (f x)) xs → Any P (map f xs)
any-map {X = X} P f [] any = absurd (any-none (λ (x : X). P (f x)) any)
any-map {X = X} P f (x ∷ xs) any =
    elim (any-cons (λ (y : X). P (f y)) x xs any) [
      | inl is ↦ any-first P (f x) (map f xs) is
      | inr rest ↦ any-later P (f x) (map f xs) (any-map P f xs rest)
    ]

pub zip-each : {A B C : Type 0} (R : A → B → Type 0) (S : A → C → Type 0) (f : B → C) (xs : List A) (ys : List B) → ((x : A) (y : B) → R x y → S x (f y)) → AllZip R xs ys → AllZip S xs (map f ys)
zip-each R S f [] [] each all = tt
zip-each R S f [] (y ∷ ys) each all = absurd all
zip-each R S f (x ∷ xs) [] each all = absurd all
zip-each R S f (x ∷ xs) (y ∷ ys) each all = (each x y all.0, zip-each R S f xs ys each all.1)

pub zip-all : {A B : Type 0} (R S : A → B → Type 0) (xs : List A) (ys : List B) → ((x : A) (y : B) → R x y → S x y) → AllZip R xs ys → AllZip S xs ys
zip-all R S [] [] each all = tt
zip-all R S [] (y ∷ ys) each all = absurd all
zip-all R S (x ∷ xs) [] each all = absurd all
zip-all R S (x ∷ xs) (y ∷ ys) each all = (each x y all.0, zip-all R S xs ys each all.1)

-- ---- the path of a member

-- it has one format, which is over the member
pub record IsOfMember (number : ℕ) (spec : PathSpec) : Type 0 where
  pub format : PathFormat
  pub formats : spec.formats ≡ format ∷ []
  pub member : format.member ≡ number

pub over-own : (number : ℕ) (spec : PathSpec) → IsOfMember number spec → is_over number spec ≡ true
over-own number spec is =
    ap (list_any (λ (f : PathFormat). f.member == number)) is.formats
    ∙ ap (λ (b : Bool). b || false) (let m = is.member in let e : (is.format.member == number) ≡ true = grind (arith, nat_tests) in e)

pub over-other : (number other : ℕ) (spec : PathSpec) → IsOfMember number spec → other ≢ number → is_over other spec ≡ false
over-other number other spec is differs =
    ap (list_any (λ (f : PathFormat). f.member == other)) is.formats
    ∙ ap (λ (b : Bool). b || false) (let m = is.member in let e : (is.format.member == other) ≡ false = grind (arith, nat_tests) in e)

-- a member that a format is over is the one
pub any-own : (number member : ℕ) (spec : PathSpec) → IsOfMember number spec → Any (λ (f : PathFormat). f.member ≡ member) spec.formats → member ≡ number
any-own number member spec is any =
    elim (any-cons (λ (f : PathFormat). f.member ≡ member) is.format [] (subst (λ (fs : List PathFormat). Any (λ (f : PathFormat). f.member ≡ member) fs) is.formats any)) [
      | inl same ↦ sym same ∙ is.member
      | inr none ↦ absurd (any-none (λ (f : PathFormat). f.member ≡ member) none)
    ]

-- two members have no path in common
pub one-member : (number other : ℕ) (spec : PathSpec) → IsOfMember number spec → IsOfMember other spec → number ≡ other
one-member number other spec is also =
    any-own other number spec also (subst (λ (fs : List PathFormat). Any (λ (f : PathFormat). f.member ≡ number) fs) (sym is.formats) (any-first (λ
    (f : PathFormat). f.member ≡ number) is.format [] is.member))

-- ---- each path of a file that may have no equal keys is over one member

pub record IsOfOwner (files : Named FileState) (spec : PathSpec) : Type 0 where
  pub one : spec.unique ≡ true → (number : ℕ) × IsOfMember number spec

pub physical-of : (number : ℕ) (spec : PhysicalSpec) → IsOfMember number (physical_path number spec.format.fields spec.keys)
physical-of number spec = record { format = path_format number every_record (own_fields spec.format.fields) spec.keys.parts; formats = refl; member = refl }

-- the paths over the members of a physical file
physicals-of : (files : Named FileState) (spec : PhysicalSpec) (members : Named MemberStatus)
    → AllByRecursion (IsOfOwner files) (map (λ (entry : List ℕ × MemberStatus). physical_path entry.1.number spec.format.fields spec.keys) members)
physicals-of files spec [] = tt
physicals-of files spec (entry ∷ members) = (record { one = λ unique. (entry.1.number, physical-of entry.1.number spec) }, physicals-of files spec members)

-- those over the secondary files of a join may have equal keys
secondaries-of : (files : Named FileState) (secondaries : List JoinedFile) → AllByRecursion (IsOfOwner files) (map secondary_path (map (secondary_of (bases_in files)) secondaries))
secondaries-of files [] = tt
secondaries-of files (joined ∷ secondaries) = (record { one = λ unique. absurd cc }, secondaries-of files secondaries)

file-of : (files : Named FileState) (members : Named MemberStatus) (spec : FileSpec) → IsViewBeside files spec → AllByRecursion (IsOfOwner files) (paths_by files members spec)
file-of files members (PhysicalFile spec) view =
    elim (nat_lt 0 (length spec.keys.parts)) as (λ b. AllByRecursion (IsOfOwner files)
    (if b then map (λ (entry : List ℕ × MemberStatus). physical_path entry.1.number spec.format.fields spec.keys) members else [])) [
      | true ↦ physicals-of files spec members
      | false ↦ tt
    ]
file-of files members (LogicalFile (Simple view)) is =
    (record { one = λ unique. ((bases_in files view.base).member, record { format = view_format (bases_in files) view; formats = refl; member = refl }) }, tt)
file-of files members (LogicalFile (Multi views)) is = (record { one = λ unique. absurd cc }, tt)
file-of files members (LogicalFile (Join view)) is = (
  record {
    one = λ unique. (
      (bases_in files view.primary).member,
      record { format = path_format (bases_in files view.primary).member every_record (shown_in_join view.fields) view.keys.parts; formats = refl; member = refl },
    );
  },
  secondaries-of files view.secondaries,
)

all-of : (all files : Named FileState) → AreViewsBeside all files → AllByRecursion (IsOfOwner all) (paths_among all files)
all-of all [] views = tt
all-of all (entry ∷ files) views =
    each-append (IsOfOwner all) (paths_by all entry.1.members entry.1.spec) (paths_among all files) (file-of all entry.1.members entry.1.spec views.0) (all-of all files views.1)

-- so is each kept path
pub kept-of : (files : Named FileState) (members : NumberedMembers) (paths : NumberedPaths) → AreViews files → AreShared paths → AreKeptFor (all_paths files) members paths
    → All (λ path. IsOfOwner files path.item.spec) paths
kept-of files members paths views shared kept = λ k d low.
    each-contained (IsOfOwner files) (all_paths files) (get_or paths k d).item.spec (all-of files files views) (kept-contained (all_paths files) members paths shared kept k d low)

-- ---- paths with other entries

module _ (entries : Numbered KeptPath → List Entry) where
  pub any-with : (paths : NumberedPaths) (id : ℕ) (spec : PathSpec) → Any (λ (path : Numbered KeptPath). (path.number ≡ id) × (path.item.spec ≡ spec)) paths
      → Any (λ (path : Numbered KeptPath). (path.number ≡ id) × (path.item.spec ≡ spec)) (map (with_entries entries) paths)
  any-with paths id spec any = any-map (λ (path : Numbered KeptPath). (path.number ≡ id) × (path.item.spec ≡ spec)) (with_entries entries) paths any

  pub moves-with : (c : RecordChange) (paths : NumberedPaths) → moves_in c (map (with_entries entries) paths) ≡ moves_in c paths
  moves-with c [] = refl
  moves-with c (path ∷ paths) = ap (λ (w : List PathMove). in_path path.number (moves_of c path.item.spec) ++ w) (moves-with c paths)

-- ---- opens, and the moves of changes, where files and paths stay

-- a path that is kept stays, under its number
abbrev pub PathsStay : NumberedPaths → NumberedPaths → Type 0
PathsStay old new =
    (id : ℕ) (spec : PathSpec) → Any (λ path. (path.number ≡ id) × (path.item.spec ≡ spec)) old → Any (λ path. (path.number ≡ id) × (path.item.spec ≡ spec)) new

-- a file stays, and so do the files that it is over
pub record FileStays (files others : Named FileState) (name : List ℕ) (file : FileState) : Type 0 where
  pub kept : IsKept others name file
  pub bases : AreSameBasesBy (bases_in files) (bases_in others) file.spec

abbrev pub FilesStay : Named FileState → Named FileState → Type 0
FilesStay files others = (name : List ℕ) (file : FileState) → named name files ≡ Some file → FileStays files others name file

abbrev head_of : List PathSpec → Option PathSpec
head_of [] = None
head_of (path ∷ paths) = Some path

-- a logical file over the same bases has the same path
pub own-same : (bases others : Bases) (spec : LogicalSpec) → AreSameBases bases others spec → own_path bases spec ≡ own_path others spec
own-same bases others (Simple view) same = some-equal (ap head_of (same-paths bases others (Simple view) same))
own-same bases others (Multi views) same = some-equal (ap head_of (same-paths bases others (Multi views) same))
own-same bases others (Join view) same = some-equal (ap head_of (same-paths bases others (Join view) same))

path_by-same : (bases others : Bases) (keyed : Bool) (member : ℕ) (spec : FileSpec) → AreSameBasesBy bases others spec → path_by bases keyed member spec ≡ path_by others keyed member spec
path_by-same bases others keyed member (PhysicalFile spec) same = refl
path_by-same bases others keyed member (LogicalFile spec) same = ap (λ (p : PathSpec). Some p) (own-same bases others spec same)

-- and so have a join's secondary files
abbrev pub tail_of : List PathSpec → List PathSpec
tail_of [] = []
tail_of (path ∷ paths) = paths

rows-same : (bases others : Bases) (kept : NumberedPaths) (spec : FileSpec) (join : Option JoinOrder) → AreSameBasesBy bases others spec → ReadsRowsBy bases kept spec join
    → ReadsRowsBy others kept spec join
rows-same bases others kept (PhysicalFile spec) join same is = is
rows-same bases others kept (LogicalFile (Simple view)) join same is = is
rows-same bases others kept (LogicalFile (Multi views)) join same is = is
rows-same bases others kept (LogicalFile (Join view)) None same is = absurd is
rows-same bases others kept (LogicalFile (Join view)) (Some join) same is =
    let paths : rows_paths bases (LogicalFile (Join view)) ≡ rows_paths others (LogicalFile (Join view)) = ap tail_of (same-paths bases others (Join view) same) in
    record { paths = subst (λ (ps : List PathSpec). AreNumbersOf kept ps join.paths) paths is.paths; parts = is.parts; sequences = is.sequences }

numbers-stay : (old new : NumberedPaths) → PathsStay old new → (specs : List PathSpec) (ids : List ℕ) → AreNumbersOf old specs ids → AreNumbersOf new specs ids
numbers-stay old new stay [] [] are = tt
numbers-stay old new stay [] (id ∷ ids) are = absurd are
numbers-stay old new stay (spec ∷ specs) [] are = absurd are
numbers-stay old new stay (spec ∷ specs) (id ∷ ids) are = (stay id spec are.0, numbers-stay old new stay specs ids are.1)

rows-by : (old new : NumberedPaths) (bases : Bases) (spec : FileSpec) (join : Option JoinOrder) → PathsStay old new → ReadsRowsBy bases old spec join → ReadsRowsBy bases new spec join
rows-by old new bases (PhysicalFile spec) join stay is = is
rows-by old new bases (LogicalFile (Simple view)) join stay is = is
rows-by old new bases (LogicalFile (Multi views)) join stay is = is
rows-by old new bases (LogicalFile (Join view)) None stay is = absurd is
rows-by old new bases (LogicalFile (Join view)) (Some join) stay is =
    record { paths = numbers-stay old new stay (rows_paths bases (LogicalFile (Join view))) join.paths is.paths; parts = is.parts; sequences = is.sequences }

pub reads-by : (old new : NumberedPaths) (path : Option PathSpec) (order : OpenOrder) → PathsStay old new → ReadsBy old path order → ReadsBy new path order
reads-by old new None order stay is = is
reads-by old new (Some spec) order stay is = record { path = (is.path.0, is.path.1, stay is.path.0 spec is.path.2); formats = is.formats }

-- the path by which an open reads, by what its file is
abbrev pub path_of : Bases → FileSpec → OpenState → Option PathSpec
path_of bases spec opened = path_by bases (is_file_path opened.access_path && has_key spec) (first_of opened.members) spec

-- an open of a file that stays reads by the same path
pub read-stays : (files others : Named FileState) (old new : NumberedPaths) → PathsStay old new → (entry : List ℕ × OpenState) (order : List ℕ × OpenOrder)
    → ((file : FileState) → named entry.1.file files ≡ Some file → FileStays files others entry.1.file file) → ReadsIn files old entry order → ReadsIn others new entry order
read-stays files others old new stay entry order kept reads = by (named entry.1.file files) refl reads
  where
    by : (o : Option FileState) → named entry.1.file files ≡ o → ReadsFile (bases_in files) old entry.1 order.1 o → ReadsFile (bases_in others) new entry.1 order.1 (named entry.1.file others)
    by None is h = absurd h
    by (Some file) is h =
        let its = kept file is in
        subst (ReadsFile (bases_in others) new entry.1 order.1) (sym its.kept.there)
        (subst (λ (s : FileSpec). ReadsBy new (path_of (bases_in others) s entry.1) order.1 × IsReadSo (is_file_path entry.1.access_path) s × ReadsRowsBy (bases_in others) new s order.1.join) (sym its.kept.keeps.spec) (
          subst (λ (p : Option PathSpec). ReadsBy new p order.1)
              (path_by-same (bases_in files) (bases_in others) (is_file_path entry.1.access_path && has_key file.spec) (first_of entry.1.members) file.spec its.bases)
              (reads-by old new (path_of (bases_in files) file.spec entry.1) order.1 stay h.0),
          h.1,
          rows-same (bases_in files) (bases_in others) new file.spec order.1.join its.bases (rows-by old new (bases_in files) file.spec order.1.join stay h.2),
        ))

pub reads-in : (files others : Named FileState) (old new : NumberedPaths) → FilesStay files others → PathsStay old new → (entry : List ℕ × OpenState) (order : List ℕ × OpenOrder)
    → ReadsIn files old entry order → ReadsIn others new entry order
reads-in files others old new kept stay entry order reads = read-stays files others old new stay entry order (kept entry.1.file) reads

pub orders-stay : (files others : Named FileState) (old new : NumberedPaths) → FilesStay files others → PathsStay old new → (jobs : List JobState) (orders : List (Named OpenOrder))
    → AllZip (OpensRead files old) jobs orders → AllZip (OpensRead others new) jobs orders
orders-stay files others old new kept stay jobs orders all =
    zip-all (OpensRead files old) (OpensRead others new) jobs orders
    (λ job its reads. zip-all (ReadsIn files old) (ReadsIn others new) job.opens its (reads-in files others old new kept stay) reads) all

pub moves-stay : (old new : NumberedPaths) → ((c : RecordChange) → moves_in c new ≡ moves_in c old) → (jobs : List JobState) → map (moves_of_job new) jobs ≡ map (moves_of_job old) jobs
moves-stay old new same jobs = λ i. map (λ (job : JobState). map (λ (undo : MemberChange). same (reversed (record_change undo)) i) (changes_in job.cycle)) jobs

-- ---- room

pub room-fewer : (member few many : ℕ) (kept : KeptPaths) → few ≤ many → HaveRoom member many kept → HaveRoom member few kept
room-fewer member few many kept le had k d low any =
    let h = had k d low any in
    let m = mul-le-mul_right (length (get_or kept.paths k d).item.spec.formats) le in
    omega (arith, h, m)

pub spares-fewer : (few many : PathSpec → ℕ) (kept : KeptPaths) → ((spec : PathSpec) → few spec ≤ many spec) → HaveSpares many kept → HaveSpares few kept
spares-fewer few many kept le had k d low =
    let h = had k d low in
    let fewer = le (get_or kept.paths k d).item.spec in
    let m = mul-le-mul_right (length (get_or kept.paths k d).item.spec.formats) fewer in
    omega (arith, h, m)

spares-more : (count : PathSpec → ℕ) (old new : KeptPaths) → new.paths ≡ old.paths → ((id : ℕ) → spare_of id old ≤ spare_of id new) → HaveSpares count old → HaveSpares count new
spares-more count old new same more had =
    subst (λ (paths : NumberedPaths). All (λ (path : Numbered KeptPath). count path.item.spec * length path.item.spec.formats ≤ spare_of path.number new) paths) (sym same)
    (λ k d low. let h = had k d low in let m = more (get_or old.paths k d).number in omega (arith, h, m))

-- so many where it is so, else none
abbrev pub so_many : Bool → ℕ → ℕ
so_many b n = if b then n else 0

-- a format over the member, by the test and as one of them
pub over-any : (member : ℕ) (formats : List PathFormat) → list_any (λ (f : PathFormat). f.member == member) formats ≡ true → Any (λ (f : PathFormat). f.member ≡ member) formats
over-any member [] over = absurd cc
over-any member (format ∷ formats) over = by (format.member == member) refl over (λ h. over-any member formats h)
  where
    by : (b : Bool) → (format.member == member) ≡ b → (b || list_any (λ (f : PathFormat). f.member == member) formats) ≡ true
        → (list_any (λ (f : PathFormat). f.member == member) formats ≡ true → Any (λ (f : PathFormat). f.member ≡ member) formats) → Any (λ (f : PathFormat). f.member ≡ member) (format ∷ formats)
    by true same h later = any-first (λ (f : PathFormat). f.member ≡ member) format formats (grind (arith, nat_tests, same))
    by false other h later = any-later (λ (f : PathFormat). f.member ≡ member) format formats (later h)

pub any-over : (member : ℕ) (formats : List PathFormat) → Any (λ (f : PathFormat). f.member ≡ member) formats → list_any (λ (f : PathFormat). f.member == member) formats ≡ true
any-over member [] any = absurd (any-none (λ (f : PathFormat). f.member ≡ member) any)
any-over member (format ∷ formats) any =
    elim (any-cons (λ (f : PathFormat). f.member ≡ member) format formats any) [
      | inl same ↦ ap (λ (b : Bool). b || list_any (λ (f : PathFormat). f.member == member) formats) (let e : (format.member == member) ≡ true = grind (arith, nat_tests) in e)
      | inr rest ↦ ap (λ (b : Bool). (format.member == member) || b) (any-over member formats rest) ∙ either-true (format.member == member)
    ]
  where
    either-true : (b : Bool) → (b || true) ≡ true
    either-true true = refl
    either-true false = refl

-- where there is room for more changes of a member, the paths over it have memory for so many beside those that are counted
pub spares-with : (member more most : ℕ) (count : PathSpec → ℕ) (kept : KeptPaths) → ((spec : PathSpec) → count spec + more ≤ most) → HaveRoom member most kept → HaveSpares count kept
    → HaveSpares (λ spec. count spec + so_many (is_over member spec) more) kept
spares-with member more most count kept le room had k d low =
    one (get_or kept.paths k d) (room k d low) (had k d low) (is_over member (get_or kept.paths k d).item.spec) refl
  where
    one : (path : Numbered KeptPath) → (Any (λ (f : PathFormat). f.member ≡ member) path.item.spec.formats → most * length path.item.spec.formats ≤ spare_of path.number kept)
        → count path.item.spec * length path.item.spec.formats ≤ spare_of path.number kept → (b : Bool) → is_over member path.item.spec ≡ b
        → (count path.item.spec + so_many b more) * length path.item.spec.formats ≤ spare_of path.number kept
    one path wide own true over =
        let h = wide (over-any member path.item.spec.formats over) in
        let fewer = le path.item.spec in
        let m = mul-le-mul_right (length path.item.spec.formats) fewer in
        omega (arith, h, m)
    one path wide own false other =
        let same : count path.item.spec + 0 ≡ count path.item.spec = omega arith in
        subst (λ (n : ℕ). n * length path.item.spec.formats ≤ spare_of path.number kept) (sym same) own

-- and the other way round
pub room-of_spares : (member few : ℕ) (count : PathSpec → ℕ) (kept : KeptPaths) → ((spec : PathSpec) → is_over member spec ≡ true → few ≤ count spec) → HaveSpares count kept
    → HaveRoom member few kept
room-of_spares member few count kept le had k d low any =
    let spec = (get_or kept.paths k d).item.spec in
    let h = had k d low in
    let fewer = le spec (any-over member spec.formats any) in
    let m = mul-le-mul_right (length spec.formats) fewer in
    omega (arith, h, m)

-- memory is set aside
pub IsIndexed-roomier : (specs : List PathSpec) (files : Named FileState) (members : NumberedMembers) (jobs : List JobState) (orders : List (Named OpenOrder)) (moves : List (List (List PathMove))) (old new : KeptPaths)
    → new.paths ≡ old.paths → ((id : ℕ) → spare_of id old ≤ spare_of id new) → IsIndexedFor specs files members jobs orders moves old → IsIndexedFor specs files members jobs orders moves new
IsIndexed-roomier specs files members jobs orders moves old new same more indexed =
    let rooms : HaveSpares (λ spec. changes_over spec jobs) new = spares-more (λ spec. changes_over spec jobs) old new same more indexed.room in
    record {
      paths = rw same indexed.paths;
      orders = rw same indexed.orders;
      moves = rw same indexed.moves;
      room = rooms;
      bytes = indexed.bytes;
      views = indexed.views;
    }

-- ---- how many changes there are of members that a path is over

abbrev pub counted_in : (spec : PathSpec) → JobState → ℕ
counted_in spec job = length (filter (λ (undo : MemberChange). is_over undo.member spec) (changes_in job.cycle))

pub changes_over-cons : (spec : PathSpec) (job : JobState) (jobs : List JobState) → changes_over spec (job ∷ jobs) ≡ counted_in spec job + changes_over spec jobs
changes_over-cons spec job jobs = sum_by-cons (counted_in spec) job jobs

pub changes_over-fewer : (spec : PathSpec) (place : ℕ) (change : JobState → JobState) (jobs : List JobState) → ((job : JobState) → counted_in spec (change job) ≤ counted_in spec job)
    → changes_over spec (job_changed place change jobs) ≤ changes_over spec jobs
changes_over-fewer spec place change [] fewer = omega arith
changes_over-fewer spec zero change (job ∷ jobs) fewer =
    let before = changes_over-cons spec job jobs in let after = changes_over-cons spec (change job) jobs in let f = fewer job in omega (arith, before, after, f)
changes_over-fewer spec (suc place) change (job ∷ jobs) fewer =
    let before = changes_over-cons spec job jobs in
    let after = changes_over-cons spec job (job_changed place change jobs) in
    let rest = changes_over-fewer spec place change jobs fewer in
    omega (arith, before, after, rest)

-- ---- all changes of open commit cycles

-- it holds of each change
abbrev pub OfChanges : (MemberChange → Type 0) → List JobState → Type 0
OfChanges P jobs = AllByRecursion (λ job. AllByRecursion P (changes_in job.cycle)) jobs

pub changes-each : (P Q : MemberChange → Type 0) → ((undo : MemberChange) → P undo → Q undo) → (jobs : List JobState) → OfChanges P jobs → OfChanges Q jobs
changes-each P Q each [] all = tt
changes-each P Q each (job ∷ jobs) all = (those (changes_in job.cycle) all.0, changes-each P Q each jobs all.1)
  where
    those : (undos : List MemberChange) → AllByRecursion P undos → AllByRecursion Q undos
    those [] own = tt
    those (undo ∷ undos) own = (each undo own.0, those undos own.1)

module _ (files : Named FileState) (members : NumberedMembers) (P : MemberChange → Type 0) (each : (sequence : ℕ) (undo : MemberChange) → GoesBack files members sequence undo → P undo) where
  undos-all : (sequence : ℕ) (undos : List MemberChange) → AllByRecursion (GoesBack files members sequence) undos → AllByRecursion P undos
  undos-all sequence [] all = tt
  undos-all sequence (undo ∷ undos) all = (each sequence undo all.0, undos-all sequence undos all.1)

  cycle-all : (cycle : Option CycleState) → CycleGoesBack files members cycle → AllByRecursion P (changes_in cycle)
  cycle-all None back = tt
  cycle-all (Some cycle) back = undos-all cycle.sequence cycle.undos back

  -- what holds of each change that can be taken back
  pub changes-all : (jobs : List JobState) → AllGoBack files members jobs → OfChanges P jobs
  changes-all [] all = tt
  changes-all (job ∷ jobs) all = (cycle-all job.cycle all.0, changes-all jobs all.1)

-- where the moves of each change are the same
pub moves-among : (old new : NumberedPaths) (jobs : List JobState) → OfChanges (λ undo. moves_back new undo ≡ moves_back old undo) jobs → map (moves_of_job new) jobs ≡ map (moves_of_job old) jobs
moves-among old new [] all = refl
moves-among old new (job ∷ jobs) all = λ i. those (changes_in job.cycle) all.0 i ∷ moves-among old new jobs all.1 i
  where
    those : (undos : List MemberChange) → AllByRecursion (λ (undo : MemberChange). moves_back new undo ≡ moves_back old undo) undos → map (moves_back new) undos ≡ map (moves_back old) undos
    those [] same = refl
    those (undo ∷ undos) same = λ i. same.0 i ∷ those undos same.1 i

-- where the path is over none of their members
pub changes-none : (spec : PathSpec) (jobs : List JobState) → OfChanges (λ undo. is_over undo.member spec ≡ false) jobs → changes_over spec jobs ≡ 0
changes-none spec [] all = refl
changes-none spec (job ∷ jobs) all =
    let sum = changes_over-cons spec job jobs in
    let rest = changes-none spec jobs all.1 in
    let own = those (changes_in job.cycle) all.0 in
    omega (arith, sum, rest, own)
  where
    those : (undos : List MemberChange) → AllByRecursion (λ (undo : MemberChange). is_over undo.member spec ≡ false) undos → length (filter (λ (undo : MemberChange). is_over undo.member spec) undos) ≡ 0
    those [] apart = refl
    those (undo ∷ undos) apart =
        ap length (cond-false (is_over undo.member spec) (undo ∷ filter (λ (u : MemberChange). is_over u.member spec) undos) (filter (λ (u : MemberChange). is_over u.member spec) undos) apart.0)
        ∙ those undos apart.1
