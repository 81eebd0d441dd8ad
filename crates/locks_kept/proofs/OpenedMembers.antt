-- Over which members an open stands: its own is one of them, and what it reads lies in that of the format.
use Rattle.std.proofs.Common.{◌≡◌, ℕ, zero, suc, ◌-◌, ◌==◌, ◌||◌, if◌then◌else◌, Bool, true, false, List, [], ◌∷◌, Option, Some, None, IfSome, unwrap_or, slice_get, refl, sym, ◌∙◌, ap, subst}
use Rattle.std.specs.List.{AllByRecursion, list_any}
use Rattle.std.specs.Option.{option_map}
use Rattle.dds_logical.specs.declared.join_views.JoinView.{JoinView}
use Rattle.dds_logical.specs.declared.views.LogicalSpec.TheVariants.{Simple, Multi, Join}
use Rattle.file_model.specs.Joins.{RowPlace}
use Rattle.file_model.specs.Paths.{PathEntry}
use Rattle.file_model.specs.Positions.{Reading}
use Rattle.logical_model.specs.Bases.{FileSpec, PhysicalFile, LogicalFile, base_members}
use Rattle.logical_model.specs.Readings.{join_in, reading_in, rows_reading}
use Rattle.library_model.specs.Named.{Named, named}
use Rattle.library_steps.specs.State.{Memory, FileState, MemberStatus, OpenState, JobState, file_named, job_of, or_new, open_named}
use Rattle.library_steps.specs.LogicalFiles.{bases_of}
use Rattle.library_steps.specs.Records.{is_keyed, reading_of}
use Rattle.library_steps.specs.Reads.{Found, at_format, entry_found, find_by, find_in, row_found}
use Rattle.library_steps.specs.Refusals.{OpenedFile}
use Rattle.joint_state.specs.Lawful.{OpenHolds, OpensBy, OpensFile, OpensHold}
use Rattle.locks_kept.proofs.FoundLemmas.{IsIn, Stands, logical-stands, physical-stands, rows-stand}
use Rattle.locks_kept.proofs.ListLemmas.{all-weaker, at-place}
use Rattle.locks_kept.proofs.OpenLemmas.{named-holds}
use Rattle.locks_kept.proofs.TestLemmas.{number-same, or_true}

-- ---- its own member

any-at : {X : Type 0} (test : X → Bool) (xs : List X) (place : ℕ) (x : X) → slice_get xs place ≡ Some x → test x ≡ true → list_any test xs ≡ true
any-at test [] place x at passes = absurd cc
any-at test (y ∷ ys) zero x at passes = let same : x ≡ y = cc in ap (λ b. b || list_any test ys) (ap test (sym same) ∙ passes)
any-at test (y ∷ ys) (suc place) x at passes = or_true (test y) (list_any test ys) (any-at test ys place x at passes)

-- the open's own member is one of its members
abbrev pub IsCovered : OpenState → Type 0
IsCovered opened = list_any (λ base. base == opened.member) opened.members ≡ true

covered-by : (files : Named FileState) (opened : OpenState) (members : Named MemberStatus) (spec : FileSpec) → OpensBy files opened members spec → IsCovered opened
covered-by files opened members (PhysicalFile spec) opens =
    subst (λ (all : List ℕ). list_any (λ base. base == opened.member) all ≡ true) (sym opens.only) (ap (λ b. b || false) (number-same opened.member opened.member refl))
covered-by files opened members (LogicalFile spec) opens =
    any-at (λ base. base == opened.member) opened.members opened.format opened.member opens.read (number-same opened.member opened.member refl)

pub covered : (files : Named FileState) (opened : OpenState) → OpenHolds files opened → IsCovered opened
covered files opened holds = by (named opened.file files) holds
  where
    by : (file : Option FileState) → OpensFile files opened file → IsCovered opened
    by None opens = absurd opens
    by (Some file) opens = covered-by files opened file.members file.spec opens

-- the opens of a job stand over files that are there
pub opens-held : (m : Memory) (job : ℕ) → AllByRecursion (OpensHold m.files) m.jobs → OpensHold m.files (job_of job m)
opens-held m job all =
    elim (job == 0) as (λ b. OpensHold m.files (or_new (if b then None else slice_get m.jobs (job - 1)))) [
      | true ↦ tt
      | false ↦ by (slice_get m.jobs (job - 1)) refl
    ]
  where
    by : (found : Option JobState) → slice_get m.jobs (job - 1) ≡ found → OpensHold m.files (or_new found)
    by None is = tt
    by (Some j) is = at-place (OpensHold m.files) m.jobs (job - 1) j is all

-- an open that is named, and its file
pub record IsOpenedFile (m : Memory) (job : ℕ) (name : List ℕ) (its : OpenedFile) : Type 0 where
  pub named : open_named name job m ≡ Some its.opened
  pub file : file_named its.opened.file m ≡ Some its.file

abbrev pub Opens : Memory → OpenedFile → Type 0
Opens m its = OpensBy m.files its.opened its.file.members its.file.spec

pub opens-of : (m : Memory) (job : ℕ) (name : List ℕ) (its : OpenedFile) → AllByRecursion (OpensHold m.files) m.jobs → IsOpenedFile m job name its → Opens m its
opens-of m job name its all is =
    subst (OpensFile m.files its.opened) is.file (named-holds (OpenHolds m.files) name (job_of job m).opens its.opened is.named (opens-held m job all))

-- ---- what it reads

-- a record stands in the member to which a read of this entry moves the open
abbrev pub FitsOpen : Memory → OpenState → PathEntry → Type 0
FitsOpen m opened entry = Stands (at_format entry.format opened).member m entry.rrn

fits-in : (m : Memory) (opened : OpenState) (base : List ℕ) (entry : PathEntry) → opened.members ≡ base → IsIn base m entry → FitsOpen m opened entry
fits-in m opened base entry same is =
    let at : (at_format entry.format opened).member ≡ is.member =
    ap (λ (members : List ℕ). unwrap_or (slice_get members entry.format) opened.member) same ∙ ap (λ o. unwrap_or o opened.member) is.at in
    subst (λ n. Stands n m entry.rrn) (sym at) is.stands

reading-fits : (m : Memory) (its : OpenedFile) → Opens m its → AllByRecursion (FitsOpen m its.opened) (reading_of its.file its.opened m).items
reading-fits m its opens = by its.file.spec (is_keyed its.file its.opened) opens
  where
    by : (spec : FileSpec) (keyed : Bool) → OpensBy m.files its.opened its.file.members spec
        → AllByRecursion (FitsOpen m its.opened) (reading_in (bases_of m) spec keyed its.opened.member m.members).items
    by (PhysicalFile spec) keyed over =
        all-weaker (IsIn (its.opened.member ∷ []) m) (FitsOpen m its.opened) (reading_in (bases_of m) (PhysicalFile spec) keyed its.opened.member m.members).items
        (λ entry is. fits-in m its.opened (its.opened.member ∷ []) entry over.only is) (physical-stands keyed spec its.opened.member m)
    by (LogicalFile spec) keyed over =
        all-weaker (IsIn (base_members (bases_of m) spec) m) (FitsOpen m its.opened) (reading_in (bases_of m) (LogicalFile spec) keyed its.opened.member m.members).items
        (λ entry is. fits-in m its.opened (base_members (bases_of m) spec) entry over.all is) (logical-stands (bases_of m) spec m)

rows-fit : (m : Memory) (its : OpenedFile) → Opens m its → (view : JoinView) → join_in its.file.spec ≡ Some view
    → AllByRecursion (λ row. FitsOpen m its.opened row.primary) (rows_reading (bases_of m) view m.members).items
rows-fit m its opens view joins = by its.file.spec opens joins
  where
    in-row : (other : JoinView) → OpensBy m.files its.opened its.file.members (LogicalFile (Join other))
        → AllByRecursion (λ row. FitsOpen m its.opened row.primary) (rows_reading (bases_of m) other m.members).items
    in-row other over =
        all-weaker (λ (row : RowPlace). IsIn (base_members (bases_of m) (Join other)) m row.primary) (λ row. FitsOpen m its.opened row.primary) (rows_reading (bases_of m) other m.members).items
        (λ row is. fits-in m its.opened (base_members (bases_of m) (Join other)) row.primary over.all is) (rows-stand (bases_of m) other m)

    by : (spec : FileSpec) → OpensBy m.files its.opened its.file.members spec → join_in spec ≡ Some view
        → AllByRecursion (λ row. FitsOpen m its.opened row.primary) (rows_reading (bases_of m) view m.members).items
    by (PhysicalFile spec) over e = absurd cc
    by (LogicalFile (Simple other)) over e = absurd cc
    by (LogicalFile (Multi others)) over e = absurd cc
    by (LogicalFile (Join other)) over e =
        let same : other ≡ view = cc in
        subst (λ v. AllByRecursion (λ row. FitsOpen m its.opened row.primary) (rows_reading (bases_of m) v m.members).items) same (in-row other over)

-- ---- what it finds

-- a search that finds one of the items
abbrev pub FindsEntry : Memory → (Reading PathEntry → Option PathEntry) → Type 0
FindsEntry m search = (opened : OpenState) (reading : Reading PathEntry) → AllByRecursion (FitsOpen m opened) reading.items → IfSome (search reading) (FitsOpen m opened)

abbrev pub FindsRow : Memory → (Reading RowPlace → Option RowPlace) → Type 0
FindsRow m search =
    (opened : OpenState) (reading : Reading RowPlace) → AllByRecursion (λ row. FitsOpen m opened row.primary) reading.items → IfSome (search reading) (λ row. FitsOpen m opened row.primary)

map-holds : {A B : Type 0} (f : A → B) (P : B → Type 0) (o : Option A) → IfSome o (λ a. P (f a)) → IfSome (option_map f o) P
map-holds f P None holds = tt
map-holds f P (Some a) holds = holds

pub find_in-fits : (m : Memory) (its : OpenedFile) → Opens m its → (find_entry : Reading PathEntry → Option PathEntry) (find_row : Reading RowPlace → Option RowPlace)
    → FindsEntry m find_entry → FindsRow m find_row → IfSome (find_in its m find_entry find_row) (λ it. FitsOpen m its.opened it.entry)
find_in-fits m its opens find_entry find_row finds_entry finds_row = by (join_in its.file.spec) refl
  where
    by : (join : Option JoinView) → join_in its.file.spec ≡ join → IfSome (find_by join its m find_entry find_row) (λ it. FitsOpen m its.opened it.entry)
    by None joins =
        map-holds entry_found (λ (it : Found). FitsOpen m its.opened it.entry) (find_entry (reading_of its.file its.opened m))
        (finds_entry its.opened (reading_of its.file its.opened m) (reading-fits m its opens))
    by (Some view) joins =
        map-holds row_found (λ (it : Found). FitsOpen m its.opened it.entry) (find_row (rows_reading (bases_of m) view m.members))
        (finds_row its.opened (rows_reading (bases_of m) view m.members) (rows-fit m its opens view joins))
