-- What is found by names is there.
use Rattle.std.proofs.Common.{◌≡◌, ℕ, zero, suc, ◌-◌, true, map, List, [], ◌∷◌, Option, Some, None, IsSome, Result, Ok, Err, slice_get, subst, refl, sym, ◌∙◌, ap, arith, ◌<◌, ◌≤◌, length, unwrap_or}
use Rattle.lawful_states.proofs.NameLemmas.{some-equal}
use Rattle.library_steps.specs.Formats.{format_names}
use Rattle.library_steps.below.dds_logical.specs.declared.views.View.{View}
use Rattle.std.specs.List.{AllByRecursion}
use Rattle.library_steps.below.dds_logical.specs.declared.views.LogicalSpec.TheVariants.{Simple, Multi, Join}
use Rattle.record_fmt.specs.declared.formats.Field.{Field}
use Rattle.record_fmt.specs.Layout.{IsLaidOut}
use Rattle.library_steps.specs.Bases.{Bases, FileSpec, PhysicalFile, LogicalFile, base_names}
use Rattle.lawful_states.specs.Owners.{has_number}
use Rattle.lawful_states.specs.Physical.{IsPhysical}
use Rattle.library_model.specs.declared.requests.OpenFile.{OpenFile}
use Rattle.library_model.specs.declared.replies.Reply.{Reply}
use Rattle.library_model.specs.Named.{Named, named}
use Rattle.std.specs.Option.{option_and_then}
use Rattle.entry_codec.specs.declared.kinds.FileKind.TheVariants.{Physical, Logical}
use Rattle.file_catalogue.specs.Bodies.{kind_in}
use Rattle.library_model.specs.declared.replies.Reply.TheVariants.{NoSuchName}
use Rattle.library_model.specs.declared.replies.Missing.TheVariants.{Name}
use Rattle.library_steps.specs.Refusals.{OpenedFile, named_or_refused}
use Rattle.library_steps.specs.LogicalFiles.{bases_in}
use Rattle.library_steps.specs.Opens.{first_of, new_open}
use Rattle.library_steps.specs.Reads.{at_format}
use Rattle.library_steps.specs.State.{State, FileState, MemberStatus, OpenState, fields_of, format_in, if_physical, physical_among}
use Rattle.parts_model.specs.declared.stop.Stop.{Stop}
use Rattle.parts_model.specs.declared.stop.Stop.TheVariants.{NoMemory, Refused}
use Rattle.parts_model.specs.Finds.{FindsOpen, IsBaseOf, OpensMembers, ReadsMember, OpensBy as MayOpenBy}
use Rattle.lawful_states.specs.Members.{HasMember}
use Rattle.parts_model.specs.Indexed.{AreViews, IsViewBeside}
use Rattle.parts_model.specs.Keyed.{AllAreKeyed}
use Rattle.lawful_states.specs.Lawful.{IsBased, OpenHolds, OpensBy, OpensFile, StandsOver, IsLibrary, IsOverBases}
use Rattle.lawful_states.proofs.FindLemmas.{named-each, physical-opened, has-base}
use Rattle.library_steps.below.dds_logical.specs.declared.join_views.JoinView.{JoinView}
use Rattle.library_steps.below.dds_logical.specs.declared.join_views.JoinedFile.{JoinedFile}

-- ---- a file of this kind

-- among physical files a physical one is found
pub physical-shown : (name : List ℕ) (o : Option FileState) (file : FileState) → named_or_refused name o ≡ Ok file → kind_in file.spec ≡ Physical
    → named_or_refused name (option_and_then (λ (f : FileState). if_physical f.spec f) o) ≡ Ok file
physical-shown name None file is kind = absurd cc
physical-shown name (Some other) file is kind =
    let same : other ≡ file = cc in subst (λ (f : FileState). named_or_refused name (if_physical f.spec f) ≡ Ok file) (sym same) (by file.spec kind)
  where
    by : (spec : FileSpec) → kind_in spec ≡ Physical → named_or_refused name (if_physical spec file) ≡ Ok file
    by (PhysicalFile spec) k = refl
    by (LogicalFile spec) k = absurd cc

-- and a logical one isn't
pub logical-shown : (name : List ℕ) (o : Option FileState) (file : FileState) → named_or_refused name o ≡ Ok file → kind_in file.spec ≡ Logical
    → named_or_refused name (option_and_then (λ (f : FileState). if_physical f.spec f) o) ≡ Err (NoSuchName (Name name))
logical-shown name None file is kind = absurd cc
logical-shown name (Some other) file is kind =
    let same : other ≡ file = cc in subst (λ (f : FileState). named_or_refused name (if_physical f.spec f) ≡ Err (NoSuchName (Name name))) (sym same) (by file.spec kind)
  where
    by : (spec : FileSpec) → kind_in spec ≡ Logical → named_or_refused name (if_physical spec file) ≡ Err (NoSuchName (Name name))
    by (PhysicalFile spec) k = absurd cc
    by (LogicalFile spec) k = refl

-- a name that isn't there is refused among physical files too
pub none-shown : (name : List ℕ) (o : Option FileState) (reply : Reply) → named_or_refused name o ≡ Err reply
    → named_or_refused name (option_and_then (λ (f : FileState). if_physical f.spec f) o) ≡ Err reply
none-shown name None reply is = is
none-shown name (Some other) reply is = absurd cc

pub physical-kind : (spec : FileSpec) → kind_in spec ≡ Physical → IsPhysical spec
physical-kind (PhysicalFile spec) k = tt
physical-kind (LogicalFile spec) k = absurd cc

-- ---- the members that opens are over

-- ---- the member that an open reads through a format

-- the fields of a physical file lie one behind another
laid-out : (s : State) (name : List ℕ) (file : FileState) → AllAreKeyed s.files → named name s.files ≡ Some file → IsPhysical file.spec → IsLaidOut (fields_of file)
laid-out s name file keyed here physical = by file.spec refl physical
  where
    by : (spec : FileSpec) → file.spec ≡ spec → IsPhysical spec → IsLaidOut (fields_of file)
    by (PhysicalFile spec) is p =
        subst (λ (fs : List Field). IsLaidOut fs) (sym (ap (λ (f : FileSpec). (format_in f).fields) is)) (keyed name file spec here is).laid
    by (LogicalFile spec) is p = absurd p

-- what stands at a place of a mapped list
at-mapped : {X Y : Type 0} (f : X → Y) (xs : List X) (place : ℕ) (y : Y) → slice_get (map f xs) place ≡ Some y → (x : X) × (slice_get xs place ≡ Some x) × (f x ≡ y)
at-mapped f [] place y at = absurd cc
at-mapped f (x ∷ xs) zero y at = (x, refl, some-equal at)
at-mapped f (x ∷ xs) (suc place) y at = at-mapped f xs place y at

at-one : (x y place : ℕ) → slice_get (x ∷ []) place ≡ Some y → x ≡ y
at-one x y zero at = some-equal at
at-one x y (suc place) at = absurd cc

pub each-there : {X : Type 0} (P : X → Type 0) (xs : List X) (place : ℕ) (x : X) → AllByRecursion P xs → slice_get xs place ≡ Some x → P x
each-there P [] place x all at = absurd cc
each-there P (y ∷ xs) zero x all at = subst P (some-equal at) all.0
each-there P (y ∷ xs) (suc place) x all at = each-there P xs place x all.1 at

module _ (s : State) (opened : OpenState) (file : FileState) (lawful : IsLibrary s) (keyed : AllAreKeyed s.files) (holds : OpenHolds s.files opened)
    (here : named opened.file s.files ≡ Some file) where
  -- of a physical file
  reads-own : IsPhysical file.spec → IsBaseOf file.spec opened.file opened.format opened.file → ReadsMember s file opened
  reads-own physical over = record {
    there = here;
    holds = holds;
    base = opened.file;
    owner = file;
    over = over;
    has = physical-opened s opened file lawful holds here physical;
    laid = laid-out s opened.file file keyed here physical;
  }

  -- of the physical file that a format is over
  reads-base : (name : List ℕ) → IsBaseOf file.spec opened.file opened.format name → (bases_in s.files name).member ≡ opened.member → IsSome (physical_among name s.files) → ReadsMember s file opened
  reads-base name over same there =
      let base = has-base s lawful name there in record {
        there = here;
        holds = holds;
        base = name;
        owner = base.file;
        over = over;
        has = subst (HasMember s name base.file) same base.has;
        laid = laid-out s name base.file keyed base.here base.physical;
      }

  reads-format : (views : List View) → file.spec ≡ LogicalFile (Multi views) → IsOverBases s.files (Multi views) opened → ReadsMember s file opened
  reads-format views is own =
      let names : List (List ℕ) = map (λ (view : View). view.base) views in
      let at : slice_get (map (λ (name : List ℕ). (bases_in s.files name).member) names) opened.format ≡ Some opened.member =
      ap (λ (ms : List ℕ). slice_get ms opened.format) (sym own.all) ∙ own.read in
      let name = at-mapped (λ (name : List ℕ). (bases_in s.files name).member) names opened.format opened.member at in
      let view = at-mapped (λ (view : View). view.base) views opened.format name.0 name.1 in
      let stands : StandsOver s.files file.members (Multi views) = subst (IsBased s.files opened.file file.members) is (lawful.bases opened.file file here) in
      reads-base name.0 (subst (λ (f : FileSpec). IsBaseOf f opened.file opened.format name.0) (sym is) (view.0, view.1, sym view.2)) name.2
      (each-there (λ (n : List ℕ). IsSome (physical_among n s.files)) names opened.format name.0 stands.bases name.1)

  -- of a file of a join
  reads-joined : (view : JoinView) → file.spec ≡ LogicalFile (Join view) → IsOverBases s.files (Join view) opened → ReadsMember s file opened
  reads-joined view is own =
      let names : List (List ℕ) = base_names (Join view) in
      let at : slice_get (map (λ (name : List ℕ). (bases_in s.files name).member) names) opened.format ≡ Some opened.member =
      ap (λ (ms : List ℕ). slice_get ms opened.format) (sym own.all) ∙ own.read in
      let name = at-mapped (λ (name : List ℕ). (bases_in s.files name).member) names opened.format opened.member at in
      let stands : StandsOver s.files file.members (Join view) = subst (IsBased s.files opened.file file.members) is (lawful.bases opened.file file here) in
      reads-base name.0 (subst (λ (f : FileSpec). IsBaseOf f opened.file opened.format name.0) (sym is) name.1) name.2
      (each-there (λ (n : List ℕ). IsSome (physical_among n s.files)) names opened.format name.0 stands.bases name.1)

  pub reads-member : ReadsMember s file opened
  reads-member = by file.spec refl (subst (OpensFile s.files opened) here holds)
    where
      by : (spec : FileSpec) → file.spec ≡ spec → OpensBy s.files opened file.members spec → ReadsMember s file opened
      by (PhysicalFile spec) is own =
          reads-own (subst IsPhysical (sym is) tt) (subst (λ (f : FileSpec). IsBaseOf f opened.file opened.format opened.file) (sym is) refl)
      by (LogicalFile (Simple view)) is own =
          let stands : StandsOver s.files file.members (Simple view) = subst (IsBased s.files opened.file file.members) is (lawful.bases opened.file file here) in
          let same : (bases_in s.files view.base).member ≡ opened.member =
          at-one (bases_in s.files view.base).member opened.member opened.format (ap (λ (ms : List ℕ). slice_get ms opened.format) (sym own.all) ∙ own.read) in
          reads-base view.base (subst (λ (f : FileSpec). IsBaseOf f opened.file opened.format view.base) (sym is) refl) same stands.bases.0
      by (LogicalFile (Multi views)) is own = reads-format views is own
      by (LogicalFile (Join view)) is own = reads-joined view is own

-- ---- at another format

some-kept : (o : Option ℕ) (other : ℕ) → IsSome o → o ≡ Some (unwrap_or o other)
some-kept None other some = absurd cc
some-kept (Some n) other some = refl

first-place : (x n : ℕ) → IsSome (slice_get (x ∷ []) n) → 0 ≡ n
first-place x zero some = refl
first-place x (suc n) some = absurd cc

-- an open that is at another of its formats
pub OpenHolds-at : (files : Named FileState) (number : ℕ) (opened : OpenState) → IsSome (slice_get opened.members number) → OpenHolds files opened → OpenHolds files (at_format number opened)
OpenHolds-at files number opened some holds = by (named opened.file files) holds
  where
    kind : (its : Named MemberStatus) (spec : FileSpec) → OpensBy files opened its spec → OpensBy files (at_format number opened) its spec
    kind its (PhysicalFile spec) own =
        let zero_is : 0 ≡ number = first-place opened.member number (subst (λ (ms : List ℕ). IsSome (slice_get ms number)) own.only some) in
        let same : unwrap_or (slice_get opened.members number) opened.member ≡ opened.member =
        ap (λ (ms : List ℕ). unwrap_or (slice_get ms number) opened.member) own.only ∙ ap (λ (n : ℕ). unwrap_or (slice_get (opened.member ∷ []) n) opened.member) (sym zero_is) in
        record {
          only = own.only ∙ ap (λ (n : ℕ). n ∷ []) (sym same);
          format = sym zero_is;
          has = subst (λ (n : ℕ). has_number n its ≡ true) (sym same) own.has;
        }
    kind its (LogicalFile spec) own = record { all = own.all; read = some-kept (slice_get opened.members number) opened.member some }

    by : (o : Option FileState) → OpensFile files opened o → OpensFile files (at_format number opened) o
    by None h = absurd h
    by (Some file) h = kind file.members file.spec h

pub reads-at : (s : State) (file : FileState) (opened : OpenState) (number : ℕ) → IsLibrary s → AllAreKeyed s.files → IsSome (slice_get opened.members number)
    → ReadsMember s file opened → ReadsMember s file (at_format number opened)
reads-at s file opened number lawful keyed some reads =
    reads-member s (at_format number opened) file lawful keyed (OpenHolds-at s.files number opened some reads.holds) reads.there

-- an open has a member for each format of its file
pub members-many : (files : Named FileState) (file : FileState) (opened : OpenState) → named opened.file files ≡ Some file → OpenHolds files opened
    → length (format_names file.spec) ≤ length opened.members
members-many files file opened here holds = by file.members file.spec (subst (OpensFile files opened) here holds)
  where
    many : (views : List View) → length (map (λ (name : List ℕ). (bases_in files name).member) (map (λ (view : View). view.base) views)) ≡ length (map (λ (view : View). view.format.name) views)
    many [] = refl
    many (view ∷ views) = ap suc (many views)

    no-less : (a b : ℕ) → a ≡ b → b ≤ a
    no-less a b same = omega (arith, same)

    joined : (files_under : List ℕ) (m : ℕ) → opened.members ≡ m ∷ files_under → 1 ≤ length opened.members
    joined others m is = let long : length opened.members ≡ suc (length others) = ap length is in omega (arith, long)

    by : (its : Named MemberStatus) (spec : FileSpec) → OpensBy files opened its spec → length (format_names spec) ≤ length opened.members
    by its (PhysicalFile spec) own = no-less (length opened.members) 1 (ap length own.only)
    by its (LogicalFile (Simple view)) own = no-less (length opened.members) 1 (ap length own.all)
    by its (LogicalFile (Multi views)) own = no-less (length opened.members) (length (format_names (LogicalFile (Multi views)))) (ap length own.all ∙ many views)
    by its (LogicalFile (Join view)) own =
        joined (map (λ (name : List ℕ). (bases_in files name).member) (map (λ (joined : JoinedFile). joined.file) view.secondaries)) (bases_in files view.primary).member own.all

pub some-below : {X : Type 0} (xs : List X) (place : ℕ) → place < length xs → IsSome (slice_get xs place)
some-below [] place low = absurd (omega (arith, low))
some-below (x ∷ xs) zero low = refl
some-below (x ∷ xs) (suc place) low = some-below xs place (omega (arith, low))

-- ---- what is known of a file

-- what holds of each file holds of the one that a name finds
pub view-of : (files : Named FileState) (name : List ℕ) (file : FileState) → AreViews files → named name files ≡ Some file → IsViewBeside files file.spec
view-of files name file views here = named-each (λ (f : FileState). IsViewBeside files f.spec) name files file views here

-- ---- a new open, and one that has read

-- an open over one member of its file, or over those of its bases
first-there : (xs : List ℕ) → IsSome (slice_get xs 0) → slice_get xs 0 ≡ Some (first_of xs)
first-there [] some = absurd cc
first-there (x ∷ xs) some = refl

named-some : (bases : Bases) (names : List (List ℕ)) → IsSome (slice_get names 0) → IsSome (slice_get (map (λ (name : List ℕ). (bases name).member) names) 0)
named-some bases [] some = absurd cc
named-some bases (name ∷ names) some = refl

pub opens-members : (files : Named FileState) (args : OpenFile) (members : List ℕ) → AreViews files → OpensMembers files members (named args.file files) → OpenHolds files (new_open args 0 members)
opens-members files args members views opens = by (named args.file files) refl opens
  where
    kind : (its : Named MemberStatus) (file : FileState) (spec : FileSpec) → file.members ≡ its → IsViewBeside files spec → MayOpenBy files members file spec
        → OpensBy files (new_open args 0 members) its spec
    kind its file (PhysicalFile spec) same view has = record {
      only = has.1 ∙ ap (λ (ms : List ℕ). first_of ms ∷ []) (sym has.1);
      format = refl;
      has = subst (λ (ms : List ℕ). has_number (first_of ms) its ≡ true) (sym has.1) (subst (λ (ms : Named MemberStatus). has_number has.0 ms ≡ true) same has.2);
    }
    kind its file (LogicalFile spec) same view all = record {
      all = sym all;
      read = first-there members (subst (λ (ms : List ℕ). IsSome (slice_get ms 0)) all (named-some (bases_in files) (base_names spec) view.some));
    }

    by : (o : Option FileState) → named args.file files ≡ o → OpensMembers files members o → OpensFile files (new_open args 0 members) o
    by None is h = absurd h
    by (Some file) is h = kind file.members file file.spec refl (view-of files args.file file views is) h

-- ---- an open that is there is found

pub finds-none : (stop : Stop) (wanted : Result OpenedFile Reply) (its : OpenedFile) → wanted ≡ Ok its → FindsOpen (Err stop) wanted → ⊥
finds-none NoMemory wanted its is finds = finds
finds-none (Refused reply) wanted its is finds = absurd cc
