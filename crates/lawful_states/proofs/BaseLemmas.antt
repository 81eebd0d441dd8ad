-- What stays of the bases of logical files, and of opens over them, when files are added or changed.
use Rattle.std.proofs.Common.{◌≡◌, ◌⊎◌, inl, inr, ℕ, zero, suc, ◌==◌, ◌||◌, true, false, cond, map, List, [], ◌∷◌, ◌++◌, slice_get, Option, Some, None, is_some, IsSome, unwrap_or, subst, refl, sym, ◌∙◌, ap}
use Rattle.std.specs.List.{AllByRecursion}
use Rattle.std.specs.Option.{option_map, option_and_then, option_map_or}
use Rattle.library_steps.below.dds_logical.specs.declared.join_views.JoinView.{JoinView}
use Rattle.library_steps.below.dds_logical.specs.declared.views.LogicalSpec.{LogicalSpec}
use Rattle.library_steps.below.dds_physical.specs.declared.physical_files.PhysicalSpec.{PhysicalSpec}
use Rattle.library_steps.specs.Joins.{RowPlace}
use Rattle.library_steps.specs.Paths.{PathEntry}
use Rattle.library_steps.specs.Positions.{Position}
use Rattle.library_steps.below.lock_table.specs.declared.levels.Call.{Call}
use Rattle.library_steps.specs.Bases.{FileSpec, PhysicalFile, LogicalFile, base_names}
use Rattle.lawful_states.specs.Owners.{has_number}
use Rattle.lawful_states.specs.Physical.{IsPhysical}
use Rattle.lawful_states.proofs.ChangeLemmas.{changed-from, named-each_changed, named-file_changed}
use Rattle.lawful_states.proofs.NameLemmas.{named-append, same_name-equal, same_name-self, some-equal}
use Rattle.lawful_states.proofs.StatusLemmas.{changed_in, has_number-changed_in, has_number-push}
use Rattle.library_steps.specs.Named.{Named, named, same_name}
use Rattle.library_steps.specs.CreatePhysicalFile.{new_status}
use Rattle.library_steps.specs.LogicalFiles.{base_in, bases_in}
use Rattle.library_steps.specs.MemberCommands.{file_changed, with_member_name}
use Rattle.library_steps.specs.Reads.{Found, at_format, has_read, positioned}
use Rattle.library_steps.specs.State.{Memory, FileState, MemberStatus, OpenState, fields_of, format_in, if_physical, physical_among, physical_in, physical_spec, status_changed}
use Rattle.lawful_states.specs.Lawful.{AreBased, IsBased, IsOverBases, OpenHolds, OpensBy, OpensFile, StandsOver}

-- ---- what is there

pub some-of : {A : Type 0} (o : Option A) → IsSome o → (a : A) × (o ≡ Some a)
some-of None there = absurd cc
some-of (Some a) there = (a, refl)

pub some-is : {A : Type 0} {o : Option A} {a : A} → o ≡ Some a → IsSome o
some-is {A = A} found = ap (λ (x : Option A). is_some x) found

pub each-name : (P Q : List ℕ → Type 0) → ((name : List ℕ) → P name → Q name) → (names : List (List ℕ)) → AllByRecursion P names → AllByRecursion Q names
each-name P Q each [] all = tt
each-name P Q each (name ∷ names) all = (each name all.0, each-name P Q each names all.1)

-- what a name finds stays where more is put behind
pub named-before : {A : Type 0} (name : List ℕ) (things : Named A) (more : List ℕ × A) (thing : A) → named name things ≡ Some thing → named name (things ++ more ∷ []) ≡ Some thing
named-before name [] more thing found = absurd cc
named-before name (first ∷ things) more thing found =
    elim (same_name name first.0) as (λ b. cond b (Some first.1) (named name things) ≡ Some thing → cond b (Some first.1) (named name (things ++ more ∷ [])) ≡ Some thing) [
      | true ↦ λ e. e
      | false ↦ λ e. named-before name things more thing e
    ] found

-- the one thing of a name is found by it
pub named-only : {A : Type 0} (name : List ℕ) (thing : A) → named name ((name, thing) ∷ []) ≡ Some thing
named-only name thing = rw (same_name-self name) refl

-- ---- physical files

-- a physical file that is there is found among them
pub physical-here : (name : List ℕ) (files : Named FileState) (file : FileState) → named name files ≡ Some file → IsPhysical file.spec → physical_among name files ≡ Some file
physical-here name files file here physical = ap (λ (o : Option FileState). option_and_then (λ (f : FileState). if_physical f.spec f) o) here ∙ by file.spec physical
  where
    by : (spec : FileSpec) → IsPhysical spec → if_physical spec file ≡ Some file
    by (PhysicalFile spec) is = refl
    by (LogicalFile spec) is = absurd is

-- what is found among them is a physical file that is there
pub physical-found : (name : List ℕ) (files : Named FileState) (file : FileState) → physical_among name files ≡ Some file → (named name files ≡ Some file) × IsPhysical file.spec
physical-found name files file found = by (named name files) refl found
  where
    kind : (spec : FileSpec) (other : FileState) → if_physical spec other ≡ Some file → (other ≡ file) × IsPhysical spec
    kind (PhysicalFile spec) other e = (some-equal e, tt)
    kind (LogicalFile spec) other e = absurd cc

    by : (o : Option FileState) → named name files ≡ o → option_and_then (λ (f : FileState). if_physical f.spec f) o ≡ Some file → (named name files ≡ Some file) × IsPhysical file.spec
    by None is e = absurd cc
    by (Some other) is e =
        let its = kind other.spec other e in
        (is ∙ ap (λ (f : FileState). Some f) its.0, subst (λ (f : FileState). IsPhysical f.spec) its.0 its.1)

-- a name that a physical file's description is found by is that of a physical file
pub physical-described : (name : List ℕ) (m : Memory) (spec : PhysicalSpec) → physical_spec name m ≡ Some spec → IsSome (physical_among name m.files)
physical-described name m spec found = by (named name m.files) found
  where
    kind : (its : FileSpec) (file : FileState) → physical_in its ≡ Some spec → IsSome (if_physical its file)
    kind (PhysicalFile other) file e = refl
    kind (LogicalFile other) file e = absurd cc

    by : (o : Option FileState) → option_and_then (λ (f : FileState). physical_in f.spec) o ≡ Some spec → IsSome (option_and_then (λ (f : FileState). if_physical f.spec f) o)
    by None e = absurd cc
    by (Some file) e = kind file.spec file e

-- it has a member of its own name
pub physical-member : (files : Named FileState) (name : List ℕ) (members : Named MemberStatus) (spec : FileSpec) → IsPhysical spec → IsBased files name members spec → IsSome (named name members)
physical-member files name members (PhysicalFile spec) physical based = based
physical-member files name members (LogicalFile spec) physical based = absurd physical

-- a base, where it is there
pub base-is : (files : Named FileState) (name : List ℕ) (file : FileState) (status : MemberStatus) → physical_among name files ≡ Some file → named name file.members ≡ Some status
    → bases_in files name ≡ record { member = status.number; fields = fields_of file }
base-is files name file status found first =
    ap (λ (o : Option FileState). base_in name o) found
    ∙ ap (λ (o : Option MemberStatus). record { member = option_map_or (λ (s : MemberStatus). s.number) o 0; fields = fields_of file }) first

-- ---- bases that stay

-- a base is there, and is what it was
pub record Stays (files others : Named FileState) (name : List ℕ) : Type 0 where
  pub there : IsSome (physical_among name others)
  pub same : bases_in others name ≡ bases_in files name

pub members-stay : (files others : Named FileState) (names : List (List ℕ)) → AllByRecursion (Stays files others) names
    → map (λ name. (bases_in others name).member) names ≡ map (λ name. (bases_in files name).member) names
members-stay files others [] all = refl
members-stay files others (name ∷ names) all = λ i. (all.0.same i).member ∷ members-stay files others names all.1 i

pub StandsOver-stays : (files others : Named FileState) (members : Named MemberStatus) (spec : LogicalSpec) → AllByRecursion (Stays files others) (base_names spec) → StandsOver files members spec
    → StandsOver others members spec
StandsOver-stays files others members spec stay over = record {
  none = over.none;
  bases = each-name (Stays files others) (λ name. IsSome (physical_among name others)) (λ name one. one.there) (base_names spec) stay;
}

pub IsOverBases-stays : (files others : Named FileState) (spec : LogicalSpec) (opened : OpenState) → AllByRecursion (Stays files others) (base_names spec) → IsOverBases files spec opened
    → IsOverBases others spec opened
IsOverBases-stays files others spec opened stay over = record { all = over.all ∙ sym (members-stay files others (base_names spec) stay); read = over.read }

-- ---- files that are kept

-- what a file is stays, and so do its members; a logical file gets none
pub record Keeps (file another : FileState) : Type 0 where
  pub spec : another.spec ≡ file.spec
  pub numbers : (number : ℕ) → has_number number file.members ≡ true → has_number number another.members ≡ true
  pub names : (name : List ℕ) (status : MemberStatus) → named name file.members ≡ Some status
      → (later : MemberStatus) × (named name another.members ≡ Some later) × (later.number ≡ status.number)
  pub none : (IsPhysical file.spec → ⊥) → file.members ≡ [] → another.members ≡ []

-- the file of this name is kept
pub record IsKept (others : Named FileState) (name : List ℕ) (file : FileState) : Type 0 where
  pub another : FileState
  pub there : named name others ≡ Some another
  pub keeps : Keeps file another

pub Keeps-self : (file : FileState) → Keeps file file
Keeps-self file = record { spec = refl; numbers = λ number has. has; names = λ name status found. (status, found, refl); none = λ logical none. none }

module _ (files others : Named FileState) (based : AreBased files) (kept : (name : List ℕ) (file : FileState) → named name files ≡ Some file → IsKept others name file) where
  -- a base is kept, and so is its first member
  pub base-stays : (name : List ℕ) → IsSome (physical_among name files) → Stays files others name
  base-stays name there =
      let file = some-of (physical_among name files) there in
      let found = physical-found name files file.0 file.1 in
      let its = kept name file.0 found.0 in
      let later = physical-here name others its.another its.there (subst IsPhysical (sym its.keeps.spec) found.1) in
      let first = some-of (named name file.0.members) (physical-member files name file.0.members file.0.spec found.1 (based name file.0 found.0)) in
      let status = its.keeps.names name first.0 first.1 in
      let before = base-is files name file.0 first.0 file.1 first.1 in
      let after = base-is others name its.another status.0 later status.1 in
      let fields : fields_of its.another ≡ fields_of file.0 = ap (λ (s : FileSpec). (format_in s).fields) its.keeps.spec in
      record {
        there = some-is later;
        same = after ∙ (λ i. record { member = status.2 i; fields = fields i }) ∙ sym before;
      }

  pub bases-stay : (names : List (List ℕ)) → AllByRecursion (λ name. IsSome (physical_among name files)) names → AllByRecursion (Stays files others) names
  bases-stay names all = each-name (λ name. IsSome (physical_among name files)) (Stays files others) base-stays names all

  pub IsBased-stays : (name : List ℕ) (members : Named MemberStatus) (spec : FileSpec) → IsBased files name members spec → IsBased others name members spec
  IsBased-stays name members (PhysicalFile spec) own = own
  IsBased-stays name members (LogicalFile spec) over = StandsOver-stays files others members spec (bases-stay (base_names spec) over.bases) over

  pub IsBased-kept : (name : List ℕ) (file another : FileState) → named name files ≡ Some file → Keeps file another → IsBased others name another.members another.spec
  IsBased-kept name file another here keeps = subst (IsBased others name another.members) (sym keeps.spec) (by file.spec refl (based name file here))
    where
      by : (spec : FileSpec) → file.spec ≡ spec → IsBased files name file.members spec → IsBased others name another.members spec
      by (PhysicalFile spec) is own =
          let first = some-of (named name file.members) own in
          let later = keeps.names name first.0 first.1 in
          some-is later.1
      by (LogicalFile spec) is over = record {
        none = keeps.none (λ physical. subst IsPhysical is physical) over.none;
        bases = each-name (Stays files others) (λ n. IsSome (physical_among n others)) (λ n one. one.there) (base_names spec) (bases-stay (base_names spec) over.bases);
      }

  -- the other files are the kept ones, or are based on the others themselves
  pub AreBased-kept : ((name : List ℕ) (another : FileState) → named name others ≡ Some another
      → ((file : FileState) × (named name files ≡ Some file) × Keeps file another) ⊎ IsBased others name another.members another.spec) → AreBased others
  AreBased-kept from name another there = by (from name another there)
    where
      by : ((file : FileState) × (named name files ≡ Some file) × Keeps file another) ⊎ IsBased others name another.members another.spec → IsBased others name another.members another.spec
      by (inl its) = IsBased-kept name its.0 another its.1 its.2
      by (inr own) = own

  pub OpenHolds-kept : (opened : OpenState) → OpenHolds files opened → OpenHolds others opened
  OpenHolds-kept opened holds = by (named opened.file files) refl holds
    where
      kind : (file another : FileState) → named opened.file files ≡ Some file → Keeps file another → (spec : FileSpec) → file.spec ≡ spec → OpensBy files opened file.members spec
          → OpensBy others opened another.members spec
      kind file another here keeps (PhysicalFile spec) is own = record { only = own.only; format = own.format; has = keeps.numbers opened.member own.has }
      kind file another here keeps (LogicalFile spec) is over =
          let stands : StandsOver files file.members spec = subst (IsBased files opened.file file.members) is (based opened.file file here) in
          IsOverBases-stays files others spec opened (bases-stay (base_names spec) stands.bases) over

      by : (o : Option FileState) → named opened.file files ≡ o → OpensFile files opened o → OpensFile others opened (named opened.file others)
      by None is h = absurd h
      by (Some file) is h =
          let its = kept opened.file file is in
          subst (OpensFile others opened) (sym its.there)
          (subst (OpensBy others opened its.another.members) (sym its.keeps.spec) (kind file its.another is its.keeps file.spec refl h))

-- ---- one file more

pub kept-more : (files : Named FileState) (more : List ℕ × FileState) (name : List ℕ) (file : FileState) → named name files ≡ Some file → IsKept (files ++ more ∷ []) name file
kept-more files more name file here = record { another = file; there = named-before name files more file here; keeps = Keeps-self file }

-- a base that is there stays the same base
pub same-base : (files : Named FileState) (more : List ℕ × FileState) (name : List ℕ) → IsSome (physical_among name files) → bases_in (files ++ more ∷ []) name ≡ bases_in files name
same-base files more name there =
    let file = some-of (physical_among name files) there in
    let found = physical-found name files file.0 file.1 in
    ap (λ (o : Option FileState). base_in name o)
    (physical-here name (files ++ more ∷ []) file.0 (named-before name files more file.0 found.0) found.1 ∙ sym file.1)

pub AreBased-more : (files : Named FileState) (name : List ℕ) (file : FileState) → AreBased files → IsBased files name file.members file.spec → AreBased (files ++ (name, file) ∷ [])
AreBased-more files name file based own =
    AreBased-kept files (files ++ (name, file) ∷ []) based (kept-more files (name, file)) (λ other another there. by other another (named-append other name files file another there))
  where
    by : (other : List ℕ) (another : FileState) → (named other files ≡ Some another) ⊎ ((other ≡ name) × (file ≡ another))
        → ((before : FileState) × (named other files ≡ Some before) × Keeps before another) ⊎ IsBased (files ++ (name, file) ∷ []) other another.members another.spec
    by other another (inl there) = inl (another, there, Keeps-self another)
    by other another (inr same) =
        inr (subst (λ (f : FileState). IsBased (files ++ (name, file) ∷ []) other f.members f.spec) same.1
        (subst (λ (n : List ℕ). IsBased (files ++ (name, file) ∷ []) n file.members file.spec) (sym same.0)
        (IsBased-stays files (files ++ (name, file) ∷ []) based (kept-more files (name, file)) name file.members file.spec own)))

-- ---- all files changed alike

module _ (change : FileState → FileState) (keeps : (file : FileState) → Keeps file (change file)) (files : Named FileState) where
  pub kept-each : (name : List ℕ) (file : FileState) → named name files ≡ Some file → IsKept (map (λ entry. (entry.0, change entry.1)) files) name file
  kept-each name file here = record { another = change file; there = named-each_changed name change files ∙ ap (option_map change) here; keeps = keeps file }

  pub AreBased-each : AreBased files → AreBased (map (λ entry. (entry.0, change entry.1)) files)
  AreBased-each based =
      AreBased-kept files (map (λ entry. (entry.0, change entry.1)) files) based kept-each
      (λ name another there. let was = changed-from change (named name files) another (sym (named-each_changed name change files) ∙ there) in
      inl (was.0, was.1, subst (Keeps was.0) was.2 (keeps was.0)))

-- the status of a member
status-named : (number : ℕ) (change : MemberStatus → MemberStatus) → ((status : MemberStatus) → (change status).number ≡ status.number) → (name : List ℕ) (members : Named MemberStatus)
    (status : MemberStatus) → named name members ≡ Some status
    → (later : MemberStatus) × (named name (changed_in number change members) ≡ Some later) × (later.number ≡ status.number)
status-named number change same name [] status found = absurd cc
status-named number change same name (entry ∷ members) status found =
    let number_stays : (cond (entry.1.number == number) (change entry.1) entry.1).number ≡ entry.1.number =
    elim (entry.1.number == number) as (λ b. (cond b (change entry.1) entry.1).number ≡ entry.1.number) [ true ↦ same entry.1 | false ↦ refl ] in
    elim (same_name name entry.0) as (λ b. cond b (Some entry.1) (named name members) ≡ Some status
    → (later : MemberStatus) × (cond b (Some (cond (entry.1.number == number) (change entry.1) entry.1)) (named name (changed_in number change members)) ≡ Some later)
    × (later.number ≡ status.number)) [
      | true ↦ λ e. (cond (entry.1.number == number) (change entry.1) entry.1, refl, number_stays ∙ ap (λ (s : MemberStatus). s.number) (some-equal e))
      | false ↦ λ e. status-named number change same name members status e
    ] found

pub Keeps-status : (number : ℕ) (change : MemberStatus → MemberStatus) → ((status : MemberStatus) → (change status).number ≡ status.number) → (file : FileState)
    → Keeps file (status_changed number change file)
Keeps-status number change same file = record {
  spec = refl;
  numbers = λ other has. has_number-changed_in other number change file.members same ∙ has;
  names = λ name status found. status-named number change same name file.members status found;
  none = λ logical none. ap (λ (members : Named MemberStatus). changed_in number change members) none;
}

-- ---- one member more

pub Keeps-wider : (member : List ℕ) (number : ℕ) (file : FileState) → IsPhysical file.spec → Keeps file (with_member_name member number file)
Keeps-wider member number file physical = record {
  spec = refl;
  numbers = λ other has. has_number-push other file.members member number ∙ ap (λ b. b || (number == other)) has;
  names = λ name status found. (status, named-before name file.members (member, new_status number) status found, refl);
  none = λ logical none. absurd (logical physical);
}

module _ (files : Named FileState) (name member : List ℕ) (number : ℕ) (file : FileState) (there : physical_among name files ≡ Some file) where
  abbrev wider : FileState → FileState
  wider = with_member_name member number

  its-kind : (other : List ℕ) (another : FileState) → same_name name other ≡ true → named other files ≡ Some another → IsPhysical another.spec
  its-kind other another same here =
      let found = physical-found name files file there in
      let is : Some file ≡ Some another = sym found.0 ∙ ap (λ (n : List ℕ). named n files) (same_name-equal name other same) ∙ here in
      subst (λ (f : FileState). IsPhysical f.spec) (some-equal is) found.1

  pub kept-wider : (other : List ℕ) (another : FileState) → named other files ≡ Some another → IsKept (file_changed name wider files) other another
  kept-wider other another here =
      elim (same_name name other) as (λ b. same_name name other ≡ b → named other (file_changed name wider files) ≡ cond b (option_map wider (named other files)) (named other files)
      → IsKept (file_changed name wider files) other another) [
        | true ↦ λ same e. record { another = wider another; there = e ∙ ap (option_map wider) here; keeps = Keeps-wider member number another (its-kind other another same here) }
        | false ↦ λ differ e. record { another = another; there = e ∙ here; keeps = Keeps-self another }
      ] refl (named-file_changed name other wider files)

  pub AreBased-wider : AreBased files → AreBased (file_changed name wider files)
  AreBased-wider based = AreBased-kept files (file_changed name wider files) based kept-wider by
    where
      by : (other : List ℕ) (another : FileState) → named other (file_changed name wider files) ≡ Some another
          → ((before : FileState) × (named other files ≡ Some before) × Keeps before another) ⊎ IsBased (file_changed name wider files) other another.members another.spec
      by other another found =
          elim (same_name name other) as (λ b. same_name name other ≡ b → cond b (option_map wider (named other files)) (named other files) ≡ Some another
          → ((before : FileState) × (named other files ≡ Some before) × Keeps before another) ⊎ IsBased (file_changed name wider files) other another.members another.spec) [
            | true ↦ λ same e. (let was = changed-from wider (named other files) another e in
                inl (was.0, was.1, subst (Keeps was.0) was.2 (Keeps-wider member number was.0 (its-kind other was.0 same was.1))))
            | false ↦ λ differ e. inl (another, e, Keeps-self another)
          ] refl (sym (named-file_changed name other wider files) ∙ found)

-- ---- an open changed

-- but for its file, its members, its format and its member
pub OpenHolds-alike : (files : Named FileState) (opened other : OpenState) → other.file ≡ opened.file → other.members ≡ opened.members → other.format ≡ opened.format → other.member ≡ opened.member
    → OpenHolds files opened → OpenHolds files other
OpenHolds-alike files opened other file members format member holds =
    subst (λ (n : List ℕ). OpensFile files other (named n files)) (sym file) (by (named opened.file files) holds)
  where
    kind : (its : Named MemberStatus) (spec : FileSpec) → OpensBy files opened its spec → OpensBy files other its spec
    kind its (PhysicalFile spec) own = record {
      only = members ∙ own.only ∙ (λ i. (sym member) i ∷ []);
      format = format ∙ own.format;
      has = subst (λ (n : ℕ). has_number n its ≡ true) (sym member) own.has;
    }
    kind its (LogicalFile spec) over = record { all = members ∙ over.all; read = (λ i. slice_get (members i) (format i)) ∙ over.read ∙ ap (λ (n : ℕ). Some n) (sym member) }

    by : (o : Option FileState) → OpensFile files opened o → OpensFile files other o
    by None h = absurd h
    by (Some its) h = kind its.members its.spec h

pub OpenHolds-positioned : (files : Named FileState) (join : Option JoinView) (position : Position PathEntry) (opened : OpenState) → OpenHolds files opened
    → OpenHolds files (positioned join position opened)
OpenHolds-positioned files None position opened holds = OpenHolds-alike files opened (positioned None position opened) refl refl refl refl holds
OpenHolds-positioned files (Some view) position opened holds = OpenHolds-alike files opened (positioned (Some view) position opened) refl refl refl refl holds

-- one of its formats
only-first : (member number : ℕ) → IsSome (slice_get (member ∷ []) number) → number ≡ 0
only-first member zero there = refl
only-first member (suc number) there = absurd cc

pub OpenHolds-at_format : (files : Named FileState) (number : ℕ) (opened : OpenState) → IsSome (slice_get opened.members number) → OpenHolds files opened → OpenHolds files (at_format number opened)
OpenHolds-at_format files number opened there holds = by (named opened.file files) holds
  where
    here : slice_get opened.members number ≡ Some (unwrap_or (slice_get opened.members number) opened.member)
    here = let one = some-of (slice_get opened.members number) there in one.1 ∙ ap (λ (n : ℕ). Some n) (sym (ap (λ (o : Option ℕ). unwrap_or o opened.member) one.1))

    kind : (its : Named MemberStatus) (spec : FileSpec) → OpensBy files opened its spec → OpensBy files (at_format number opened) its spec
    kind its (PhysicalFile spec) own =
        let first : number ≡ 0 = only-first opened.member number (subst (λ (members : List ℕ). IsSome (slice_get members number)) own.only there) in
        let got : slice_get opened.members number ≡ Some opened.member = (λ i. slice_get (own.only i) (first i)) in
        let member : unwrap_or (slice_get opened.members number) opened.member ≡ opened.member = ap (λ (o : Option ℕ). unwrap_or o opened.member) got in
        record { only = own.only ∙ (λ i. (sym member) i ∷ []); format = first; has = subst (λ (n : ℕ). has_number n its ≡ true) (sym member) own.has }
    kind its (LogicalFile spec) over = record { all = over.all; read = here }

    by : (o : Option FileState) → OpensFile files opened o → OpensFile files (at_format number opened) o
    by None h = absurd h
    by (Some its) h = kind its.members its.spec h

stands : (files : Named FileState) (call : Call) (entry : PathEntry) (row : Option RowPlace) (opened : OpenState) → IsSome (slice_get opened.members entry.format) → OpenHolds files opened
    → OpenHolds files (has_read call (record { entry = entry; row = row }) opened)
stands files call entry None opened there holds =
    OpenHolds-alike files (at_format entry.format opened) (has_read call (record { entry = entry; row = None }) opened) refl refl refl refl (OpenHolds-at_format files entry.format opened there holds)
stands files call entry (Some place) opened there holds =
    OpenHolds-alike files (at_format entry.format opened) (has_read call (record { entry = entry; row = Some place }) opened) refl refl refl refl
    (OpenHolds-at_format files entry.format opened there holds)

-- a read of one of its formats
pub OpenHolds-has_read : (files : Named FileState) (call : Call) (it : Found) (opened : OpenState) → IsSome (slice_get opened.members it.entry.format) → OpenHolds files opened
    → OpenHolds files (has_read call it opened)
OpenHolds-has_read files call it opened there holds = stands files call it.entry it.row opened there holds
