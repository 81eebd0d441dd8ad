-- The formats of the unique paths by the files that have them, and which of them are left when files and members come and go.
use Rattle.std.proofs.Common.{◌≡◌, ◌⊎◌, inl, inr, ◌∙◌, ℕ, ◌==◌, ◌&&◌, cond, if◌then◌else◌, Bool, true, false, List, [], ◌∷◌, ◌++◌, filter, find, map, Some, None, is_some, subst, refl, sym, ap}
use Rattle.std.specs.List.{AllByRecursion, list_any}
use Rattle.std.proofs.lemmas.Bool.{true≢false, and_from, and_parts, eq-eqb, eqb-true, or_left}
use Rattle.dds_physical.specs.declared.physical_files.PhysicalSpec.{PhysicalSpec}
use Rattle.dds_logical.specs.declared.views.LogicalSpec.{LogicalSpec}
use Rattle.file_model.specs.declared.paths.PathFormat.{PathFormat}
use Rattle.file_model.specs.declared.paths.PathSpec.{PathSpec}
use Rattle.file_model.specs.FilePaths.{every_record, own_fields, path_format, physical_path}
use Rattle.logical_model.specs.Bases.{Bases, FileSpec, PhysicalFile, LogicalFile}
use Rattle.logical_model.specs.FilePaths.{is_over, logical_paths}
use Rattle.logical_laws.specs.Mapped.{AreSameBases}
use Rattle.logical_laws.proofs.SameLemmas.{same-paths}
use Rattle.library_model.specs.Named.{Named}
use Rattle.library_steps.specs.State.{Memory, FileState, MemberStatus}
use Rattle.library_steps.specs.LogicalFiles.{bases_in, bases_of}
use Rattle.library_steps.specs.UniqueKeys.{UniquePath, has_member, unique_paths, uniques_by}
use Rattle.key_state.specs.Keys.{EachUnique}
use Rattle.key_state.proofs.ListLemmas.{IsIn, all-in, in-all, in-append, in-filter, in-flat, in-map, filter-in, filter-passes, flat-in, map-in}
use Rattle.key_state.proofs.PathLemmas.{unique-own}

-- ---- files and their formats

-- the format that a physical file has over the member with this number
abbrev pub own_format : ℕ → PhysicalSpec → PathFormat
own_format number spec = path_format number every_record (own_fields spec.format.fields) spec.keys.parts

-- it is that of a unique path of a physical file over one of its members
pub record IsOwnFormat (members : Named MemberStatus) (spec : PhysicalSpec) (format : PathFormat) : Type 0 where
  pub unique : spec.keys.unique ≡ true
  pub has : has_member format.member members ≡ true
  pub is : own_format format.member spec ≡ format

-- it is that of a unique path of a logical file
pub record IsViewFormat (bases : Bases) (spec : LogicalSpec) (format : PathFormat) : Type 0 where
  pub path : PathSpec
  pub among : IsIn path (logical_paths bases spec)
  pub unique : path.unique ≡ true
  pub alone : path.formats ≡ format ∷ []

abbrev pub HasFormat : Bases → Named MemberStatus → FileSpec → PathFormat → Type 0
HasFormat bases members (PhysicalFile spec) format = IsOwnFormat members spec format
HasFormat bases members (LogicalFile spec) format = IsViewFormat bases spec format

-- one of the files has a unique path of this format
pub record IsOver (files : Named FileState) (format : PathFormat) : Type 0 where
  pub entry : List ℕ × FileState
  pub among : IsIn entry files
  pub has : HasFormat (bases_in files) entry.1.members entry.1.spec format

-- ---- unique paths and their formats

-- among unique paths is one of this format
pub record IsPathIn (paths : List UniquePath) (format : PathFormat) : Type 0 where
  pub unique : UniquePath
  pub among : IsIn unique paths
  pub alone : unique.path.formats ≡ format ∷ []
  pub is : unique.path.unique ≡ true

-- the unique path of the format is among those over its member
abbrev pub HasPath : Memory → PathFormat → Type 0
HasPath m format = IsPathIn (unique_paths format.member m) format

is_over-alone : (path : PathSpec) (format : PathFormat) → path.formats ≡ format ∷ [] → is_over format.member path ≡ true
is_over-alone path format alone =
    ap (λ (formats : List PathFormat). list_any (λ f. f.member == format.member) formats) alone ∙ or_left (format.member == format.member) false (eq-eqb format.member format.member refl)

file-path : (m : Memory) (entry : List ℕ × FileState) (spec : FileSpec) (format : PathFormat) → HasFormat (bases_of m) entry.1.members spec format
    → IsPathIn (uniques_by spec m format.member entry) format
file-path m entry (PhysicalFile spec) format its = record {
  unique = own;
  among = subst (λ b. IsIn own (if b then own ∷ [] else [])) (sym (and_from spec.keys.unique (has_member format.member entry.1.members) its.unique its.has)) (inl refl);
  alone = ap (λ (f : PathFormat). f ∷ []) its.is;
  is = its.unique;
}
  where
    own : UniquePath
    own = record { file = entry.0; path = physical_path format.member spec.format.fields spec.keys }
file-path m entry (LogicalFile spec) format its = record {
  unique = record { file = entry.0; path = its.path };
  among = map-in (λ path. record { file = entry.0; path = path }) its.path (filter (λ path. path.unique && is_over format.member path) (logical_paths (bases_of m) spec))
      (filter-in (λ path. path.unique && is_over format.member path) its.path (logical_paths (bases_of m) spec) its.among
      (and_from its.path.unique (is_over format.member its.path) its.unique (is_over-alone its.path format its.alone)));
  alone = its.alone;
  is = its.unique;
}

pub path-over : (m : Memory) (format : PathFormat) → IsOver m.files format → HasPath m format
path-over m format over =
    let its = file-path m over.entry over.entry.1.spec format over.has in
    record {
      unique = its.unique;
      among = flat-in (λ entry. uniques_by entry.1.spec m format.member entry) over.entry its.unique m.files over.among its.among;
      alone = its.alone;
      is = its.is;
    }

-- each unique path has one format, which is that of a file
record IsFormatOf (bases : Bases) (members : Named MemberStatus) (spec : FileSpec) (unique : UniquePath) : Type 0 where
  format : PathFormat
  alone : unique.path.formats ≡ format ∷ []
  is : unique.path.unique ≡ true
  has : HasFormat bases members spec format

file-format : (m : Memory) (number : ℕ) (entry : List ℕ × FileState) (spec : FileSpec) (unique : UniquePath) → IsIn unique (uniques_by spec m number entry)
    → IsFormatOf (bases_of m) entry.1.members spec unique
file-format m number entry (PhysicalFile spec) unique its =
    elim (spec.keys.unique && has_member number entry.1.members) as
    (λ b. (spec.keys.unique && has_member number entry.1.members) ≡ b → IsIn unique (if b then own ∷ [] else []) → IsFormatOf (bases_of m) entry.1.members (PhysicalFile spec) unique) [
      | true ↦ λ e h. by (and_parts spec.keys.unique (has_member number entry.1.members) e) h
      | false ↦ λ e h. absurd h
    ] refl its
  where
    own : UniquePath
    own = record { file = entry.0; path = physical_path number spec.format.fields spec.keys }

    by : (spec.keys.unique ≡ true) × (has_member number entry.1.members ≡ true) → (own ≡ unique) ⊎ ⊥ → IsFormatOf (bases_of m) entry.1.members (PhysicalFile spec) unique
    by parts (inl same) = record {
      format = own_format number spec;
      alone = ap (λ (u : UniquePath). u.path.formats) (sym same);
      is = ap (λ (u : UniquePath). u.path.unique) (sym same) ∙ parts.0;
      has = record { unique = parts.0; has = parts.1; is = refl };
    }
    by parts (inr none) = absurd none
file-format m number entry (LogicalFile spec) unique its =
    let was = in-map (λ path. record { file = entry.0; path = path }) unique (filter (λ path. path.unique && is_over number path) (logical_paths (bases_of m) spec)) its in
    by was.from was.is (in-filter (λ path. path.unique && is_over number path) was.from (logical_paths (bases_of m) spec) was.among)
    (and_parts was.from.unique (is_over number was.from) (filter-passes (λ path. path.unique && is_over number path) was.from (logical_paths (bases_of m) spec) was.among)).0
  where
    by : (path : PathSpec) → record { file = entry.0; path = path } ≡ unique → IsIn path (logical_paths (bases_of m) spec) → path.unique ≡ true
        → IsFormatOf (bases_of m) entry.1.members (LogicalFile spec) unique
    by path same among is =
        let own = unique-own (bases_of m) spec path among is in
        record {
          format = own.format;
          alone = ap (λ (u : UniquePath). u.path.formats) (sym same) ∙ own.alone;
          is = ap (λ (u : UniquePath). u.path.unique) (sym same) ∙ is;
          has = record { path = path; among = among; unique = is; alone = own.alone };
        }

pub each-over : (m : Memory) (P : PathFormat → Type 0) → EachUnique m P → (format : PathFormat) → IsOver m.files format → P format
each-over m P each format over =
    let its = path-over m format over in
    let here : AllByRecursion P (format ∷ []) =
    subst (AllByRecursion P) its.alone (all-in (λ (u : UniquePath). AllByRecursion P u.path.formats) its.unique (unique_paths format.member m) (each format.member) its.among) in
    here.0

pub each-path : (m : Memory) (P : UniquePath → Type 0) (number : ℕ)
    → ((unique : UniquePath) (format : PathFormat) → unique.path.formats ≡ format ∷ [] → unique.path.unique ≡ true → IsOver m.files format → P unique)
    → AllByRecursion P (unique_paths number m)
each-path m P number each =
    in-all P (unique_paths number m)
    (λ unique its.
    let was = in-flat (λ entry. uniques_by entry.1.spec m number entry) unique m.files its in
    let one = file-format m number was.from was.from.1.spec unique was.within in
    each unique one.format one.alone one.is (record { entry = was.from; among = was.among; has = one.has }))

pub over-each : (m : Memory) (P : PathFormat → Type 0) → ((format : PathFormat) → IsOver m.files format → P format) → EachUnique m P
over-each m P each number =
    each-path m (λ (u : UniquePath). AllByRecursion P u.path.formats) number
    (λ unique format alone is over. subst (AllByRecursion P) (sym alone) (each format over, tt))

-- ---- files that come, go and change

-- the base files of a logical file are as they were
abbrev pub AreAsBefore : Bases → Bases → FileSpec → Type 0
AreAsBefore later bases (PhysicalFile spec) = Unit {0}
AreAsBefore later bases (LogicalFile spec) = AreSameBases later bases spec

has-before : (later bases : Bases) (now members : Named MemberStatus) (more : ℕ → Type 0) (spec : FileSpec) (format : PathFormat) → AreAsBefore later bases spec
    → ((number : ℕ) → has_member number now ≡ true → (has_member number members ≡ true) ⊎ more number)
    → HasFormat later now spec format → HasFormat bases members spec format ⊎ more format.member
has-before later bases now members more (PhysicalFile spec) format same had its =
    elim (had format.member its.has) [
      | inl has ↦ inl (record { unique = its.unique; has = has; is = its.is })
      | inr new ↦ inr new
    ]
has-before later bases now members more (LogicalFile spec) format same had its =
    inl (record { path = its.path; among = subst (IsIn its.path) (same-paths later bases spec same) its.among; unique = its.unique; alone = its.alone })

-- the files with a change of each that keeps its description: the members that it has are those that it had, and some more
pub over-map : (change : List ℕ × FileState → List ℕ × FileState) (more : ℕ → Type 0) (files : Named FileState) (format : PathFormat)
    → ((entry : List ℕ × FileState) → AreAsBefore (bases_in (map change files)) (bases_in files) entry.1.spec)
    → ((entry : List ℕ × FileState) → (change entry).1.spec ≡ entry.1.spec)
    → ((entry : List ℕ × FileState) (number : ℕ) → has_member number (change entry).1.members ≡ true → (has_member number entry.1.members ≡ true) ⊎ more number)
    → IsOver (map change files) format → IsOver files format ⊎ more format.member
over-map change more files format same spec members over =
    let was = in-map change over.entry files over.among in
    by was.from was.among was.is
  where
    by : (from : List ℕ × FileState) → IsIn from files → change from ≡ over.entry → IsOver files format ⊎ more format.member
    by from among is =
        let described : over.entry.1.spec ≡ from.1.spec = ap (λ (e : List ℕ × FileState). e.1.spec) (sym is) ∙ spec from in
        elim (has-before (bases_in (map change files)) (bases_in files) over.entry.1.members from.1.members more from.1.spec format (same from)
        (λ number has. members from number (ap (λ (e : List ℕ × FileState). has_member number e.1.members) is ∙ has))
        (subst (λ (s : FileSpec). HasFormat (bases_in (map change files)) over.entry.1.members s format) described over.has)) [
          | inl had ↦ inl (record { entry = from; among = among; has = had })
          | inr new ↦ inr new
        ]

-- of a file that is as it was
file-stays : (later files : Named FileState) (format : PathFormat) (entry : List ℕ × FileState) → IsIn entry files → AreAsBefore (bases_in later) (bases_in files) entry.1.spec
    → HasFormat (bases_in later) entry.1.members entry.1.spec format → IsOver files format
file-stays later files format entry among same its =
    elim (has-before (bases_in later) (bases_in files) entry.1.members entry.1.members (λ n. ⊥) entry.1.spec format same (λ number has. inl has) its) [
      | inl had ↦ record { entry = entry; among = among; has = had }
      | inr none ↦ absurd none
    ]

pub over-filter : (test : List ℕ × FileState → Bool) (files : Named FileState) (format : PathFormat)
    → ((entry : List ℕ × FileState) → IsIn entry files → AreAsBefore (bases_in (filter test files)) (bases_in files) entry.1.spec)
    → IsOver (filter test files) format → IsOver files format
over-filter test files format same over =
    let among = in-filter test over.entry files over.among in
    file-stays (filter test files) files format over.entry among (same over.entry among) over.has

-- a file more
pub over-append : (files : Named FileState) (new : List ℕ × FileState) (format : PathFormat)
    → ((entry : List ℕ × FileState) → IsIn entry files → AreAsBefore (bases_in (files ++ new ∷ [])) (bases_in files) entry.1.spec)
    → IsOver (files ++ new ∷ []) format → IsOver files format ⊎ HasFormat (bases_in (files ++ new ∷ [])) new.1.members new.1.spec format
over-append files new format same over =
    elim (in-append over.entry files (new ∷ []) over.among) [
      | inl old ↦ inl (file-stays (files ++ new ∷ []) files format over.entry old (same over.entry old) over.has)
      | inr last ↦ inr (by last)
    ]
  where
    by : (new ≡ over.entry) ⊎ ⊥ → HasFormat (bases_in (files ++ new ∷ [])) new.1.members new.1.spec format
    by (inl is) = subst (λ (e : List ℕ × FileState). HasFormat (bases_in (files ++ new ∷ [])) e.1.members e.1.spec format) (sym is) over.has
    by (inr none) = absurd none

-- ---- the members that a file has

status-number : (b : Bool) (change : MemberStatus → MemberStatus) (status : MemberStatus) → (change status).number ≡ status.number → (if b then change status else status).number ≡ status.number
status-number true change status same = same
status-number false change status same = refl

pub has-status : (number member : ℕ) (change : MemberStatus → MemberStatus) → ((status : MemberStatus) → (change status).number ≡ status.number) → (members : Named MemberStatus)
    → has_member member (map (λ entry. (entry.0, if entry.1.number == number then change entry.1 else entry.1)) members) ≡ has_member member members
has-status number member change keeps [] = refl
has-status number member change keeps (entry ∷ members) =
    ap (λ (n : ℕ). is_some (cond (n == member) (Some (entry.0, if entry.1.number == number then change entry.1 else entry.1))
    (find (λ (e : List ℕ × MemberStatus). e.1.number == member) (map (λ (e : List ℕ × MemberStatus). (e.0, if e.1.number == number then change e.1 else e.1)) members))))
    (status-number (entry.1.number == number) change entry.1 (keeps entry.1))
    ∙ elim (entry.1.number == member) as
    (λ b. is_some (cond b (Some (entry.0, if entry.1.number == number then change entry.1 else entry.1))
    (find (λ (e : List ℕ × MemberStatus). e.1.number == member) (map (λ (e : List ℕ × MemberStatus). (e.0, if e.1.number == number then change e.1 else e.1)) members)))
    ≡ is_some (cond b (Some entry) (find (λ (e : List ℕ × MemberStatus). e.1.number == member) members))) [
      | true ↦ refl
      | false ↦ has-status number member change keeps members
    ]

pub has-append : (number : ℕ) (members : Named MemberStatus) (new : List ℕ × MemberStatus) → has_member number (members ++ new ∷ []) ≡ true
    → (has_member number members ≡ true) ⊎ (number ≡ new.1.number)
has-append number [] new has =
    elim (new.1.number == number) as (λ b. (new.1.number == number) ≡ b → is_some (cond b (Some new) None) ≡ true → (false ≡ true) ⊎ (number ≡ new.1.number)) [
      | true ↦ λ e h. inr (sym (eqb-true new.1.number number e))
      | false ↦ λ e h. absurd (true≢false (sym h))
    ] refl has
has-append number (entry ∷ members) new has =
    elim (entry.1.number == number) as
    (λ b. is_some (cond b (Some entry) (find (λ (e : List ℕ × MemberStatus). e.1.number == number) (members ++ new ∷ []))) ≡ true
    → (is_some (cond b (Some entry) (find (λ (e : List ℕ × MemberStatus). e.1.number == number) members)) ≡ true) ⊎ (number ≡ new.1.number)) [
      | true ↦ λ h. inl refl
      | false ↦ λ h. has-append number members new h
    ] has
