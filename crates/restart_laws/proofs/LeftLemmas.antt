-- The files and members that a journal leaves: names and numbers are apart, formats are laid out, logical files stand over physical files that are there.
use Rattle.std.proofs.Common.{◌≡◌, ◌⊎◌, inl, inr, ℕ, ◌<◌, ◌==◌, ◌&&◌, ◌||◌, nat_eq, Bool, true, false, cond, map, Option, Some, None, IsSome, List, [], ◌∷◌, refl, sym, ◌∙◌, ap, subst, arith}
use Rattle.std.proofs.lemmas.Bool.{eq-eqb, eqb-true, ne_eqb}
use Rattle.std.specs.List.{AllByRecursion, IsDistinct, filter, find, list_any}
use Rattle.std.specs.Map.{keys_of}
use Rattle.std.specs.Option.{option_and_then, option_map}
use Rattle.std.specs.Str.{bytes_eq}
use Rattle.entry_codec.specs.declared.kinds.FileKind.{FileKind}
use Rattle.entry_codec.specs.declared.kinds.FileKind.TheVariants.{Physical, Logical}
use Rattle.member_slots.specs.Member.{MemberState}
use Rattle.member_slots.specs.Members.{Numbered}
use Rattle.record_fmt.specs.Layout.{IsLaidOut}
use Rattle.dds_physical.specs.declared.physical_files.PhysicalSpec.{PhysicalSpec}
use Rattle.logical_model.specs.Bases.{FileSpec, PhysicalFile, LogicalFile, base_names}
use Rattle.logical_laws.specs.Mapped.{AreBasesOf, HoldDefaults}
use Rattle.logical_laws.proofs.ListLemmas.{each-map, each-weaker}
use Rattle.logical_laws.proofs.MappedLemmas.{described-mapped, described-there}
use Rattle.journal_model.specs.Catalogue.{CatalogFile, CatalogMember, is_in_file, is_named}
use Rattle.journal_model.specs.Journal.{Journal, catalogue_of}
use Rattle.lawful_states.specs.Owners.{AreApart, Owns, has_number, numbers_of}
use Rattle.lawful_states.specs.Physical.{IsPhysical}
use Rattle.lawful_states.proofs.ChangeLemmas.{changed-from}
use Rattle.lawful_states.proofs.NameLemmas.{same_name-equal, some-equal}
use Rattle.lawful_states.proofs.StatusLemmas.{has_number-cons}
use Rattle.library_model.specs.Named.{Named, named, same_name}
use Rattle.lawful_states.specs.LogicalFiles.{base_in, bases_in}
use Rattle.lawful_states.specs.State.{FileState, MemberStatus, format_in, physical_among, physical_in}
use Rattle.lawful_states.specs.Lawful.{AreBased, IsBased}
use Rattle.lawful_states.proofs.BaseLemmas.{physical-here, some-is, some-of}
use Rattle.library_kept.specs.Limits.{AreFormats}
use Rattle.library_kept.specs.Views.{AreMapped, HaveDefaults, IsMapped}
use Rattle.library_kept.proofs.DefaultLemmas.{physical-defaults}
use Rattle.library_kept.proofs.FieldLemmas.{physical-laid}
use Rattle.logical_laws.proofs.SomeLemmas.{logical-some}
use Rattle.restart_model.specs.Libraries.{file_left, files_left, member_left, status_left}
use Rattle.restart_model.specs.Sources.{described_files, format_named, spec_named}
use Rattle.restart_laws.proofs.CatalogueLemmas.{AreNamesApart, AreNumbersApart, HasFirst, HasOther, HasPhysical, IsCatalogue, is_first}
use Rattle.restart_laws.proofs.DescribedLemmas.{Among, IsBy, IsMade, behind-distinct, described-from, each-among, find-among, kind-by, none-distinct, none-new}

-- ---- each file changed by its name

pub named-left : (change : List ℕ → FileState → FileState) (name : List ℕ) (files : Named FileState)
    → named name (map (λ (entry : List ℕ × FileState). (entry.0, change entry.0 entry.1)) files) ≡ option_map (change name) (named name files)
named-left change name [] = refl
named-left change name (entry ∷ files) =
    elim (same_name name entry.0) as (λ b. same_name name entry.0 ≡ b
    → cond b (Some (change entry.0 entry.1)) (named name (map (λ (e : List ℕ × FileState). (e.0, change e.0 e.1)) files)) ≡ option_map (change name) (cond b (Some entry.1) (named name files))) [
      | true ↦ λ same. ap (λ (n : List ℕ). Some (change n entry.1)) (sym (same_name-equal name entry.0 same))
      | false ↦ λ differ. named-left change name files
    ] refl

-- ---- what a source describes, of itself

laid-by : (before : Named FileState) (kind : FileKind) (text : List ℕ) (spec : FileSpec) → IsBy before kind text spec → IsLaidOut (format_in spec).fields
laid-by before kind text spec (inl p) = subst (λ (s : FileSpec). IsLaidOut (format_in s).fields) p.1.is (physical-laid (format_named before) p.1.source p.1.its p.1.gives)
laid-by before kind text spec (inr l) = subst (λ (s : FileSpec). IsLaidOut (format_in s).fields) l.1.is (record { few = omega arith; narrow = omega arith; lies = refl })

defaults-by : (before : Named FileState) (kind : FileKind) (text : List ℕ) (spec : FileSpec) → IsBy before kind text spec → HoldDefaults (format_in spec).fields
defaults-by before kind text spec (inl p) = subst (λ (s : FileSpec). HoldDefaults (format_in s).fields) p.1.is (physical-defaults (format_named before) p.1.source p.1.its p.1.gives)
defaults-by before kind text spec (inr l) = subst (λ (s : FileSpec). HoldDefaults (format_in s).fields) l.1.is tt

pub physical-is : (s : FileSpec) (spec : PhysicalSpec) → physical_in s ≡ Some spec → s ≡ PhysicalFile spec
physical-is (PhysicalFile other) spec e = ap PhysicalFile (some-equal e)
physical-is (LogicalFile other) spec e = absurd cc

other-way : (a b : ℕ) → a == b ≡ false → b == a ≡ false
other-way a b e = ne_eqb b a (λ same. absurd (let is : a == b ≡ true = eq-eqb a b (sym same) in cc))

-- ---- the members of a file

-- whatever stands beside their numbers
module _ (status : CatalogMember → List ℕ × MemberStatus) (same : (m : CatalogMember) → (status m).1.number ≡ m.number) (named_so : (m : CatalogMember) → (status m).0 ≡ m.name) where
  abbrev its : List ℕ → List CatalogMember → Named MemberStatus
  its name members = map status (filter (is_in_file name) members)

  cons-number : (number : ℕ) (m : CatalogMember) (rest : Named MemberStatus) → has_number number (status m ∷ rest) ≡ ((m.number == number) || has_number number rest)
  cons-number number m rest = has_number-cons number (status m) rest ∙ ap (λ (n : ℕ). (n == number) || has_number number rest) (same m)

  pub none-numbered : (members : List CatalogMember) (name : List ℕ) (number : ℕ) → AllByRecursion (HasOther number) members → has_number number (its name members) ≡ false
  none-numbered [] name number others = refl
  none-numbered (m ∷ members) name number others =
      elim (bytes_eq m.file name) as (λ b. has_number number (map status (cond b (m ∷ filter (is_in_file name) members) (filter (is_in_file name) members))) ≡ false) [
        | true ↦ cons-number number m (its name members) ∙ ap (λ (b : Bool). b || has_number number (its name members)) others.0 ∙ none-numbered members name number others.1
        | false ↦ none-numbered members name number others.1
      ]

  -- a number that the file has is that of the member which has it, and that is of this file
  pub member-found : (members : List CatalogMember) (name : List ℕ) (number : ℕ) → AreNumbersApart members → has_number number (its name members) ≡ true
      → (m : CatalogMember) × (find (λ (o : CatalogMember). o.number == number) members ≡ Some m) × (m.file ≡ name)
  member-found [] name number apart has = absurd cc
  member-found (m ∷ members) name number apart has =
      elim (m.number == number) as (λ b. m.number == number ≡ b
      → (n : CatalogMember) × (cond b (Some m) (find (λ (o : CatalogMember). o.number == number) members) ≡ Some n) × (n.file ≡ name)) [
        | true ↦ λ equal. (m, refl, own equal)
        | false ↦ λ differs. member-found members name number apart.1 (rest differs)
      ] refl
    where
      own : m.number == number ≡ true → m.file ≡ name
      own equal =
          elim (bytes_eq m.file name) as (λ b. bytes_eq m.file name ≡ b
          → has_number number (map status (cond b (m ∷ filter (is_in_file name) members) (filter (is_in_file name) members))) ≡ true → m.file ≡ name) [
            | true ↦ λ is e. same_name-equal m.file name is
            | false ↦ λ is e. absurd (
                let none : has_number number (its name members) ≡ false =
                none-numbered members name number (subst (λ (n : ℕ). AllByRecursion (HasOther n) members) (eqb-true m.number number equal) apart.0) in cc)
          ] refl has

      rest : m.number == number ≡ false → has_number number (its name members) ≡ true
      rest differs =
          elim (bytes_eq m.file name) as (λ b. has_number number (map status (cond b (m ∷ filter (is_in_file name) members) (filter (is_in_file name) members))) ≡ true
          → has_number number (its name members) ≡ true) [
            | true ↦ λ e. ap (λ (b : Bool). b || has_number number (its name members)) (sym differs) ∙ sym (cons-number number m (its name members)) ∙ e
            | false ↦ λ e. e
          ] has

  differ-numbers : (members : List CatalogMember) (name : List ℕ) (number : ℕ) → AllByRecursion (HasOther number) members
      → AllByRecursion (λ o. nat_eq number o ≡ false) (numbers_of (its name members))
  differ-numbers [] name number others = tt
  differ-numbers (m ∷ members) name number others =
      elim (bytes_eq m.file name) as (λ b. AllByRecursion (λ o. nat_eq number o ≡ false) (numbers_of (map status (cond b (m ∷ filter (is_in_file name) members) (filter (is_in_file name) members))))) [
        | true ↦ (ap (nat_eq number) (same m) ∙ other-way m.number number others.0, differ-numbers members name number others.1)
        | false ↦ differ-numbers members name number others.1
      ]

  pub distinct-numbers : (members : List CatalogMember) (name : List ℕ) → AreNumbersApart members → IsDistinct nat_eq (numbers_of (its name members))
  unfolding IsDistinct
  distinct-numbers [] name apart = tt
  distinct-numbers (m ∷ members) name apart =
      elim (bytes_eq m.file name) as (λ b. IsDistinct nat_eq (numbers_of (map status (cond b (m ∷ filter (is_in_file name) members) (filter (is_in_file name) members))))) [
        | true ↦ (
          subst (λ (n : ℕ). AllByRecursion (λ o. nat_eq n o ≡ false) (numbers_of (its name members))) (sym (same m)) (differ-numbers members name m.number apart.0),
          distinct-numbers members name apart.1,
        )
        | false ↦ distinct-numbers members name apart.1
      ]

  pub first-named : (members : List CatalogMember) (name : List ℕ) → list_any (is_first name) members ≡ true → IsSome (named name (its name members))
  first-named [] name some = absurd cc
  first-named (m ∷ members) name some =
      elim (bytes_eq m.file name) as (λ b. ((b && bytes_eq name m.name) || list_any (is_first name) members) ≡ true
      → IsSome (named name (map status (cond b (m ∷ filter (is_in_file name) members) (filter (is_in_file name) members))))) [
        | true ↦ λ e. subst (λ (n : List ℕ). (bytes_eq name n || list_any (is_first name) members) ≡ true
            → IsSome (cond (same_name name (status m).0) (Some (status m).1) (named name (its name members))))
            (named_so m)
            (elim (same_name name (status m).0) as (λ b. (b || list_any (is_first name) members) ≡ true → IsSome (cond b (Some (status m).1) (named name (its name members)))) [
              | true ↦ λ h. refl
              | false ↦ λ h. first-named members name h
            ]) e
        | false ↦ λ e. first-named members name e
      ] some

-- no member is of a file that isn't physical
no-member : (files : List CatalogFile) (from : CatalogFile) (members : List CatalogMember) → AreNamesApart files → Among from files → from.kind ≡ Logical
    → AllByRecursion (λ (m : CatalogMember). HasPhysical files m.file) members → filter (is_in_file from.name) members ≡ []
no-member files from [] apart among logical owned = refl
no-member files from (m ∷ members) apart among logical owned =
    elim (bytes_eq m.file from.name) as (λ b. bytes_eq m.file from.name ≡ b → cond b (m ∷ filter (is_in_file from.name) members) (filter (is_in_file from.name) members) ≡ []) [
      | true ↦ λ same. absurd (
          let has = owned.0 in
          let same_name : m.file ≡ from.name = same_name-equal m.file from.name same in
          let found : find (is_named from.name) files ≡ Some has.file = subst (λ (n : List ℕ). find (is_named n) files ≡ Some has.file) same_name has.there in
          let one : from ≡ has.file = some-equal (sym (find-among from files apart among) ∙ found) in
          let both : Logical ≡ Physical = sym logical ∙ ap (λ (f : CatalogFile). f.kind) one ∙ has.physical in cc)
      | false ↦ λ differs. no-member files from members apart among logical owned.1
    ] refl

-- ---- the library

abbrev pub members_left : (ℕ → ℕ) → Journal → List ℕ → Named MemberStatus
members_left breaks j name = map (status_left breaks j) (filter (is_in_file name) (catalogue_of j).members)

abbrev pub with_members : (ℕ → ℕ) → Journal → List ℕ → FileState → FileState
with_members breaks j name file = record file { members = members_left breaks j name }

-- a file that is left, and what it is from
pub record IsLeft (breaks : ℕ → ℕ) (j : Journal) (name : List ℕ) (file : FileState) : Type 0 where
  pub from : CatalogFile
  pub among : Among from (catalogue_of j).files
  pub called : from.name ≡ name
  pub source : file.source ≡ from.source
  pub before : Named FileState
  pub by_kind : IsBy before from.kind from.source file.spec
  pub members : file.members ≡ members_left breaks j name
  pub kept : (other : List ℕ) (found : FileState) → named other before ≡ Some found → named other (files_left breaks j) ≡ Some (with_members breaks j other found)
  -- as it stands among the files that are described
  pub base : FileState
  pub found : named name (described_files (catalogue_of j).files) ≡ Some base
  pub spec : base.spec ≡ file.spec

module _ (breaks : ℕ → ℕ) (j : Journal) where
  pub named-files : (name : List ℕ) → named name (files_left breaks j) ≡ option_map (with_members breaks j name) (named name (described_files (catalogue_of j).files))
  named-files name = named-left (with_members breaks j) name (described_files (catalogue_of j).files)

  pub left-file : (name : List ℕ) (file : FileState) → named name (files_left breaks j) ≡ Some file → IsLeft breaks j name file
  left-file name file there =
      let was = changed-from (with_members breaks j name) (named name (described_files (catalogue_of j).files)) file (sym (named-files name) ∙ there) in
      by was.0 was.1 was.2 (described-from (catalogue_of j).files [] name was.0 was.1)
    where
      by : (base : FileState) → named name (described_files (catalogue_of j).files) ≡ Some base → with_members breaks j name base ≡ file
          → (named name [] ≡ Some base) ⊎ IsMade (catalogue_of j).files (described_files (catalogue_of j).files) name base → IsLeft breaks j name file
      by base found same (inl none) = absurd cc
      by base found same (inr made) = record {
        from = made.from;
        among = made.among;
        called = made.called;
        source = ap (λ (f : FileState). f.source) (sym same) ∙ made.source;
        before = made.before;
        by_kind = kind-by made.before made.from.kind made.from.source file.spec (made.described ∙ ap (λ (f : FileState). Some f.spec) same);
        members = ap (λ (f : FileState). f.members) (sym same);
        kept = λ other thing h. named-files other ∙ ap (option_map (with_members breaks j other)) (made.kept other thing h);
        base = base;
        found = found;
        spec = ap (λ (f : FileState). f.spec) same;
      }

  pub left-formats : AreFormats (files_left breaks j)
  left-formats name file there = let it = left-file name file there in laid-by it.before it.from.kind it.from.source file.spec it.by_kind

  pub left-defaults : HaveDefaults (files_left breaks j)
  left-defaults name file there = let it = left-file name file there in defaults-by it.before it.from.kind it.from.source file.spec it.by_kind

  -- a base file is there, and is what was described
  physical-left : (name : List ℕ) (file : FileState) → IsLeft breaks j name file → (before : Named FileState)
      → ((other : List ℕ) (found : FileState) → named other before ≡ Some found → named other (files_left breaks j) ≡ Some (with_members breaks j other found))
      → (other : List ℕ) (spec : PhysicalSpec) → spec_named before other ≡ Some spec
      → (later : FileState) × (physical_among other (files_left breaks j) ≡ Some later) × (later.spec ≡ PhysicalFile spec)
  physical-left name file it before kept other spec e = by (named other before) refl e
    where
      by : (o : Option FileState) → named other before ≡ o → option_and_then (λ (f : FileState). physical_in f.spec) o ≡ Some spec
          → (later : FileState) × (physical_among other (files_left breaks j) ≡ Some later) × (later.spec ≡ PhysicalFile spec)
      by None is h = absurd cc
      by (Some base) is h =
          let same : base.spec ≡ PhysicalFile spec = physical-is base.spec spec h in (
            with_members breaks j other base,
            physical-here other (files_left breaks j) (with_members breaks j other base) (kept other base is) (subst (λ (s : FileSpec). IsPhysical s) (sym same) tt),
            same,
          )

  bases-left : (name : List ℕ) (file : FileState) (it : IsLeft breaks j name file) → AreBasesOf (spec_named it.before) (bases_in (files_left breaks j))
  bases-left name file it other spec e =
      let its = physical-left name file it it.before it.kept other spec e in
      ap (λ (o : Option FileState). (base_in other o).fields) its.1 ∙ ap (λ (s : FileSpec). (format_in s).fields) its.2

  pub left-mapped : AreMapped (files_left breaks j)
  left-mapped name file there = by (left-file name file there)
    where
      kind : (it : IsLeft breaks j name file) → IsBy it.before it.from.kind it.from.source file.spec → IsMapped (files_left breaks j) file.spec
      kind it (inl p) = subst (λ (s : FileSpec). IsMapped (files_left breaks j) s) p.1.is tt
      kind it (inr l) = subst (λ (s : FileSpec). IsMapped (files_left breaks j) s) l.1.is (record {
        some = logical-some (spec_named it.before) l.1.source l.1.its l.1.gives;
        mapped = described-mapped (spec_named it.before) (bases_in (files_left breaks j)) l.1.source l.1.its (bases-left name file it) l.1.gives;
      })

      by : IsLeft breaks j name file → IsMapped (files_left breaks j) file.spec
      by it = kind it it.by_kind

  -- ---- where the catalogue is one that entries leave

  module _ (is : IsCatalogue (catalogue_of j)) where
    keys-left : (files : Named FileState) → keys_of (map (file_left breaks j) files) ≡ keys_of files
    keys-left [] = refl
    keys-left (entry ∷ files) = λ i. entry.0 ∷ keys-left files i

    pub left-names : IsDistinct same_name (keys_of (files_left breaks j))
    left-names =
        subst (λ (names : List (List ℕ)). IsDistinct same_name names) (sym (keys-left (described_files (catalogue_of j).files)))
        (behind-distinct (catalogue_of j).files [] none-distinct is.names (none-new (catalogue_of j).files))

    pub left-member : (name : List ℕ) (file : FileState) (number : ℕ) → Owns (files_left breaks j) name file number
        → (m : CatalogMember) × (find (λ (o : CatalogMember). o.number == number) (catalogue_of j).members ≡ Some m) × (m.file ≡ name)
    left-member name file number owns =
        member-found (status_left breaks j) (λ m. refl) (λ m. refl) (catalogue_of j).members name number is.numbers
        (subst (λ (ms : Named MemberStatus). has_number number ms ≡ true) (left-file name file owns.there).members owns.has)

    pub left-apart : AreApart (files_left breaks j)
    left-apart = record {
      apart = λ name other file another number one two.
          let a = left-member name file number one in
          let b = left-member other another number two in
          sym a.2 ∙ ap (λ (m : CatalogMember). m.file) (some-equal (sym a.1 ∙ b.1)) ∙ b.2;
      within = λ name file there.
          subst (λ (ms : Named MemberStatus). IsDistinct nat_eq (numbers_of ms)) (sym (left-file name file there).members)
          (distinct-numbers (status_left breaks j) (λ m. refl) (λ m. refl) (catalogue_of j).members name is.numbers);
    }

    pub left-based : AreBased (files_left breaks j)
    left-based name file there = by (left-file name file there)
      where
        first : (it : IsLeft breaks j name file) → it.from.kind ≡ Physical → IsSome (named name file.members)
        first it physical =
            subst (λ (ms : Named MemberStatus). IsSome (named name ms)) (sym it.members)
            (first-named (status_left breaks j) (λ m. refl) (λ m. refl) (catalogue_of j).members name
            (subst (λ (n : List ℕ). list_any (is_first n) (catalogue_of j).members ≡ true) it.called
            (each-among (HasFirst (catalogue_of j).members) it.from (catalogue_of j).files is.firsts it.among physical)))

        none : (it : IsLeft breaks j name file) → it.from.kind ≡ Logical → file.members ≡ []
        none it logical =
            it.members
            ∙ ap (λ (n : List ℕ). members_left breaks j n) (sym it.called)
            ∙ ap (λ (ms : List CatalogMember). map (status_left breaks j) ms)
            (no-member (catalogue_of j).files it.from (catalogue_of j).members is.names it.among logical is.owned)

        based : (it : IsLeft breaks j name file) (other : List ℕ) → IsSome (spec_named it.before other) → IsSome (physical_among other (files_left breaks j))
        based it other some =
            let spec = some-of (spec_named it.before other) some in
            some-is (physical-left name file it it.before it.kept other spec.0 spec.1).1

        kind : (it : IsLeft breaks j name file) → IsBy it.before it.from.kind it.from.source file.spec → IsBased (files_left breaks j) name file.members file.spec
        kind it (inl p) = subst (λ (s : FileSpec). IsBased (files_left breaks j) name file.members s) p.1.is (first it p.0)
        kind it (inr l) = subst (λ (s : FileSpec). IsBased (files_left breaks j) name file.members s) l.1.is (record {
          none = none it l.0;
          bases = each-weaker (λ (n : List ℕ). IsSome (spec_named it.before n)) (λ (n : List ℕ). IsSome (physical_among n (files_left breaks j))) (λ n some. based it n some)
              (base_names l.1.its) (described-there (spec_named it.before) l.1.source l.1.its l.1.gives);
        })

        by : IsLeft breaks j name file → IsBased (files_left breaks j) name file.members file.spec
        by it = kind it it.by_kind

    pub left-numbers : AllByRecursion (λ (entry : Numbered MemberState). entry.number < (catalogue_of j).next_member) (map (member_left (files_left breaks j) j) (catalogue_of j).members)
    left-numbers =
        each-map (λ (entry : Numbered MemberState). entry.number < (catalogue_of j).next_member) (member_left (files_left breaks j) j) (catalogue_of j).members is.below
