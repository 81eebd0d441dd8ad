-- Which catalogue do entries leave? No two files have one name, no two members one number, each member is of a physical file, and each physical file has
-- a member of its own name.
use Rattle.std.proofs.Common.{◌≡◌, ℕ, ◌+◌, ◌<◌, ◌==◌, ◌&&◌, ◌||◌, not, cond, map, Bool, true, false, if◌then◌else◌, Option, Some, None, unwrap_or, List, [], ◌∷◌, ◌++◌, refl, sym, ◌∙◌, ap, subst, arith}
use Rattle.std.proofs.lemmas.Bool.{and_parts, ne_eqb}
use Rattle.std.specs.List.{AllByRecursion, filter, find, list_any}
use Rattle.std.specs.Str.{bytes_eq}
use Rattle.entry_codec.specs.declared.entries.Entry.{Entry}
use Rattle.entry_codec.specs.declared.kinds.FileKind.{FileKind}
use Rattle.entry_codec.specs.declared.kinds.FileKind.TheVariants.{Physical, Logical}
use Rattle.entry_codec.specs.declared.kinds.Images.{Images}
use Rattle.entry_codec.specs.declared.kinds.EntryKind.{EntryKind}
use Rattle.entry_codec.specs.declared.kinds.EntryKind.TheVariants.{FileCreated, FileDeleted, MemberAdded, JournalingStarted, InitialSlot, JournalingEnded, MemberCleared, MemberReorganized, ChangesApplied, ChangesRemoved, RecordAdded, RecordAddedAtNumber, BeforeImage, AfterImage, RecordDeleted, UndoBeforeImage, UndoAfterImage, UndoDelete, CommitmentStarted, CommitCycleStarted, CommitCycleCommitted, CommitCycleRolledBack, CommitmentEnded, AbnormalEnd, NextReceiver, PreviousReceiver}
use Rattle.journal_model.specs.Catalogue.{Catalogue, CatalogFile, CatalogMember, Descriptions, MayEnterAll, MayEnterBy, MayCreate, catalogue_after, catalogue_by, empty_catalogue, file_deleted, has_number, is_in_file, is_named}
use Rattle.lawful_states.proofs.NameLemmas.{same_name-equal, same_name-self, same_name-symm}
use Rattle.logical_laws.proofs.ListLemmas.{each-append, each-filter, each-map, each-weaker}

-- ---- lists

module _ {X : Type 0} (test : X → Bool) where
  -- what is found stays the first where more is put behind
  pub find-before : (xs more : List X) (x : X) → find test xs ≡ Some x → find test (xs ++ more) ≡ Some x
  find-before [] more x found = absurd cc
  find-before (first ∷ xs) more x found =
      elim (test first) as (λ b. cond b (Some first) (find test xs) ≡ Some x → cond b (Some first) (find test (xs ++ more)) ≡ Some x) [
        | true ↦ λ e. e
        | false ↦ λ e. find-before xs more x e
      ] found

  pub any-before : (xs more : List X) → list_any test xs ≡ true → list_any test (xs ++ more) ≡ true
  any-before [] more some = absurd cc
  any-before (first ∷ xs) more some =
      elim (test first) as (λ b. (b || list_any test xs) ≡ true → (b || list_any test (xs ++ more)) ≡ true) [
        | true ↦ λ e. refl
        | false ↦ λ e. any-before xs more e
      ] some

  pub any-behind : (xs : List X) (x : X) → test x ≡ true → list_any test (xs ++ x ∷ []) ≡ true
  any-behind [] x is = ap (λ (b : Bool). b || false) is
  any-behind (first ∷ xs) x is =
      elim (test first) as (λ b. (b || list_any test (xs ++ x ∷ [])) ≡ true) [ true ↦ refl | false ↦ any-behind xs x is ]

  -- and where others are taken away
  module _ (keep : X → Bool) (kept : (x : X) → test x ≡ true → keep x ≡ true) where
    pub find-filter : (xs : List X) (x : X) → find test xs ≡ Some x → find test (filter keep xs) ≡ Some x
    find-filter [] x found = absurd cc
    find-filter (first ∷ xs) x found =
        elim (test first) as (λ b. test first ≡ b → cond b (Some first) (find test xs) ≡ Some x → find test (cond (keep first) (first ∷ filter keep xs) (filter keep xs)) ≡ Some x) [
          | true ↦ λ is e. rw (kept first is) (rw is e)
          | false ↦ λ is e. elim (keep first) as (λ b. find test (cond b (first ∷ filter keep xs) (filter keep xs)) ≡ Some x) [
            | true ↦ rw is (find-filter xs x e)
            | false ↦ find-filter xs x e
          ]
        ] refl found

    pub any-filter : (xs : List X) → list_any test xs ≡ true → list_any test (filter keep xs) ≡ true
    any-filter [] some = absurd cc
    any-filter (first ∷ xs) some =
        elim (test first) as (λ b. test first ≡ b → (b || list_any test xs) ≡ true → list_any test (cond (keep first) (first ∷ filter keep xs) (filter keep xs)) ≡ true) [
          | true ↦ λ is e. rw (kept first is) (rw is refl)
          | false ↦ λ is e. elim (keep first) as (λ b. list_any test (cond b (first ∷ filter keep xs) (filter keep xs)) ≡ true) [
            | true ↦ rw is (any-filter xs e)
            | false ↦ any-filter xs e
          ]
        ] refl some

-- ---- what holds of a catalogue

abbrev pub Differs : List ℕ → CatalogFile → Type 0
Differs name file = bytes_eq file.name name ≡ false

-- no file has the name of one before it
abbrev pub AreNamesApart : List CatalogFile → Type 0
AreNamesApart [] = Unit {0}
AreNamesApart (file ∷ files) = AllByRecursion (Differs file.name) files × AreNamesApart files

abbrev pub HasOther : ℕ → CatalogMember → Type 0
HasOther number m = m.number == number ≡ false

-- no member has the number of one before it
abbrev pub AreNumbersApart : List CatalogMember → Type 0
AreNumbersApart [] = Unit {0}
AreNumbersApart (m ∷ members) = AllByRecursion (HasOther m.number) members × AreNumbersApart members

-- a physical file of this name is among these
pub record HasPhysical (files : List CatalogFile) (name : List ℕ) : Type 0 where
  pub file : CatalogFile
  pub there : find (is_named name) files ≡ Some file
  pub physical : file.kind ≡ Physical

-- the member that has its file's name
abbrev pub is_first : List ℕ → CatalogMember → Bool
is_first name m = is_in_file name m && bytes_eq name m.name

abbrev pub HasFirst : List CatalogMember → CatalogFile → Type 0
HasFirst members file = file.kind ≡ Physical → list_any (is_first file.name) members ≡ true

pub record IsCatalogue (c : Catalogue) : Type 0 where
  pub names : AreNamesApart c.files
  pub numbers : AreNumbersApart c.members
  pub below : AllByRecursion (λ (m : CatalogMember). m.number < c.next_member) c.members
  pub owned : AllByRecursion (λ (m : CatalogMember). HasPhysical c.files m.file) c.members
  pub firsts : AllByRecursion (HasFirst c.members) c.files

-- ---- a file more

pub none-named : (name : List ℕ) (files : List CatalogFile) → find (is_named name) files ≡ None → AllByRecursion (Differs name) files
none-named name [] none = tt
none-named name (file ∷ files) none =
    elim (bytes_eq file.name name) as (λ b. bytes_eq file.name name ≡ b → cond b (Some file) (find (is_named name) files) ≡ None → AllByRecursion (Differs name) (file ∷ files)) [
      | true ↦ λ is e. absurd cc
      | false ↦ λ is e. (is, none-named name files e)
    ] refl none

names-append : (files : List CatalogFile) (new : CatalogFile) → AllByRecursion (Differs new.name) files → AreNamesApart files → AreNamesApart (files ++ new ∷ [])
names-append [] new others apart = (tt, tt)
names-append (file ∷ files) new others apart =
    (each-append (Differs file.name) files (new ∷ []) apart.0 (same_name-symm new.name file.name ∙ others.0, tt), names-append files new others.1 apart.1)

names-filter : (test : CatalogFile → Bool) (files : List CatalogFile) → AreNamesApart files → AreNamesApart (filter test files)
names-filter test [] apart = tt
names-filter test (file ∷ files) apart =
    elim (test file) as (λ b. AreNamesApart (cond b (file ∷ filter test files) (filter test files))) [
      | true ↦ (each-filter (Differs file.name) test files apart.0, names-filter test files apart.1)
      | false ↦ names-filter test files apart.1
    ]

owned-more : (files : List CatalogFile) (new : CatalogFile) (name : List ℕ) → HasPhysical files name → HasPhysical (files ++ new ∷ []) name
owned-more files new name has = record { file = has.file; there = find-before (is_named name) files (new ∷ []) has.file has.there; physical = has.physical }

-- ---- a member more

numbers-append : (members : List CatalogMember) (new : CatalogMember) → AllByRecursion (λ (m : CatalogMember). m.number < new.number) members → AreNumbersApart members
    → AreNumbersApart (members ++ new ∷ [])
numbers-append [] new below apart = (tt, tt)
numbers-append (m ∷ members) new below apart = (
  each-append (HasOther m.number) members (new ∷ []) apart.0 (ne_eqb new.number m.number (λ e. let low = below.0 in absurd (omega (arith, low, e))), tt),
  numbers-append members new below.1 apart.1,
)

numbers-filter : (test : CatalogMember → Bool) (members : List CatalogMember) → AreNumbersApart members → AreNumbersApart (filter test members)
numbers-filter test [] apart = tt
numbers-filter test (m ∷ members) apart =
    elim (test m) as (λ b. AreNumbersApart (cond b (m ∷ filter test members) (filter test members))) [
      | true ↦ (each-filter (HasOther m.number) test members apart.0, numbers-filter test members apart.1)
      | false ↦ numbers-filter test members apart.1
    ]

first-more : (members : List CatalogMember) (new : CatalogMember) (file : CatalogFile) → HasFirst members file → HasFirst (members ++ new ∷ []) file
first-more members new file has physical = any-before (is_first file.name) members (new ∷ []) (has physical)

module _ (c : Catalogue) (is : IsCatalogue c) where
  below-more : (new : CatalogMember) → new.number ≡ c.next_member → AllByRecursion (λ (m : CatalogMember). m.number < new.number + 1) (c.members ++ new ∷ [])
  below-more new next =
      each-append (λ (m : CatalogMember). m.number < new.number + 1) c.members (new ∷ [])
      (each-weaker (λ (m : CatalogMember). m.number < c.next_member) (λ (m : CatalogMember). m.number < new.number + 1) (λ m low. omega (arith, low, next)) c.members is.below)
      (omega arith, tt)

  apart-more : (new : CatalogMember) → new.number ≡ c.next_member → AreNumbersApart (c.members ++ new ∷ [])
  apart-more new next =
      numbers-append c.members new
      (each-weaker (λ (m : CatalogMember). m.number < c.next_member) (λ (m : CatalogMember). m.number < new.number) (λ m low. omega (arith, low, next)) c.members is.below) is.numbers

  pub logical-more : (new : CatalogFile) → find (is_named new.name) c.files ≡ None → new.kind ≡ Logical → IsCatalogue (record c { files = c.files ++ new ∷ [] })
  logical-more new unnamed kind = record {
    names = names-append c.files new (none-named new.name c.files unnamed) is.names;
    numbers = is.numbers;
    below = is.below;
    owned = each-weaker (λ (m : CatalogMember). HasPhysical c.files m.file) (λ (m : CatalogMember). HasPhysical (c.files ++ new ∷ []) m.file)
        (λ m has. owned-more c.files new m.file has) c.members is.owned;
    firsts = each-append (HasFirst c.members) c.files (new ∷ []) is.firsts ((λ physical. absurd (let both : Logical ≡ Physical = sym kind ∙ physical in cc)), tt);
  }

  pub physical-more : (new : CatalogFile) (first : CatalogMember) → find (is_named new.name) c.files ≡ None → new.kind ≡ Physical → first.number ≡ c.next_member → first.file ≡ new.name
      → is_first new.name first ≡ true → IsCatalogue (record { files = c.files ++ new ∷ []; members = c.members ++ first ∷ []; next_member = first.number + 1 })
  physical-more new first unnamed kind next of its = record {
    names = names-append c.files new (none-named new.name c.files unnamed) is.names;
    numbers = apart-more first next;
    below = below-more first next;
    owned = each-append (λ (m : CatalogMember). HasPhysical (c.files ++ new ∷ []) m.file) c.members (first ∷ [])
        (each-weaker (λ (m : CatalogMember). HasPhysical c.files m.file) (λ (m : CatalogMember). HasPhysical (c.files ++ new ∷ []) m.file)
        (λ m has. owned-more c.files new m.file has) c.members is.owned) (
          subst (HasPhysical (c.files ++ new ∷ [])) (sym of)
              (record { file = new; there = find-behind new.name c.files new (none-named new.name c.files unnamed) (same_name-self new.name); physical = kind }),
          tt,
        );
    firsts = each-append (HasFirst (c.members ++ first ∷ [])) c.files (new ∷ [])
        (each-weaker (HasFirst c.members) (HasFirst (c.members ++ first ∷ [])) (λ file has. first-more c.members first file has) c.files is.firsts)
        ((λ physical. any-behind (is_first new.name) c.members first its), tt);
  } where
    find-behind : (name : List ℕ) (files : List CatalogFile) (file : CatalogFile) → AllByRecursion (Differs name) files → bytes_eq file.name name ≡ true
        → find (is_named name) (files ++ file ∷ []) ≡ Some file
    find-behind name [] file others same = rw same refl
    find-behind name (other ∷ files) file others same = rw others.0 (find-behind name files file others.1 same)

  pub member-more : (new : CatalogMember) → new.number ≡ c.next_member → HasPhysical c.files new.file
      → IsCatalogue (record c { members = c.members ++ new ∷ []; next_member = new.number + 1 })
  member-more new next has = record {
    names = is.names;
    numbers = apart-more new next;
    below = below-more new next;
    owned = each-append (λ (m : CatalogMember). HasPhysical c.files m.file) c.members (new ∷ []) is.owned (has, tt);
    firsts = each-weaker (HasFirst c.members) (HasFirst (c.members ++ new ∷ [])) (λ file first. first-more c.members new file first) c.files is.firsts;
  }

  -- ---- a file less

  module _ (gone : List ℕ) where
    abbrev stays : CatalogFile → Bool
    stays file = not (is_named gone file)

    abbrev lives : CatalogMember → Bool
    lives m = not (is_in_file gone m)

    -- another name than the one that is gone
    other-name : (name other : List ℕ) → bytes_eq other gone ≡ false → bytes_eq name other ≡ true → not (bytes_eq name gone) ≡ true
    other-name name other differs same = ap (λ (n : List ℕ). not (bytes_eq n gone)) (same_name-equal name other same) ∙ ap not differs

    owned-less : (members : List CatalogMember) → AllByRecursion (λ (m : CatalogMember). HasPhysical c.files m.file) members
        → AllByRecursion (λ (m : CatalogMember). HasPhysical (filter stays c.files) m.file) (filter lives members)
    owned-less [] all = tt
    owned-less (m ∷ members) all =
        elim (bytes_eq m.file gone) as (λ b. bytes_eq m.file gone ≡ b
        → AllByRecursion (λ (m : CatalogMember). HasPhysical (filter stays c.files) m.file) (cond (not b) (m ∷ filter lives members) (filter lives members))) [
          | true ↦ λ same. owned-less members all.1
          | false ↦ λ differs. (
            record {
              file = all.0.file;
              there = find-filter (is_named m.file) stays (λ file same. other-name file.name m.file differs same) c.files all.0.file all.0.there;
              physical = all.0.physical;
            },
            owned-less members all.1,
          )
        ] refl

    firsts-less : (files : List CatalogFile) → AllByRecursion (HasFirst c.members) files → AllByRecursion (HasFirst (filter lives c.members)) (filter stays files)
    firsts-less [] all = tt
    firsts-less (file ∷ files) all =
        elim (bytes_eq file.name gone) as (λ b. bytes_eq file.name gone ≡ b
        → AllByRecursion (HasFirst (filter lives c.members)) (cond (not b) (file ∷ filter stays files) (filter stays files))) [
          | true ↦ λ same. firsts-less files all.1
          | false ↦ λ differs. (
            (λ physical. any-filter (is_first file.name) lives
                (λ m first. other-name m.file file.name differs (and_parts (is_in_file file.name m) (bytes_eq file.name m.name) first).0) c.members (all.0 physical)),
            firsts-less files all.1,
          )
        ] refl

    pub file-less : IsCatalogue (file_deleted gone c)
    file-less = record {
      names = names-filter stays c.files is.names;
      numbers = numbers-filter lives c.members is.numbers;
      below = each-filter (λ (m : CatalogMember). m.number < c.next_member) lives c.members is.below;
      owned = owned-less c.members is.owned;
      firsts = firsts-less c.files is.firsts;
    }

  -- ---- members that change nothing of this

  module _ (change : CatalogMember → CatalogMember) (number : (m : CatalogMember) → (change m).number ≡ m.number) (file : (m : CatalogMember) → (change m).file ≡ m.file)
      (name : (m : CatalogMember) → (change m).name ≡ m.name) where
    numbers-map : (members : List CatalogMember) → AreNumbersApart members → AreNumbersApart (map change members)
    numbers-map [] apart = tt
    numbers-map (m ∷ members) apart = (
      each-map (HasOther (change m).number) change members
          (each-weaker (HasOther m.number) (λ (o : CatalogMember). HasOther (change m).number (change o)) (λ o other. (λ i. number o i == number m i) ∙ other) members apart.0),
      numbers-map members apart.1,
    )

    any-map : (its : List ℕ) (members : List CatalogMember) → list_any (is_first its) (map change members) ≡ list_any (is_first its) members
    any-map its [] = refl
    any-map its (m ∷ members) = λ i. (bytes_eq (file m i) its && bytes_eq its (name m i)) || any-map its members i

    pub members-alike : IsCatalogue (record c { members = map change c.members })
    members-alike = record {
      names = is.names;
      numbers = numbers-map c.members is.numbers;
      below = each-map (λ (m : CatalogMember). m.number < c.next_member) change c.members
          (each-weaker (λ (m : CatalogMember). m.number < c.next_member) (λ (m : CatalogMember). (change m).number < c.next_member)
          (λ m low. subst (λ (n : ℕ). n < c.next_member) (sym (number m)) low) c.members is.below);
      owned = each-map (λ (m : CatalogMember). HasPhysical c.files m.file) change c.members
          (each-weaker (λ (m : CatalogMember). HasPhysical c.files m.file) (λ (m : CatalogMember). HasPhysical c.files (change m).file)
          (λ m has. subst (HasPhysical c.files) (sym (file m)) has) c.members is.owned);
      firsts = each-weaker (HasFirst c.members) (HasFirst (map change c.members)) (λ f has physical. any-map f.name c.members ∙ has physical) c.files is.firsts;
    }

-- ---- an entry more

abbrev pub set_images : Option ℕ → Option Images → CatalogMember → CatalogMember
set_images which images m = if has_number which m then record m { images = images } else m

images-alike : (c : Catalogue) (which : Option ℕ) (images : Option Images) → IsCatalogue c → IsCatalogue (record c { members = map (set_images which images) c.members })
images-alike c which images is =
    members-alike c is (set_images which images)
    (λ m. elim (has_number which m) as (λ b. (if b then record m { images = images } else m).number ≡ m.number) [ true ↦ refl | false ↦ refl ])
    (λ m. elim (has_number which m) as (λ b. (if b then record m { images = images } else m).file ≡ m.file) [ true ↦ refl | false ↦ refl ])
    (λ m. elim (has_number which m) as (λ b. (if b then record m { images = images } else m).name ≡ m.name) [ true ↦ refl | false ↦ refl ])

created-is : (d : Descriptions) (kind : FileKind) (name source : List ℕ) (e : Entry) (c : Catalogue) → IsCatalogue c → MayCreate d kind name source e c
    → IsCatalogue (catalogue_by (FileCreated kind name source) e c)
created-is d Physical name source e c is may =
    physical-more c is (record { created = e.sequence; kind = Physical; name = name; source = source }) (record { number = unwrap_or e.member 0; file = name; name = name; images = None })
    may.unnamed refl (ap (λ (o : Option ℕ). unwrap_or o 0) may.numbered.next) refl (λ i. same_name-self name i && same_name-self name i)
created-is d Logical name source e c is may = logical-more c is (record { created = e.sequence; kind = Logical; name = name; source = source }) may.unnamed refl

pub entry-is : (d : Descriptions) (kind : EntryKind) (e : Entry) (c : Catalogue) → IsCatalogue c → MayEnterBy d kind e c → IsCatalogue (catalogue_by kind e c)
entry-is d (FileCreated kind name source) e c is may = created-is d kind name source e c is may
entry-is d (FileDeleted name) e c is may = file-less c is name
entry-is d (MemberAdded file name) e c is may =
    member-more c is (record { number = unwrap_or e.member 0; file = file; name = name; images = None }) (ap (λ (o : Option ℕ). unwrap_or o 0) may.numbered.next)
    (record { file = may.over; there = may.named; physical = may.physical })
entry-is d (JournalingStarted images slots) e c is may = images-alike c e.member (Some images) is
entry-is d JournalingEnded e c is may = images-alike c e.member None is
entry-is d (InitialSlot image) e c is may = is
entry-is d MemberCleared e c is may = is
entry-is d MemberReorganized e c is may = is
entry-is d (ChangesApplied first last changes) e c is may = is
entry-is d (ChangesRemoved first last changes) e c is may = is
entry-is d (RecordAdded image) e c is may = is
entry-is d (RecordAddedAtNumber image) e c is may = is
entry-is d (BeforeImage image) e c is may = is
entry-is d (AfterImage has_before image) e c is may = is
entry-is d (RecordDeleted before) e c is may = is
entry-is d (UndoBeforeImage image) e c is may = is
entry-is d (UndoAfterImage has_before image) e c is may = is
entry-is d (UndoDelete image) e c is may = is
entry-is d (CommitmentStarted level) e c is may = is
entry-is d CommitCycleStarted e c is may = is
entry-is d CommitCycleCommitted e c is may = is
entry-is d CommitCycleRolledBack e c is may = is
entry-is d CommitmentEnded e c is may = is
entry-is d AbnormalEnd e c is may = is
entry-is d (NextReceiver number) e c is may = is
entry-is d (PreviousReceiver number) e c is may = is

pub entries-are : (d : Descriptions) (entries : List Entry) (c : Catalogue) → IsCatalogue c → MayEnterAll d c entries → IsCatalogue (catalogue_after c entries)
entries-are d [] c is may = is
entries-are d (e ∷ entries) c is may = entries-are d entries (catalogue_by e.kind e c) (entry-is d e.kind e c is may.0) may.1

pub empty-is : IsCatalogue empty_catalogue
empty-is = record { names = tt; numbers = tt; below = tt; owned = tt; firsts = tt }
