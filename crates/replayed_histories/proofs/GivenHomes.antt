-- Whose records the members are that the journal leaves: each is one of a physical file, with the fields by which the journal judges its images.
use Rattle.std.proofs.Common.{◌≡◌, ◌⊎◌, ℕ, ◌==◌, ◌||◌, Bool, true, false, cond, Option, Some, None, is_some, List, [], ◌∷◌, map, inl, inr, refl, sym, ap, ◌∙◌, subst}
use Rattle.std.specs.List.{AllByRecursion, filter, find, list_any}
use Rattle.std.specs.Str.{bytes_eq}
use Rattle.std.proofs.lemmas.Bool.{eq-eqb, or_left, or_right}
use Rattle.entry_codec.specs.declared.kinds.FileKind.TheVariants.{Physical}
use Rattle.member_slots.specs.declared.slot.Slot.{Slot}
use Rattle.member_slots.specs.Members.{member_of}
use Rattle.record_fmt.specs.declared.formats.Field.{Field}
use Rattle.lawful_states.proofs.NameLemmas.{same_name-equal, same_name-self, same_name-symm}
use Rattle.lawful_states.proofs.StatusLemmas.{has_number-cons}
use Rattle.lawful_states.specs.Owners.{Owns, has_number}
use Rattle.journal_model.specs.Catalogue.{CatalogFile, is_named}
use Rattle.journal_replay.specs.Standing.{HeldMember}
use Rattle.library_model.specs.Named.{Named, named, same_name}
use Rattle.restart_laws.proofs.PlanLemmas.{named-each}
use Rattle.lawful_states.specs.Lawful.{HoldsValues, IsBased, IsLibrary}
use Rattle.lawful_states.proofs.MemberLemmas.{HasRecords-member_of}
use Rattle.library_steps.specs.State.{FileState, MemberStatus, State, fields_of}
use Rattle.logical_model.specs.Bases.{FileSpec, PhysicalFile, LogicalFile}
use Rattle.named_bases.specs.Sources.{fields_beside}
use Rattle.replayed_histories.specs.Shown.{ShownFile, ShownMember, ShowsMembers, catalog_shown, file_shown, held_shown, is_held_in, kind_in, status_shown}
use Rattle.replayed_histories.specs.Replayed.{IsReplayed, MemberStands}
use Rattle.replayed_histories.proofs.GivenMembers.{HeldStand, HoldsRecords, Suits, all-two, file_fields}

-- ---- one of the members

abbrev AmongHeld : HeldMember → List HeldMember → Type 0
AmongHeld m [] = ⊥
AmongHeld m (x ∷ held) = (x ≡ m) ⊎ AmongHeld m held

all-among : (P : HeldMember → Type 0) (held : List HeldMember) → ((m : HeldMember) → AmongHeld m held → P m) → AllByRecursion P held
all-among P [] each = tt
all-among P (m ∷ held) each = (each m (inl refl), all-among P held (λ x among. each x (inr among)))

abbrev is_shown : ℕ → ShownMember → Bool
is_shown k shown = shown.number == k

held-any : (k : ℕ) (name : List ℕ) (m : HeldMember) (held : List HeldMember) → AmongHeld m held → m.number ≡ k → bytes_eq m.file name ≡ true
    → list_any (is_shown k) (map held_shown (filter (is_held_in name) held)) ≡ true
held-any k name m [] among number home = absurd among
held-any k name m (x ∷ held) (inl e) number home =
    ap (λ (b : Bool). list_any (is_shown k) (map held_shown (cond b (x ∷ filter (is_held_in name) held) (filter (is_held_in name) held)))) (ap (λ (y : HeldMember). bytes_eq y.file name) e ∙ home)
    ∙ or_left (x.number == k) (list_any (is_shown k) (map held_shown (filter (is_held_in name) held))) (eq-eqb x.number k (ap (λ (y : HeldMember). y.number) e ∙ number))
held-any k name m (x ∷ held) (inr among) number home = by (bytes_eq x.file name) (held-any k name m held among number home) where
  by : (b : Bool) → list_any (is_shown k) (map held_shown (filter (is_held_in name) held)) ≡ true
      → list_any (is_shown k) (map held_shown (cond b (x ∷ filter (is_held_in name) held) (filter (is_held_in name) held))) ≡ true
  by true rest = or_right (x.number == k) (list_any (is_shown k) (map held_shown (filter (is_held_in name) held))) rest
  by false rest = rest

statuses-any : (k : ℕ) (members : Named MemberStatus) → list_any (is_shown k) (map status_shown members) ≡ has_number k members
statuses-any k [] = refl
statuses-any k (entry ∷ members) = ap (λ (b : Bool). (entry.1.number == k) || b) (statuses-any k members) ∙ sym (has_number-cons k entry members)

-- ---- what a name finds

shows-named : (held : List HeldMember) (name : List ℕ) (files : Named FileState) (file : FileState) → AllByRecursion (ShowsMembers held) files → named name files ≡ Some file
    → map held_shown (filter (is_held_in name) held) ≡ map status_shown file.members
shows-named held name [] file all found = absurd cc
shows-named held name (entry ∷ files) file all found = by (same_name name entry.0) refl found (λ rest. shows-named held name files file all.1 rest) where
  by : (b : Bool) → same_name name entry.0 ≡ b → cond b (Some entry.1) (named name files) ≡ Some file
      → (named name files ≡ Some file → map held_shown (filter (is_held_in name) held) ≡ map status_shown file.members) → map held_shown (filter (is_held_in name) held) ≡ map status_shown file.members
  by true is found more =
      let e : entry.1 ≡ file = cc in
      ap (λ (n : List ℕ). map held_shown (filter (is_held_in n) held)) (same_name-equal name entry.0 is) ∙ all.0 ∙ ap (λ (f : FileState). map status_shown f.members) e
  by false is found more = more found

catalog-named : (whole : List CatalogFile) (name : List ℕ) (catalog : List CatalogFile) (files : Named FileState) (file : FileState) → map catalog_shown catalog ≡ map file_shown files
    → named name files ≡ Some file → file_fields whole (find (is_named name) catalog) ≡ fields_beside whole file.source
catalog-named whole name [] [] file same found = absurd cc
catalog-named whole name [] (entry ∷ files) file same found = absurd cc
catalog-named whole name (c ∷ catalog) [] file same found = absurd cc
catalog-named whole name (c ∷ catalog) (entry ∷ files) file same found =
    by (same_name name entry.0) refl found (λ rest. catalog-named whole name catalog files file tails rest)
  where
    heads : catalog_shown c ≡ file_shown entry
    heads = cc

    tails : map catalog_shown catalog ≡ map file_shown files
    tails = cc

    test : is_named name c ≡ same_name name entry.0
    test = ap (λ (shown : ShownFile). bytes_eq shown.name name) heads ∙ same_name-symm entry.0 name

    by : (b : Bool) → same_name name entry.0 ≡ b → cond b (Some entry.1) (named name files) ≡ Some file
        → (named name files ≡ Some file → file_fields whole (find (is_named name) catalog) ≡ fields_beside whole file.source)
        → file_fields whole (cond (is_named name c) (Some c) (find (is_named name) catalog)) ≡ fields_beside whole file.source
    by true is found more =
        let e : entry.1 ≡ file = cc in
        ap (λ (b : Bool). file_fields whole (cond b (Some c) (find (is_named name) catalog))) (test ∙ is)
        ∙ ap (λ (shown : ShownFile). fields_beside whole shown.source) heads ∙ ap (λ (f : FileState). fields_beside whole f.source) e
    by false is found more = ap (λ (b : Bool). file_fields whole (cond b (Some c) (find (is_named name) catalog))) (test ∙ is) ∙ more found

-- ---- the file of a member

pub record IsHome (catalog : List CatalogFile) (files : Named FileState) (m : HeldMember) : Type 0 where
  pub file : FileState
  pub owns : Owns files m.file file m.number
  pub fields : file_fields catalog (find (is_named m.file) catalog) ≡ fields_of file

some-of : {A : Type 0} (o : Option A) → is_some o ≡ true → (a : A) × (o ≡ Some a)
some-of None there = absurd cc
some-of (Some a) there = (a, refl)

-- a file with members is a physical one
is-physical : (files : Named FileState) (name : List ℕ) (members : Named MemberStatus) (k : ℕ) (spec : FileSpec) → IsBased files name members spec
    → has_number k members ≡ true → kind_in spec ≡ Physical
is-physical files name members k (PhysicalFile spec) based has = refl
is-physical files name members k (LogicalFile spec) based has =
    absurd (let clash : ◌≡◌ {A = Bool} false true = sym (ap (has_number k) based.none) ∙ has in cc)

module _ (s : State) (library : IsLibrary s) (r : IsReplayed s) where
  home-of : (m : HeldMember) → AmongHeld m r.left.members → is_some (named m.file s.files) ≡ true → IsHome r.left.files s.files m
  home-of m among home =
      let file = some-of (named m.file s.files) home in
      let has : has_number m.number file.0.members ≡ true =
      sym (statuses-any m.number file.0.members) ∙ ap (list_any (is_shown m.number)) (sym (shows-named r.left.members m.file s.files file.0 r.stands.members_are file.1))
      ∙ held-any m.number m.file m r.left.members among refl (same_name-self m.file)
      in
      record {
        file = file.0;
        owns = record { there = file.1; has = has };
        fields = catalog-named r.left.files m.file r.left.files s.files file.0 r.stands.files_are file.1
            ∙ named-each (λ (f : FileState). kind_in f.spec ≡ Physical → fields_beside r.left.files f.source ≡ fields_of f) m.file s.files file.0 r.stands.fields_are file.1
            (is-physical s.files m.file file.0.members m.number file.0.spec (library.bases m.file file.0 file.1) has);
      }

  pub homes : AllByRecursion (IsHome r.left.files s.files) r.left.members
  homes =
      all-two (λ m. AmongHeld m r.left.members) (λ m. is_some (named m.file s.files) ≡ true) (IsHome r.left.files s.files) r.left.members home-of
      (all-among (λ m. AmongHeld m r.left.members) r.left.members (λ m among. among)) r.stands.homes

  -- what has the fields of each file that owns the member suits it
  pub home-suits : (m : HeldMember) (slot : Slot) → IsHome r.left.files s.files m
      → ((name : List ℕ) (file : FileState) → Owns s.files name file m.number → HoldsValues (fields_of file) slot) → Suits r.left.files m.file slot
  home-suits m slot home holds = subst (λ (fields : List Field). HoldsValues fields slot) (sym home.fields) (holds m.file home.file home.owns)

  home-records : (m : HeldMember) → IsHome r.left.files s.files m → MemberStands s.files s.members m → HoldsRecords r.left.files m
  home-records m home stands on =
      let has = HasRecords-member_of (fields_of home.file) m.number s.members (library.members m.file home.file m.number home.owns) in
      subst (AllByRecursion (Suits r.left.files m.file)) (sym (stands.journaled on))
      (subst (λ (fields : List Field). AllByRecursion (HoldsValues fields) (member_of m.number s.members).slots) (sym home.fields) has.values)

  pub held-stand : HeldStand r.left s.files s.members s.next_member
  held-stand = record {
    files_are = r.stands.files_are;
    described = r.stands.described;
    fields_are = r.stands.fields_are;
    members_are = r.stands.members_are;
    homes = r.stands.homes;
    numbers = r.stands.numbers;
    next_is = r.stands.next_is;
    slots = r.stands.slots;
    within = r.journal.within;
    records = all-two (IsHome r.left.files s.files) (MemberStands s.files s.members) (HoldsRecords r.left.files) r.left.members home-records homes r.stands.slots;
  }
