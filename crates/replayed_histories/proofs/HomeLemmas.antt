-- The members that the journal leaves are of the library's files, so that they are within their limits, and their records have the fields by which the
-- journal judges images.
use Rattle.std.proofs.Common.{◌≡◌, ℕ, ◌*◌, ◌≤◌, ◌==◌, ◌||◌, ◌&&◌, Bool, true, false, cond, IsTrue, Option, Some, None, List, [], ◌∷◌, map, length, refl, sym, ap, ◌∙◌, subst, arith}
use Rattle.std.specs.List.{AllByRecursion, filter, find, list_any}
use Rattle.std.specs.Option.{is_some}
use Rattle.std.specs.Str.{bytes_eq}
use Rattle.std.proofs.lemmas.Bool.{eqb-true}
use Rattle.std.proofs.lemmas.Bool.Decides.{nat_tests}
use Rattle.std.proofs.lemmas.List.Elements.{All-from_recursion}
use Rattle.entry_codec.specs.declared.kinds.FileKind.TheVariants.{Physical}
use Rattle.member_slots.specs.declared.slot.Slot.{Slot}
use Rattle.member_slots.specs.declared.slot.Slot.TheVariants.{Live}
use Rattle.member_slots.specs.Member.{FitsSlot, IsMember, MemberState}
use Rattle.member_slots.specs.Members.{NumberedMembers, member_at, member_of}
use Rattle.record_fmt.specs.declared.formats.Field.{Field}
use Rattle.record_fmt.specs.Layout as layout
use Rattle.record_fmt.specs.Records.{record_held}
use Rattle.logical_model.specs.Bases.{FileSpec, LogicalFile, PhysicalFile}
use Rattle.logical_laws.proofs.ListLemmas.{each-weaker}
use Rattle.lawful_states.specs.Owners.{Owns, has_number}
use Rattle.lawful_states.proofs.NameLemmas.{same_name-equal, same_name-self, same_name-symm}
use Rattle.lawful_states.proofs.StatusLemmas.{has_number-cons}
use Rattle.journal_model.specs.Catalogue.{CatalogFile, has_number as is_numbered, is_named}
use Rattle.journal_model.specs.Images.{AreRecords, AreRecordsOf}
use Rattle.journal_model.specs.Journal.{length_in}
use Rattle.journal_replay.specs.Standing.{HeldMember, Standing, catalog_member, catalogue_in, slots_at}
use Rattle.library_model.specs.Named.{Named, named, same_name}
use Rattle.lawful_states.specs.Lawful.{AreBased, HasRecords, HoldsValues, IsBased, IsThere}
use Rattle.lawful_states.proofs.MemberLemmas.{HasRecords-member_of}
use Rattle.library_steps.specs.State.{FileState, JobState, MemberStatus, fields_of}
use Rattle.joint_state.specs.Limits.{AreWithin, IsWithin}
use Rattle.restart_laws.proofs.FieldLemmas.{FitsSlot-held}
use Rattle.restart_laws.proofs.PlanLemmas.{named-each}
use Rattle.restart_laws.proofs.LibraryKeptStandLemmas.{within-of}
use Rattle.named_bases.specs.Sources.{descriptions, fields_beside}
use Rattle.replayed_histories.specs.Shown.{ShownFile, ShownMember, ShowsMembers, catalog_shown, file_shown, held_shown, is_held_in, kind_in, status_shown}
use Rattle.replayed_histories.specs.Replayed.{IsHeldWithin, MemberStands, StandsAs}

-- ---- the file that a member is of

-- the library's file of its name has it, and is the one by which the journal judges its records
pub record IsHomed (catalog : List CatalogFile) (files : Named FileState) (m : HeldMember) : Type 0 where
  pub file : FileState
  pub owns : Owns files m.file file m.number
  pub its : CatalogFile
  pub there : find (is_named m.file) catalog ≡ Some its
  pub physical : its.kind ≡ Physical
  pub fields : fields_beside catalog its.source ≡ fields_of file

abbrev shows_number : ℕ → ShownMember → Bool
shows_number n shown = shown.number == n

-- a file of this name shows the member
abbrev IsShownIn : (name : List ℕ) → List HeldMember → HeldMember → Type 0
IsShownIn name held m = bytes_eq m.file name ≡ true → list_any (shows_number m.number) (map held_shown (filter (is_held_in name) held)) ≡ true

shown-there : (name : List ℕ) (held : List HeldMember) → AllByRecursion (IsShownIn name held) held
shown-there name [] = tt
shown-there name (m ∷ held) = (
  λ here. ap (λ (b : Bool). list_any (shows_number m.number) (map held_shown (cond b (m ∷ filter (is_held_in name) held) (filter (is_held_in name) held)))) here ∙ first,
  each-weaker (IsShownIn name held) (IsShownIn name (m ∷ held)) (λ x so here. behind x (bytes_eq m.file name) (so here)) held (shown-there name held),
) where
  first : (m.number == m.number || list_any (shows_number m.number) (map held_shown (filter (is_held_in name) held))) ≡ true
  first =
      let same : (m.number == m.number) ≡ true = grind (arith, nat_tests) in
      ap (λ (b : Bool). b || list_any (shows_number m.number) (map held_shown (filter (is_held_in name) held))) same

  behind : (x : HeldMember) (b : Bool) → list_any (shows_number x.number) (map held_shown (filter (is_held_in name) held)) ≡ true
      → list_any (shows_number x.number) (map held_shown (cond b (m ∷ filter (is_held_in name) held) (filter (is_held_in name) held))) ≡ true
  behind x true so = elim (m.number == x.number) as (λ b. (b || list_any (shows_number x.number) (map held_shown (filter (is_held_in name) held))) ≡ true) [ true ↦ refl | false ↦ so ]
  behind x false so = so

status-shown : (n : ℕ) (members : Named MemberStatus) → list_any (shows_number n) (map status_shown members) ≡ has_number n members
status-shown n [] = refl
status-shown n (entry ∷ members) = ap (λ (b : Bool). (entry.1.number == n) || b) (status-shown n members) ∙ sym (has_number-cons n entry members)

-- what the journal leaves of a file that a name finds
pub shows-named : (held : List HeldMember) (name : List ℕ) (files : Named FileState) (file : FileState) → AllByRecursion (ShowsMembers held) files → named name files ≡ Some file
    → map held_shown (filter (is_held_in name) held) ≡ map status_shown file.members
shows-named held name [] file all found = absurd cc
shows-named held name (entry ∷ files) file all found = by (same_name name entry.0) refl found (λ later. shows-named held name files file all.1 later) where
  by : (b : Bool) → same_name name entry.0 ≡ b → cond b (Some entry.1) (named name files) ≡ Some file
      → (named name files ≡ Some file → map held_shown (filter (is_held_in name) held) ≡ map status_shown file.members)
      → map held_shown (filter (is_held_in name) held) ≡ map status_shown file.members
  by true is h more =
      let e : entry.1 ≡ file = cc in
      let same : name ≡ entry.0 = same_name-equal name entry.0 is in
      ap (λ (x : List ℕ). map held_shown (filter (is_held_in x) held)) same ∙ all.0 ∙ ap (λ (x : FileState). map status_shown x.members) e
  by false is h more = more h

pub catalog-named : (name : List ℕ) (catalog : List CatalogFile) (files : Named FileState) (file : FileState) → map catalog_shown catalog ≡ map file_shown files → named name files ≡ Some file
    → (its : CatalogFile) × (find (is_named name) catalog ≡ Some its) × (its.source ≡ file.source) × (its.kind ≡ kind_in file.spec)
catalog-named name catalog [] file same found = absurd cc
catalog-named name [] (entry ∷ files) file same found = absurd cc
catalog-named name (its ∷ catalog) (entry ∷ files) file same found =
    by (same_name name entry.0) refl found (λ later. catalog-named name catalog files file tails later)
  where
    heads : catalog_shown its ≡ file_shown entry
    heads = cc

    tails : map catalog_shown catalog ≡ map file_shown files
    tails = cc

    test : is_named name its ≡ same_name name entry.0
    test = same_name-symm its.name name ∙ ap (λ (shown : ShownFile). same_name name shown.name) heads

    by : (b : Bool) → same_name name entry.0 ≡ b → cond b (Some entry.1) (named name files) ≡ Some file
        → (named name files ≡ Some file → (it : CatalogFile) × (find (is_named name) catalog ≡ Some it) × (it.source ≡ file.source) × (it.kind ≡ kind_in file.spec))
        → (it : CatalogFile) × (cond (is_named name its) (Some its) (find (is_named name) catalog) ≡ Some it) × (it.source ≡ file.source) × (it.kind ≡ kind_in file.spec)
    by true is h more =
        let e : entry.1 ≡ file = cc in (
          its,
          ap (λ (b : Bool). cond b (Some its) (find (is_named name) catalog)) (test ∙ is),
          ap (λ (shown : ShownFile). shown.source) heads ∙ ap (λ (x : FileState). x.source) e,
          ap (λ (shown : ShownFile). shown.kind) heads ∙ ap (λ (x : FileState). kind_in x.spec) e,
        )
    by false is h more =
        let rest = more h in
        (rest.0, ap (λ (b : Bool). cond b (Some its) (find (is_named name) catalog)) (test ∙ is) ∙ rest.1, rest.2, rest.3)

physical-of : (files : Named FileState) (name : List ℕ) (members : Named MemberStatus) (n : ℕ) (spec : FileSpec) → IsBased files name members spec → has_number n members ≡ true
    → kind_in spec ≡ Physical
physical-of files name members n (PhysicalFile spec) based has = refl
physical-of files name members n (LogicalFile spec) based has =
    let none : has_number n members ≡ false = ap (λ (ms : Named MemberStatus). has_number n ms) based.none in
    let clash : ◌≡◌ {A = Bool} true false = sym has ∙ none in
    absurd cc

swapped : {X : Type 0} (P : X → HeldMember → Type 0) (held : List HeldMember) → ((x : X) → AllByRecursion (P x) held) → AllByRecursion (λ (m : HeldMember). (x : X) → P x m) held
swapped P [] all = tt
swapped P (m ∷ held) all = ((λ x. (all x).0), swapped P held (λ x. (all x).1))

pub both-each : (P Q R : HeldMember → Type 0) (held : List HeldMember) → ((m : HeldMember) → P m → Q m → R m) → AllByRecursion P held → AllByRecursion Q held → AllByRecursion R held
both-each P Q R [] each p q = tt
both-each P Q R (m ∷ held) each p q = (each m p.0 q.0, both-each P Q R held each p.1 q.1)

some-file : (o : Option FileState) → is_some o ≡ true → (file : FileState) × (o ≡ Some file)
some-file None h = absurd cc
some-file (Some file) h = (file, refl)

-- a file of its name would show it
abbrev IsShown : List HeldMember → HeldMember → Type 0
IsShown held m = (name : List ℕ) → IsShownIn name held m

-- so is each of them
pub all-homed : (left : Standing) (files : Named FileState) (members : NumberedMembers) (next_member : ℕ) (jobs : List JobState) → StandsAs left files members next_member jobs
    → AreBased files → AllByRecursion (IsHomed left.files files) left.members
all-homed left files members next_member jobs stands based =
    both-each (λ (m : HeldMember). is_some (named m.file files) ≡ true) (IsShown left.members) (IsHomed left.files files) left.members each stands.homes
    (swapped (λ (name : List ℕ) (m : HeldMember). IsShownIn name left.members m) left.members (λ name. shown-there name left.members))
  where
    each : (m : HeldMember) → is_some (named m.file files) ≡ true → IsShown left.members m → IsHomed left.files files m
    each m home shown =
        let it = some-file (named m.file files) home in
        let file = it.0 in
        let has : has_number m.number file.members ≡ true =
        sym (status-shown m.number file.members) ∙ ap (list_any (shows_number m.number)) (sym (shows-named left.members m.file files file stands.members_are it.1))
        ∙ shown m.file (same_name-self m.file)
        in
        let its = catalog-named m.file left.files files file stands.files_are it.1 in
        let physical : kind_in file.spec ≡ Physical = physical-of files m.file file.members m.number file.spec (based m.file file it.1) has in
        record {
          file = file;
          owns = record { there = it.1; has = has };
          its = its.0;
          there = its.1;
          physical = its.3 ∙ physical;
          fields = ap (fields_beside left.files) its.2
              ∙ named-each (λ (f : FileState). kind_in f.spec ≡ Physical → fields_beside left.files f.source ≡ fields_of f) m.file files file stands.fields_are it.1 physical;
        }

-- ---- the member with a number

-- what holds of each member that the journal leaves, holds of the one that the library has with this number
pub record IsHeldAs (P : HeldMember → Type 0) (held : List HeldMember) (n : ℕ) : Type 0 where
  pub member : HeldMember
  pub found : find (is_numbered (Some n)) (map catalog_member held) ≡ Some (catalog_member member)
  pub number : n ≡ member.number
  pub slots : slots_at n held ≡ member.slots
  pub holds : P member

pub held-as : (P : HeldMember → Type 0) (n : ℕ) (held : List HeldMember) (members : NumberedMembers) → map (λ (m : HeldMember). m.number) held ≡ map (λ entry. entry.number) members
    → is_some (member_at n members) ≡ true → AllByRecursion P held → IsHeldAs P held n
held-as P n held [] same there all = absurd cc
held-as P n [] (entry ∷ members) same there all = absurd cc
held-as P n (m ∷ held) (entry ∷ members) same there all = by (entry.number == n) refl there (λ later. held-as P n held members tails later all.1) where
  heads : m.number ≡ entry.number
  heads = cc

  tails : map (λ (x : HeldMember). x.number) held ≡ map (λ x. x.number) members
  tails = cc

  by : (b : Bool) → (entry.number == n) ≡ b → is_some (cond b (Some entry.item) (member_at n members)) ≡ true → (is_some (member_at n members) ≡ true → IsHeldAs P held n)
      → IsHeldAs P (m ∷ held) n
  by true is some more =
      let here : (n == m.number) ≡ true = grind (arith, nat_tests, is, heads) in
      let turned : (m.number == n) ≡ true = grind (arith, nat_tests, is, heads) in
      record {
        member = m;
        found = ap (λ (b : Bool). cond b (Some (catalog_member m)) (find (is_numbered (Some n)) (map catalog_member held))) here;
        number = eqb-true n m.number here;
        slots = ap (λ (b : Bool). cond b m.slots (slots_at n held)) turned;
        holds = all.0;
      }
  by false is some more =
      let other : (n == m.number) ≡ false = grind (arith, nat_tests, is, heads) in
      let turned : (m.number == n) ≡ false = grind (arith, nat_tests, is, heads) in
      let rest = more some in
      record {
        member = rest.member;
        found = ap (λ (b : Bool). cond b (Some (catalog_member m)) (find (is_numbered (Some n)) (map catalog_member held))) other ∙ rest.found;
        number = rest.number;
        slots = ap (λ (b : Bool). cond b m.slots (slots_at n held)) turned ∙ rest.slots;
        holds = rest.holds;
      }

-- ---- limits

member-fits : (fields : List Field) (member : MemberState) → HasRecords fields member → IsWithin member
    → IsMember (record { record_length = layout.record_length fields; slots = member.slots })
member-fits fields member has within = record {
  records = All-from_recursion (FitsSlot (layout.record_length fields)) member.slots
      (each-weaker (HoldsValues fields) (FitsSlot (layout.record_length fields)) (λ slot holds. FitsSlot-held fields slot holds) member.slots has.values);
  slots = within.few;
  bytes = subst (λ (n : ℕ). length member.slots * n ≤ 268435456) has.long within.small;
}

-- a member whose slots are the library's is within its limits
pub held-within : (left : Standing) (files : Named FileState) (members : NumberedMembers) (m : HeldMember) → IsHomed left.files files m → m.slots ≡ (member_of m.number members).slots
    → ((name : List ℕ) (file : FileState) (number : ℕ) → Owns files name file number → IsThere (fields_of file) (member_at number members)) → AreWithin members → IsHeldWithin left m
held-within left files members m home slots has within =
    let long : length_in descriptions (catalogue_in left) (find (is_named m.file) left.files) ≡ layout.record_length (fields_of home.file) =
    ap (length_in descriptions (catalogue_in left)) home.there ∙ ap layout.record_length home.fields
    in
    subst (λ (n : ℕ). IsMember (record { record_length = n; slots = m.slots })) (sym long)
    (subst (λ (slots : List Slot). IsMember (record { record_length = layout.record_length (fields_of home.file); slots = slots })) (sym slots)
    (member-fits (fields_of home.file) (member_of m.number members) (HasRecords-member_of (fields_of home.file) m.number members (has m.file home.file m.number home.owns))
    (within-of m.number members within)))

each-back : (f : HeldMember → HeldMember) (P : HeldMember → Type 0) (held : List HeldMember) → AllByRecursion P (map f held) → AllByRecursion (λ (m : HeldMember). P (f m)) held
each-back f P [] all = tt
each-back f P (m ∷ held) all = (all.0, each-back f P held all.1)

-- what the journal leaves stands as this library: the members of which it keeps images are within their limits, and those that didn't move stay so
module _ (left to : Standing) (f : HeldMember → HeldMember) (files files_then : Named FileState) (members members_then : NumberedMembers) (next_member : ℕ) (jobs : List JobState)
    (stands : StandsAs to files_then members_then next_member jobs) (held_moved : to.members ≡ map f left.members) (based : AreBased files_then)
    (has : (name : List ℕ) (file : FileState) (number : ℕ) → Owns files_then name file number → IsThere (fields_of file) (member_at number members_then)) (within : AreWithin members_then) where
  abbrev Kept : HeldMember → Type 0
  Kept m = is_some m.images ≡ true → IsHeldWithin to m

  kept : AllByRecursion Kept to.members
  kept =
      both-each (IsHomed to.files files_then) (MemberStands files_then members_then) Kept to.members
      (λ m home stand on. held-within to files_then members_then m home (stand.journaled on) has within) (all-homed to files_then members_then next_member jobs stands based) stands.slots

  pub within-moved : ((m : HeldMember) → MemberStands files members m → IsHeldWithin left m → Kept (f m) → IsHeldWithin to (f m)) → AllByRecursion (MemberStands files members) left.members
      → AllByRecursion (IsHeldWithin left) left.members → AllByRecursion (IsHeldWithin to) to.members
  within-moved each stood fits =
      let all : AllByRecursion (λ (m : HeldMember). Kept (f m)) left.members = each-back f Kept left.members (subst (AllByRecursion Kept) held_moved kept) in
      subst (AllByRecursion (IsHeldWithin to)) (sym held_moved) (zipped left.members stood fits all)
    where
      zipped : (held : List HeldMember) → AllByRecursion (MemberStands files members) held → AllByRecursion (IsHeldWithin left) held → AllByRecursion (λ (m : HeldMember). Kept (f m)) held
          → AllByRecursion (IsHeldWithin to) (map f held)
      zipped [] a b c = tt
      zipped (m ∷ held) a b c = (each m a.0 b.0 c.0, zipped held a.1 b.1 c.1)

-- ---- images

record-test : (fields : List Field) (image : List ℕ) → HoldsValues fields (Live image) → ((length image == layout.record_length fields) && is_some (record_held fields image)) ≡ true
record-test fields image holds =
    let long : length image ≡ layout.record_length fields = FitsSlot-held fields (Live image) holds in
    let same : (length image == layout.record_length fields) ≡ true = grind (arith, nat_tests, long) in
    ap (λ (b : Bool). b && is_some (record_held fields image)) same ∙ holds

-- images with values in the fields of the file are records of its member
pub are-records : (left : Standing) (files : Named FileState) (m : HeldMember) (images : List (List ℕ)) → IsHomed left.files files m
    → ((file : FileState) → Owns files m.file file m.number → AllByRecursion (λ image. HoldsValues (fields_of file) (Live image)) images)
    → AreRecordsOf descriptions (catalogue_in left) (Some (catalog_member m)) images
are-records left files m images home hold =
    subst (λ (o : Option CatalogFile). AreRecords descriptions left.files o images) (sym home.there)
    (each-weaker (λ image. HoldsValues (fields_of home.file) (Live image)) (λ image. IsTrue (descriptions.is_record left.files home.its.source image))
    (λ image holds. subst (λ (fields : List Field). ((length image == layout.record_length fields) && is_some (record_held fields image)) ≡ true) (sym home.fields)
    (record-test (fields_of home.file) image holds)) images (hold home.file home.owns))
