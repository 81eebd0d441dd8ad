-- Members that the journal leaves beside those of the library: whose records they are, and what a slot that is put in one of them leaves.
use Rattle.std.proofs.Common.{◌≡◌, ℕ, zero, suc, ◌*◌, ◌≤◌, ◌==◌, ◌||◌, Bool, true, false, cond, Option, Some, None, is_some, IsSome, List, [], ◌∷◌, map, length, unwrap_or, refl, sym, ap, ◌∙◌, subst, arith}
use Rattle.std.specs.List.{All, AllByRecursion, filter, find}
use Rattle.std.specs.Option.{option_and_then}
use Rattle.std.specs.Str.{bytes_eq}
use Rattle.std.proofs.lemmas.Bool.{and_from, eq-eqb, eqb-true}
use Rattle.std.proofs.lemmas.Bool.Decides.{nat_tests}
use Rattle.std.proofs.lemmas.List.Elements.{All-from_recursion, recursion_from_All}
use Rattle.entry_codec.specs.declared.entries.Entry.{Entry}
use Rattle.entry_codec.specs.declared.kinds.FileKind.TheVariants.{Physical}
use Rattle.entry_codec.specs.declared.kinds.Images.{Images}
use Rattle.member_slots.specs.declared.slot.Slot.{Slot}
use Rattle.member_slots.specs.declared.slot.Slot.TheVariants.{Live, Deleted}
use Rattle.member_slots.specs.Member.{FitsSlot, MemberState, empty_member}
use Rattle.member_slots.specs.Members.{NumberedMembers, member_at, member_of, with_member}
use Rattle.record_fmt.specs.declared.formats.Field.{Field}
use Rattle.record_fmt.specs.Layout as layout
use Rattle.record_fmt.specs.Records.{record_held}
use Rattle.journal_model.specs.Acts.{Act, Nothing}
use Rattle.journal_model.specs.Catalogue.{CatalogFile, CatalogMember, has_number as is_numbered, is_named, member_numbered}
use Rattle.journal_model.specs.Images.{AreRecords, AreRecordsOf}
use Rattle.journal_model.specs.Journal.{OfMember, length_in, record_length}
use Rattle.journal_model.specs.Places.{put_slot, slot_of}
use Rattle.journal_model.specs.Replay.{moved}
use Rattle.journal_model.specs.Rollback.{MemberChange}
use Rattle.journal_replay.specs.Left.{is_held}
use Rattle.journal_replay.specs.Standing.{HeldMember, Standing, catalog_member, catalogue_in, images_by, member_by, slots_at}
use Rattle.library_model.specs.Named.{Named, named}
use Rattle.restart_laws.proofs.FieldLemmas.{FitsSlot-held, length-record}
use Rattle.lawful_states.specs.Lawful.{HoldsValues}
use Rattle.lawful_states.proofs.MemberLemmas.{member_of-with}
use Rattle.library_steps.specs.State.{FileState, JobState, MemberStatus, fields_of}
use Rattle.joint_state.specs.Agreed.{is_journaled}
use Rattle.named_bases.specs.Sources.{descriptions, described_files, fields_beside}
use Rattle.replayed_histories.specs.Shown.{ShownMember, ShowsMembers, catalog_shown, file_shown, held_shown, is_held_in, kind_in, memberless}
use Rattle.replayed_histories.specs.Replayed.{CyclesStand, IsHeldWithin, MemberStands, StandsAs}
use Rattle.replayed_histories.proofs.GivenEntries.{by_act}
use Rattle.replayed_histories.proofs.QuietLemmas.{made}
use Rattle.replayed_histories.proofs.StatusLemmas.{numbered-there}
use Rattle.replayed_histories.proofs.UntoldRequests.{at-other, numbers-same}

-- ---- what holds of each

pub each-two : (f : HeldMember → HeldMember) (P Q R : HeldMember → Type 0) (xs : List HeldMember) → ((m : HeldMember) → P m → Q m → R (f m)) → AllByRecursion P xs → AllByRecursion Q xs
    → AllByRecursion R (map f xs)
each-two f P Q R [] each ps qs = tt
each-two f P Q R (m ∷ xs) each ps qs = (each m ps.0 qs.0, each-two f P Q R xs each ps.1 qs.1)

pub all-two : {X : Type 0} (P Q R : X → Type 0) (xs : List X) → ((x : X) → P x → Q x → R x) → AllByRecursion P xs → AllByRecursion Q xs → AllByRecursion R xs
all-two P Q R [] each ps qs = tt
all-two P Q R (x ∷ xs) each ps qs = (each x ps.0 qs.0, all-two P Q R xs each ps.1 qs.1)

pub all-one : {X : Type 0} (P R : X → Type 0) (xs : List X) → ((x : X) → P x → R x) → AllByRecursion P xs → AllByRecursion R xs
all-one P R [] each ps = tt
all-one P R (x ∷ xs) each ps = (each x ps.0, all-one P R xs each ps.1)

pub each-one : (f : HeldMember → HeldMember) (P R : HeldMember → Type 0) (xs : List HeldMember) → ((m : HeldMember) → P m → R (f m)) → AllByRecursion P xs → AllByRecursion R (map f xs)
each-one f P R [] each ps = tt
each-one f P R (m ∷ xs) each ps = (each m ps.0, each-one f P R xs each ps.1)

-- of the members with this number
abbrev pub AtNumber : ℕ → (HeldMember → Type 0) → HeldMember → Type 0
AtNumber k P m = (k == m.number) ≡ true → P m

turned : (a b : ℕ) → (a == b) ≡ (b == a)
turned a b = grind (arith, nat_tests)

pub some-is : {A : Type 0} (o : Option A) → is_some o ≡ true → IsSome o
some-is None there = absurd cc
some-is (Some a) there = refl

-- ---- the member that the catalogue finds

pub found-at : (k : ℕ) (P : CatalogMember → Type 0) (held : List HeldMember) → AllByRecursion (AtNumber k (λ m. P (catalog_member m))) held → (c : CatalogMember)
    → find (is_numbered (Some k)) (map catalog_member held) ≡ Some c → P c
found-at k P [] all c h = absurd cc
found-at k P (m ∷ held) all c h = by (k == m.number) refl h (λ rest. found-at k P held all.1 c rest) where
  by : (b : Bool) → (k == m.number) ≡ b → cond b (Some (catalog_member m)) (find (is_numbered (Some k)) (map catalog_member held)) ≡ Some c
      → (find (is_numbered (Some k)) (map catalog_member held) ≡ Some c → P c) → P c
  by true is h more = let e : catalog_member m ≡ c = cc in subst P e (all.0 is)
  by false is h more = more h

pub of-member : (P : CatalogMember → Type 0) (o : Option CatalogMember) → ((c : CatalogMember) → o ≡ Some c → P c) → OfMember o P
of-member P None each = tt
of-member P (Some c) each = each c refl

records-of : (left : Standing) (images : List (List ℕ)) (o : Option CatalogMember)
    → ((c : CatalogMember) → o ≡ Some c → AreRecords descriptions left.files (find (is_named c.file) left.files) images) → AreRecordsOf descriptions (catalogue_in left) o images
records-of left images None each = tt
records-of left images (Some c) each = each c refl

-- ---- slots that hold records of the member's file

abbrev pub file_fields : List CatalogFile → Option CatalogFile → List Field
file_fields catalog None = []
file_fields catalog (Some file) = fields_beside catalog file.source

abbrev pub Suits : List CatalogFile → (name : List ℕ) → Slot → Type 0
Suits catalog name slot = HoldsValues (file_fields catalog (find (is_named name) catalog)) slot

suits-records : (catalog : List CatalogFile) (image : List ℕ) (o : Option CatalogFile) → HoldsValues (file_fields catalog o) (Live image) → AreRecords descriptions catalog o (image ∷ [])
suits-records catalog image None holds = tt
suits-records catalog image (Some file) holds =
    let fields = fields_beside catalog file.source in (
      and_from (length image == layout.record_length fields) (is_some (record_held fields image)) (eq-eqb (length image) (layout.record_length fields) (length-record fields image holds)) holds,
      tt,
    )

suits-fits : (left : Standing) (slot : Slot) (o : Option CatalogFile) → HoldsValues (file_fields left.files o) slot → FitsSlot (length_in descriptions (catalogue_in left) o) slot
suits-fits left slot None holds = FitsSlot-held [] slot holds
suits-fits left slot (Some file) holds = FitsSlot-held (fields_beside left.files file.source) slot holds

-- an image that suits each member with the number is a record of the one that the catalogue finds
pub image-suits : (left : Standing) (k : ℕ) (image : List ℕ) → AllByRecursion (AtNumber k (λ m. Suits left.files m.file (Live image))) left.members
    → AreRecordsOf descriptions (catalogue_in left) (member_numbered (Some k) (catalogue_in left)) (image ∷ [])
image-suits left k image suits =
    records-of left (image ∷ []) (member_numbered (Some k) (catalogue_in left))
    (λ c found. suits-records left.files image (find (is_named c.file) left.files) (found-at k (λ m. Suits left.files m.file (Live image)) left.members suits c found))

-- where images are kept of it
abbrev pub HoldsRecords : List CatalogFile → HeldMember → Type 0
HoldsRecords catalog m = is_some m.images ≡ true → AllByRecursion (Suits catalog m.file) m.slots

-- ---- what stands, but for commit cycles

pub record HeldStand (left : Standing) (files : Named FileState) (members : NumberedMembers) (next_member : ℕ) : Type 0 where
  pub files_are : map catalog_shown left.files ≡ map file_shown files
  pub described : described_files left.files ≡ map memberless files
  pub fields_are : AllByRecursion (λ (entry : List ℕ × FileState). kind_in entry.1.spec ≡ Physical → fields_beside left.files entry.1.source ≡ fields_of entry.1) files
  pub members_are : AllByRecursion (ShowsMembers left.members) files
  pub homes : AllByRecursion (λ (m : HeldMember). is_some (named m.file files) ≡ true) left.members
  pub numbers : map (λ (m : HeldMember). m.number) left.members ≡ map (λ entry. entry.number) members
  pub next_is : left.next_member ≡ next_member
  pub slots : AllByRecursion (MemberStands files members) left.members
  pub within : AllByRecursion (IsHeldWithin left) left.members
  pub records : AllByRecursion (HoldsRecords left.files) left.members

pub stands-as : (left : Standing) (files : Named FileState) (members : NumberedMembers) (next_member : ℕ) (jobs : List JobState) → HeldStand left files members next_member
    → CyclesStand left.next left.cycles left.undos jobs → StandsAs left files members next_member jobs
stands-as left files members next_member jobs stands cycles = record {
  files_are = stands.files_are;
  described = stands.described;
  fields_are = stands.fields_are;
  members_are = stands.members_are;
  homes = stands.homes;
  numbers = stands.numbers;
  next_is = stands.next_is;
  slots = stands.slots;
  cycles_are = cycles;
}

-- after an entry that does nothing to files and members
pub held-same : (left : Standing) (next : ℕ) (begun : Option Entry) (cycles : List ℕ) (undos : List MemberChange) (files : Named FileState) (members : NumberedMembers) (next_member : ℕ)
    → HeldStand left files members next_member → HeldStand (made next begun left.files left.members left.next_member cycles undos) files members next_member
held-same left next begun cycles undos files members next_member stands = record {
  files_are = stands.files_are;
  described = stands.described;
  fields_are = stands.fields_are;
  members_are = stands.members_are;
  homes = stands.homes;
  numbers = stands.numbers;
  next_is = stands.next_is;
  slots = stands.slots;
  within = stands.within;
  records = stands.records;
}

-- ---- journaled members have the slots that they have in the library

pub journaled-stands : (files : Named FileState) (members : NumberedMembers) (k : ℕ) → is_journaled k files ≡ true → (m : HeldMember) → MemberStands files members m → (k == m.number) ≡ true
    → (is_some m.images ≡ true) × (m.slots ≡ (member_of k members).slots)
journaled-stands files members k on m stands is =
    let same : k ≡ m.number = eqb-true k m.number is in
    let some : is_some m.images ≡ true =
    ap is_some stands.images
    ∙ sym (ap (λ (o : Option MemberStatus). is_some (option_and_then (λ (status : MemberStatus). status.images) o)) stands.found)
    ∙ subst (λ (n : ℕ). is_journaled n files ≡ true) same on
    in
    (some, stands.journaled some ∙ ap (λ (n : ℕ). (member_of n members).slots) (sym same))

slots-such : (k : ℕ) (slots : List Slot) (held : List HeldMember) → is_held k held ≡ true → AllByRecursion (AtNumber k (λ m. m.slots ≡ slots)) held → slots_at k held ≡ slots
slots-such k slots [] there all = absurd cc
slots-such k slots (m ∷ held) there all = by (m.number == k) refl there (λ rest. slots-such k slots held rest all.1) where
  by : (b : Bool) → (m.number == k) ≡ b → (b || is_held k held) ≡ true → (is_held k held ≡ true → slots_at k held ≡ slots) → cond b m.slots (slots_at k held) ≡ slots
  by true is there more = all.0 (turned k m.number ∙ is)
  by false is there more = more there

held-numbers : (k : ℕ) (held : List HeldMember) (members : NumberedMembers) → map (λ (m : HeldMember). m.number) held ≡ map (λ entry. entry.number) members
    → is_some (member_at k members) ≡ true → is_held k held ≡ true
held-numbers k [] [] same there = absurd cc
held-numbers k [] (entry ∷ members) same there = absurd cc
held-numbers k (m ∷ held) [] same there = absurd cc
held-numbers k (m ∷ held) (entry ∷ members) same there =
    ap (λ (n : ℕ). (n == k) || is_held k held) heads ∙ by (entry.number == k) there (λ rest. held-numbers k held members tails rest)
  where
    heads : m.number ≡ entry.number
    heads = cc

    tails : map (λ (x : HeldMember). x.number) held ≡ map (λ x. x.number) members
    tails = cc

    by : (b : Bool) → is_some (cond b (Some entry.item) (member_at k members)) ≡ true → (is_some (member_at k members) ≡ true → is_held k held ≡ true) → (b || is_held k held) ≡ true
    by true there more = refl
    by false there more = more there

module _ (left : Standing) (files : Named FileState) (members : NumberedMembers) (next_member : ℕ) (stands : HeldStand left files members next_member) (k : ℕ)
    (on : is_journaled k files ≡ true) (there : is_some (member_at k members) ≡ true) where
  pub held-there : is_held k left.members ≡ true
  held-there = held-numbers k left.members members stands.numbers there

  pub library-slots : slots_at k left.members ≡ (member_of k members).slots
  library-slots =
      slots-such k (member_of k members).slots left.members held-there
      (all-one (MemberStands files members) (AtNumber k (λ m. m.slots ≡ (member_of k members).slots)) left.members
      (λ m its is. (journaled-stands files members k on m its is).1) stands.slots)

  pub catalogued : (c : CatalogMember) × (member_numbered (Some k) (catalogue_in left) ≡ Some c)
  catalogued = numbered-there k left.members members stands.numbers there

  pub images-there : OfMember (member_numbered (Some k) (catalogue_in left)) (λ (c : CatalogMember). IsSome c.images)
  images-there =
      of-member (λ (c : CatalogMember). IsSome c.images) (member_numbered (Some k) (catalogue_in left))
      (λ c found. found-at k (λ (x : CatalogMember). IsSome x.images) left.members
      (all-one (MemberStands files members) (AtNumber k (λ m. IsSome m.images)) left.members
      (λ m its is. some-is m.images (journaled-stands files members k on m its is).0) stands.slots) c found)

  -- what stands at a place of it suits its file
  pub slot-suits : (place : ℕ) → AllByRecursion (AtNumber k (λ m. Suits left.files m.file (slot_of (member_of k members).slots place))) left.members
  slot-suits place =
      all-two (MemberStands files members) (HoldsRecords left.files) (AtNumber k (λ m. Suits left.files m.file (slot_of (member_of k members).slots place))) left.members
      (λ m its has is.
      let own = journaled-stands files members k on m its is in
      subst (λ (slots : List Slot). Suits left.files m.file (slot_of slots place)) own.1 (at m.file m.slots place (has own.0)))
      stands.slots stands.records
    where
      at : (name : List ℕ) (slots : List Slot) (place : ℕ) → AllByRecursion (Suits left.files name) slots → Suits left.files name (slot_of slots place)
      at name [] place all = tt
      at name (slot ∷ slots) zero all = all.0
      at name (slot ∷ slots) (suc place) all = at name slots place all.1

-- ---- a slot that is put

pub put-holds : (P : Slot → Type 0) → P Deleted → (slots : List Slot) (place : ℕ) (new : Slot) → P new → AllByRecursion P slots → AllByRecursion P (put_slot slots place new)
put-holds P none [] zero new p all = (p, tt)
put-holds P none [] (suc place) new p all = (none, put-holds P none [] place new p tt)
put-holds P none (slot ∷ slots) zero new p all = (p, all.1)
put-holds P none (slot ∷ slots) (suc place) new p all = (all.0, put-holds P none slots place new p all.1)

-- so many slots are within the member's limits
pub record AreFew (left : Standing) (many : ℕ) (m : HeldMember) : Type 0 where
  pub slots : many ≤ 1000000
  pub bytes : many * record_length descriptions (catalogue_in left) (catalog_member m) ≤ 268435456

module _ (left : Standing) (files : Named FileState) (members : NumberedMembers) (next_member : ℕ) (stands : HeldStand left files members next_member) (k : ℕ)
    (on : is_journaled k files ≡ true) (there : is_some (member_at k members) ≡ true) (a : Act) (sequence place : ℕ) (slot : Slot) (item : MemberState)
    (images-same : (o : Option Images) → images_by a o ≡ o) (puts : (slots : List Slot) → moved slots a ≡ put_slot slots place slot)
    (its : item.slots ≡ put_slot (member_of k members).slots place slot) (suits : AllByRecursion (AtNumber k (λ m. Suits left.files m.file slot)) left.members)
    (few : AllByRecursion (AtNumber k (AreFew left (length item.slots))) left.members) where
  abbrev f : HeldMember → HeldMember
  f = by_act k a sequence

  abbrev later : NumberedMembers
  later = with_member k item members

  f-images : (m : HeldMember) → (f m).images ≡ m.images
  f-images m = elim (k == m.number) as (λ b. images_by (cond b a Nothing) m.images ≡ m.images) [ true ↦ images-same m.images | false ↦ refl ]

  f-shown : (m : HeldMember) → held_shown (f m) ≡ held_shown m
  f-shown m = ap (λ (o : Option Images). record (held_shown m) { images = o }) (f-images m)

  shown-then : (name : List ℕ) (held : List HeldMember) → map held_shown (filter (is_held_in name) (map f held)) ≡ map held_shown (filter (is_held_in name) held)
  shown-then name [] = refl
  shown-then name (m ∷ held) = by (bytes_eq m.file name) (shown-then name held) where
    by : (b : Bool) → map held_shown (filter (is_held_in name) (map f held)) ≡ map held_shown (filter (is_held_in name) held)
        → map held_shown (cond b (f m ∷ filter (is_held_in name) (map f held)) (filter (is_held_in name) (map f held)))
        ≡ map held_shown (cond b (m ∷ filter (is_held_in name) held) (filter (is_held_in name) held))
    by true rest =
        ap (λ (h : ShownMember). h ∷ map held_shown (filter (is_held_in name) (map f held))) (f-shown m) ∙ ap (λ (t : List ShownMember). held_shown m ∷ t) rest
    by false rest = rest

  numbers-then : (held : List HeldMember) → map (λ (m : HeldMember). m.number) (map f held) ≡ map (λ (m : HeldMember). m.number) held
  numbers-then [] = refl
  numbers-then (m ∷ held) = ap (λ (t : List ℕ). m.number ∷ t) (numbers-then held)

  -- its slots then
  slots-own : (m : HeldMember) → MemberStands files members m → (k == m.number) ≡ true → put_slot m.slots place slot ≡ item.slots
  slots-own m old is = ap (λ (slots : List Slot). put_slot slots place slot) (journaled-stands files members k on m old is).1 ∙ sym its

  stands-then : (m : HeldMember) → MemberStands files members m → MemberStands files later (f m)
  stands-then m old = by (k == m.number) refl where
    by : (b : Bool) → (k == m.number) ≡ b → MemberStands files later (member_by (cond b a Nothing) sequence m)
    by true is =
        let same : k ≡ m.number = eqb-true k m.number is in
        let some = (journaled-stands files members k on m old is).0 in
        record {
          counted = old.counted;
          status = old.status;
          found = old.found;
          images = images-same m.images ∙ old.images;
          journaled = λ on. puts m.slots ∙ slots-own m old is
              ∙ ap (λ (x : MemberState). x.slots) (sym (subst (λ (n : ℕ). member_of n later ≡ item) same (member_of-with k item members there)));
          ended = λ off. absurd (let clash : ◌≡◌ {A = Bool} true false = sym some ∙ ap is_some (sym (images-same m.images)) ∙ off in cc);
        }
    by false is =
        let slots : (member_of m.number members).slots ≡ (member_of m.number later).slots =
        ap (λ (o : Option MemberState). (unwrap_or o (empty_member 0)).slots) (sym (at-other m.number k item members is))
        in
        record {
          counted = old.counted;
          status = old.status;
          found = old.found;
          images = old.images;
          journaled = λ on. old.journaled on ∙ slots;
          ended = λ off. record { records_then = (old.ended off).records_then; unchanged = λ so. (old.ended off).unchanged so ∙ slots };
        }

  abbrev Fitting : HeldMember → Type 0
  Fitting m = MemberStands files members m × AtNumber k (λ x. Suits left.files x.file slot) m × AtNumber k (AreFew left (length item.slots)) m

  fitting : AllByRecursion Fitting left.members
  fitting =
      all-two (MemberStands files members) (λ m. AtNumber k (λ x. Suits left.files x.file slot) m × AtNumber k (AreFew left (length item.slots)) m) Fitting left.members
      (λ m old both. (old, both.0, both.1)) stands.slots
      (all-two (AtNumber k (λ x. Suits left.files x.file slot)) (AtNumber k (AreFew left (length item.slots)))
      (λ m. AtNumber k (λ x. Suits left.files x.file slot) m × AtNumber k (AreFew left (length item.slots)) m) left.members (λ m x y. (x, y)) suits few)

  within-then : (m : HeldMember) → Fitting m → IsHeldWithin left m → IsHeldWithin left (f m)
  within-then m fits old = by (k == m.number) refl where
    by : (b : Bool) → (k == m.number) ≡ b → IsHeldWithin left (member_by (cond b a Nothing) sequence m)
    by true is =
        let long = record_length descriptions (catalogue_in left) (catalog_member m) in
        let same : item.slots ≡ moved m.slots a = sym (puts m.slots ∙ slots-own m fits.0 is) in
        record {
          records = subst (λ (slots : List Slot). All (FitsSlot long) slots) (sym (puts m.slots))
              (All-from_recursion (FitsSlot long) (put_slot m.slots place slot)
              (put-holds (FitsSlot long) tt m.slots place slot (suits-fits left slot (find (is_named m.file) left.files) (fits.1 is))
              (recursion_from_All (FitsSlot long) m.slots old.records)));
          slots = subst (λ (slots : List Slot). length slots ≤ 1000000) same (fits.2 is).slots;
          bytes = subst (λ (slots : List Slot). length slots * long ≤ 268435456) same (fits.2 is).bytes;
        }
    by false is = old

  records-then : (m : HeldMember) → AtNumber k (λ x. Suits left.files x.file slot) m → HoldsRecords left.files m → HoldsRecords left.files (f m)
  records-then m suit old = by (k == m.number) refl where
    by : (b : Bool) → (k == m.number) ≡ b → HoldsRecords left.files (member_by (cond b a Nothing) sequence m)
    by true is = λ on. subst (AllByRecursion (Suits left.files m.file)) (sym (puts m.slots))
        (put-holds (Suits left.files m.file) tt m.slots place slot (suit is) (old (ap is_some (sym (images-same m.images)) ∙ on)))
    by false is = old

  pub held-put : (next : ℕ) (begun : Option Entry) (cycles : List ℕ) (undos : List MemberChange)
      → HeldStand (made next begun left.files (map f left.members) left.next_member cycles undos) files later next_member
  held-put next begun cycles undos = record {
    files_are = stands.files_are;
    described = stands.described;
    fields_are = stands.fields_are;
    members_are = all-one (ShowsMembers left.members) (ShowsMembers (map f left.members)) files (λ entry shows. shown-then entry.0 left.members ∙ shows) stands.members_are;
    homes = each-one f (λ (m : HeldMember). is_some (named m.file files) ≡ true) (λ (m : HeldMember). is_some (named m.file files) ≡ true) left.members (λ m home. home) stands.homes;
    numbers = numbers-then left.members ∙ stands.numbers ∙ sym (numbers-same k item members);
    next_is = stands.next_is;
    slots = each-one f (MemberStands files members) (MemberStands files later) left.members stands-then stands.slots;
    within = each-two f Fitting (IsHeldWithin left) (IsHeldWithin left) left.members within-then fitting stands.within;
    records = each-two f (AtNumber k (λ x. Suits left.files x.file slot)) (HoldsRecords left.files) (HoldsRecords left.files) left.members records-then suits stands.records;
  }

  -- an act of the member with this number suits those that it leaves, where it did before
  pub at-number-then : (other : ℕ) (P : HeldMember → Type 0) → ((m : HeldMember) → P m → P (f m)) → AllByRecursion (AtNumber other P) left.members
      → AllByRecursion (AtNumber other P) (map f left.members)
  at-number-then other P keeps all = each-one f (AtNumber other P) (AtNumber other P) left.members (λ m its is. keeps m (its is)) all
