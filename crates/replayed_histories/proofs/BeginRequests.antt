-- STRJRNPF: the journal tells how many slots the member has, and then each record that stands there.
use Rattle.std.proofs.Common.{◌≡◌, ℕ, zero, suc, ◌+◌, ◌-◌, ◌*◌, ◌<◌, ◌≤◌, ◌==◌, ◌&&◌, nat_lt, Bool, true, false, cond, Option, Some, None, is_some, Ok, List, [], ◌∷◌, ◌++◌, map, length, replicate, unwrap_or, refl, sym, ap, ◌∙◌, subst, arith}
use Rattle.std.specs.List.{AllByRecursion, find}
use Rattle.std.specs.Option.{option_and_then, option_map}
use Rattle.std.proofs.lemmas.Bool.{and_from, eqb-true}
use Rattle.std.proofs.lemmas.Bool.Decides.{nat_tests}
use Rattle.std.proofs.lemmas.List.Elements.{All-from_recursion}
use Rattle.entry_codec.specs.declared.entries.Entry.{Entry}
use Rattle.entry_codec.specs.declared.entries.Draft.{Draft}
use Rattle.entry_codec.specs.declared.kinds.Images.{Images}
use Rattle.entry_codec.specs.declared.kinds.EntryKind.TheVariants.{InitialSlot, JournalingStarted}
use Rattle.entry_codec.specs.Drafts.{numbered}
use Rattle.member_slots.specs.declared.slot.Slot.{Slot}
use Rattle.member_slots.specs.declared.slot.Slot.TheVariants.{Live, Deleted}
use Rattle.member_slots.specs.Member.{FitsSlot, MemberState, empty_member}
use Rattle.member_slots.specs.Members.{NumberedMembers, member_at, member_of, with_member}
use Rattle.record_fmt.specs.declared.formats.Field.{Field}
use Rattle.record_fmt.specs.Layout as layout
use Rattle.journal_model.specs.Acts.{Act, Journaled, Nothing, Stood}
use Rattle.journal_model.specs.Catalogue.{CatalogFile, is_named, member_numbered}
use Rattle.journal_model.specs.Journal.{length_in, record_length}
use Rattle.journal_model.specs.Pairs.{EndsPair}
use Rattle.journal_model.specs.Places.{put_slot}
use Rattle.journal_model.specs.Rollback.{MemberChange, of_member}
use Rattle.journal_replay.specs.Standing.{HeldMember, Standing, catalog_member, catalogue_in, member_by, standing_after}
use Rattle.library_model.specs.Named.{Named, named}
use Rattle.library_model.specs.declared.replies.Reply.TheVariants.{Done}
use Rattle.library_model.specs.declared.requests.StartJournaling.{StartJournaling}
use Rattle.restart_laws.proofs.RequestLemmas.{start-free}
use Rattle.restart_laws.proofs.ResultLemmas.{does-each}
use Rattle.lawful_states.specs.Lawful.{HoldsValues}
use Rattle.lawful_states.proofs.MemberLemmas.{HasRecords-member_of, IsThere-is_some, item_at-with_item_same, member_of-with}
use Rattle.library_steps.specs.State.{FileState, MemberStatus, State, fields_of, memory_of, with_status}
use Rattle.library_steps.specs.Change.{Change, journaled}
use Rattle.library_steps.specs.Drafts.{Author, author_of, initial_drafts, member_draft}
use Rattle.library_steps.specs.Journaling.{journaled_from, start_change, start_journaling, start_plan}
use Rattle.library_steps.specs.SlotChange.{status_among}
use Rattle.library_steps.specs.Uses.{user_of}
use Rattle.joint_state.specs.Agreed.{is_journaled}
use Rattle.joint_state.specs.Limits.{AreWithin, IsWithin}
use Rattle.joint_state.specs.Sound.{IsSound, after}
use Rattle.named_bases.specs.Sources.{descriptions}
use Rattle.replayed_histories.specs.Shown.{ShownMember, held_shown, status_shown}
use Rattle.replayed_histories.specs.Replayed.{CyclesStand, IsHeldWithin, IsReplayed, MemberStands, StandsAs}
use Rattle.replayed_histories.specs.Deposits.{MayBeDeposited}
use Rattle.replayed_histories.proofs.BackRequests.{cycles-raised}
use Rattle.replayed_histories.proofs.DepositLemmas.{replays-kept}
use Rattle.replayed_histories.proofs.EndedRequests.{fields-changed}
use Rattle.replayed_histories.proofs.FreeLemmas.{unused-free}
use Rattle.replayed_histories.proofs.GivenChanges.{counted, few-same, length-put}
use Rattle.replayed_histories.proofs.GivenEntries.{Leads, by_act, draft_by, entry-after, initial-of, leads-more, leads-none, may-deposit, started-of}
use Rattle.replayed_histories.proofs.GivenHomes.{IsHome, held-stand, homes}
use Rattle.replayed_histories.proofs.GivenMembers.{AtNumber, HeldStand, HoldsRecords, Suits, all-one, catalogued, each-one, each-two, file_fields, found-at, held-put, image-suits, images-there, library-slots, stands-as}
use Rattle.replayed_histories.proofs.MemberLemmas.{files-memberless, files-named, files-shown, members-moved, statuses_changed}
use Rattle.replayed_histories.proofs.QuietLemmas.{made, no-records}
use Rattle.replayed_histories.proofs.StatusLemmas.{among-changed, among-number, numbered-there}
use Rattle.replayed_histories.proofs.UntoldRequests.{at-other, numbers-same}

-- ---- a member that is put in place of one of its number

pub with-twice : (k : ℕ) (first second : MemberState) (members : NumberedMembers) → with_member k second (with_member k first members) ≡ with_member k second members
with-twice k first second [] = refl
with-twice k first second (entry ∷ members) = by (entry.number == k) refl (with-twice k first second members) where
  own : (k == k) ≡ true
  own = grind (arith, nat_tests)

  by : (b : Bool) → (entry.number == k) ≡ b → with_member k second (with_member k first members) ≡ with_member k second members
      → with_member k second (cond b (record { number = k; item = first } ∷ members) (entry ∷ with_member k first members))
      ≡ cond b (record { number = k; item = second } ∷ members) (entry ∷ with_member k second members)
  by true is rest = ap (λ (b : Bool). cond b (record { number = k; item = second } ∷ members) (record { number = k; item = first } ∷ with_member k second members)) own
  by false is rest =
      ap (λ (b : Bool). cond b (record { number = k; item = second } ∷ with_member k first members) (entry ∷ with_member k second (with_member k first members))) is
      ∙ ap (λ (t : NumberedMembers). entry ∷ t) rest

pub with-own : (k : ℕ) (members : NumberedMembers) → is_some (member_at k members) ≡ true → with_member k (member_of k members) members ≡ members
with-own k [] there = refl
with-own k (entry ∷ members) there = by (entry.number == k) refl there (with-own k members) where
  by : (b : Bool) → (entry.number == k) ≡ b → is_some (cond b (Some entry.item) (member_at k members)) ≡ true
      → (is_some (member_at k members) ≡ true → with_member k (member_of k members) members ≡ members)
      → cond b (record { number = k; item = unwrap_or (cond b (Some entry.item) (member_at k members)) (empty_member 0) } ∷ members)
      (entry ∷ with_member k (unwrap_or (cond b (Some entry.item) (member_at k members)) (empty_member 0)) members) ≡ entry ∷ members
  by true is there more = ap (λ (n : ℕ). record { number = n; item = entry.item } ∷ members) (sym (eqb-true entry.number k is))
  by false is there more = ap (λ (t : NumberedMembers). entry ∷ t) (more there)

-- ---- slots that are filled one after the other

abbrev pub filled : ℕ → List Slot → List Slot → List Slot
filled at [] now = now
filled at (Live image ∷ slots) now = filled (at + 1) slots (put_slot now at (Live image))
filled at (Deleted ∷ slots) now = filled (at + 1) slots now

put-behind : (front rest : List Slot) (old new : Slot) → put_slot (front ++ old ∷ rest) (length front) new ≡ (front ++ new ∷ []) ++ rest
put-behind [] rest old new = refl
put-behind (slot ∷ front) rest old new = ap (λ (t : List Slot). slot ∷ t) (put-behind front rest old new)

moved-front : (front rest : List Slot) (slot : Slot) → front ++ slot ∷ rest ≡ (front ++ slot ∷ []) ++ rest
moved-front [] rest slot = refl
moved-front (x ∷ front) rest slot = ap (λ (t : List Slot). x ∷ t) (moved-front front rest slot)

front-long : (front : List Slot) (slot : Slot) → length (front ++ slot ∷ []) ≡ length front + 1
front-long [] slot = refl
front-long (x ∷ front) slot = let rest = front-long front slot in omega (arith, rest)

pub filled-all : (slots front : List Slot) (at : ℕ) → at ≡ length front → filled at slots (front ++ replicate (length slots) Deleted) ≡ front ++ slots
filled-all [] front at is = refl
filled-all (Live image ∷ slots) front at is =
    ap (λ (now : List Slot). filled (at + 1) slots now)
    (ap (λ (n : ℕ). put_slot (front ++ Deleted ∷ replicate (length slots) Deleted) n (Live image)) is ∙ put-behind front (replicate (length slots) Deleted) Deleted (Live image))
    ∙ filled-all slots (front ++ Live image ∷ []) (at + 1) (let long = front-long front (Live image) in omega (arith, is, long)) ∙ sym (moved-front front slots (Live image))
filled-all (Deleted ∷ slots) front at is =
    ap (λ (now : List Slot). filled (at + 1) slots now) (moved-front front (replicate (length slots) Deleted) Deleted)
    ∙ filled-all slots (front ++ Deleted ∷ []) (at + 1) (let long = front-long front Deleted in omega (arith, is, long)) ∙ sym (moved-front front slots Deleted)

deleted-hold : (P : Slot → Type 0) → P Deleted → (n : ℕ) → AllByRecursion P (replicate n Deleted)
deleted-hold P none zero = tt
deleted-hold P none (suc n) = (none, deleted-hold P none n)

length-deleted : (n : ℕ) → length (replicate n Deleted) ≡ n
length-deleted zero = refl
length-deleted (suc n) = ap (λ (k : ℕ). suc k) (length-deleted n)

pub length-by : (left : Standing) (o : Option CatalogFile) → length_in descriptions (catalogue_in left) o ≡ layout.record_length (file_fields left.files o)
length-by left None = refl
length-by left (Some file) = refl

within-of : (k : ℕ) (members : NumberedMembers) → is_some (member_at k members) ≡ true → AreWithin members → IsWithin (member_of k members)
within-of k [] there all = absurd cc
within-of k (entry ∷ members) there all =
    elim (entry.number == k) as (λ b. is_some (cond b (Some entry.item) (member_at k members)) ≡ true → IsWithin (unwrap_or (cond b (Some entry.item) (member_at k members)) (empty_member 0))) [
      | true ↦ λ t. all.0
      | false ↦ λ t. within-of k members t all.1
    ] there

-- ---- the member

module _ (s : State) (sound : IsSound s) (r : IsReplayed s) (job timestamp : ℕ) (images : Images) (number : ℕ) (there : is_some (member_at number s.members) ≡ true)
    (free : user_of number (memory_of s) ≡ None) where
  abbrev by : Author
  by = author_of (memory_of s) job timestamp

  abbrev slots : List Slot
  slots = (member_of number s.members).slots

  abbrev with_slots : List Slot → MemberState
  with_slots now = record (member_of number s.members) { slots = now }

  abbrev members_with : List Slot → NumberedMembers
  members_with now = with_member number (with_slots now) s.members

  abbrev change : MemberStatus → MemberStatus
  change = journaled_from ((memory_of s).last_entry + 1) images

  abbrev g : MemberStatus → MemberStatus
  g st = cond (st.number == number) (change st) st

  abbrev files : Named FileState
  files = map (statuses_changed g) s.files

  abbrev begins : Act
  begins = Journaled images (length slots)

  abbrev f : HeldMember → HeldMember
  f m = by_act number begins r.left.next m

  abbrev k : ShownMember → ShownMember
  k shown = cond (number == shown.number) (record shown { images = Some images }) shown

  turned : (a b : ℕ) → (a == b) ≡ (b == a)
  turned a b = grind (arith, nat_tests)

  g-number : (st : MemberStatus) → (g st).number ≡ st.number
  g-number st = elim (st.number == number) as (λ b. (cond b (change st) st).number ≡ st.number) [ true ↦ refl | false ↦ refl ]

  f-shown : (m : HeldMember) → held_shown (f m) ≡ k (held_shown m)
  f-shown m =
      elim (number == m.number) as (λ b. held_shown (member_by (cond b begins Nothing) r.left.next m) ≡ cond b (record (held_shown m) { images = Some images }) (held_shown m))
      [ true ↦ refl | false ↦ refl ]

  g-shown : (name : List ℕ) (st : MemberStatus) → status_shown (name, g st) ≡ k (status_shown (name, st))
  g-shown name st =
      elim (st.number == number) as (λ b. status_shown (name, cond b (change st) st) ≡ cond b (record (status_shown (name, st)) { images = Some images }) (status_shown (name, st)))
      [ true ↦ refl | false ↦ refl ]
      ∙ ap (λ (b : Bool). cond b (record (status_shown (name, st)) { images = Some images }) (status_shown (name, st))) (turned st.number number)

  members-then : (now : List Slot) → member_of number (members_with now) ≡ with_slots now
  members-then now = member_of-with number (with_slots now) s.members there

  there-then : (now : List Slot) → is_some (member_at number (members_with now)) ≡ true
  there-then now = ap is_some (item_at-with_item_same number (with_slots now) s.members there)

  -- the status of the member then
  found-own : (m : HeldMember) (old : MemberStands s.files s.members m) → (number == m.number) ≡ true → status_among m.number files ≡ Some (change old.status)
  found-own m old is =
      let same : number ≡ m.number = eqb-true number m.number is in
      let here : old.status.number ≡ m.number = among-number m.number s.files old.status old.found in
      let one : (old.status.number == number) ≡ true = grind (arith, nat_tests, here, same) in
      among-changed g g-number m.number s.files ∙ ap (option_map g) old.found ∙ ap (λ (b : Bool). Some (cond b (change old.status) old.status)) one

  -- the journal keeps its images
  on : is_journaled number files ≡ true
  on =
      let found = numbered-there number r.left.members s.members r.stands.numbers there in
      found-at number (λ c. is_journaled number files ≡ true) r.left.members
      (all-one (MemberStands s.files s.members) (AtNumber number (λ m. is_journaled number files ≡ true)) r.left.members
      (λ m old is.
      subst (λ (n : ℕ). is_journaled n files ≡ true) (sym (eqb-true number m.number is))
      (ap (λ (o : Option MemberStatus). is_some (option_and_then (λ (status : MemberStatus). status.images) o)) (found-own m old is)))
      r.stands.slots) found.0 found.1

  -- ---- the entry that begins it

  abbrev none : List Slot
  none = replicate (length slots) Deleted

  stands-then : (m : HeldMember) → MemberStands s.files s.members m → MemberStands files (members_with none) (f m)
  stands-then m old = at (number == m.number) refl where
    at : (b : Bool) → (number == m.number) ≡ b → MemberStands files (members_with none) (member_by (cond b begins Nothing) r.left.next m)
    at true is = record {
      counted = old.counted;
      status = change old.status;
      found = found-own m old is;
      images = refl;
      journaled = λ some. sym (subst (λ (n : ℕ). (member_of n (members_with none)).slots ≡ none) (eqb-true number m.number is) (ap (λ (x : MemberState). x.slots) (members-then none)));
      ended = λ off. absurd cc;
    }
    at false is =
        let here : old.status.number ≡ m.number = among-number m.number s.files old.status old.found in
        let other : (old.status.number == number) ≡ false = grind (arith, nat_tests, here, is) in
        let same : (member_of m.number s.members).slots ≡ (member_of m.number (members_with none)).slots =
        ap (λ (o : Option MemberState). (unwrap_or o (empty_member 0)).slots) (sym (at-other m.number number (with_slots none) s.members is))
        in
        record {
          counted = old.counted;
          status = old.status;
          found = among-changed g g-number m.number s.files ∙ ap (option_map g) old.found ∙ ap (λ (b : Bool). Some (cond b (change old.status) old.status)) other;
          images = old.images;
          journaled = λ some. old.journaled some ∙ same;
          ended = λ off. record { records_then = (old.ended off).records_then; unchanged = λ so. (old.ended off).unchanged so ∙ same };
        }

  limits : IsWithin (member_of number s.members)
  limits = within-of number s.members there sound.within

  -- its records are as long as the journal has them
  long-of : (m : HeldMember) → IsHome r.left.files s.files m → (number == m.number) ≡ true
      → record_length descriptions (catalogue_in r.left) (catalog_member m) ≡ (member_of number s.members).record_length
  long-of m home is =
      let has = HasRecords-member_of (fields_of home.file) m.number s.members (sound.library.members m.file home.file m.number home.owns) in
      length-by r.left (find (is_named m.file) r.left.files) ∙ ap layout.record_length home.fields ∙ sym has.long
      ∙ ap (λ (n : ℕ). (member_of n s.members).record_length) (sym (eqb-true number m.number is))

  within-then : (m : HeldMember) → IsHome r.left.files s.files m → IsHeldWithin r.left m → IsHeldWithin r.left (f m)
  within-then m home old = at (number == m.number) refl where
    at : (b : Bool) → (number == m.number) ≡ b → IsHeldWithin r.left (member_by (cond b begins Nothing) r.left.next m)
    at true is =
        let few : length slots ≤ 1000000 = limits.few in
        let small : length slots * (member_of number s.members).record_length ≤ 268435456 = limits.small in
        record {
          records = All-from_recursion (FitsSlot (record_length descriptions (catalogue_in r.left) (catalog_member m))) none
              (deleted-hold (FitsSlot (record_length descriptions (catalogue_in r.left) (catalog_member m))) tt (length slots));
          slots = subst (λ (n : ℕ). n ≤ 1000000) (sym (length-deleted (length slots))) few;
          bytes = subst (λ (n : ℕ). n * record_length descriptions (catalogue_in r.left) (catalog_member m) ≤ 268435456) (sym (length-deleted (length slots)))
              (subst (λ (n : ℕ). length slots * n ≤ 268435456) (sym (long-of m home is)) small);
        }
    at false is = old

  records-then : (m : HeldMember) → HoldsRecords r.left.files m → HoldsRecords r.left.files (f m)
  records-then m old = at (number == m.number) where
    at : (b : Bool) → HoldsRecords r.left.files (member_by (cond b begins Nothing) r.left.next m)
    at true = λ some. deleted-hold (Suits r.left.files m.file) tt (length slots)
    at false = old

  numbers-then : (held : List HeldMember) → map (λ (m : HeldMember). m.number) (map f held) ≡ map (λ (m : HeldMember). m.number) held
  numbers-then [] = refl
  numbers-then (m ∷ held) = ap (λ (t : List ℕ). m.number ∷ t) (numbers-then held)

  abbrev first : Standing
  first = made (r.left.next + 1) None r.left.files (map f r.left.members) r.left.next_member r.left.cycles r.left.undos

  first-stands : HeldStand first files (members_with none) s.next_member
  first-stands =
      let old = held-stand s sound.library r in
      record {
        files_are = r.stands.files_are ∙ sym (files-shown g s.files);
        described = r.stands.described ∙ sym (files-memberless g s.files);
        fields_are = fields-changed g r.left.files s.files r.stands.fields_are;
        members_are = members-moved f g k (λ m. refl) f-shown g-shown r.left.members s.files r.stands.members_are;
        homes = each-one f (λ (m : HeldMember). is_some (named m.file s.files) ≡ true) (λ (m : HeldMember). is_some (named m.file files) ≡ true) r.left.members
            (λ m home. sym (files-named g m.file s.files) ∙ home) r.stands.homes;
        numbers = numbers-then r.left.members ∙ r.stands.numbers ∙ sym (numbers-same number (with_slots none) s.members);
        next_is = r.stands.next_is;
        slots = each-one f (MemberStands s.files s.members) (MemberStands files (members_with none)) r.left.members stands-then r.stands.slots;
        within = each-two f (IsHome r.left.files s.files) (IsHeldWithin r.left) (IsHeldWithin r.left) r.left.members within-then (homes s sound.library r) r.journal.within;
        records = each-one f (HoldsRecords r.left.files) (HoldsRecords r.left.files) r.left.members records-then old.records;
      }

  undone : of_member number r.left.undos ≡ []
  undone = unused-free s r number free

  first-after : standing_after (numbered (member_draft by number (JournalingStarted images (length slots))) r.left.next) r.left ≡ first
  first-after = entry-after r.left (Some by.job) by.moment None number None (JournalingStarted images (length slots)) (started-of images (length slots)) begins refl

  counted-number : 1 ≤ number
  counted-number = counted first files (members_with none) s.next_member first-stands number on (there-then none)

  number-present : nat_lt 0 number ≡ true
  number-present = let counted = counted-number in grind (arith, nat_tests, counted)

  first-may : MayBeDeposited r.left (numbered (member_draft by number (JournalingStarted images (length slots))) r.left.next)
  first-may =
      may-deposit r.left (Some by.job) by.moment None number None (JournalingStarted images (length slots)) (started-of images (length slots)) begins refl
      (numbered-there number r.left.members s.members r.stands.numbers there) undone tt
      (subst (λ (o : Option Entry). EndsPair o (numbered (member_draft by number (JournalingStarted images (length slots))) r.left.next)) (sym r.whole) refl)
      (no-records (catalogue_in r.left) (member_numbered (Some number) (catalogue_in r.left))) first-stands.within (ap (λ (b : Bool). b && true) number-present) (λ of. absurd cc)

  -- ---- each record that stands there

  pub record IsFilling (now : List Slot) (left : Standing) : Type 0 where
    pub stands : HeldStand left files (members_with now) s.next_member
    pub whole : left.begun ≡ None
    pub cycles : left.cycles ≡ r.left.cycles
    pub undos : left.undos ≡ r.left.undos
    pub older : r.left.next ≤ left.next

  abbrev AllSuit : List Slot → Standing → Type 0
  AllSuit all left = AllByRecursion (λ (slot : Slot). AllByRecursion (AtNumber number (λ m. Suits left.files m.file slot)) left.members) all

  module _ (at : ℕ) (image : List ℕ) (now : List Slot) (left : Standing) (fills : IsFilling now left) (within : at < length now)
      (suits : AllByRecursion (AtNumber number (λ m. Suits left.files m.file (Live image))) left.members) where
    abbrev next_slots : List Slot
    next_slots = put_slot now at (Live image)

    abbrev stood : Act
    stood = Stood at image

    abbrev d : Draft
    d = draft_by (Some by.job) by.moment None number (Some (at + 1)) (InitialSlot image)

    abbrev later : Standing
    later = made (left.next + 1) None left.files (map (by_act number stood left.next) left.members) left.next_member left.cycles left.undos

    reads : ◌≡◌ {A = Act} (Stood (at + 1 - 1) image) stood
    reads = ap (λ (n : ℕ). Stood n image) (let same : at + 1 - 1 ≡ at = omega arith in same)

    its-slots : (member_of number (members_with now)).slots ≡ now
    its-slots = ap (λ (x : MemberState). x.slots) (members-then now)

    put : (with_slots next_slots).slots ≡ put_slot (member_of number (members_with now)).slots at (Live image)
    put = ap (λ (xs : List Slot). put_slot xs at (Live image)) (sym its-slots)

    long : length next_slots ≡ length (member_of number (members_with now)).slots
    long = length-put now at (Live image) within ∙ ap (λ (xs : List Slot). length xs) (sym its-slots)

    later-stands : HeldStand later files (members_with next_slots) s.next_member
    later-stands =
        subst (λ (ms : NumberedMembers). HeldStand later files ms s.next_member) (with-twice number (with_slots now) (with_slots next_slots) s.members)
        (held-put left files (members_with now) s.next_member fills.stands number on (there-then now) stood left.next at (Live image) (with_slots next_slots) (λ o. refl) (λ xs. refl) put suits
        (few-same left files (members_with now) s.next_member fills.stands number on (there-then now) (with_slots next_slots) long) (left.next + 1) None left.cycles left.undos)

    slot-after : standing_after (numbered d left.next) left ≡ later
    slot-after = entry-after left (Some by.job) by.moment None number (Some (at + 1)) (InitialSlot image) (initial-of image) stood reads

    free_then : of_member number left.undos ≡ []
    free_then = ap (of_member number) fills.undos ∙ undone

    slot-may : MayBeDeposited left (numbered d left.next)
    slot-may =
        may-deposit left (Some by.job) by.moment None number (Some (at + 1)) (InitialSlot image) (initial-of image) stood reads
        (catalogued left files (members_with now) s.next_member fills.stands number on (there-then now))
        (record {
          free = free_then;
          there = subst (λ (xs : List Slot). at < length xs) (sym (library-slots left files (members_with now) s.next_member fills.stands number on (there-then now) ∙ its-slots)) within;
        })
        tt (subst (λ (o : Option Entry). EndsPair o (numbered d left.next)) (sym fills.whole) refl) (image-suits left number image suits) later-stands.within
        (let place : nat_lt 0 (at + 1) ≡ true = grind (arith, nat_tests) in and_from (nat_lt 0 number) (nat_lt 0 (at + 1)) number-present place)
        (λ of. images-there left files (members_with now) s.next_member fills.stands number on (there-then now))

    later-fills : IsFilling next_slots later
    later-fills = record { stands = later-stands; whole = refl; cycles = fills.cycles; undos = fills.undos; older = let old = fills.older in omega (arith, old) }

    later-suits : (all : List Slot) → AllSuit all left → AllSuit all later
    later-suits all suit =
        all-one (λ (slot : Slot). AllByRecursion (AtNumber number (λ m. Suits left.files m.file slot)) left.members)
        (λ (slot : Slot). AllByRecursion (AtNumber number (λ m. Suits left.files m.file slot)) later.members) all
        (λ slot its. each-one (by_act number stood left.next) (AtNumber number (λ m. Suits left.files m.file slot)) (AtNumber number (λ m. Suits left.files m.file slot)) left.members
        (λ m own. own) its)
        suit

  fill-leads : (all : List Slot) (at : ℕ) (now : List Slot) (left : Standing) → at + length all ≤ length now → IsFilling now left → AllSuit all left
      → Leads left (initial_drafts by number (at + 1) all) (IsFilling (filled at all now))
  fill-leads [] at now left within fills suits = leads-none left (IsFilling now) fills
  fill-leads (Live image ∷ all) at now left within fills suits =
      let here : at < length now = omega (arith, within) in
      let same = length-put now at (Live image) here in
      leads-more left (draft_by (Some by.job) by.moment None number (Some (at + 1)) (InitialSlot image)) (initial_drafts by number (at + 1 + 1) all)
      (IsFilling (filled (at + 1) all (put_slot now at (Live image)))) (slot-may at image now left fills here suits.0)
      (subst (λ (l : Standing). Leads l (initial_drafts by number (at + 1 + 1) all) (IsFilling (filled (at + 1) all (put_slot now at (Live image)))))
      (sym (slot-after at image now left fills here suits.0))
      (fill-leads all (at + 1) (put_slot now at (Live image)) (later at image now left fills here suits.0) (omega (arith, within, same))
      (later-fills at image now left fills here suits.0) (later-suits at image now left fills here suits.0 all suits.1)))
  fill-leads (Deleted ∷ all) at now left within fills suits = fill-leads all (at + 1) now left (omega (arith, within)) fills suits.1

  -- ---- the library then

  pub record IsStarted (left : Standing) : Type 0 where
    pub stands : StandsAs left files s.members s.next_member s.jobs
    pub whole : left.begun ≡ None

  first-suits : AllSuit slots first
  first-suits = all-slots slots (λ m home is.
      let has = HasRecords-member_of (fields_of home.file) m.number s.members (sound.library.members m.file home.file m.number home.owns) in
      subst (λ (n : ℕ). AllByRecursion (Suits r.left.files m.file) (member_of n s.members).slots) (sym (eqb-true number m.number is))
      (subst (λ (fields : List Field). AllByRecursion (HoldsValues fields) (member_of m.number s.members).slots) (sym home.fields) has.values))
    where
      all-slots : (all : List Slot) → ((m : HeldMember) → IsHome r.left.files s.files m → (number == m.number) ≡ true → AllByRecursion (Suits r.left.files m.file) all) → AllSuit all first
      all-slots [] each = tt
      all-slots (slot ∷ all) each = (
        each-one f (IsHome r.left.files s.files) (AtNumber number (λ m. Suits r.left.files m.file slot)) r.left.members (λ m home is. (each m home is).0) (homes s sound.library r),
        all-slots all (λ m home is. (each m home is).1),
      )

  started-is : (left : Standing) → IsFilling slots left → IsStarted left
  started-is left fills = record {
    stands = stands-as left files s.members s.next_member s.jobs
        (subst (λ (ms : NumberedMembers). HeldStand left files ms s.next_member) (with-own number s.members there) fills.stands)
        (subst (λ (cs : List ℕ). CyclesStand left.next cs left.undos s.jobs) (sym fills.cycles)
        (subst (λ (us : List MemberChange). CyclesStand left.next r.left.cycles us s.jobs) (sym fills.undos)
        (cycles-raised r.left.next left.next r.left.cycles r.left.undos s.jobs fills.older r.stands.cycles_are)));
    whole = fills.whole;
  }

  all-filled : filled 0 slots none ≡ slots
  all-filled = filled-all slots [] 0 refl

  pub started-replayed : IsReplayed (after s (journaled (member_draft by number (JournalingStarted images (length slots)) ∷ initial_drafts by number 1 slots) true Done
      (with_status number change (memory_of s))))
  started-replayed =
      let rest : Leads first (initial_drafts by number 1 slots) (IsFilling (filled 0 slots none)) =
      fill-leads slots 0 none first (let long = length-deleted (length slots) in omega (arith, long))
      (record { stands = first-stands; whole = refl; cycles = refl; undos = refl; older = omega arith }) first-suits
      in
      let begins-with = leads-more r.left (member_draft by number (JournalingStarted images (length slots))) (initial_drafts by number 1 slots) (IsFilling (filled 0 slots none)) first-may
      (subst (λ (l : Standing). Leads l (initial_drafts by number 1 slots) (IsFilling (filled 0 slots none))) (sym first-after) rest)
      in
      let so = started-is begins-with.to (subst (λ (now : List Slot). IsFilling now begins-with.to) all-filled begins-with.so) in
      replays-kept s r (member_draft by number (JournalingStarted images (length slots)) ∷ initial_drafts by number 1 slots) true Done (with_status number change (memory_of s))
      begins-with.to refl r.checkpoint refl begins-with.leave so.whole so.stands

pub start_journaling-replayed : (s : State) (sound : IsSound s) (r : IsReplayed s) (job timestamp : ℕ) (args : StartJournaling) (done : Change)
    → start_journaling (memory_of s) job timestamp args ≡ Ok done → IsReplayed (after s done)
start_journaling-replayed s sound r job timestamp args done h =
    does-each (start_change (memory_of s) job timestamp args) (start_plan (memory_of s) args) done (λ c. IsReplayed (after s c)) h
    (λ status is.
    let free = start-free s args status sound is in
    started-replayed s sound r job timestamp args.images status.number (IsThere-is_some (fields_of free.file) (member_at status.number s.members)
    (sound.library.members free.name free.file status.number free.has.owns)) free.unused)
