-- One member moves, in what the journal leaves and in the library alike: what the journal leaves still is the library.
use Rattle.std.proofs.Common.{◌≡◌, ℕ, ◌==◌, Bool, true, false, cond, Option, Some, List, [], ◌∷◌, map, unwrap_or, refl, sym, ap, ◌∙◌, subst, arith}
use Rattle.std.specs.List.{AllByRecursion}
use Rattle.std.specs.Option.{is_some, option_map}
use Rattle.std.proofs.lemmas.Bool.{eqb-true}
use Rattle.std.proofs.lemmas.Bool.Decides.{nat_tests}
use Rattle.entry_codec.specs.declared.kinds.FileKind.TheVariants.{Physical}
use Rattle.entry_codec.specs.declared.kinds.Images.{Images}
use Rattle.member_slots.specs.declared.slot.Slot.{Slot}
use Rattle.member_slots.specs.Member.{MemberState, empty_member}
use Rattle.member_slots.specs.Members.{NumberedMembers, member_at, member_of, with_member}
use Rattle.journal_model.specs.Acts.{Act, Nothing}
use Rattle.journal_model.specs.Catalogue.{CatalogFile}
use Rattle.journal_model.specs.Replay.{moved}
use Rattle.journal_replay.specs.Standing.{HeldMember, Standing, images_by, member_by}
use Rattle.library_model.specs.Named.{Named, named}
use Rattle.lawful_states.proofs.MemberLemmas.{member_of-with}
use Rattle.library_steps.specs.State.{FileState, JobState, MemberStatus, fields_of}
use Rattle.library_steps.specs.SlotChange.{status_among}
use Rattle.named_bases.specs.Sources.{described_files, fields_beside}
use Rattle.replayed_histories.specs.Shown.{ShownMember, ShowsMembers, catalog_shown, held_shown, kind_in, status_shown}
use Rattle.replayed_histories.specs.Replayed.{CyclesStand, MemberStands, StandsAs}
use Rattle.replayed_histories.proofs.EndedRequests.{fields-changed}
use Rattle.replayed_histories.proofs.MemberLemmas.{files-memberless, files-named, files-shown, members-moved, statuses_changed}
use Rattle.replayed_histories.proofs.StatusLemmas.{among-changed, among-number}
use Rattle.replayed_histories.proofs.UntoldRequests.{at-other}

-- ---- lists of members

pub each-moved : (f : HeldMember → HeldMember) (P Q : HeldMember → Type 0) (members : List HeldMember) → ((m : HeldMember) → P m → Q (f m)) → AllByRecursion P members
    → AllByRecursion Q (map f members)
each-moved f P Q [] each all = tt
each-moved f P Q (m ∷ members) each all = (each m all.0, each-moved f P Q members each all.1)

pub numbers-moved : (f : HeldMember → HeldMember) (members : List HeldMember) → ((m : HeldMember) → (f m).number ≡ m.number)
    → map (λ (m : HeldMember). m.number) (map f members) ≡ map (λ (m : HeldMember). m.number) members
numbers-moved f [] same = refl
numbers-moved f (m ∷ members) same =
    ap (λ (n : ℕ). n ∷ map (λ (x : HeldMember). x.number) (map f members)) (same m) ∙ ap (λ (t : List ℕ). m.number ∷ t) (numbers-moved f members same)

pub map-none : (members : List HeldMember) → members ≡ map (λ (m : HeldMember). m) members
map-none [] = refl
map-none (m ∷ members) = ap (λ (t : List HeldMember). m ∷ t) (map-none members)

-- ---- the library

module _ (left to : Standing) (files : Named FileState) (members members_then : NumberedMembers) (next_member : ℕ) (jobs jobs_then : List JobState)
    (stands : StandsAs left files members next_member jobs) (f : HeldMember → HeldMember) (g : MemberStatus → MemberStatus) where
  pub moved-stands : to.files ≡ left.files → to.members ≡ map f left.members → to.next_member ≡ left.next_member → ((m : HeldMember) → (f m).file ≡ m.file)
      → ((m : HeldMember) → held_shown (f m) ≡ held_shown m) → ((name : List ℕ) (status : MemberStatus) → status_shown (name, g status) ≡ status_shown (name, status))
      → ((m : HeldMember) → MemberStands files members m → MemberStands (map (statuses_changed g) files) members_then (f m))
      → map (λ entry. entry.number) members_then ≡ map (λ entry. entry.number) members → CyclesStand to.next to.cycles to.undos jobs_then
      → StandsAs to (map (statuses_changed g) files) members_then next_member jobs_then
  moved-stands files_same held_moved next_same f-file f-shown g-shown each numbers cycles = record {
    files_are = ap (map catalog_shown) files_same ∙ stands.files_are ∙ sym (files-shown g files);
    described = ap described_files files_same ∙ stands.described ∙ sym (files-memberless g files);
    fields_are = subst (λ (catalog : List CatalogFile). AllByRecursion (λ (entry : List ℕ × FileState). kind_in entry.1.spec ≡ Physical
        → fields_beside catalog entry.1.source ≡ fields_of entry.1) (map (statuses_changed g) files)) (sym files_same) (fields-changed g left.files files stands.fields_are);
    members_are = subst (λ (ms : List HeldMember). AllByRecursion (ShowsMembers ms) (map (statuses_changed g) files)) (sym held_moved)
        (members-moved f g (λ (shown : ShownMember). shown) f-file f-shown g-shown left.members files stands.members_are);
    homes = subst (AllByRecursion (λ (m : HeldMember). is_some (named m.file (map (statuses_changed g) files)) ≡ true)) (sym held_moved)
        (each-moved f (λ (m : HeldMember). is_some (named m.file files) ≡ true) (λ (m : HeldMember). is_some (named m.file (map (statuses_changed g) files)) ≡ true) left.members
        (λ m home. ap (λ (name : List ℕ). is_some (named name (map (statuses_changed g) files))) (f-file m) ∙ sym (files-named g m.file files) ∙ home) stands.homes);
    numbers = ap (map (λ (m : HeldMember). m.number)) held_moved ∙ numbers-moved f left.members (λ m. ap (λ (shown : ShownMember). shown.number) (f-shown m)) ∙ stands.numbers ∙ sym numbers;
    next_is = next_same ∙ stands.next_is;
    slots = subst (AllByRecursion (MemberStands (map (statuses_changed g) files) members_then)) (sym held_moved)
        (each-moved f (MemberStands files members) (MemberStands (map (statuses_changed g) files) members_then) left.members each stands.slots);
    cycles_are = cycles;
  }

-- ---- a journaled member moves as the journal tells

abbrev shown_as : (name : List ℕ) → ℕ → Option Images → ShownMember
shown_as name number images = record { name = name; number = number; images = images }

module _ (n : ℕ) (h : MemberStatus → MemberStatus) (number-same : (st : MemberStatus) → (h st).number ≡ st.number) (images-same : (st : MemberStatus) → (h st).images ≡ st.images) where
  abbrev pub told_change : MemberStatus → MemberStatus
  told_change st = cond (st.number == n) (h st) st

  change-number : (st : MemberStatus) → (told_change st).number ≡ st.number
  change-number st = elim (st.number == n) as (λ b. (cond b (h st) st).number ≡ st.number) [ true ↦ number-same st | false ↦ refl ]

  pub change-shown : (name : List ℕ) (st : MemberStatus) → status_shown (name, told_change st) ≡ status_shown (name, st)
  change-shown name st = elim (st.number == n) as (λ b. status_shown (name, cond b (h st) st) ≡ status_shown (name, st)) [
    | true ↦ ap (λ (k : ℕ). shown_as name k (h st).images) (number-same st) ∙ ap (shown_as name st.number) (images-same st)
    | false ↦ refl
  ]

  module _ (a : Act) (sequence : ℕ) (images-stay : (o : Option Images) → images_by a o ≡ o) where
    abbrev pub told_member : HeldMember → HeldMember
    told_member m = member_by (cond (n == m.number) a Nothing) sequence m

    pub member-shown : (m : HeldMember) → held_shown (told_member m) ≡ held_shown m
    member-shown m = elim (n == m.number) as (λ b. held_shown (member_by (cond b a Nothing) sequence m) ≡ held_shown m) [
      | true ↦ ap (shown_as m.name m.number) (images-stay m.images)
      | false ↦ refl
    ]

    module _ (files : Named FileState) (members : NumberedMembers) (status : MemberStatus) (item : MemberState) (found : status_among n files ≡ Some status)
        (on : is_some status.images ≡ true) (there : is_some (member_at n members) ≡ true) where
      -- the journal keeps images of it
      pub told-kept : (m : HeldMember) → MemberStands files members m → (n == m.number) ≡ true → is_some m.images ≡ true
      told-kept m stands is =
          let same : n ≡ m.number = eqb-true n m.number is in
          let both : ◌≡◌ {A = Option MemberStatus} (Some stands.status) (Some status) = sym stands.found ∙ subst (λ (k : ℕ). status_among k files ≡ Some status) same found in
          let its : stands.status ≡ status = cc in
          ap is_some stands.images ∙ subst (λ (x : MemberStatus). is_some x.images ≡ true) (sym its) on

      pub told-stands : moved (member_of n members).slots a ≡ item.slots → (m : HeldMember) → MemberStands files members m
          → MemberStands (map (statuses_changed told_change) files) (with_member n item members) (told_member m)
      told-stands moves m stands = by (n == m.number) refl where
        here : stands.status.number ≡ m.number
        here = among-number m.number files stands.status stands.found

        by : (b : Bool) → (n == m.number) ≡ b → MemberStands (map (statuses_changed told_change) files) (with_member n item members) (member_by (cond b a Nothing) sequence m)
        by true is =
            let same : n ≡ m.number = eqb-true n m.number is in
            let one : (stands.status.number == n) ≡ true = grind (arith, nat_tests, here, same) in
            let kept : is_some m.images ≡ true = told-kept m stands is in
            let slots : m.slots ≡ (member_of n members).slots = stands.journaled kept ∙ ap (λ (k : ℕ). (member_of k members).slots) (sym same) in
            let now : (member_of m.number (with_member n item members)).slots ≡ item.slots =
            ap (λ (k : ℕ). (member_of k (with_member n item members)).slots) (sym same) ∙ ap (λ (x : MemberState). x.slots) (member_of-with n item members there)
            in
            record {
              counted = stands.counted;
              status = h stands.status;
              found = among-changed told_change change-number m.number files ∙ ap (option_map told_change) stands.found
                  ∙ ap (λ (b : Bool). Some (cond b (h stands.status) stands.status)) one;
              images = images-stay m.images ∙ stands.images ∙ sym (images-same stands.status);
              journaled = λ so. ap (λ (x : List Slot). moved x a) slots ∙ moves ∙ sym now;
              ended = λ off. absurd (let still : is_some m.images ≡ false = ap is_some (sym (images-stay m.images)) ∙ off in let clash : ◌≡◌ {A = Bool} true false = sym kept ∙ still in cc);
            }
        by false is =
            let other : (stands.status.number == n) ≡ false = grind (arith, nat_tests, here, is) in
            let same : member_of m.number (with_member n item members) ≡ member_of m.number members =
            ap (λ (o : Option MemberState). unwrap_or o (empty_member 0)) (at-other m.number n item members is)
            in
            let slots = ap (λ (x : MemberState). x.slots) (sym same) in
            record {
              counted = stands.counted;
              status = stands.status;
              found = among-changed told_change change-number m.number files ∙ ap (option_map told_change) stands.found
                  ∙ ap (λ (b : Bool). Some (cond b (h stands.status) stands.status)) other;
              images = stands.images;
              journaled = λ so. stands.journaled so ∙ slots;
              ended = λ off. record { records_then = (stands.ended off).records_then; unchanged = λ so. (stands.ended off).unchanged so ∙ slots };
            }
