-- ENDJRNPF: of a member the journal tells nothing more, and it stands as its last journaled moment left it.
use Rattle.std.proofs.Common.{◌≡◌, ℕ, ◌+◌, ◌≤◌, ◌==◌, ◌&&◌, nat_lt, Bool, true, false, cond, Option, Some, None, List, [], ◌∷◌, ◌++◌, map, length, refl, sym, ap, ◌∙◌, subst, arith}
use Rattle.std.specs.List.{AllByRecursion, find}
use Rattle.std.specs.Option.{is_some, option_map}
use Rattle.std.proofs.lemmas.Bool.{eqb-true}
use Rattle.std.proofs.lemmas.Bool.Decides.{nat_tests}
use Rattle.std.proofs.lemmas.List.{append-nil}
use Rattle.entry_codec.specs.declared.entries.Entry.{Entry}
use Rattle.entry_codec.specs.declared.kinds.EntryKind.TheVariants.{JournalingEnded}
use Rattle.entry_codec.specs.declared.kinds.FileKind.TheVariants.{Physical}
use Rattle.entry_codec.specs.Drafts.{numbered}
use Rattle.member_slots.specs.declared.slot.Slot.{Slot}
use Rattle.member_slots.specs.Member.{records}
use Rattle.member_slots.specs.Members.{NumberedMembers, member_at, member_of}
use Rattle.journal_model.specs.Acts.{Ended, Nothing, act}
use Rattle.journal_model.specs.Catalogue.{CatalogFile, CatalogMember, has_number, member_numbered}
use Rattle.journal_model.specs.Pairs.{EndsPair}
use Rattle.journal_model.specs.Replayable.{MayFollow}
use Rattle.journal_model.specs.Rollback.{MemberChange, of_member, undos_by}
use Rattle.journal_replay.specs.Standing.{HeldMember, catalog_member, catalogue_in, member_by, standing_after, state_in}
use Rattle.library_model.specs.Named.{Named, named}
use Rattle.library_model.specs.declared.replies.Reply.TheVariants.{Done}
use Rattle.library_steps.specs.State.{FileState, MemberStatus, State, fields_of, memory_of, with_status}
use Rattle.library_steps.specs.Drafts.{author_of, member_draft}
use Rattle.library_steps.specs.Journaling.{end_change, no_longer_journaled}
use Rattle.library_steps.specs.SlotChange.{status_among}
use Rattle.library_steps.specs.Uses.{user_of}
use Rattle.joint_state.specs.Sound.{after}
use Rattle.named_bases.specs.Sources.{fields_beside}
use Rattle.replayed_histories.specs.Shown.{ShownMember, ShowsMembers, held_shown, kind_in, status_shown}
use Rattle.replayed_histories.specs.Replayed.{CyclesStand, IsHeldWithin, IsReplayed, MemberStands, StandsAs}
use Rattle.replayed_histories.specs.Deposits.{MayBeDeposited}
use Rattle.replayed_histories.proofs.DepositLemmas.{replays-kept}
use Rattle.replayed_histories.proofs.FreeLemmas.{unused-free}
use Rattle.replayed_histories.proofs.MemberLemmas.{files-memberless, files-named, files-shown, members-moved, statuses_changed}
use Rattle.replayed_histories.proofs.QuietLemmas.{no-records}
use Rattle.replayed_histories.proofs.StandsLemmas.{cycles-later}
use Rattle.replayed_histories.proofs.StatusLemmas.{among-changed, among-number, numbered-there}

-- ---- lists of members

pub each-mapped : (f : HeldMember → HeldMember) (P Q : HeldMember → Type 0) (members : List HeldMember) → ((m : HeldMember) → P m → Q (f m)) → AllByRecursion P members
    → AllByRecursion Q (map f members ++ [])
each-mapped f P Q [] each all = tt
each-mapped f P Q (m ∷ members) each all = (each m all.0, each-mapped f P Q members each all.1)

pub numbers-mapped : (f : HeldMember → HeldMember) (members : List HeldMember) → ((m : HeldMember) → (f m).number ≡ m.number)
    → map (λ (m : HeldMember). m.number) (map f members ++ []) ≡ map (λ (m : HeldMember). m.number) members
numbers-mapped f [] same = refl
numbers-mapped f (m ∷ members) same =
    ap (λ (n : ℕ). n ∷ map (λ (x : HeldMember). x.number) (map f members ++ [])) (same m) ∙ ap (λ (t : List ℕ). m.number ∷ t) (numbers-mapped f members same)

-- a member that is found has a number from 1
pub counted-there : (n : ℕ) (held : List HeldMember) (c : CatalogMember) → AllByRecursion (λ (m : HeldMember). 1 ≤ m.number) held
    → find (has_number (Some n)) (map catalog_member held) ≡ Some c → 1 ≤ n
counted-there n [] c all h = absurd cc
counted-there n (m ∷ held) c all h = by (n == m.number) refl h (λ rest. counted-there n held c all.1 rest) where
  by : (b : Bool) → (n == m.number) ≡ b → cond b (Some (catalog_member m)) (find (has_number (Some n)) (map catalog_member held)) ≡ Some c
      → (find (has_number (Some n)) (map catalog_member held) ≡ Some c → 1 ≤ n) → 1 ≤ n
  by true is h more = subst (λ (k : ℕ). 1 ≤ k) (sym (eqb-true n m.number is)) all.0
  by false is h more = more h

pub each-counted : (files : Named FileState) (members : NumberedMembers) (held : List HeldMember) → AllByRecursion (MemberStands files members) held
    → AllByRecursion (λ (m : HeldMember). 1 ≤ m.number) held
each-counted files members [] all = tt
each-counted files members (m ∷ held) all = (all.0.counted, each-counted files members held all.1)

pub fields-changed : (g : MemberStatus → MemberStatus) (catalog : List CatalogFile) (files : Named FileState)
    → AllByRecursion (λ (entry : List ℕ × FileState). kind_in entry.1.spec ≡ Physical → fields_beside catalog entry.1.source ≡ fields_of entry.1) files
    → AllByRecursion (λ (entry : List ℕ × FileState). kind_in entry.1.spec ≡ Physical → fields_beside catalog entry.1.source ≡ fields_of entry.1) (map (statuses_changed g) files)
fields-changed g catalog [] all = tt
fields-changed g catalog (entry ∷ files) all = (all.0, fields-changed g catalog files all.1)

-- ---- the member

module _ (s : State) (r : IsReplayed s) (job timestamp : ℕ) (status : MemberStatus) (found : status_among status.number s.files ≡ Some status) (on : is_some status.images ≡ true)
    (there : is_some (member_at status.number s.members) ≡ true) (free : user_of status.number (memory_of s) ≡ None) where
  abbrev number : ℕ
  number = status.number

  abbrev change : MemberStatus → MemberStatus
  change = no_longer_journaled ((memory_of s).last_entry + 1) (length (records (member_of number s.members)))

  abbrev g : MemberStatus → MemberStatus
  g st = cond (st.number == number) (change st) st

  abbrev e : Entry
  e = numbered (member_draft (author_of (memory_of s) job timestamp) number JournalingEnded) r.left.next

  abbrev f : HeldMember → HeldMember
  f m = member_by (cond (number == m.number) Ended Nothing) r.left.next m

  abbrev k : ShownMember → ShownMember
  k shown = cond (number == shown.number) (record shown { images = None }) shown

  abbrev files : Named FileState
  files = map (statuses_changed g) s.files

  g-number : (st : MemberStatus) → (g st).number ≡ st.number
  g-number st = elim (st.number == number) as (λ b. (cond b (change st) st).number ≡ st.number) [ true ↦ refl | false ↦ refl ]

  turned : (a b : ℕ) → (a == b) ≡ (b == a)
  turned a b = grind (arith, nat_tests)

  f-shown : (m : HeldMember) → held_shown (f m) ≡ k (held_shown m)
  f-shown m =
      elim (number == m.number) as (λ b. held_shown (member_by (cond b Ended Nothing) r.left.next m) ≡ cond b (record (held_shown m) { images = None }) (held_shown m))
      [ true ↦ refl | false ↦ refl ]

  g-shown : (name : List ℕ) (st : MemberStatus) → status_shown (name, g st) ≡ k (status_shown (name, st))
  g-shown name st =
      elim (st.number == number) as (λ b. status_shown (name, cond b (change st) st) ≡ cond b (record (status_shown (name, st)) { images = None }) (status_shown (name, st)))
      [ true ↦ refl | false ↦ refl ]
      ∙ ap (λ (b : Bool). cond b (record (status_shown (name, st)) { images = None }) (status_shown (name, st))) (turned st.number number)

  stands-after : (m : HeldMember) → MemberStands s.files s.members m → MemberStands files s.members (f m)
  stands-after m stands = by (number == m.number) refl where
    by : (b : Bool) → (number == m.number) ≡ b → MemberStands files s.members (member_by (cond b Ended Nothing) r.left.next m)
    by true is =
        let same : number ≡ m.number = eqb-true number m.number is in
        let both : ◌≡◌ {A = Option MemberStatus} (Some stands.status) (Some status) =
        sym stands.found ∙ subst (λ (n : ℕ). status_among n s.files ≡ Some status) same found
        in
        let its : stands.status ≡ status = cc in
        let slots : m.slots ≡ (member_of m.number s.members).slots =
        stands.journaled (ap is_some stands.images ∙ subst (λ (x : MemberStatus). is_some x.images ≡ true) (sym its) on)
        in
        let here : stands.status.number ≡ m.number = among-number m.number s.files stands.status stands.found in
        let one : (stands.status.number == number) ≡ true = grind (arith, nat_tests, here, same) in
        record {
          counted = stands.counted;
          status = change stands.status;
          found = among-changed g g-number m.number s.files ∙ ap (option_map g) stands.found ∙ ap (λ (b : Bool). Some (cond b (change stands.status) stands.status)) one;
          images = refl;
          journaled = λ none. absurd cc;
          ended = λ off. record {
            records_then = ap (λ (x : List Slot). length (records (record { record_length = 0; slots = x })))
                (ap (λ (n : ℕ). (member_of n s.members).slots) same ∙ sym slots);
            unchanged = λ so. slots;
          };
        }
    by false is =
        let here : stands.status.number ≡ m.number = among-number m.number s.files stands.status stands.found in
        let other : (stands.status.number == number) ≡ false = grind (arith, nat_tests, here, is) in
        record {
          counted = stands.counted;
          status = stands.status;
          found = among-changed g g-number m.number s.files ∙ ap (option_map g) stands.found ∙ ap (λ (b : Bool). Some (cond b (change stands.status) stands.status)) other;
          images = stands.images;
          journaled = stands.journaled;
          ended = stands.ended;
        }

  -- ---- the entry

  catalogued : (c : CatalogMember) × (member_numbered (Some number) (catalogue_in r.left) ≡ Some c)
  catalogued = numbered-there number r.left.members s.members r.stands.numbers there

  undone : of_member number r.left.undos ≡ []
  undone = unused-free s r number free

  undos-stay : undos_by (act number r.left.begun e) number r.left.undos ≡ r.left.undos
  undos-stay = elim (number == number) as (λ b. undos_by (cond b Ended Nothing) number r.left.undos ≡ r.left.undos) [ true ↦ refl | false ↦ refl ]

  may : MayBeDeposited r.left e
  may = record {
    next = record {
      sequence = refl;
      enters = catalogued;
      replays = λ member. follows member (number == member) refl;
      names = λ no. tt;
      deletes = λ name is. absurd cc;
      pairs = subst (λ (o : Option Entry). EndsPair o e) (sym r.whole) refl;
      records = no-records (catalogue_in r.left) (member_numbered (Some number) (catalogue_in r.left));
    };
    within = each-mapped f (IsHeldWithin r.left) (IsHeldWithin (standing_after e r.left)) r.left.members (λ m fits. within m (number == m.number) fits) r.journal.within;
    placed =
        let first : 1 ≤ number = counted-there number r.left.members catalogued.0 (each-counted s.files s.members r.left.members r.stands.slots) catalogued.1 in
        let some : nat_lt 0 number ≡ true = grind (arith, nat_tests, first) in
        ap (λ (b : Bool). b && true) some;
    journaled = λ of. absurd cc;
  } where
    follows : (member : ℕ) (b : Bool) → (number == member) ≡ b → MayFollow (state_in r.left member) (cond b Ended Nothing)
    follows member true is = subst (λ (n : ℕ). of_member n r.left.undos ≡ []) (eqb-true number member is) undone
    follows member false is = tt

    within : (m : HeldMember) (b : Bool) → IsHeldWithin r.left m → IsHeldWithin (standing_after e r.left) (member_by (cond b Ended Nothing) r.left.next m)
    within m true fits = fits
    within m false fits = fits

  stands-then : StandsAs (standing_after e r.left) files s.members s.next_member s.jobs
  stands-then = record {
    files_are = r.stands.files_are ∙ sym (files-shown g s.files);
    described = r.stands.described ∙ sym (files-memberless g s.files);
    fields_are = fields-changed g r.left.files s.files r.stands.fields_are;
    members_are = subst (λ (ms : List HeldMember). AllByRecursion (ShowsMembers ms) files) (sym (append-nil (map f r.left.members)))
        (members-moved f g k (λ m. refl) f-shown g-shown r.left.members s.files r.stands.members_are);
    homes = each-mapped f (λ (m : HeldMember). is_some (named m.file s.files) ≡ true) (λ (m : HeldMember). is_some (named m.file files) ≡ true) r.left.members
        (λ m home. sym (files-named g m.file s.files) ∙ home) r.stands.homes;
    numbers = numbers-mapped f r.left.members (λ m. refl) ∙ r.stands.numbers;
    next_is = r.stands.next_is;
    slots = each-mapped f (MemberStands s.files s.members) (MemberStands files s.members) r.left.members stands-after r.stands.slots;
    cycles_are = subst (λ (undos : List MemberChange). CyclesStand (r.left.next + 1) r.left.cycles undos s.jobs) (sym undos-stay)
        (cycles-later r.left.next r.left.cycles r.left.undos s.jobs r.stands.cycles_are);
  }

  pub ended-replayed : IsReplayed (after s (end_change (memory_of s) job timestamp status))
  ended-replayed =
      replays-kept s r (member_draft (author_of (memory_of s) job timestamp) number JournalingEnded ∷ []) true Done (with_status number change (memory_of s))
      (standing_after e r.left) refl r.checkpoint refl (may, refl) refl stands-then
