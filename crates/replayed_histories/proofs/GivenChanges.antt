-- The entry of a slot that an open commit cycle changes: it may be deposited, and what it leaves stands as the library with the slot changed.
use Rattle.std.proofs.Common.{◌≡◌, ℕ, zero, suc, ◌+◌, ◌-◌, ◌*◌, ◌<◌, ◌≤◌, ◌==◌, ◌&&◌, ◌||◌, nat_lt, Bool, true, false, cond, IsTrue, Option, Some, None, is_some, List, [], ◌∷◌, map, length, slice_set, refl, sym, ap, ◌∙◌, subst, arith}
use Rattle.std.specs.List.{AllByRecursion}
use Rattle.std.proofs.lemmas.Bool.{and_from, eqb-true, ne_eqb}
use Rattle.std.proofs.lemmas.Bool.Decides.{nat_tests}
use Rattle.entry_codec.specs.declared.entries.Entry.{Entry}
use Rattle.entry_codec.specs.declared.kinds.EntryKind.{EntryKind}
use Rattle.entry_codec.specs.declared.places.Place.{Place}
use Rattle.entry_codec.specs.declared.places.Place.TheVariants.{Record}
use Rattle.entry_codec.specs.Drafts.{numbered}
use Rattle.entry_codec.specs.Placing.{is_placed_at, place}
use Rattle.member_slots.specs.declared.slot.Slot.{Slot}
use Rattle.member_slots.specs.Member.{MemberState, changed}
use Rattle.member_slots.specs.Members.{NumberedMembers, member_at, member_of, with_member}
use Rattle.journal_model.specs.Acts.{Act, Changed, Change, Nothing, act_there}
use Rattle.journal_model.specs.Catalogue.{member_numbered}
use Rattle.journal_model.specs.Images.{AreRecordsOf, images_of}
use Rattle.journal_model.specs.Pairs.{EndsPair, pair_begun}
use Rattle.journal_model.specs.Journal.{record_length}
use Rattle.journal_model.specs.Places.{put_slot, slot_of}
use Rattle.journal_model.specs.Replay.{moved}
use Rattle.journal_model.specs.Replayable.{AgreesBefore, IsAlone, IsOpen, is_one_of}
use Rattle.journal_model.specs.Rollback.{noted_of, of_member, undos_by}
use Rattle.journal_model.proofs.PlaceLemmas.{length-put_slot}
use Rattle.journal_replay.specs.Left.{is_held}
use Rattle.journal_replay.specs.Standing.{HeldMember, Standing, catalog_member, catalogue_in, only_begun, slots_at, standing_after}
use Rattle.library_model.specs.Named.{Named}
use Rattle.library_steps.specs.State.{FileState}
use Rattle.joint_state.specs.Agreed.{is_journaled}
use Rattle.named_bases.specs.Sources.{descriptions}
use Rattle.replayed_histories.specs.Replayed.{IsHeldWithin, MemberStands}
use Rattle.replayed_histories.specs.Deposits.{MayBeDeposited}
use Rattle.replayed_histories.proofs.EndedRequests.{counted-there, each-counted}
use Rattle.replayed_histories.proofs.GivenEntries.{IsOfRecord, by_act, draft_by, entry-after, may-deposit}
use Rattle.replayed_histories.proofs.GivenMembers.{AreFew, AtNumber, HeldStand, Suits, all-two, catalogued, held-put, images-there, journaled-stands, library-slots}
use Rattle.replayed_histories.proofs.QuietLemmas.{made, standing-same}

-- ---- slots

-- a slot that is set is put, where its place is there
pub set-put : (slots : List Slot) (place : ℕ) (new : Slot) → place < length slots → slice_set slots place new ≡ put_slot slots place new
set-put [] place new within = absurd (omega arith)
set-put (slot ∷ slots) zero new within = refl
set-put (slot ∷ slots) (suc place) new within = ap (λ (t : List Slot). slot ∷ t) (set-put slots place new (omega arith))

pub changed-put : (member : MemberState) (place : ℕ) (new : Slot) → place < length member.slots → (changed member (place + 1) new).slots ≡ put_slot member.slots place new
changed-put member place new within =
    ap (λ (b : Bool). (cond b member (record member { slots = slice_set member.slots (place + 1 - 1) new })).slots) (ne_eqb (place + 1) 0 (λ e. absurd (omega arith)))
    ∙ ap (λ (n : ℕ). slice_set member.slots n new) (let same : place + 1 - 1 ≡ place = omega arith in same)
    ∙ set-put member.slots place new within

pub length-put : (slots : List Slot) (place : ℕ) (new : Slot) → place < length slots → length (put_slot slots place new) ≡ length slots
length-put slots place new within = let long = length-put_slot slots place new in omega (arith, long, within)

-- ---- the slots of a member that is found

module _ (k : ℕ) (a : Act) (sequence : ℕ) where
  pub slots-then-own : (held : List HeldMember) → is_held k held ≡ true → slots_at k (map (by_act k a sequence) held) ≡ moved (slots_at k held) a
  slots-then-own [] there = absurd cc
  slots-then-own (m ∷ held) there = by (m.number == k) refl there (λ rest. slots-then-own held rest) where
    by : (b : Bool) → (m.number == k) ≡ b → (b || is_held k held) ≡ true → (is_held k held ≡ true → slots_at k (map (by_act k a sequence) held) ≡ moved (slots_at k held) a)
        → cond b (by_act k a sequence m).slots (slots_at k (map (by_act k a sequence) held)) ≡ moved (cond b m.slots (slots_at k held)) a
    by true is there more =
        let here : (k == m.number) ≡ true = grind (arith, nat_tests, is) in ap (λ (b : Bool). moved m.slots (cond b a Nothing)) here
    by false is there more = more there

  pub slots-then-other : (other : ℕ) (held : List HeldMember) → (k == other) ≡ false → slots_at other (map (by_act k a sequence) held) ≡ slots_at other held
  slots-then-other other [] differs = refl
  slots-then-other other (m ∷ held) differs = by (m.number == other) refl (slots-then-other other held differs) where
    by : (b : Bool) → (m.number == other) ≡ b → slots_at other (map (by_act k a sequence) held) ≡ slots_at other held
        → cond b (by_act k a sequence m).slots (slots_at other (map (by_act k a sequence) held)) ≡ cond b m.slots (slots_at other held)
    by true is more =
        let away : (k == m.number) ≡ false = ap (λ (n : ℕ). k == n) (eqb-true m.number other is) ∙ differs in ap (λ (b : Bool). moved m.slots (cond b a Nothing)) away
    by false is more = more

-- ---- the entry

module _ (left : Standing) (files : Named FileState) (members : NumberedMembers) (next_member : ℕ) (stands : HeldStand left files members next_member) (k : ℕ)
    (on : is_journaled k files ≡ true) (there : is_some (member_at k members) ≡ true) where
  pub counted : 1 ≤ k
  counted =
      let found = catalogued left files members next_member stands k on there in
      counted-there k left.members found.0 (each-counted files members left.members stands.slots) found.1

  -- no slot more than before
  pub few-same : (item : MemberState) → length item.slots ≡ length (member_of k members).slots → AllByRecursion (AtNumber k (AreFew left (length item.slots))) left.members
  few-same item same =
      all-two (MemberStands files members) (IsHeldWithin left) (AtNumber k (AreFew left (length item.slots))) left.members
      (λ m old fits is.
      let long : length m.slots ≡ length item.slots = ap (λ (slots : List Slot). length slots) (journaled-stands files members k on m old is).1 ∙ sym same in
      record {
        slots = subst (λ (n : ℕ). n ≤ 1000000) long fits.slots;
        bytes = subst (λ (n : ℕ). n * record_length descriptions (catalogue_in left) (catalog_member m) ≤ 268435456) long fits.bytes;
      })
      stands.slots stands.within

  pub placed-record : (kind : EntryKind) (next : ℕ) (group rrn : ℕ) → place kind ≡ Record → 1 ≤ group → 1 ≤ rrn → IsTrue (is_placed_at (place kind) next (Some group) (Some k) (Some rrn))
  placed-record kind next group rrn is some there =
      let first : nat_lt 0 group ≡ true = grind (arith, nat_tests, some) in
      let own = counted in
      let second : nat_lt 0 k ≡ true = grind (arith, nat_tests, own) in
      let third : nat_lt 0 rrn ≡ true = grind (arith, nat_tests, there) in
      subst (λ (p : Place). IsTrue (is_placed_at p next (Some group) (Some k) (Some rrn))) (sym is)
      (and_from (nat_lt 0 group && nat_lt 0 k) (nat_lt 0 rrn) (and_from (nat_lt 0 group) (nat_lt 0 k) first second) third)

  module _ (job : Option (List ℕ)) (moment : ℕ) (kind : EntryKind) (its : IsOfRecord kind) (place_is : place kind ≡ Record) (unpaired : pair_begun kind ≡ None)
      (c : Change) (n : ℕ) (own : c.cycle ≡ Some n)
      (reads : act_there kind left.begun (numbered (draft_by job moment c.cycle k (Some (c.place + 1)) kind) left.next) ≡ Changed c) (item : MemberState)
      (put : item.slots ≡ put_slot (member_of k members).slots c.place c.after) (suits : AllByRecursion (AtNumber k (λ m. Suits left.files m.file c.after)) left.members)
      (few : AllByRecursion (AtNumber k (AreFew left (length item.slots))) left.members) where
    abbrev e : Entry
    e = numbered (draft_by job moment c.cycle k (Some (c.place + 1)) kind) left.next

    abbrev pub given_then : Standing
    given_then =
        made (left.next + 1) None left.files (map (by_act k (Changed c) left.next) left.members) left.next_member left.cycles (record { member = k; change = c } ∷ left.undos)

    pub given-after : standing_after e left ≡ given_then
    given-after =
        entry-after left job moment c.cycle k (Some (c.place + 1)) kind its (Changed c) reads
        ∙ standing-same (left.next + 1) (only_begun (pair_begun kind) e) None left.files left.files (map (by_act k (Changed c) left.next) left.members) _ left.next_member left.next_member
        left.cycles left.cycles (undos_by (Changed c) k left.undos) (record { member = k; change = c } ∷ left.undos) (ap (λ p. only_begun p e) unpaired) refl refl refl refl
        (ap (λ (o : Option ℕ). noted_of o (record { member = k; change = c }) left.undos) own)

    pub given-stands : HeldStand given_then files (with_member k item members) next_member
    given-stands =
        held-put left files members next_member stands k on there (Changed c) left.next c.place c.after item (λ o. refl) (λ slots. refl) put suits few (left.next + 1) None left.cycles
        (record { member = k; change = c } ∷ left.undos)

    pub given-may : is_one_of left.cycles n ≡ true → 1 ≤ n → c.place ≤ length (member_of k members).slots
        → AgreesBefore c.before c.cycle (slot_of (member_of k members).slots c.place) → IsAlone c (of_member k left.undos) → EndsPair left.begun e
        → AreRecordsOf descriptions (catalogue_in left) (member_numbered (Some k) (catalogue_in left)) (images_of kind) → MayBeDeposited left e
    given-may opened some within before alone pairs records =
        let slots : (member_of k members).slots ≡ slots_at k left.members = sym (library-slots left files members next_member stands k on there) in
        let is_open : IsOpen left.cycles c.cycle = subst (λ (o : Option ℕ). IsOpen left.cycles o) (sym own) opened in
        may-deposit left job moment c.cycle k (Some (c.place + 1)) kind its (Changed c) reads (catalogued left files members next_member stands k on there)
        (record {
          place = subst (λ (xs : List Slot). c.place ≤ length xs) slots within;
          before = subst (λ (xs : List Slot). AgreesBefore c.before c.cycle (slot_of xs c.place)) slots before;
          cycle = is_open;
          alone = alone;
        })
        is_open pairs records
        (held-put left files members next_member stands k on there (Changed c) left.next c.place c.after item (λ o. refl) (λ xs. refl) put suits few (left.next + 1)
        (only_begun (pair_begun kind) e) left.cycles (undos_by (Changed c) k left.undos)).within
        (subst (λ (o : Option ℕ). IsTrue (is_placed_at (place kind) left.next o (Some k) (Some (c.place + 1)))) (sym own)
        (placed-record kind left.next n (c.place + 1) place_is some (omega arith)))
        (λ record_of. images-there left files members next_member stands k on there)
