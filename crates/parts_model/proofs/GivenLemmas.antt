-- Slots that are given to a member one after the other: what they make of it, that each may be put when its turn comes, and that the library is
-- one after them.
use Rattle.std.proofs.Common.{◌≡◌, ℕ, zero, suc, ◌+◌, ◌-◌, ◌*◌, ◌<◌, ◌≤◌, ◌==◌, ◌||◌, nat_lt, Bool, true, false, cond, List, [], ◌∷◌, ◌++◌, length, slice_set, slice_get, Option, Some, None, is_some, IsSome, unwrap_or, refl, sym, ap, ◌∙◌, subst, arith}
use Rattle.std.specs.List.{AllByRecursion}
use Rattle.std.proofs.lemmas.Bool.Decides.{nat_tests}
use Rattle.member_slots.specs.declared.slot.Slot.{Slot}
use Rattle.member_slots.specs.declared.slot.Slot.TheVariants.{Live, Deleted}
use Rattle.member_slots.specs.declared.member.TheConstants.{MOST_SLOTS, MOST_BYTES}
use Rattle.member_slots.specs.Member.{MemberState, appended, changed, is_full, is_live, slot_at}
use Rattle.member_slots.specs.Members.{Numbered, NumberedMembers, RoomyMembers, item_at, with_item, member_at, member_of, with_member, spare_at}
use Rattle.journal_model.specs.Places.{put_slot, slot_of}
use Rattle.journal_model.proofs.PlaceLemmas.{length-put_slot}
use Rattle.path_set.specs.RecordChanges.{RecordChange}
use Rattle.path_set.specs.MemberChanges.{IsRecordChange}
use Rattle.path_set.specs.MemberSteps.{slot_replaced}
use Rattle.path_set.specs.ManyChanges.{LeadTo}
use Rattle.path_set.proofs.MemberStepLemmas.{added-changes, replaced-changes}
use Rattle.library_steps.specs.State.{State, fields_of}
use Rattle.range_images.specs.declared.slot_given.SlotGiven.{SlotGiven}
use Rattle.range_images.specs.Given.{given_slots, place_given}
use Rattle.given_changes.specs.GivenChanges.{changes_given}
use Rattle.parts_model.specs.Given.{given_to, members_given, CanTake, MayGive}
use Rattle.parts_model.specs.Indexed.{HasBytes, AreOfBytes}
use Rattle.lawful_states.specs.Lawful.{AreOne, HoldsValues}
use Rattle.lawful_states.specs.Slots.{MayStand, weight}
use Rattle.parts_model.proofs.IndexMoves.{at-place, slot-stands}
use Rattle.parts_model.proofs.IndexRecords.{bytes-member, bytes-with}
use Rattle.lawful_states.proofs.BackLemmas.{AllGoBack-with}
use Rattle.lawful_states.proofs.LawfulLemmas.{AreOne-with_member}
use Rattle.lawful_states.proofs.MemberLemmas.{at-member_of, is_some-IsSome, item_at-with_item_same, library_bytes-with, member_of-with, HasRecords-member_of}

-- ---- a place of the member, and one behind the last

put-there : (slots : List Slot) (place : ℕ) (new : Slot) → place < length slots → put_slot slots place new ≡ slice_set slots place new
put-there [] place new within = absurd (omega (arith, within))
put-there (s ∷ slots) zero new within = refl
put-there (s ∷ slots) (suc place) new within = ap (λ (rest : List Slot). s ∷ rest) (put-there slots place new (omega (arith, within)))

put-end : (slots : List Slot) (new : Slot) → put_slot slots (length slots) new ≡ slots ++ new ∷ []
put-end [] new = refl
put-end (s ∷ slots) new = ap (λ (rest : List Slot). s ∷ rest) (put-end slots new)

abbrev pub one_given : (rrn : ℕ) → Slot → SlotGiven
one_given rrn slot = record { rrn = rrn; slot = slot }

pub changed-given : (member : MemberState) (rrn : ℕ) (slot : Slot) → 1 ≤ rrn → rrn ≤ length member.slots → changed member rrn slot ≡ given_to (one_given rrn slot ∷ []) member
changed-given member rrn slot counted within =
    let other : (rrn == 0) ≡ false = grind (arith, nat_tests) in
    rw other (ap (λ (slots : List Slot). record member { slots = slots }) (sym (put-there member.slots (rrn - 1) slot (omega (arith, counted, within)))))

pub appended-given : (member : MemberState) (rrn : ℕ) (image : List ℕ) → rrn ≡ length member.slots + 1 → appended member image ≡ given_to (one_given rrn (Live image) ∷ []) member
appended-given member rrn image is =
    let place : rrn - 1 ≡ length member.slots = omega (arith, is) in
    ap (λ (slots : List Slot). record member { slots = slots }) (sym (ap (λ (k : ℕ). put_slot member.slots k (Live image)) place ∙ put-end member.slots (Live image)))

-- ---- one after the other

same_entry : {A : Type 0} (e : Numbered A) (n : ℕ) (x : A) → e.number ≡ n → e.item ≡ x → (let f : Numbered A = record { number = n; item = x } in f) ≡ e
same_entry e n x p q = (λ i. record { number = sym p i; item = sym q i })

with_item-itself : {A : Type 0} (n : ℕ) (x : A) (xs : List (Numbered A)) → item_at n xs ≡ Some x → with_item n x xs ≡ xs
with_item-itself n x [] there = refl
with_item-itself n x (e ∷ xs) there = at (e.number == n) refl (λ h. with_item-itself n x xs h) there
  where
    at : (b : Bool) → (e.number == n) ≡ b → (item_at n xs ≡ Some x → with_item n x xs ≡ xs) → cond b (Some e.item) (item_at n xs) ≡ Some x → cond b (record { number = n; item = x } ∷ xs) (e ∷ with_item n x xs) ≡ e ∷ xs
    at true is more there =
        let number : e.number ≡ n = grind (arith, nat_tests) in
        let item : e.item ≡ x = cc in
        ap (λ f. f ∷ xs) (same_entry e n x number item)
    at false is more there = ap (λ rest. e ∷ rest) (more there)

with_item-twice : {A : Type 0} (n : ℕ) (x y : A) (xs : List (Numbered A)) → with_item n x (with_item n y xs) ≡ with_item n x xs
with_item-twice n x y [] = refl
with_item-twice n x y (e ∷ xs) = at (e.number == n) refl (with_item-twice n x y xs)
  where
    at : (b : Bool) → (e.number == n) ≡ b → with_item n x (with_item n y xs) ≡ with_item n x xs → with_item n x (cond b (record { number = n; item = y } ∷ xs) (e ∷ with_item n y xs)) ≡ cond b (record { number = n; item = x } ∷ xs) (e ∷ with_item n x xs)
    at true is more = let same : (n == n) ≡ true = grind (arith, nat_tests) in rw same refl
    at false is more = rw is (ap (λ rest. e ∷ rest) more)

pub given-none : (number : ℕ) (members : NumberedMembers) → IsSome (member_at number members) → members_given number [] members ≡ members
given-none number members there = with_item-itself number (member_of number members) members (at-member_of number members (is_some-IsSome _ there))

module _ (number : ℕ) (g : SlotGiven) (given : List SlotGiven) (members : NumberedMembers) (there : IsSome (member_at number members)) where
  abbrev next : NumberedMembers
  next = members_given number (g ∷ []) members

  pub member-next : member_of number (members_given number (g ∷ []) members) ≡ given_to (g ∷ []) (member_of number members)
  member-next = member_of-with number (given_to (g ∷ []) (member_of number members)) members (is_some-IsSome _ there)

  pub there-next : IsSome (member_at number (members_given number (g ∷ []) members))
  there-next =
      let here = item_at-with_item_same number (given_to (g ∷ []) (member_of number members)) members (is_some-IsSome _ there) in
      subst (λ (o : Option MemberState). IsSome o) (sym here) refl

  pub given-step : members_given number given (members_given number (g ∷ []) members) ≡ members_given number (g ∷ given) members
  given-step =
      ap (λ (x : MemberState). with_member number (given_to given x) next) member-next
      ∙ with_item-twice number (given_to (g ∷ given) (member_of number members)) (given_to (g ∷ []) (member_of number members)) members

-- ---- each may be put

pub rest-takes : (member : MemberState) (g : SlotGiven) (given : List SlotGiven) → CanTake member (g ∷ given) → CanTake (given_to (g ∷ []) member) given
rest-takes member g given takes = record { places = takes.places.2; records = takes.records.1; each = takes.each.1 }

pub first-takes : (member : MemberState) (g : SlotGiven) (given : List SlotGiven) → CanTake member (g ∷ given) → CanTake member (g ∷ [])
first-takes member g given takes = record { places = (takes.places.0, takes.places.1, tt); records = (takes.records.0, tt); each = (takes.each.0, tt) }

pub grows : (given : List SlotGiven) (slots : List Slot) → length slots ≤ length (given_slots given slots)
grows [] slots = omega arith
grows (g ∷ given) slots = let rest = grows given (put_slot slots (place_given g) g.slot) in let more = length-put_slot slots (place_given g) g.slot in omega (arith, rest, more)

-- one behind the last needs room
pub first-room : (member : MemberState) (g : SlotGiven) (given : List SlotGiven) (spare : ℕ) → CanTake member (g ∷ given) → length (given_slots (g ∷ given) member.slots) ≤ length member.slots + spare
    → length member.slots < g.rrn → 1 ≤ spare
first-room member g given spare takes room past =
    let more = grows given (put_slot member.slots (place_given g) g.slot) in
    let next = length-put_slot member.slots (place_given g) g.slot in
    omega (arith, past, more, next, room)

or-false : (a b : Bool) → a ≡ false → b ≡ false → (a || b) ≡ false
or-false a b p q = cc

pub not-full : (member : MemberState) (rrn : ℕ) → rrn ≡ length member.slots + 1 → rrn ≤ MOST_SLOTS → rrn * member.record_length ≤ MOST_BYTES → is_full member ≡ false
not-full member rrn is few small =
    let one : nat_lt 1000000 (length member.slots + 1) ≡ false = grind (arith, nat_tests, is, few) in
    let size : (length member.slots + 1) * member.record_length ≡ rrn * member.record_length = ap (λ (k : ℕ). k * member.record_length) (sym is) in
    let two : nat_lt 268435456 ((length member.slots + 1) * member.record_length) ≡ false = grind (arith, nat_tests, size, small) in
    or-false (nat_lt 1000000 (length member.slots + 1)) (nat_lt 268435456 ((length member.slots + 1) * member.record_length)) one two

-- how many slots the member has then, and how many may still be added
pub spare-set : (number : ℕ) (g : SlotGiven) (members : NumberedMembers) (there : IsSome (member_at number members)) → length (member_of number members).slots ≤ length (member_of number (members_given number (g ∷ []) members)).slots
spare-set number g members there =
    let is = ap (λ (m : MemberState). length m.slots) (member-next number g [] members there) in
    let more = grows (g ∷ []) (member_of number members).slots in
    omega (arith, is, more)

pub spare-spent : (number : ℕ) (old new : RoomyMembers) → 1 ≤ spare_at number old → new.spares ≡ with_item number (spare_at number old - 1) old.spares → spare_at number old ≤ spare_at number new + 1
spare-spent number old new has spent = at (item_at number old.spares) refl
  where
    at : (o : Option ℕ) → item_at number old.spares ≡ o → spare_at number old ≤ spare_at number new + 1
    at None is = let none : spare_at number old ≡ 0 = ap (λ (o : Option ℕ). unwrap_or o 0) is in omega (arith, none)
    at (Some n) is =
        let here : is_some (item_at number old.spares) ≡ true = ap (λ (o : Option ℕ). is_some o) is in
        let left : spare_at number new ≡ spare_at number old - 1 =
        ap (λ xs. unwrap_or (item_at number xs) 0) spent ∙ ap (λ (o : Option ℕ). unwrap_or o 0) (item_at-with_item_same number (spare_at number old - 1) old.spares here) in
        omega (arith, left)

pub appended-length : (number rrn : ℕ) (image : List ℕ) (members : NumberedMembers) → IsSome (member_at number members) → rrn ≡ length (member_of number members).slots + 1
    → length (member_of number (members_given number (one_given rrn (Live image) ∷ []) members)).slots ≡ length (member_of number members).slots + 1
appended-length number rrn image members there is =
    let member = member_of number members in
    ap (λ (m : MemberState). length m.slots) (member-next number (one_given rrn (Live image)) [] members there ∙ sym (appended-given member rrn image is)) ∙ push member.slots
  where
    push : (slots : List Slot) → length (slots ++ Live image ∷ []) ≡ length slots + 1
    push [] = refl
    push (s ∷ slots) = let rest = push slots in omega (arith, rest)

-- ---- what they change

slot_of-at : (slots : List Slot) (place : ℕ) → slot_of slots place ≡ unwrap_or (slice_get slots place) Deleted
slot_of-at [] place = refl
slot_of-at (s ∷ slots) zero = refl
slot_of-at (s ∷ slots) (suc place) = slot_of-at slots place

slot_of-past : (slots : List Slot) (place : ℕ) → length slots ≤ place → slot_of slots place ≡ Deleted
slot_of-past [] place past = refl
slot_of-past (s ∷ slots) zero past = absurd (omega (arith, past))
slot_of-past (s ∷ slots) (suc place) past = slot_of-past slots place (omega (arith, past))

live-image : (slot : Slot) → is_live slot ≡ true → (image : List ℕ) × (slot ≡ Live image)
live-image (Live image) live = (image, refl)
live-image Deleted live = absurd cc

module _ (number : ℕ) (g : SlotGiven) (members : NumberedMembers) (there : IsSome (member_at number members)) (takes : CanTake (member_of number members) (g ∷ [])) where
  abbrev its : MemberState
  its = member_of number members

  -- the slot that stands there takes part in the change
  pub first-changes : IsRecordChange (slot_replaced number g.rrn (slot_of (member_of number members).slots (place_given g)) g.slot) members (members_given number (g ∷ []) members)
  first-changes = by (nat_lt (length its.slots) g.rrn) refl
    where
      stood : (rrn : ℕ) → 1 ≤ rrn → unwrap_or (slot_at its rrn) Deleted ≡ slot_of its.slots (rrn - 1)
      stood rrn counted = ap (λ (o : Option Slot). unwrap_or o Deleted) (at-place its rrn counted) ∙ sym (slot_of-at its.slots (rrn - 1))

      by : (b : Bool) → nat_lt (length its.slots) g.rrn ≡ b
          → IsRecordChange (slot_replaced number g.rrn (slot_of its.slots (place_given g)) g.slot) members (members_given number (g ∷ []) members)
      by false is =
          let within : g.rrn ≤ length its.slots = grind (arith, nat_tests) in
          subst (λ (after : NumberedMembers). IsRecordChange (slot_replaced number g.rrn (slot_of its.slots (place_given g)) g.slot) members after)
          (ap (λ (m : MemberState). with_member number m members) (changed-given its g.rrn g.slot takes.places.0 within))
          (replaced-changes number g.rrn (slot_of its.slots (place_given g)) g.slot members
          (slot-stands its g.rrn takes.places.0 within ∙ ap (λ (s : Slot). Some s) (stood g.rrn takes.places.0)))
      by true is =
          let past : length its.slots < g.rrn = grind (arith, nat_tests) in
          let next : g.rrn ≡ length its.slots + 1 = omega (arith, past, takes.places.1) in
          let live = live-image g.slot (takes.records.0 past) in
          let none : slot_of its.slots (place_given g) ≡ Deleted = slot_of-past its.slots (place_given g) (omega (arith, next)) in
          let same : slot_replaced number (length its.slots + 1) Deleted (Live live.0) ≡ slot_replaced number g.rrn (slot_of its.slots (place_given g)) g.slot =
          (λ i. slot_replaced number (sym next i) (sym none i) (sym live.1 i)) in
          let made : members_given number (one_given g.rrn (Live live.0) ∷ []) members ≡ members_given number (g ∷ []) members =
          ap (λ (s : Slot). members_given number (one_given g.rrn s ∷ []) members) (sym live.1) in
          subst (λ (c : RecordChange). IsRecordChange c members (members_given number (g ∷ []) members)) same
          (subst (λ (after : NumberedMembers). IsRecordChange (slot_replaced number (length its.slots + 1) Deleted (Live live.0)) members after)
          (ap (λ (m : MemberState). with_member number m members) (appended-given its g.rrn live.0 next) ∙ made)
          (added-changes number live.0 members there))

-- they lead from the members before them to those after them
pub given-leads : (number : ℕ) (given : List SlotGiven) (members : NumberedMembers) → IsSome (member_at number members) → CanTake (member_of number members) given
    → LeadTo (changes_given number given (member_of number members).slots) members (members_given number given members)
given-leads number [] members there takes = sym (given-none number members there)
given-leads number (g ∷ given) members there takes =
    let between = members_given number (g ∷ []) members in
    let is = member-next number g given members there in
    let later : LeadTo (changes_given number given (member_of number between).slots) between (members_given number given between) =
    given-leads number given between (there-next number g given members there)
    (subst (λ (m : MemberState). CanTake m given) (sym is) (rest-takes (member_of number members) g given takes)) in (
      between,
      first-changes number g members there (first-takes (member_of number members) g given takes),
      subst (λ (after : NumberedMembers). LeadTo (changes_given number given (put_slot (member_of number members).slots (place_given g) g.slot)) between after) (given-step number g given members there)
          (subst (λ (m : MemberState). LeadTo (changes_given number given m.slots) between (members_given number given between)) is later),
    )

-- ---- what holds of each slot

pub put-holds : (P : Slot → Type 0) → P Deleted → (slots : List Slot) (place : ℕ) (new : Slot) → AllByRecursion P slots → P new → AllByRecursion P (put_slot slots place new)
put-holds P none [] zero new all own = (own, tt)
put-holds P none [] (suc place) new all own = (none, put-holds P none [] place new tt own)
put-holds P none (s ∷ slots) zero new all own = (own, all.1)
put-holds P none (s ∷ slots) (suc place) new all own = (all.0, put-holds P none slots place new all.1 own)

pub given-hold : (P : Slot → Type 0) → P Deleted → (given : List SlotGiven) (slots : List Slot) → AllByRecursion P slots → AllByRecursion (λ (g : SlotGiven). P g.slot) given → AllByRecursion P (given_slots given slots)
given-hold P none [] slots all each = all
given-hold P none (g ∷ given) slots all each = given-hold P none given (put_slot slots (place_given g) g.slot) (put-holds P none slots (place_given g) g.slot all each.0) each.1

each-other : {A : Type 0} (P Q : A → Type 0) → ((x : A) → P x → Q x) → (xs : List A) → AllByRecursion P xs → AllByRecursion Q xs
each-other P Q so [] all = tt
each-other P Q so (x ∷ xs) all = (so x all.0, each-other P Q so xs all.1)

-- the images are of bytes
pub given-bytes : (number : ℕ) (given : List SlotGiven) (members : NumberedMembers) → AreOfBytes members → AllByRecursion (λ (g : SlotGiven). HasBytes g.slot) given → AreOfBytes (members_given number given members)
given-bytes number given members all each =
    bytes-with number (given_to given (member_of number members)) members (given-hold HasBytes tt given (member_of number members).slots (bytes-member number members all) each) all

-- the library is one after them
pub given-one : (s : State) (bytes after number : ℕ) (given : List SlotGiven) → AreOne s bytes → MayGive s number given
    → after + weight (member_of number s.members) ≡ bytes + weight (given_to given (member_of number s.members))
    → AreOne (record s { members = members_given number given s.members }) after
given-one s bytes after number given one may counted =
    let member = member_of number s.members in
    let here = at-member_of number s.members (is_some-IsSome _ may.there) in
    let sum = library_bytes-with number member (given_to given member) s.members here in
    AreOne-with_member s bytes after number (given_to given member) one
    (λ name file owns.
    let has = HasRecords-member_of (fields_of file) number s.members (one.lawful.members name file number owns) in
    record {
      long = has.long;
      values =
          given-hold (HoldsValues (fields_of file)) tt given member.slots has.values
          (each-other (λ (g : SlotGiven). MayStand s number g.slot) (λ (g : SlotGiven). HoldsValues (fields_of file) g.slot) (λ g stands. stands name file owns) given may.values);
    })
    (let was = one.counted in omega (arith, sum, counted, was)) may.bytes
    (AllGoBack-with s.files s.members number (given_to given member) s.jobs refl (grows given member.slots) one.lawful.changes)

pub none-left : (given : List SlotGiven) (n : ℕ) → n ≡ length given → 0 ≡ n → given ≡ []
none-left [] n long none = refl
none-left (g ∷ given) n long none = absurd (omega (arith, long, none))

-- no record stands behind the last slot, so that one that is taken away stands before it
pub deleted-within : (member : MemberState) (g : SlotGiven) → CanTake member (g ∷ []) → g.slot ≡ Deleted → g.rrn ≤ length member.slots
deleted-within member g takes gone = by (nat_lt (length member.slots) g.rrn) refl
  where
    by : (b : Bool) → nat_lt (length member.slots) g.rrn ≡ b → g.rrn ≤ length member.slots
    by false is = grind (arith, nat_tests)
    by true is =
        let past : length member.slots < g.rrn = grind (arith, nat_tests) in
        let live : is_live Deleted ≡ true = ap is_live (sym gone) ∙ takes.records.0 past in
        absurd cc
