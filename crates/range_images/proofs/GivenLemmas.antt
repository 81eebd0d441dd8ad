-- The slots that were given, read at a place, and what one more makes of the member.
use Rattle.std.proofs.Common.{◌≡◌, ◌≢◌, ℕ, zero, suc, ◌+◌, ◌-◌, ◌≤◌, ◌<◌, ◌==◌, Bool, true, false, cond, List, [], ◌∷◌, ◌++◌, length, get_or, slice_get, Option}
use Rattle.std.proofs.Common.{Some, None, unwrap_or, Result, Ok, refl, sym, ap, ◌∙◌, subst, arith}
use Rattle.std.proofs.lemmas.Bool.Decides.{nat_tests}
use Rattle.member_slots.specs.declared.slot.Slot.{Slot}
use Rattle.member_slots.specs.declared.slot.Slot.TheVariants.{Deleted}
use Rattle.member_slots.specs.Member.{MemberState, slot_at}
use Rattle.journal_model.specs.Places.{slot_of, put_slot, is_same_slot}
use Rattle.journal_model.specs.Walks.{RangeFault, is_met, redo, undo}
use Rattle.journal_model.proofs.PlaceLemmas.{slot_of-put_same, slot_of-put_other, length-put_slot, is_same_slot-same}
use Rattle.journal_model.proofs.WalkLemmas.{redo-goes, undo-goes}
use Rattle.range_images.specs.declared.change.SlotChange.{SlotChange}
use Rattle.range_images.specs.declared.slot_given.SlotGiven.{SlotGiven}
use Rattle.range_images.specs.Sides.{numbered_of}
use Rattle.range_images.specs.Given.{place_given, given_slots, given_after, given_before, GivenState, given_more, later_index, last_index, later_slot, latest_slot, GoesOn}

-- ---- the slots of the member

slot_of-get : (slots : List Slot) (place : ℕ) → slot_of slots place ≡ unwrap_or (slice_get slots place) Deleted
slot_of-get [] place = refl
slot_of-get (s ∷ slots) zero = refl
slot_of-get (s ∷ slots) (suc place) = slot_of-get slots place

pub slot_of-there : (m : MemberState) (place : ℕ) (s : Slot) → slot_at m (place + 1) ≡ Some s → s ≡ slot_of m.slots place
slot_of-there m place s h = at (place + 1 == 0) refl h where
  back : place + 1 - 1 ≡ place
  back = omega arith

  no : place + 1 == 0 ≡ true → ⊥
  no e = grind (arith, nat_tests)

  at : (b : Bool) → (place + 1 == 0) ≡ b → cond b None (slice_get m.slots (place + 1 - 1)) ≡ Some s → s ≡ slot_of m.slots place
  at true e h = absurd (no e)
  at false e h = sym (slot_of-get m.slots place ∙ ap (λ (n : ℕ). unwrap_or (slice_get m.slots n) Deleted) (sym back) ∙ ap (λ (o : Option Slot). unwrap_or o Deleted) h)

pub slot_of-past : (slots : List Slot) (place : ℕ) → length slots ≤ place → slot_of slots place ≡ Deleted
slot_of-past [] place h = refl
slot_of-past (s ∷ slots) zero h = absurd (omega arith)
slot_of-past (s ∷ slots) (suc place) h = slot_of-past slots place (omega arith)

-- ---- what was given last

pub last_index-push : (place : ℕ) (given : List SlotGiven) (g : SlotGiven) → last_index place (given ++ g ∷ []) ≡ cond (place_given g == place) (Some (length given)) (last_index place given)
last_index-push place [] g = refl
last_index-push place (h ∷ given) g = ap (λ (o : Option ℕ). later_index o place h) (last_index-push place given g) ∙ at (place_given g == place) where
  at : (b : Bool) → later_index (cond b (Some (length given)) (last_index place given)) place h ≡ cond b (Some (suc (length given))) (later_index (last_index place given) place h)
  at true = refl
  at false = refl

-- the last one for a place, by its index
pub record IsLast (place i : ℕ) (given : List SlotGiven) : Type 0 where
  pub within : i < length given
  pub shows : (d : SlotGiven) → Some (get_or given i d).slot ≡ latest_slot place given

abbrev index_or : Option ℕ → Bool → Option ℕ
index_or (Some i) b = Some (suc i)
index_or None b = cond b (Some 0) None

index_or-later : (o : Option ℕ) (place : ℕ) (g : SlotGiven) → later_index o place g ≡ index_or o (place_given g == place)
index_or-later (Some i) place g = refl
index_or-later None place g = refl

abbrev slot_or : Option Slot → Bool → Slot → Option Slot
slot_or (Some slot) b new = Some slot
slot_or None b new = cond b (Some new) None

slot_or-later : (o : Option Slot) (place : ℕ) (g : SlotGiven) → later_slot o place g ≡ slot_or o (place_given g == place) g.slot
slot_or-later (Some slot) place g = refl
slot_or-later None place g = refl

pub last-none : (place : ℕ) (given : List SlotGiven) → last_index place given ≡ None → None ≡ latest_slot place given
last-none place [] h = refl
last-none place (g ∷ given) h =
    at (last_index place given) (place_given g == place) (last-none place given) refl (sym (index_or-later (last_index place given) place g) ∙ h)
    ∙ sym (slot_or-later (latest_slot place given) place g)
  where
    at : (o : Option ℕ) (b : Bool) → (last_index place given ≡ None → None ≡ latest_slot place given) → last_index place given ≡ o → index_or o b ≡ None
        → None ≡ slot_or (latest_slot place given) b g.slot
    at (Some i) b more e h = absurd (cc)
    at None true more e h = absurd (cc)
    at None false more e h = ap (λ (o : Option Slot). slot_or o false g.slot) (more e)

pub last-shows : (place : ℕ) (given : List SlotGiven) (i : ℕ) → last_index place given ≡ Some i → IsLast place i given
last-shows place [] i h = absurd (cc)
last-shows place (g ∷ given) i h =
    at (last_index place given) (place_given g == place) (last-shows place given) (last-none place given) refl (sym (index_or-later (last_index place given) place g) ∙ h)
  where
    some : (i : ℕ) → IsLast place i given → IsLast place (suc i) (g ∷ given)
    some i last = record {
      within = omega (arith, last.within);
      shows = λ d. ap (λ (o : Option Slot). later_slot o place g) (last.shows d);
    }

    here : None ≡ latest_slot place given → (place_given g == place) ≡ true → IsLast place 0 (g ∷ given)
    here none same = record {
      within = omega arith;
      shows = λ d. sym (ap (λ (o : Option Slot). later_slot o place g) (sym none) ∙ ap (λ b. cond b (Some g.slot) None) same);
    }

    next : (j : ℕ) → Some (suc j) ≡ Some i → suc j ≡ i
    next j e = cc

    zeroth : Some 0 ≡ Some i → 0 ≡ i
    zeroth e = cc

    decide : (b : Bool) → (place_given g == place) ≡ b → None ≡ latest_slot place given → cond b (Some 0) None ≡ Some i → IsLast place i (g ∷ given)
    decide true same none h = subst (λ (n : ℕ). IsLast place n (g ∷ given)) (zeroth h) (here none same)
    decide false same none h = absurd (cc)

    at : (o : Option ℕ) (b : Bool) → ((i : ℕ) → last_index place given ≡ Some i → IsLast place i given) → (last_index place given ≡ None → None ≡ latest_slot place given) → last_index place given ≡ o
        → index_or o (place_given g == place) ≡ Some i → IsLast place i (g ∷ given)
    at (Some j) b more none e h = subst (λ (n : ℕ). IsLast place n (g ∷ given)) (next j h) (some j (more j e))
    at None b more none e h = decide (place_given g == place) refl (none e) h

-- ---- the slots of the member by that

pub slot_of-given : (given : List SlotGiven) (slots : List Slot) (place : ℕ) → slot_of (given_slots given slots) place ≡ unwrap_or (latest_slot place given) (slot_of slots place)
slot_of-given [] slots place = refl
slot_of-given (g ∷ given) slots place =
    slot_of-given given (put_slot slots (place_given g) g.slot) place
    ∙ at (latest_slot place given) (place_given g == place) refl
    ∙ ap (λ (o : Option Slot). unwrap_or o (slot_of slots place)) (sym (slot_or-later (latest_slot place given) place g))
  where
    alike : (place_given g == place) ≡ true → place_given g ≡ place
    alike e = grind (arith, nat_tests)

    differs : (place_given g == place) ≡ false → place_given g ≢ place
    differs e = λ same. (let no : ⊥ = grind (arith, nat_tests) in no)

    at : (o : Option Slot) (b : Bool) → (place_given g == place) ≡ b → unwrap_or o (slot_of (put_slot slots (place_given g) g.slot) place) ≡ unwrap_or (slot_or o b g.slot) (slot_of slots place)
    at (Some slot) b e = refl
    at None true e = subst (λ (p : ℕ). slot_of (put_slot slots (place_given g) g.slot) p ≡ g.slot) (alike e) (slot_of-put_same slots (place_given g) g.slot)
    at None false e = slot_of-put_other slots (place_given g) place g.slot (differs e)

pub given_slots-push : (given : List SlotGiven) (g : SlotGiven) (slots : List Slot) → given_slots (given ++ g ∷ []) slots ≡ put_slot (given_slots given slots) (place_given g) g.slot
given_slots-push [] g slots = refl
given_slots-push (h ∷ given) g slots = given_slots-push given g (put_slot slots (place_given h) h.slot)

-- ---- a step that goes on

goes-on : (answer : Result (List Slot) RangeFault) (slots : List Slot) (g : SlotGiven) (old new : GivenState) → 1 ≤ g.rrn → old.count ≡ length (given_slots old.given slots)
    → answer ≡ Ok (put_slot (given_slots old.given slots) (place_given g) g.slot) → new ≡ given_more g old → GoesOn answer slots g old new
goes-on answer slots g old new counted held gave more =
    let now = given_slots old.given slots in
    let made : given_slots (given_more g old).given slots ≡ put_slot now (place_given g) g.slot = given_slots-push old.given g slots in
    subst (λ (s : GivenState). GoesOn answer slots g old s) (sym more) (record {
      gave = gave ∙ ap Ok (sym made);
      given = refl;
      held = omega (arith, held, ap length made, length-put_slot now (place_given g) g.slot);
    })

same_given : (a b : ℕ) (s t : Slot) → a ≡ b → s ≡ t → (let g : SlotGiven = record { rrn = a; slot = s } in g) ≡ record { rrn = b; slot = t }
same_given a b s t p q = cc

pub redo-goes_on : (c : SlotChange) (slots : List Slot) (slot : Slot) (old new : GivenState) → 1 ≤ c.rrn → old.count ≡ length (given_slots old.given slots) → c.rrn - 1 ≤ old.count
    → is_met (numbered_of c).change.before (slot_of (given_slots old.given slots) (c.rrn - 1)) ≡ true → slot ≡ (numbered_of c).change.after → new ≡ given_more (record { rrn = c.rrn; slot = slot }) old
    → GoesOn (redo (numbered_of c) (given_slots old.given slots)) slots (given_after (numbered_of c)) old new
redo-goes_on c slots slot old new counted held there met same more =
    let n = numbered_of c in
    let now = given_slots old.given slots in
    let g : SlotGiven = record { rrn = c.rrn; slot = slot } in
    let is : g ≡ given_after n = same_given c.rrn (c.rrn - 1 + 1) slot n.change.after (omega arith) same in
    let went : redo n now ≡ Ok (put_slot now (c.rrn - 1) slot) = redo-goes n now (omega (arith, held)) met ∙ ap (λ (s : Slot). Ok (put_slot now (c.rrn - 1) s)) (sym same) in
    subst (λ (h : SlotGiven). GoesOn (redo n now) slots h old new) is (goes-on (redo n now) slots g old new counted held went more)

pub undo-goes_on : (c : SlotChange) (slots : List Slot) (side slot : Slot) (old new : GivenState) → 1 ≤ c.rrn → old.count ≡ length (given_slots old.given slots)
    → (numbered_of c).change.before ≡ Some side → c.rrn - 1 < old.count
    → is_same_slot (numbered_of c).change.after (slot_of (given_slots old.given slots) (c.rrn - 1)) ≡ true → slot ≡ side → new ≡ given_more (record { rrn = c.rrn; slot = slot }) old
    → GoesOn (undo (numbered_of c) (given_slots old.given slots)) slots (given_before (numbered_of c)) old new
undo-goes_on c slots side slot old new counted held told there met same more =
    let n = numbered_of c in
    let now = given_slots old.given slots in
    let g : SlotGiven = record { rrn = c.rrn; slot = slot } in
    let is : g ≡ given_before n = same_given c.rrn (c.rrn - 1 + 1) slot (unwrap_or n.change.before Deleted) (omega arith) (same ∙ ap (λ (o : Option Slot). unwrap_or o Deleted) (sym told)) in
    let stood : slot_of now (c.rrn - 1) ≡ n.change.after = sym (is_same_slot-same n.change.after (slot_of now (c.rrn - 1)) met) in
    let went : undo n now ≡ Ok (put_slot now (c.rrn - 1) slot) = undo-goes n now side told (omega (arith, held)) stood ∙ ap (λ (s : Slot). Ok (put_slot now (c.rrn - 1) s)) (sym same) in
    subst (λ (h : SlotGiven). GoesOn (undo n now) slots h old new) is (goes-on (undo n now) slots g old new counted held went more)
