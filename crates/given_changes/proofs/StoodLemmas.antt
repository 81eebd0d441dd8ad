-- A member with the first so many of the slots that are given to it.
use Rattle.std.proofs.Common.{◌≡◌, ℕ, zero, suc, ◌+◌, ◌-◌, ◌≤◌, ◌<◌, ◌==◌, max, cond, List, [], ◌∷◌, ◌++◌, length, map, take, drop, get_or, Some, refl, sym, ap, ◌∙◌, subst, arith, append_assoc}
use Rattle.std.proofs.lemmas.List.{drop_more, take_more}
use Rattle.member_slots.specs.declared.slot.Slot.{Slot}
use Rattle.journal_model.specs.Places.{slot_of, put_slot}
use Rattle.journal_model.proofs.PlaceLemmas.{length-put_slot}
use Rattle.path_set.specs.RecordChanges.{RecordChange}
use Rattle.path_set.specs.MemberSteps.{slot_replaced}
use Rattle.range_images.specs.declared.slot_given.SlotGiven.{SlotGiven}
use Rattle.range_images.specs.Given.{place_given, given_slots, last_index, AreInPlace}
use Rattle.range_images.proofs.GivenLemmas.{given_slots-push, last_index-push}
use Rattle.given_changes.specs.GivenChanges.{changes_given}

length-take : {X : Type 0} (i : ℕ) (xs : List X) → i ≤ length xs → length (take i xs) ≡ i
length-take zero xs h = refl
length-take (suc i) [] h = absurd (omega arith)
length-take (suc i) (x ∷ xs) h = ap suc (length-take i xs (omega arith))

take-whole : {X : Type 0} (i : ℕ) (xs : List X) → length xs ≤ i → take i xs ≡ xs
take-whole zero [] h = refl
take-whole (suc i) [] h = refl
take-whole zero (x ∷ xs) h = absurd (omega arith)
take-whole (suc i) (x ∷ xs) h = ap (λ ys. x ∷ ys) (take-whole i xs (omega arith))

drop-whole : {X : Type 0} (i : ℕ) (xs : List X) → length xs ≤ i → drop i xs ≡ []
drop-whole zero [] h = refl
drop-whole (suc i) [] h = refl
drop-whole zero (x ∷ xs) h = absurd (omega arith)
drop-whole (suc i) (x ∷ xs) h = drop-whole i xs (omega arith)

-- so many were given, and the member has so many slots by that
pub record IsStanding (given : List SlotGiven) (slots : List Slot) (i count : ℕ) : Type 0 where
  pub held : count ≡ length (given_slots (take i given) slots)
  pub places : AreInPlace 1 (drop i given) (given_slots (take i given) slots)

pub given-more : (given : List SlotGiven) (slots : List Slot) (i : ℕ) (g : SlotGiven) → i < length given → g ≡ get_or given i g
    → given_slots (take (i + 1) given) slots ≡ put_slot (given_slots (take i given) slots) (place_given g) g.slot
given-more given slots i g below is =
    ap (λ xs. given_slots xs slots) (take_more given i g below ∙ ap (λ (d : SlotGiven). take i given ++ d ∷ []) (sym is)) ∙ given_slots-push (take i given) g slots

pub rest-more : (given : List SlotGiven) (i : ℕ) (g : SlotGiven) → i < length given → g ≡ get_or given i g → drop i given ≡ g ∷ drop (i + 1) given
rest-more given i g below is = drop_more given i g below ∙ ap (λ (d : SlotGiven). d ∷ drop (i + 1) given) (sym is)

module _ (given : List SlotGiven) (slots : List Slot) (i count : ℕ) (g : SlotGiven) (below : i < length given) (is : g ≡ get_or given i g) (now : IsStanding given slots i count) where
  pub next-places : AreInPlace 1 (g ∷ drop (i + 1) given) (given_slots (take i given) slots)
  next-places = subst (λ xs. AreInPlace 1 xs (given_slots (take i given) slots)) (rest-more given i g below is) now.places

  pub standing-counted : 1 ≤ g.rrn
  standing-counted = next-places.0

  pub standing-more : IsStanding given slots (i + 1) (max count g.rrn)
  standing-more =
      let more = given-more given slots i g below is in
      record {
        held = omega (arith, now.held, ap length more, length-put_slot (given_slots (take i given) slots) (place_given g) g.slot, standing-counted);
        places = subst (λ (now : List Slot). AreInPlace 1 (drop (i + 1) given) now) (sym more) next-places.2;
      }

  -- the change of the next slot, before those of the others
  pub changes-more : (number : ℕ) (old : Slot) (before more start : List RecordChange) → old ≡ slot_of (given_slots (take i given) slots) (g.rrn - 1)
      → more ≡ before ++ slot_replaced number g.rrn old g.slot ∷ [] → before ++ changes_given number (drop i given) (given_slots (take i given) slots) ≡ start
      → more ++ changes_given number (drop (i + 1) given) (given_slots (take (i + 1) given) slots) ≡ start
  changes-more number old before more start stood added so_far =
      let rest = drop (i + 1) given in
      let tail = changes_given number rest (put_slot (given_slots (take i given) slots) (place_given g) g.slot) in
      ap (λ xs. xs ++ changes_given number rest (given_slots (take (i + 1) given) slots)) added
      ∙ ap (λ (now : List Slot). (before ++ slot_replaced number g.rrn old g.slot ∷ []) ++ changes_given number rest now) (given-more given slots i g below is)
      ∙ append_assoc before (slot_replaced number g.rrn old g.slot ∷ []) tail
      ∙ ap (λ (s : Slot). before ++ slot_replaced number g.rrn s g.slot ∷ tail) stood
      ∙ ap (λ xs. before ++ changes_given number xs (given_slots (take i given) slots)) (sym (rest-more given i g below is))
      ∙ so_far

  -- the last slot for each place
  pub latest-more : (place : ℕ) → last_index place (take (i + 1) given) ≡ cond (place_given g == place) (Some i) (last_index place (take i given))
  latest-more place =
      ap (last_index place) (take_more given i g below ∙ ap (λ (d : SlotGiven). take i given ++ d ∷ []) (sym is))
      ∙ last_index-push place (take i given) g
      ∙ ap (λ (k : ℕ). cond (place_given g == place) (Some k) (last_index place (take i given))) (length-take i given (omega arith))

pub standing-start : (given : List SlotGiven) (slots : List Slot) → AreInPlace 1 given slots → IsStanding given slots 0 (length slots)
standing-start given slots places = record { held = refl; places = places }

pub standing-end : (given : List SlotGiven) (slots : List Slot) (i count : ℕ) → length given ≤ i → IsStanding given slots i count → count ≡ length (given_slots given slots)
standing-end given slots i count past now = now.held ∙ ap (λ xs. length (given_slots xs slots)) (take-whole i given past)

append-nil : {X : Type 0} (xs : List X) → xs ++ [] ≡ xs
append-nil [] = refl
append-nil (x ∷ xs) = ap (λ rest. x ∷ rest) (append-nil xs)

pub map-push : {X Y : Type 0} (f : X → Y) (xs : List X) (x : X) → map f (xs ++ x ∷ []) ≡ map f xs ++ f x ∷ []
map-push f [] x = refl
map-push f (first ∷ xs) x = ap (λ rest. f first ∷ rest) (map-push f xs x)

-- all of them
pub changes-end : (number : ℕ) (given : List SlotGiven) (slots : List Slot) (i : ℕ) (all start : List RecordChange) → length given ≤ i
    → all ++ changes_given number (drop i given) (given_slots (take i given) slots) ≡ start → all ≡ start
changes-end number given slots i all start past so_far =
    sym (append-nil all)
    ∙ ap (λ xs. all ++ changes_given number xs (given_slots (take i given) slots)) (sym (drop-whole i given past))
    ∙ so_far
