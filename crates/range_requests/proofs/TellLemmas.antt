-- A member with the first so many of the slots that are given to it, and the entries that tell of the others.
use Rattle.std.proofs.Common.{◌≡◌, ℕ, ◌+◌, ◌-◌, ◌≤◌, ◌<◌, ◌==◌, Bool, true, List, [], ◌∷◌, ◌++◌, length, map, take, drop, get_or, Some, refl, sym, ap, ◌∙◌, arith, append_assoc}
use Rattle.entry_codec.specs.declared.entries.Draft.{Draft}
use Rattle.member_slots.specs.declared.slot.Slot.{Slot}
use Rattle.journal_model.specs.Places.{slot_of, put_slot}
use Rattle.library_steps.specs.Drafts.{Author, slot_drafts}
use Rattle.library_steps.specs.Ranges.{given_drafts}
use Rattle.range_images.specs.declared.slot_given.SlotGiven.{SlotGiven}
use Rattle.range_images.specs.Given.{place_given, given_slots}
use Rattle.given_changes.proofs.StoodLemmas.{IsStanding, given-more, rest-more, standing-counted}
use Rattle.range_requests.specs.Walks.{as_given}
use Rattle.range_requests.proofs.EndLemmas.{drop-whole}

module _ (given : List SlotGiven) (slots : List Slot) (i count : ℕ) (g : SlotGiven) (below : i < length given) (is : g ≡ get_or given i g) (now : IsStanding given slots i count) where
  -- the entries of the next slot, before those of the others
  pub telling-more : (author : Author) (cycle member : ℕ) (old : Slot) (behind : Bool) (drafts more start : List Draft) → old ≡ slot_of (given_slots (take i given) slots) (g.rrn - 1)
      → behind ≡ (g.rrn - 1 == count)
      → more ≡ drafts ++ slot_drafts author (Some cycle) true behind member g.rrn old g.slot
      → drafts ++ given_drafts author cycle member (given_slots (take i given) slots) (map as_given (drop i given)) ≡ start
      → more ++ given_drafts author cycle member (given_slots (take (i + 1) given) slots) (map as_given (drop (i + 1) given)) ≡ start
  telling-more author cycle member old behind drafts more start stood at_end added so_far =
      let now_slots = given_slots (take i given) slots in
      let rest = map as_given (drop (i + 1) given) in
      let tail = given_drafts author cycle member (put_slot now_slots (place_given g) g.slot) rest in
      let number : g.rrn - 1 + 1 ≡ g.rrn = omega (arith, standing-counted given slots i count g below is now) in
      let here : slot_drafts author (Some cycle) true behind member g.rrn old g.slot ≡ slot_drafts author (Some cycle) true (g.rrn - 1 == length now_slots) member (g.rrn - 1 + 1) (slot_of now_slots (g.rrn - 1)) g.slot
      = ap (λ b. slot_drafts author (Some cycle) true b member g.rrn old g.slot) (at_end ∙ ap (λ (k : ℕ). g.rrn - 1 == k) now.held)
      ∙ ap (λ (s : Slot). slot_drafts author (Some cycle) true (g.rrn - 1 == length now_slots) member g.rrn s g.slot) stood
      ∙ ap (λ (k : ℕ). slot_drafts author (Some cycle) true (g.rrn - 1 == length now_slots) member k (slot_of now_slots (g.rrn - 1)) g.slot) (sym number) in
      ap (λ xs. xs ++ given_drafts author cycle member (given_slots (take (i + 1) given) slots) rest) added
      ∙ ap (λ (now : List Slot). (drafts ++ slot_drafts author (Some cycle) true behind member g.rrn old g.slot) ++ given_drafts author cycle member now rest) (given-more given slots i g below is)
      ∙ append_assoc drafts (slot_drafts author (Some cycle) true behind member g.rrn old g.slot) tail
      ∙ ap (λ xs. drafts ++ (xs ++ tail)) here
      ∙ ap (λ xs. drafts ++ given_drafts author cycle member now_slots (map as_given xs)) (sym (rest-more given i g below is))
      ∙ so_far

append-nil : {X : Type 0} (xs : List X) → xs ++ [] ≡ xs
append-nil [] = refl
append-nil (x ∷ xs) = ap (λ rest. x ∷ rest) (append-nil xs)

pub telling-end : (author : Author) (cycle member : ℕ) (given : List SlotGiven) (slots : List Slot) (i : ℕ) (drafts start : List Draft) → length given ≤ i
    → drafts ++ given_drafts author cycle member (given_slots (take i given) slots) (map as_given (drop i given)) ≡ start → drafts ≡ start
telling-end author cycle member given slots i drafts start past so_far =
    sym (append-nil drafts)
    ∙ ap (λ xs. drafts ++ given_drafts author cycle member (given_slots (take i given) slots) (map as_given xs)) (sym (drop-whole i given past))
    ∙ so_far
