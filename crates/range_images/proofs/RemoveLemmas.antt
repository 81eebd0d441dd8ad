-- The answer of a removal, once no break is on the way.
use Rattle.std.proofs.Common.{◌≡◌, ℕ, ◌+◌, ◌-◌, Bool, true, false, cond, List, [], ◌∷◌, length, map, reverse, is_none, Option, Some, None, Result, Err, refl, sym, ap, ◌∙◌}
use Rattle.std.specs.Option.{option_map}
use Rattle.std.specs.List.{find}
use Rattle.member_slots.specs.declared.slot.Slot.{Slot}
use Rattle.journal_model.specs.Acts.{Act}
use Rattle.journal_model.specs.Walks.{RangeFault, NeedsBoth, Numbered, numbered, remove}
use Rattle.journal_model.specs.Ranges.{lacks_before, placed, first_renumbering, first_lacking, first_fault, RangeDone, done}
use Rattle.range_images.specs.declared.change.Side.{Side}
use Rattle.range_images.specs.declared.change.SlotChange.{SlotChange}
use Rattle.range_images.specs.declared.fault.ImagesFault.{ImagesFault}
use Rattle.range_images.specs.declared.fault.ImagesFault.TheVariants.{NoMemory, Refused}
use Rattle.range_images.specs.Sides.{slot_shown, numbered_of}
use Rattle.range_images.specs.Faults.{TellsFault}
use Rattle.range_images.specs.declared.slot_given.SlotGiven.{SlotGiven}
use Rattle.range_images.specs.Given.{GivenState}
use Rattle.range_images.specs.Images.{removed_answer, IsFirstBreak, lacking_in}
use Rattle.range_images.proofs.BreakLemmas.{map-reverse}

lacks-shown : (before : Option Side) → is_none (option_map slot_shown before) ≡ is_none before
lacks-shown None = refl
lacks-shown (Some side) = refl

lacking-forward : (cs : List SlotChange) → first_lacking (map numbered_of cs) ≡ option_map NeedsBoth (lacking_in cs)
lacking-forward [] = refl
lacking-forward (c ∷ cs) =
    ap (λ (b : Bool). option_map (λ (n : Numbered). NeedsBoth n.sequence) (cond b (Some (numbered_of c)) (find lacks_before (map numbered_of cs)))) (lacks-shown c.sides.before)
    ∙ at (is_none c.sides.before) (lacking-forward cs)
  where
    at : (b : Bool) → first_lacking (map numbered_of cs) ≡ option_map NeedsBoth (lacking_in cs)
        → option_map (λ (n : Numbered). NeedsBoth n.sequence) (cond b (Some (numbered_of c)) (find lacks_before (map numbered_of cs))) ≡ option_map NeedsBoth (cond b (Some c.sequence) (lacking_in cs))
    at true more = refl
    at false more = more

module _ (first : ℕ) (part : List Act) (slots : List Slot) (cs : List SlotChange) (fits : map numbered_of cs ≡ numbered first part) (free : IsFirstBreak None (reverse (placed first part))) where
  lacking : first_lacking (reverse (numbered first part)) ≡ option_map NeedsBoth (lacking_in (reverse cs))
  lacking = ap (λ ns. first_lacking (reverse ns)) (sym fits) ∙ ap first_lacking (sym (map-reverse numbered_of cs)) ∙ lacking-forward (reverse cs)

  behind_breaks : removed_answer first part slots
      ≡ first_fault (first_lacking (reverse (numbered first part)) ∷ []) (done first (first + length part - 1) (numbered first part) (remove (numbered first part) slots))
  behind_breaks =
      let end = done first (first + length part - 1) (numbered first part) (remove (numbered first part) slots) in
      let lack = first_lacking (reverse (numbered first part)) in
      ap (λ (o : Option RangeFault). first_fault (o ∷ first_renumbering (reverse (placed first part)) ∷ lack ∷ []) end) free.0
      ∙ ap (λ (o : Option RangeFault). first_fault (o ∷ lack ∷ []) end) free.1

  pub removed-lacking : (sequence : ℕ) → Some sequence ≡ lacking_in (reverse cs) → removed_answer first part slots ≡ Err (NeedsBoth sequence)
  removed-lacking sequence there =
      let end = done first (first + length part - 1) (numbered first part) (remove (numbered first part) slots) in
      behind_breaks ∙ ap (λ (o : Option RangeFault). first_fault (o ∷ []) end) (lacking ∙ ap (option_map NeedsBoth) (sym there))

  pub removed-way : None ≡ lacking_in (reverse cs) → removed_answer first part slots ≡ done first (first + length part - 1) (numbered first part) (remove (map numbered_of cs) slots)
  removed-way none =
      let end = done first (first + length part - 1) (numbered first part) (remove (numbered first part) slots) in
      behind_breaks
      ∙ ap (λ (o : Option RangeFault). first_fault (o ∷ []) end) (lacking ∙ ap (option_map NeedsBoth) (sym none))
      ∙ ap (λ ns. done first (first + length part - 1) (numbered first part) (remove ns slots)) (sym fits)

pub tells-done : (first last : ℕ) (changes : List Numbered) (way : Result (List Slot) RangeFault) (answer : Result RangeDone RangeFault) (e : ImagesFault) → answer ≡ done first last changes way
    → TellsFault {A = GivenState} (Err e) way → TellsFault {A = List SlotGiven} (Err e) answer
tells-done first last changes way answer NoMemory same told = tt
tells-done first last changes way answer (Refused fault) same told = same ∙ ap (done first last changes) told
