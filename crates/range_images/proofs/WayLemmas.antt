-- The way over slot changes, one change after the other, and back.
use Rattle.std.proofs.Common.{◌≡◌, ℕ, ◌+◌, ◌<◌, List, [], ◌∷◌, ◌++◌, length, get_or, take, drop, map, Result, Err, sym, ap, ◌∙◌, subst, append_assoc}
use Rattle.std.proofs.lemmas.List.{drop_more, take_more, append-nil, map-append, reverse-append}
use Rattle.member_slots.specs.declared.slot.Slot.{Slot}
use Rattle.journal_model.specs.Walks.{RangeFault, Numbered, redo, undo, ◌then◌, apply, remove}
use Rattle.journal_model.proofs.WalkLemmas.{remove-append}
use Rattle.range_images.specs.declared.change.SlotChange.{SlotChange}
use Rattle.range_images.specs.declared.fault.ImagesFault.{ImagesFault}
use Rattle.range_images.specs.declared.fault.ImagesFault.TheVariants.{NoMemory, Refused}
use Rattle.range_images.specs.Sides.{numbered_of}
use Rattle.range_images.specs.Faults.{TellsFault}
use Rattle.range_images.specs.Given.{given_slots, given_after, given_forward, given_before, given_back, GivenState, GoesOn, Gave}

-- a fault of a step is the fault of the way
tells-on : (r s : Result (List Slot) RangeFault) (next : List Slot → Result (List Slot) RangeFault) (e : ImagesFault) → (r then next) ≡ s → TellsFault {A = Unit {0}} (Err e) r
    → TellsFault {A = GivenState} (Err e) s
tells-on r s next NoMemory same told = tt
tells-on r s next (Refused fault) same told = sym same ∙ ap (λ (x : Result (List Slot) RangeFault). x then next) told

-- ---- forwards

pub record IsRedone (slots : List Slot) (all rest : List Numbered) (now : GivenState) : Type 0 where
  pub applied : apply rest (given_slots now.given slots) ≡ apply all slots
  pub given : now.given ++ given_forward rest ≡ given_forward all
  pub held : now.count ≡ length (given_slots now.given slots)

redone-step : (slots : List Slot) (all rest : List Numbered) (n : Numbered) (old new : GivenState) → IsRedone slots all (n ∷ rest) old
    → GoesOn (redo n (given_slots old.given slots)) slots (given_after n) old new → IsRedone slots all rest new
redone-step slots all rest n old new h g = record {
  applied = sym (ap (λ (r : Result (List Slot) RangeFault). r then apply rest) g.gave) ∙ h.applied;
  given = ap (λ xs. xs ++ given_forward rest) g.given ∙ append_assoc old.given (given_after n ∷ []) (given_forward rest) ∙ h.given;
  held = g.held;
}

split_at : (cs : List SlotChange) (i : ℕ) (c : SlotChange) → i < length cs → c ≡ get_or cs i c → map numbered_of (drop i cs) ≡ numbered_of c ∷ map numbered_of (drop (i + 1) cs)
split_at cs i c below is = ap (map numbered_of) (drop_more cs i c below) ∙ ap (λ d. numbered_of d ∷ map numbered_of (drop (i + 1) cs)) (sym is)

pub redone-more : (slots : List Slot) (cs : List SlotChange) (i : ℕ) (c : SlotChange) (old new : GivenState) → i < length cs → c ≡ get_or cs i c
    → IsRedone slots (map numbered_of cs) (map numbered_of (drop i cs)) old
    → GoesOn (redo (numbered_of c) (given_slots old.given slots)) slots (given_after (numbered_of c)) old new → IsRedone slots (map numbered_of cs) (map numbered_of (drop (i + 1) cs)) new
redone-more slots cs i c old new below is h g = redone-step slots _ _ (numbered_of c) old new (subst (λ ns. IsRedone slots (map numbered_of cs) ns old) (split_at cs i c below is) h) g

pub redone-faults : (slots : List Slot) (cs : List SlotChange) (i : ℕ) (c : SlotChange) (old : GivenState) (e : ImagesFault) → i < length cs → c ≡ get_or cs i c
    → IsRedone slots (map numbered_of cs) (map numbered_of (drop i cs)) old
    → TellsFault {A = Unit {0}} (Err e) (redo (numbered_of c) (given_slots old.given slots)) → TellsFault {A = GivenState} (Err e) (apply (map numbered_of cs) slots)
redone-faults slots cs i c old e below is h told =
    tells-on _ _ (apply (map numbered_of (drop (i + 1) cs))) e (ap (λ ns. apply ns (given_slots old.given slots)) (sym (split_at cs i c below is)) ∙ h.applied) told

pub redone-whole : (slots : List Slot) (cs : List SlotChange) (i : ℕ) (now : GivenState) → drop i cs ≡ [] → IsRedone slots (map numbered_of cs) (map numbered_of (drop i cs)) now
    → Gave (apply (map numbered_of cs) slots) slots (given_forward (map numbered_of cs)) now
redone-whole slots cs i now none h = record {
  gave = sym h.applied ∙ ap (λ ds. apply (map numbered_of ds) (given_slots now.given slots)) none;
  given = sym (append-nil now.given) ∙ ap (λ ds. now.given ++ given_forward (map numbered_of ds)) (sym none) ∙ h.given;
}

-- ---- backwards

pub record IsUndone (slots : List Slot) (all rest : List Numbered) (now : GivenState) : Type 0 where
  pub removed : remove rest (given_slots now.given slots) ≡ remove all slots
  pub given : now.given ++ given_back rest ≡ given_back all
  pub held : now.count ≡ length (given_slots now.given slots)

remove-last : (rest : List Numbered) (n : Numbered) (slots : List Slot) → remove (rest ++ n ∷ []) slots ≡ undo n slots then remove rest
remove-last rest n slots = remove-append rest (n ∷ []) slots

given_back-last : (rest : List Numbered) (n : Numbered) → given_back (rest ++ n ∷ []) ≡ given_before n ∷ given_back rest
given_back-last rest n = ap (map given_before) (reverse-append rest (n ∷ []))

undone-step : (slots : List Slot) (all rest : List Numbered) (n : Numbered) (old new : GivenState) → IsUndone slots all (rest ++ n ∷ []) old
    → GoesOn (undo n (given_slots old.given slots)) slots (given_before n) old new → IsUndone slots all rest new
undone-step slots all rest n old new h g = record {
  removed = sym (remove-last rest n (given_slots old.given slots) ∙ ap (λ (r : Result (List Slot) RangeFault). r then remove rest) g.gave) ∙ h.removed;
  given = ap (λ xs. xs ++ given_back rest) g.given ∙ append_assoc old.given (given_before n ∷ []) (given_back rest) ∙ ap (λ xs. old.given ++ xs) (sym (given_back-last rest n)) ∙ h.given;
  held = g.held;
}

split_last : (cs : List SlotChange) (i : ℕ) (c : SlotChange) → i < length cs → c ≡ get_or cs i c → map numbered_of (take (i + 1) cs) ≡ map numbered_of (take i cs) ++ numbered_of c ∷ []
split_last cs i c below is = ap (map numbered_of) (take_more cs i c below) ∙ map-append numbered_of (take i cs) (get_or cs i c ∷ [])
    ∙ ap (λ d. map numbered_of (take i cs) ++ numbered_of d ∷ []) (sym is)

pub undone-more : (slots : List Slot) (cs : List SlotChange) (m i : ℕ) (c : SlotChange) (old new : GivenState) → m ≡ i + 1 → i < length cs → c ≡ get_or cs i c
    → IsUndone slots (map numbered_of cs) (map numbered_of (take m cs)) old
    → GoesOn (undo (numbered_of c) (given_slots old.given slots)) slots (given_before (numbered_of c)) old new → IsUndone slots (map numbered_of cs) (map numbered_of (take i cs)) new
undone-more slots cs m i c old new next below is h g =
    undone-step slots _ _ (numbered_of c) old new (subst (λ ns. IsUndone slots (map numbered_of cs) ns old) (ap (λ (k : ℕ). map numbered_of (take k cs)) next ∙ split_last cs i c below is) h) g

pub undone-faults : (slots : List Slot) (cs : List SlotChange) (m i : ℕ) (c : SlotChange) (old : GivenState) (e : ImagesFault) → m ≡ i + 1 → i < length cs → c ≡ get_or cs i c
    → IsUndone slots (map numbered_of cs) (map numbered_of (take m cs)) old
    → TellsFault {A = Unit {0}} (Err e) (undo (numbered_of c) (given_slots old.given slots)) → TellsFault {A = GivenState} (Err e) (remove (map numbered_of cs) slots)
undone-faults slots cs m i c old e next below is h told =
    tells-on _ _ (remove (map numbered_of (take i cs))) e
    (sym (remove-last (map numbered_of (take i cs)) (numbered_of c) (given_slots old.given slots))
    ∙ ap (λ ns. remove ns (given_slots old.given slots)) (sym (ap (λ (k : ℕ). map numbered_of (take k cs)) next ∙ split_last cs i c below is))
    ∙ h.removed)
    told

pub undone-whole : (slots : List Slot) (cs : List SlotChange) (i : ℕ) (now : GivenState) → i ≡ 0 → IsUndone slots (map numbered_of cs) (map numbered_of (take i cs)) now
    → Gave (remove (map numbered_of cs) slots) slots (given_back (map numbered_of cs)) now
undone-whole slots cs i now none h = record {
  gave = sym h.removed ∙ ap (λ (k : ℕ). remove (map numbered_of (take k cs)) (given_slots now.given slots)) none;
  given = sym (append-nil now.given) ∙ ap (λ (k : ℕ). now.given ++ given_back (map numbered_of (take k cs))) (sym none) ∙ h.given;
}
