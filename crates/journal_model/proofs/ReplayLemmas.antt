-- Journals that can be replayed: the test tells, a replayed range applies, and the entries of a record follow one from
-- the other.
use Rattle.std.proofs.Common.{◌≡◌, ℕ, ◌+◌, Bool, true, false, ◌&&◌, ◌||◌, ◌==◌, not, cond, leb, ltb, List, [], ◌∷◌, ◌++◌, length, Option, Some, None, Result, Ok, refl, sym, ap, ◌∙◌, subst, arith, inl, inr, IsTrue}
use Rattle.std.specs.Prelude.{IsOkAnd}
use Rattle.std.specs.List.{list_any, filter}
use Rattle.std.proofs.lemmas.Bool.{cases_eq, eq-eqb, ne_eqb, eqb-true, and_parts, leb-true, ltb-true, eqb-false}
use Rattle.std.proofs.lemmas.Bool.Decides.{nat_tests}
use Rattle.member_slots.specs.declared.slot.Slot.{Slot}
use Rattle.member_slots.specs.declared.slot.Slot.TheVariants.{Live}
use Rattle.journal_model.specs.Acts.{Act, Changed, Began, Committed, RolledBack, Journaled, Stood, Cleared, Reorganized, Ended, Nothing, Change, is_same_number, changes}
use Rattle.journal_model.specs.Places.{slot_of, put_slot, is_same_slot, HasSameRecords}
use Rattle.journal_model.specs.Walks.{RangeFault, numbered, apply, remove, is_met, ◌then◌}
use Rattle.journal_model.specs.Ranges.{is_break, lacks_before}
use Rattle.journal_model.specs.Replay.{State, step, replay, moved, all_moved, back, before_of, is_in}
use Rattle.journal_model.specs.Replayable.{AgreesBefore, IsOpen, IsAlone, MayChange, MayFollow, CanReplay, is_one_of, agrees_before, is_open, is_alone, may_change, is_restored, is_free, may_follow, can_replay}
use Rattle.journal_model.specs.AtSequence.{known_by, touches, before_break, IsSo, Agrees, FollowsKnown, IsChained, known_after, first_before, or_else, slot_at}
use Rattle.journal_model.proofs.PlaceLemmas.{slot_of-put_same, slot_of-put_other, is_same_slot-same, is_same_slot-itself}
use Rattle.journal_model.proofs.WalkLemmas.{redo-goes, remove-gives_back}
use Rattle.journal_model.proofs.SequenceLemmas.{known_after-append}

-- ---- the test tells

is_same_number-same : (a b : Option ℕ) → is_same_number a b ≡ true → a ≡ b
is_same_number-same None None h = refl
is_same_number-same None (Some n) h = absurd (cc)
is_same_number-same (Some m) None h = absurd (cc)
is_same_number-same (Some m) (Some n) h = ap Some (sym (eqb-true n m h))

AgreesBefore-test : (before : Option Slot) (cycle : Option ℕ) (slot : Slot) → agrees_before before cycle slot ≡ true → AgreesBefore before cycle slot
AgreesBefore-test (Some side) cycle slot h = is_same_slot-same slot side h
AgreesBefore-test None None slot h = (refl, h)
AgreesBefore-test None (Some n) slot h = absurd (cc)

IsOpen-test : (cycles : List ℕ) (cycle : Option ℕ) → is_open cycles cycle ≡ true → IsOpen cycles cycle
IsOpen-test cycles None h = tt
IsOpen-test cycles (Some n) h = h

IsAlone-test : (c : Change) (undos : List Change) → is_alone c undos ≡ true → IsAlone c undos
IsAlone-test c [] h = tt
IsAlone-test c (d ∷ undos) h =
    let tests = and_parts (not (d.place == c.place) || is_same_number d.cycle c.cycle) (is_alone c undos) h in
    ((λ e. is_same_number-same d.cycle c.cycle (second (d.place == c.place) (is_same_number d.cycle c.cycle) tests.0 (eq-eqb d.place c.place e))), IsAlone-test c undos tests.1)
  where
    second : (a b : Bool) → not a || b ≡ true → a ≡ true → b ≡ true
    second a b h e = grind (arith, nat_tests)

pub back-untouched : (place : ℕ) (undos : List Change) (slot : Slot) → touches place undos ≡ false → back place undos slot ≡ slot
back-untouched place [] slot h = refl
back-untouched place (c ∷ undos) slot h = at (c.place == place) refl h (back-untouched place undos (cond (c.place == place) (before_of c) slot)) where
  at : (t : Bool) → c.place == place ≡ t → t || touches place undos ≡ false
      → (touches place undos ≡ false → back place undos (cond (c.place == place) (before_of c) slot) ≡ cond (c.place == place) (before_of c) slot)
      → back place undos (cond (c.place == place) (before_of c) slot) ≡ slot
  at true e g more = absurd (cc)
  at false e g more = more g ∙ ap (λ (t : Bool). cond t (before_of c) slot) e

restored_there : (place : ℕ) (undos all : List Change) (slots : List Slot) → is_restored undos all slots ≡ true → touches place undos ≡ true
    → back place all (slot_of slots place) ≡ slot_of slots place
restored_there place [] all slots h t = absurd (cc)
restored_there place (c ∷ undos) all slots h t =
    let tests = and_parts (is_same_slot (back c.place all (slot_of slots c.place)) (slot_of slots c.place)) (is_restored undos all slots) h in
    at tests.0 (restored_there place undos all slots tests.1) (c.place == place) refl t
  where
    at : is_same_slot (back c.place all (slot_of slots c.place)) (slot_of slots c.place) ≡ true → (touches place undos ≡ true → back place all (slot_of slots place) ≡ slot_of slots place)
        → (w : Bool) → c.place == place ≡ w → w || touches place undos ≡ true → back place all (slot_of slots place) ≡ slot_of slots place
    at here more true e g = subst (λ (q : ℕ). back q all (slot_of slots q) ≡ slot_of slots q) (eqb-true c.place place e) (is_same_slot-same _ _ here)
    at here more false e g = more g

restored_by_test : (place : ℕ) (all : List Change) (slots : List Slot) → is_restored all all slots ≡ true → back place all (slot_of slots place) ≡ slot_of slots place
restored_by_test place all slots h = at (touches place all) refl where
  at : (w : Bool) → touches place all ≡ w → back place all (slot_of slots place) ≡ slot_of slots place
  at true e = restored_there place all all slots h e
  at false e = back-untouched place all (slot_of slots place) e

free : (undos : List Change) → is_free undos ≡ true → undos ≡ []
free [] h = refl
free (c ∷ undos) h = absurd (cc)

MayChange-test : (s : State) (c : Change) → may_change s c ≡ true → MayChange s c
MayChange-test s c h =
    let p1 = and_parts (leb c.place (length s.slots) && agrees_before c.before c.cycle (slot_of s.slots c.place) && is_open s.cycles c.cycle) (is_alone c s.undos) h in
    let p2 = and_parts (leb c.place (length s.slots) && agrees_before c.before c.cycle (slot_of s.slots c.place)) (is_open s.cycles c.cycle) p1.0 in
    let p3 = and_parts (leb c.place (length s.slots)) (agrees_before c.before c.cycle (slot_of s.slots c.place)) p2.0 in
    record {
      place = leb-true c.place (length s.slots) p3.0;
      before = AgreesBefore-test c.before c.cycle (slot_of s.slots c.place) p3.1;
      cycle = IsOpen-test s.cycles c.cycle p2.1;
      alone = IsAlone-test c s.undos p1.1;
    }

MayFollow-test : (s : State) (a : Act) → may_follow s a ≡ true → MayFollow s a
MayFollow-test s (Changed c) h = MayChange-test s c h
MayFollow-test s (Began n) h = eqb-true n s.next h
MayFollow-test s (Committed n) h = h
MayFollow-test s (RolledBack n) h =
    let tests = and_parts (is_one_of s.cycles n) (is_restored (filter (is_in n) s.undos) (filter (is_in n) s.undos) s.slots) h in
    record { begun = tests.0; restored = λ place. restored_by_test place (filter (is_in n) s.undos) s.slots tests.1 }
MayFollow-test s (Journaled images number) h = free s.undos h
MayFollow-test s (Stood place image) h =
    let tests = and_parts (is_free s.undos) (ltb place (length s.slots)) h in
    record { free = free s.undos tests.0; there = ltb-true place (length s.slots) tests.1 }
MayFollow-test s Cleared h = free s.undos h
MayFollow-test s Reorganized h = free s.undos h
MayFollow-test s Ended h = free s.undos h
MayFollow-test s Nothing h = tt

pub CanReplay-test : (s : State) (journal : List Act) → can_replay s journal ≡ true → CanReplay s journal
CanReplay-test s [] h = tt
CanReplay-test s (a ∷ journal) h =
    let tests = and_parts (may_follow s a) (can_replay (step s a) journal) h in
    (MayFollow-test s a tests.0, CanReplay-test (step s a) journal tests.1)

-- ---- replaying one part after another

pub replay-append : (s : State) (xs ys : List Act) → replay s (xs ++ ys) ≡ replay (replay s xs) ys
replay-append s [] ys = refl
replay-append s (a ∷ xs) ys = replay-append (step s a) xs ys

pub CanReplay-front : (s : State) (xs ys : List Act) → CanReplay s (xs ++ ys) → CanReplay s xs
CanReplay-front s [] ys h = tt
CanReplay-front s (a ∷ xs) ys h = (h.0, CanReplay-front (step s a) xs ys h.1)

pub CanReplay-back : (s : State) (xs ys : List Act) → CanReplay s (xs ++ ys) → CanReplay (replay s xs) ys
CanReplay-back s [] ys h = h
CanReplay-back s (a ∷ xs) ys h = CanReplay-back (step s a) xs ys h.1

pub CanReplay-append : (s : State) (xs ys : List Act) → CanReplay s xs → CanReplay (replay s xs) ys → CanReplay s (xs ++ ys)
CanReplay-append s [] ys h g = g
CanReplay-append s (a ∷ xs) ys h g = (h.0, CanReplay-append (step s a) xs ys h.1 g)

pub slots-replay : (s : State) (xs : List Act) → (replay s xs).slots ≡ all_moved s.slots xs
slots-replay s [] = refl
slots-replay s (a ∷ xs) = slots-replay (step s a) xs

-- ---- a replayed range applies

met : (before : Option Slot) (cycle : Option ℕ) (slot : Slot) → AgreesBefore before cycle slot → is_met before slot ≡ true
met (Some side) cycle slot h = rw h (is_same_slot-itself side)
met None cycle slot h = h.1

pub apply-replayed : (range : List Act) (s : State) (first : ℕ) → CanReplay s range → list_any is_break range ≡ false → apply (numbered first range) s.slots ≡ Ok (all_moved s.slots range)
apply-replayed [] s first h b = refl
apply-replayed (Changed c ∷ range) s first h b =
    ap (λ (r : Result (List Slot) RangeFault). r then apply (numbered (first + 1) range))
    (redo-goes (record { sequence = first; change = c }) s.slots h.0.place (met c.before c.cycle (slot_of s.slots c.place) h.0.before))
    ∙ apply-replayed range (step s (Changed c)) (first + 1) h.1 b
apply-replayed (Began n ∷ range) s first h b = apply-replayed range (step s (Began n)) (first + 1) h.1 b
apply-replayed (Committed n ∷ range) s first h b = apply-replayed range (step s (Committed n)) (first + 1) h.1 b
apply-replayed (RolledBack n ∷ range) s first h b = apply-replayed range (step s (RolledBack n)) (first + 1) h.1 b
apply-replayed (Journaled images n ∷ range) s first h b = absurd (cc)
apply-replayed (Stood place image ∷ range) s first h b = absurd (cc)
apply-replayed (Cleared ∷ range) s first h b = absurd (cc)
apply-replayed (Reorganized ∷ range) s first h b = absurd (cc)
apply-replayed (Ended ∷ range) s first h b = absurd (cc)
apply-replayed (Nothing ∷ range) s first h b = apply-replayed range (step s Nothing) (first + 1) h.1 b

-- and is removed at the journal's end
pub remove-replayed : (range : List Act) (s : State) (first : ℕ) → CanReplay s range → list_any is_break range ≡ false → list_any lacks_before (numbered first range) ≡ false
    → IsOkAnd (remove (numbered first range) (all_moved s.slots range)) (λ given. HasSameRecords given s.slots)
remove-replayed range s first h b told = remove-gives_back (numbered first range) s.slots (all_moved s.slots range) (apply-replayed range s first h b) told

-- ---- the entries of a record

module _ (place : ℕ) where
  agrees : (known before : Option Slot) (cycle : Option ℕ) (slot : Slot) → IsSo known slot → AgreesBefore before cycle slot → Agrees known before
  agrees None before cycle slot k h = tt
  agrees (Some v) None cycle slot k h = tt
  agrees (Some v) (Some side) cycle slot k h = k ∙ h

  so_put : (slots : List Slot) (other : ℕ) (new : Slot) (known : Option Slot) → IsSo known (slot_of slots place)
      → IsSo (cond (other == place) (Some new) known) (slot_of (put_slot slots other new) place)
  so_put slots other new known k = elim (cases_eq other place) [
    | inl e ↦ rw (eq-eqb other place e) (sym (subst (λ (q : ℕ). slot_of (put_slot slots other new) q ≡ new) e (slot_of-put_same slots other new)))
    | inr differs ↦ rw (ne_eqb other place differs, slot_of-put_other slots other place new differs) k
  ]

  so_by : (s : State) (a : Act) (known : Option Slot) → IsSo known (slot_of s.slots place) → IsSo (known_by place known a) (slot_of (moved s.slots a) place)
  so_by s (Changed c) known k = so_put s.slots c.place c.after known k
  so_by s (Began n) known k = k
  so_by s (Committed n) known k = k
  so_by s (RolledBack n) known k = k
  so_by s (Journaled images n) known k = tt
  so_by s (Stood other image) known k = so_put s.slots other (Live image) known k
  so_by s Cleared known k = tt
  so_by s Reorganized known k = tt
  so_by s Ended known k = tt
  so_by s Nothing known k = k

  follows : (s : State) (a : Act) (known : Option Slot) → IsSo known (slot_of s.slots place) → MayFollow s a → FollowsKnown place known a
  follows s (Changed c) known k h = λ e. agrees known c.before c.cycle (slot_of s.slots c.place) (subst (λ (q : ℕ). IsSo known (slot_of s.slots q)) (sym e) k) h.before
  follows s (Began n) known k h = tt
  follows s (Committed n) known k h = tt
  follows s (RolledBack n) known k h = tt
  follows s (Journaled images n) known k h = tt
  follows s (Stood other image) known k h = tt
  follows s Cleared known k h = tt
  follows s Reorganized known k h = tt
  follows s Ended known k h = tt
  follows s Nothing known k h = tt

  pub IsChained-replayed : (journal : List Act) (s : State) (known : Option Slot) → IsSo known (slot_of s.slots place) → CanReplay s journal → IsChained place known journal
  IsChained-replayed [] s known k h = tt
  IsChained-replayed (a ∷ journal) s known k h = (follows s a known k h.0, IsChained-replayed journal (step s a) (known_by place known a) (so_by s a known k) h.1)

  -- ---- a record at a sequence

  so_after : (xs : List Act) (s : State) (known : Option Slot) → IsSo known (slot_of s.slots place) → IsSo (known_after place known xs) (slot_of (replay s xs).slots place)
  so_after [] s known k = k
  so_after (a ∷ xs) s known k = so_after xs (step s a) (known_by place known a) (so_by s a known k)

  before_side : (before : Option Slot) (cycle : Option ℕ) (slot side : Slot) → AgreesBefore before cycle slot → before ≡ Some side → side ≡ slot
  before_side None cycle slot side h e = absurd (cc)
  before_side (Some told) cycle slot side h e = let f : told ≡ side = cc in sym (h ∙ f)

  first_so : (ys : List Act) (s : State) (side : Slot) → CanReplay s ys → touches place (changes (before_break ys)) ≡ true → first_before place (changes ys) ≡ Some side → side ≡ slot_of s.slots place
  first_so [] s side h t e = absurd (cc)
  first_so (Changed c ∷ ys) s side h t e = at (c.place == place) refl t e (first_so ys (step s (Changed c)) side h.1) where
    at : (b : Bool) → c.place == place ≡ b → b || touches place (changes (before_break ys)) ≡ true → cond b c.before (first_before place (changes ys)) ≡ Some side
        → (touches place (changes (before_break ys)) ≡ true → first_before place (changes ys) ≡ Some side → side ≡ slot_of (put_slot s.slots c.place c.after) place) → side ≡ slot_of s.slots place
    at true f t e more = before_side c.before c.cycle (slot_of s.slots c.place) side h.0.before e ∙ ap (slot_of s.slots) (eqb-true c.place place f)
    at false f t e more = more t e ∙ slot_of-put_other s.slots c.place place c.after (eqb-false c.place place f)
  first_so (Began n ∷ ys) s side h t e = first_so ys (step s (Began n)) side h.1 t e
  first_so (Committed n ∷ ys) s side h t e = first_so ys (step s (Committed n)) side h.1 t e
  first_so (RolledBack n ∷ ys) s side h t e = first_so ys (step s (RolledBack n)) side h.1 t e
  first_so (Journaled images n ∷ ys) s side h t e = absurd (cc)
  first_so (Stood other image ∷ ys) s side h t e = absurd (cc)
  first_so (Cleared ∷ ys) s side h t e = absurd (cc)
  first_so (Reorganized ∷ ys) s side h t e = absurd (cc)
  first_so (Ended ∷ ys) s side h t e = absurd (cc)
  first_so (Nothing ∷ ys) s side h t e = first_so ys (step s Nothing) side h.1 t e

  slot_by : (known first : Option Slot) (slot now : Slot) → IsSo known now → (first ≡ Some slot → slot ≡ now) → or_else known first ≡ Some slot → slot ≡ now
  slot_by None first slot now k w e = w e
  slot_by (Some v) first slot now k w e = let f : v ≡ slot = cc in sym f ∙ k

  pub slot_at-replay : (before xs ys : List Act) (s : State) (slot : Slot) → IsSo (known_after place None before) (slot_of s.slots place) → CanReplay s (xs ++ ys)
      → IsTrue (touches place (changes (before_break ys))) → slot_at place (before ++ xs) ys ≡ Some slot → slot ≡ slot_of (replay s xs).slots place
  slot_at-replay before xs ys s slot k h t e =
      let known : IsSo (known_after place None (before ++ xs)) (slot_of (replay s xs).slots place) = subst (λ (o : Option Slot). IsSo o (slot_of (replay s xs).slots place))
      (sym (known_after-append place None before xs)) (so_after xs s (known_after place None before) k) in
      slot_by (known_after place None (before ++ xs)) (first_before place (changes ys)) slot (slot_of (replay s xs).slots place) known (first_so ys (replay s xs) slot (CanReplay-back s xs ys h) t) e
