-- Rolling back every open commit cycle, one after the other, undoes all open changes backwards.
use Rattle.std.proofs.Common.{◌≡◌, ◌⊎◌, ℕ, Bool, true, false, ◌||◌, ◌==◌, cond, List, [], ◌∷◌, ◌++◌, Option, Some, None, refl, sym, ap, ◌∙◌, subst, arith, inl, inr}
use Rattle.std.specs.List.{filter, AllByRecursion}
use Rattle.std.proofs.lemmas.Bool.{cases_eq, eq-eqb, ne_eqb, eqb-true, eqb-false}
use Rattle.std.proofs.lemmas.Bool.Decides.{nat_tests}
use Rattle.member_slots.specs.declared.slot.Slot.{Slot}
use Rattle.journal_model.specs.Acts.{Act, RolledBack, Change, is_number}
use Rattle.journal_model.specs.Places.{slot_of, put_slot, HasSameRecords}
use Rattle.journal_model.specs.Replay.{State, state_at, replay, moved, all_moved, back, before_of, is_in}
use Rattle.journal_model.specs.Replayable.{CanReplay, is_one_of}
use Rattle.journal_model.specs.Settled.{settled}
use Rattle.journal_model.specs.Restart.{undo_acts, all_rollback_acts, all_undone}
use Rattle.journal_model.proofs.PlaceLemmas.{slot_of-put_same, slot_of-put_other}
use Rattle.journal_model.proofs.EachLemmas.{each-weaker, each-filter, Distinct}
use Rattle.journal_model.proofs.SoundLemmas.{IsSound, HasOpen, AreOf, AgreeAt, NoneAt, solo-at, back-filters, back-free, sound-start, sound-replay}
use Rattle.journal_model.proofs.SettledLemmas.{back-none, settled-replay}

pub all_moved-append : (slots : List Slot) (xs ys : List Act) → all_moved slots (xs ++ ys) ≡ all_moved (all_moved slots xs) ys
all_moved-append slots [] ys = refl
all_moved-append slots (a ∷ xs) ys = all_moved-append (moved slots a) xs ys

module _ (place : ℕ) where
  pub undo_acts-at : (undos : List Change) (slots : List Slot) → slot_of (all_moved slots (undo_acts undos)) place ≡ back place undos (slot_of slots place)
  undo_acts-at [] slots = refl
  undo_acts-at (c ∷ undos) slots = undo_acts-at undos (put_slot slots c.place (before_of c)) ∙ ap (back place undos) (at (cases_eq c.place place)) where
    at : (c.place ≡ place) ⊎ (c.place ≡ place → ⊥) → slot_of (put_slot slots c.place (before_of c)) place ≡ cond (c.place == place) (before_of c) (slot_of slots place)
    at (inl e) = subst (λ (q : ℕ). slot_of (put_slot slots c.place (before_of c)) q ≡ before_of c) e (slot_of-put_same slots c.place (before_of c))
        ∙ ap (λ (b : Bool). cond b (before_of c) (slot_of slots place)) (sym (eq-eqb c.place place e))
    at (inr differs) = slot_of-put_other slots c.place place (before_of c) differs ∙ ap (λ (b : Bool). cond b (before_of c) (slot_of slots place)) (sym (ne_eqb c.place place differs))

  -- the slot, once the changes of these commit cycles are undone
  all_back : List ℕ → List Change → Slot → Slot
  all_back [] undos slot = slot
  all_back (n ∷ cycles) undos slot = all_back cycles undos (back place (filter (is_in n) undos) slot)

  rollbacks-at : (cycles : List ℕ) (undos : List Change) (slots : List Slot) → slot_of (all_moved slots (all_rollback_acts cycles undos)) place ≡ all_back cycles undos (slot_of slots place)
  unfolding all_back
  rollbacks-at [] undos slots = refl
  rollbacks-at (n ∷ cycles) undos slots =
      let own = undo_acts (filter (is_in n) undos) in
      ap (λ (s : List Slot). slot_of s place) (all_moved-append slots (own ++ RolledBack n ∷ []) (all_rollback_acts cycles undos)
      ∙ ap (λ (s : List Slot). all_moved s (all_rollback_acts cycles undos)) (all_moved-append slots own (RolledBack n ∷ [])))
      ∙ rollbacks-at cycles undos (all_moved slots own)
      ∙ ap (all_back cycles undos) (undo_acts-at (filter (is_in n) undos) slots)

  -- the place's changes are of one commit cycle, so undoing the others leaves it
  in_all : (n : ℕ) (cycle : Option ℕ) (b : Bool) (undos : List Change) → is_number cycle n ≡ b → AreOf place cycle undos → AgreeAt place (is_in n) (λ _. b) undos
  in_all n cycle b undos e h = each-weaker (λ (c : Change). c.place ≡ place → c.cycle ≡ cycle) (λ (c : Change). c.place ≡ place
      → is_in n c ≡ b) undos (λ c w f. ap (λ (o : Option ℕ). is_number o n) (w f) ∙ e) h

  all_back-others : (cycles : List ℕ) (n : ℕ) (undos : List Change) (slot : Slot) → AreOf place (Some n) undos → is_one_of cycles n ≡ false → all_back cycles undos slot ≡ slot
  unfolding all_back
  all_back-others [] n undos slot h out = refl
  all_back-others (m ∷ cycles) n undos slot h out =
      let tests = neither (m == n) (is_one_of cycles n) out in
      ap (all_back cycles undos) (back-none place (is_in m) undos slot (in_all m (Some n) false undos (ne_eqb n m (λ e. eqb-false m n tests.0 (sym e))) h))
      ∙ all_back-others cycles n undos slot h tests.1
    where
      neither : (a b : Bool) → a || b ≡ false → (a ≡ false) × (b ≡ false)
      neither a b h = grind (arith, nat_tests)

  filter-true : (undos : List Change) → filter (λ _. true) undos ≡ undos
  filter-true [] = refl
  filter-true (c ∷ undos) = ap (λ us. c ∷ us) (filter-true undos)

  all_back-own : (cycles : List ℕ) (n : ℕ) (undos : List Change) (slot : Slot) → AreOf place (Some n) undos → Distinct cycles → is_one_of cycles n ≡ true
      → all_back cycles undos slot ≡ back place undos slot
  unfolding all_back
  all_back-own [] n undos slot h d there = absurd (cc)
  all_back-own (m ∷ cycles) n undos slot h d there = at (m == n) refl there (all_back-own cycles n undos slot h d.1) where
    at : (b : Bool) → m == n ≡ b → b || is_one_of cycles n ≡ true → (is_one_of cycles n ≡ true → all_back cycles undos slot ≡ back place undos slot)
        → all_back cycles undos (back place (filter (is_in m) undos) slot) ≡ back place undos slot
    at true e f more =
        let same : m ≡ n = eqb-true m n e in
        all_back-others cycles n undos _ h (subst (λ (i : ℕ). is_one_of cycles i ≡ false) same d.0)
        ∙ back-filters place (is_in m) (λ _. true) undos slot (in_all m (Some n) true undos (eq-eqb n m (sym same)) h)
        ∙ ap (λ (us : List Change). back place us slot) (filter-true undos)
    at false e f more =
        ap (all_back cycles undos) (back-none place (is_in m) undos slot (in_all m (Some n) false undos (ne_eqb n m (λ g. eqb-false m n e (sym g))) h))
        ∙ more f

  all_back-free : (cycles : List ℕ) (undos : List Change) (slot : Slot) → NoneAt place undos → all_back cycles undos slot ≡ slot
  unfolding all_back
  all_back-free [] undos slot h = refl
  all_back-free (m ∷ cycles) undos slot h = ap (all_back cycles undos)
      (back-free place (filter (is_in m) undos) slot (each-filter (λ (c : Change). c.place ≡ place → ⊥) (λ (c : Change). c.place ≡ place → ⊥) (is_in m) undos (λ c _ w. w) h))
      ∙ all_back-free cycles undos slot h

  -- no change of the place where its commit cycle isn't open
  none_closed : (cycles : List ℕ) (cycle : Option ℕ) (undos : List Change) → (HasOpen cycles cycle → ⊥) → AreOf place cycle undos
      → AllByRecursion (λ (c : Change). HasOpen cycles c.cycle) undos → NoneAt place undos
  none_closed cycles cycle [] closed h o = tt
  none_closed cycles cycle (c ∷ undos) closed h o = ((λ e. closed (subst (λ (k : Option ℕ). HasOpen cycles k) (h.0 e) o.0)), none_closed cycles cycle undos closed h.1 o.1)

  all_back-whole : (s : State) (slot : Slot) → IsSound s → all_back s.cycles s.undos slot ≡ back place s.undos slot
  all_back-whole s slot i = at (solo-at place s.undos i.solo) where
    by : (n : ℕ) (b : Bool) → is_one_of s.cycles n ≡ b → AreOf place (Some n) s.undos → all_back s.cycles s.undos slot ≡ back place s.undos slot
    by n true e h = all_back-own s.cycles n s.undos slot h i.distinct e
    by n false e h =
        let free : NoneAt place s.undos = none_closed s.cycles (Some n) s.undos (λ f. absurd (cc)) h i.of_open in
        all_back-free s.cycles s.undos slot free ∙ sym (back-free place s.undos slot free)

    at : (cycle : Option ℕ) × AreOf place cycle s.undos → all_back s.cycles s.undos slot ≡ back place s.undos slot
    at o = of o.0 o.1 where
      of : (cycle : Option ℕ) → AreOf place cycle s.undos → all_back s.cycles s.undos slot ≡ back place s.undos slot
      of None h =
          let free : NoneAt place s.undos = none_closed s.cycles None s.undos (λ f. f) h i.of_open in
          all_back-free s.cycles s.undos slot free ∙ sym (back-free place s.undos slot free)
      of (Some n) h = by n (is_one_of s.cycles n) refl h

  pub all_undone-at : (s : State) → IsSound s → slot_of (all_undone s) place ≡ back place s.undos (slot_of s.slots place)
  all_undone-at s i = rollbacks-at s.cycles s.undos s.slots ∙ all_back-whole s (slot_of s.slots place) i

pub all_undone-settled : (next : ℕ) (slots : List Slot) (journal : List Act) → CanReplay (state_at next slots) journal
    → HasSameRecords (all_undone (replay (state_at next slots) journal)) (settled slots journal)
all_undone-settled next slots journal r = record {
  records = λ place. all_undone-at place (replay (state_at next slots) journal) (sound-replay (state_at next slots) journal (sound-start next slots) r)
      ∙ sym (settled-replay next slots journal r place);
}
