-- What replaying keeps: a record that an open commit cycle changed is changed by that one alone, and the changes of the
-- open ones lead back, the last one first, from the slots as they are.
use Rattle.std.proofs.Common.{◌≡◌, ◌⊎◌, ℕ, ◌+◌, ◌<◌, ◌≤◌, Bool, true, false, ◌||◌, ◌==◌, not, cond, List, [], ◌∷◌, ◌++◌, length, Option, Some, None, refl, sym, ap, ◌∙◌, subst, arith, inl, inr, replicate, unwrap_or}
use Rattle.std.specs.Prelude.{⊤}
use Rattle.std.specs.List.{filter, AllByRecursion}
use Rattle.std.proofs.lemmas.Bool.{cases_eq, eq-eqb, ne_eqb, eqb-true}
use Rattle.std.proofs.lemmas.Bool.Decides.{nat_tests}
use Rattle.member_slots.specs.declared.slot.Slot.{Slot}
use Rattle.member_slots.specs.declared.slot.Slot.TheVariants.{Live, Deleted}
use Rattle.member_slots.specs.Member.{is_live}
use Rattle.journal_model.specs.Acts.{Act, Changed, Began, Committed, RolledBack, Journaled, Stood, Cleared, Reorganized, Ended, Nothing, Change, is_number}
use Rattle.journal_model.specs.Places.{slot_of, put_slot}
use Rattle.journal_model.specs.Replay.{State, state_at, step, replay, noted, back, before_of, is_not_in, is_other}
use Rattle.journal_model.specs.Replayable.{AgreesBefore, IsOpen, IsAlone, MayChange, MayFollow, CanReplay, is_one_of}
use Rattle.journal_model.proofs.PlaceLemmas.{slot_of-put_same, slot_of-put_other, length-put_slot}
use Rattle.journal_model.proofs.EachLemmas.{each-weaker, each-filter, one_of-filter, one_of-filtered, one_of-push, Distinct, Distinct-filter, Distinct-push}

-- the change is of an open commit cycle
abbrev pub HasOpen : List ℕ → Option ℕ → Type 0
HasOpen cycles None = ⊥
HasOpen cycles (Some n) = is_one_of cycles n ≡ true

-- changes of one place are of one commit cycle
abbrev pub Solo : List Change → Type 0
Solo [] = ⊤
Solo (c ∷ undos) = IsAlone c undos × Solo undos

-- the changes lead back from this slot, each from the slot that it left
abbrev pub WindsAt : ℕ → Slot → List Change → Type 0
WindsAt place slot [] = ⊤
WindsAt place slot (c ∷ undos) = (c.place ≡ place → slot ≡ c.after) × WindsAt place (cond (c.place == place) (before_of c) slot) undos

-- the places that were changed are there
abbrev pub AreWithin : List Slot → List Change → Type 0
AreWithin slots undos = AllByRecursion (λ (c : Change). c.place < length slots) undos

pub record IsSound (s : State) : Type 0 where
  pub solo : Solo s.undos
  pub of_open : AllByRecursion (λ (c : Change). HasOpen s.cycles c.cycle) s.undos
  pub older : (n : ℕ) → is_one_of s.cycles n ≡ true → n < s.next
  pub distinct : Distinct s.cycles
  pub winds : (place : ℕ) → WindsAt place (slot_of s.slots place) s.undos
  pub within : AreWithin s.slots s.undos

-- ---- the changes of one place

-- all changes of the place are of this commit cycle
abbrev pub AreOf : ℕ → Option ℕ → List Change → Type 0
AreOf place cycle undos = AllByRecursion (λ (c : Change). c.place ≡ place → c.cycle ≡ cycle) undos

pub solo-at : (place : ℕ) (undos : List Change) → Solo undos → (cycle : Option ℕ) × AreOf place cycle undos
solo-at place [] h = (None, tt)
solo-at place (c ∷ undos) h = at (cases_eq c.place place) (solo-at place undos h.1) where
  at : (c.place ≡ place) ⊎ (c.place ≡ place → ⊥) → (cycle : Option ℕ) × AreOf place cycle undos → (cycle : Option ℕ) × AreOf place cycle (c ∷ undos)
  at (inl e) more = (
    c.cycle,
    (
      (λ _. refl),
      each-weaker (λ (d : Change). d.place ≡ c.place → d.cycle ≡ c.cycle) (λ (d : Change). d.place ≡ place
          → d.cycle ≡ c.cycle) undos (λ d w f. w (f ∙ sym e)) h.0,
    ),
  )
  at (inr differs) more = (more.0, ((λ e. absurd (differs e)), more.1))

pub Solo-filter : (p : Change → Bool) (undos : List Change) → Solo undos → Solo (filter p undos)
Solo-filter p [] h = tt
Solo-filter p (c ∷ undos) h = elim (p c) as (λ b. Solo (cond b (c ∷ filter p undos) (filter p undos))) [
  | true ↦ (each-filter (λ (d : Change). d.place ≡ c.place → d.cycle ≡ c.cycle) (λ (d : Change). d.place ≡ c.place → d.cycle ≡ c.cycle) p undos (λ d _ w. w) h.0, Solo-filter p undos h.1)
  | false ↦ Solo-filter p undos h.1
]

-- two tests agree on the changes of the place
abbrev pub AgreeAt : ℕ → (Change → Bool) → (Change → Bool) → List Change → Type 0
AgreeAt place p q undos = AllByRecursion (λ (c : Change). c.place ≡ place → p c ≡ q c) undos

pub back-other : (place : ℕ) (c : Change) (undos : List Change) (slot : Slot) → (c.place ≡ place → ⊥) → back place (c ∷ undos) slot ≡ back place undos slot
back-other place c undos slot differs = ap (λ (b : Bool). back place undos (cond b (before_of c) slot)) (ne_eqb c.place place differs)

pub back-filters : (place : ℕ) (p q : Change → Bool) (undos : List Change) (slot : Slot) → AgreeAt place p q undos → back place (filter p undos) slot ≡ back place (filter q undos) slot
back-filters place p q [] slot h = refl
back-filters place p q (c ∷ undos) slot h = at (cases_eq c.place place) (p c) (q c) h.0 (λ v. back-filters place p q undos v h.1) where
  at : (c.place ≡ place) ⊎ (c.place ≡ place → ⊥) → (a b : Bool) → (c.place ≡ place → a ≡ b) → ((v : Slot) → back place (filter p undos) v ≡ back place (filter q undos) v)
      → back place (cond a (c ∷ filter p undos) (filter p undos)) slot ≡ back place (cond b (c ∷ filter q undos) (filter q undos)) slot
  at o true true w more = more _
  at o false false w more = more slot
  at (inl e) true false w more = let f = w e in absurd (cc)
  at (inl e) false true w more = let f = w e in absurd (cc)
  at (inr differs) true false w more = back-other place c (filter p undos) slot differs ∙ more slot
  at (inr differs) false true w more = more slot ∙ sym (back-other place c (filter q undos) slot differs)

-- ---- a step keeps it

pub WindsAt-filter : (place : ℕ) (p : Change → Bool) (undos : List Change) (slot : Slot) → AgreeAt place p (λ _. true) undos → WindsAt place slot undos → WindsAt place slot (filter p undos)
WindsAt-filter place p [] slot h w = tt
WindsAt-filter place p (c ∷ undos) slot h w = at (cases_eq c.place place) (p c) h.0 (WindsAt-filter place p undos _ h.1 w.1) where
  at : (c.place ≡ place) ⊎ (c.place ≡ place → ⊥) → (a : Bool) → (c.place ≡ place → a ≡ true) → WindsAt place (cond (c.place == place) (before_of c) slot) (filter p undos)
      → WindsAt place slot (cond a (c ∷ filter p undos) (filter p undos))
  at o true f more = (w.0, more)
  at (inl e) false f more = let g = f e in absurd (cc)
  at (inr differs) false f more = subst (λ (b : Bool). WindsAt place (cond b (before_of c) slot) (filter p undos)) (ne_eqb c.place place differs) more

pub WindsAt-none : (place : ℕ) (p : Change → Bool) (undos : List Change) (slot : Slot) → AgreeAt place p (λ _. false) undos → WindsAt place slot (filter p undos)
WindsAt-none place p [] slot h = tt
WindsAt-none place p (c ∷ undos) slot h = at (cases_eq c.place place) (p c) h.0 (λ v. WindsAt-none place p undos v h.1) where
  at : (c.place ≡ place) ⊎ (c.place ≡ place → ⊥) → (a : Bool) → (c.place ≡ place → a ≡ false) → ((v : Slot) → WindsAt place v (filter p undos))
      → WindsAt place slot (cond a (c ∷ filter p undos) (filter p undos))
  at o false f more = more slot
  at (inl e) true f more = let g = f e in absurd (cc)
  at (inr differs) true f more = ((λ e. absurd (differs e)), more _)

-- no change of the place is among these
abbrev pub NoneAt : ℕ → List Change → Type 0
NoneAt place undos = AllByRecursion (λ (c : Change). c.place ≡ place → ⊥) undos

none_alone : (c : Change) (cycles : List ℕ) (undos : List Change) → c.cycle ≡ None → IsAlone c undos → AllByRecursion (λ (d : Change). HasOpen cycles d.cycle) undos → NoneAt c.place undos
none_alone c cycles [] outside alone of_open = tt
none_alone c cycles (d ∷ undos) outside alone of_open = ((λ e. subst (λ (o : Option ℕ). HasOpen cycles o) (alone.0 e ∙ outside) of_open.0), none_alone c cycles undos outside alone.1 of_open.1)

WindsAt-free : (place : ℕ) (undos : List Change) (slot : Slot) → NoneAt place undos → WindsAt place slot undos
WindsAt-free place [] slot h = tt
WindsAt-free place (c ∷ undos) slot h = ((λ e. absurd (h.0 e)), WindsAt-free place undos _ h.1)

pub back-free : (place : ℕ) (undos : List Change) (slot : Slot) → NoneAt place undos → back place undos slot ≡ slot
back-free place [] slot h = refl
back-free place (c ∷ undos) slot h = back-other place c undos slot h.0 ∙ back-free place undos slot h.1

-- a change of an open commit cycle tells the slot before it
pub told : (before : Option Slot) (n : ℕ) (slot : Slot) → AgreesBefore before (Some n) slot → unwrap_or before Deleted ≡ slot
told (Some side) n slot h = sym h
told None n slot h = let e : Some n ≡ None = h.0 in absurd (cc)

pub told_by : (s : State) (c : Change) (n : ℕ) → c.cycle ≡ Some n → MayChange s c → before_of c ≡ slot_of s.slots c.place
told_by s c n e h = told c.before n (slot_of s.slots c.place) (subst (λ (o : Option ℕ). AgreesBefore c.before o (slot_of s.slots c.place)) e h.before)

pub none_of_open : (s : State) (c : Change) → c.cycle ≡ None → IsSound s → MayChange s c → NoneAt c.place s.undos
none_of_open s c e i h = none_alone c s.cycles s.undos e h.alone i.of_open

AreWithin-put : (slots : List Slot) (place : ℕ) (new : Slot) (undos : List Change) → AreWithin slots undos → AreWithin (put_slot slots place new) undos
AreWithin-put slots place new undos h = each-weaker (λ (c : Change). c.place < length slots) (λ (c : Change). c.place < length (put_slot slots place new)) undos
    (λ c w. omega (arith, length-put_slot slots place new)) h

changed_to : (s : State) (c : Change) → List Change → State
changed_to s c undos = record { slots = put_slot s.slots c.place c.after; cycles = s.cycles; undos = undos; next = s.next + 1 }

sound-changed : (s : State) (c : Change) (cycle : Option ℕ) → c.cycle ≡ cycle → IsSound s → MayChange s c → IsSound (changed_to s c (noted cycle c s.undos))
unfolding changed_to
sound-changed s c None e i h = record {
  solo = i.solo;
  of_open = i.of_open;
  older = λ n w. let f : n < s.next = i.older n w in omega arith;
  distinct = i.distinct;
  winds = λ place. elim (cases_eq c.place place) [
    | inl f ↦ WindsAt-free place s.undos _ (subst (λ (q : ℕ). NoneAt q s.undos) f (none_of_open s c e i h))
    | inr differs ↦ subst (λ (v : Slot). WindsAt place v s.undos) (sym (slot_of-put_other s.slots c.place place c.after differs)) (i.winds place)
  ];
  within = AreWithin-put s.slots c.place c.after s.undos i.within;
}
sound-changed s c (Some n) e i h = record {
  solo = (h.alone, i.solo);
  of_open = (subst (λ (o : Option ℕ). HasOpen s.cycles o) (sym e) (subst (λ (o : Option ℕ). IsOpen s.cycles o) e h.cycle), i.of_open);
  older = λ m w. let f : m < s.next = i.older m w in omega arith;
  distinct = i.distinct;
  winds = λ place. elim (cases_eq c.place place) [
    | inl f ↦ (
      (λ _. subst (λ (q : ℕ). slot_of (put_slot s.slots c.place c.after) q ≡ c.after) f (slot_of-put_same s.slots c.place c.after)),
      rw (eq-eqb c.place place f, told_by s c n e h) (subst (λ (q : ℕ). WindsAt place (slot_of s.slots q) s.undos) (sym f) (i.winds place)),
    )
    | inr differs ↦ (
      (λ f. absurd (differs f)),
      rw (ne_eqb c.place place differs, slot_of-put_other s.slots c.place place c.after differs) (i.winds place),
    )
  ];
  within = (omega (arith, length-put_slot s.slots c.place c.after), AreWithin-put s.slots c.place c.after s.undos i.within);
}

has_open-other : (cycles : List ℕ) (n : ℕ) (cycle : Option ℕ) → not (is_number cycle n) ≡ true → HasOpen cycles cycle → HasOpen (filter (is_other n) cycles) cycle
has_open-other cycles n None d h = h
has_open-other cycles n (Some m) d h = one_of-filter cycles n m h (grind (arith, nat_tests))

-- whether a change of the place is in a commit cycle
in_at : (place n : ℕ) (cycle : Option ℕ) (b : Bool) (undos : List Change) → not (is_number cycle n) ≡ b → AreOf place cycle undos → AgreeAt place (is_not_in n) (λ _. b) undos
in_at place n cycle b undos e h = each-weaker (λ (c : Change). c.place ≡ place → c.cycle ≡ cycle) (λ (c : Change). c.place ≡ place
    → is_not_in n c ≡ b) undos (λ c w f. ap (λ (o : Option ℕ). not (is_number o n)) (w f) ∙ e) h

ended_to : State → ℕ → State
ended_to s n = record { slots = s.slots; cycles = filter (is_other n) s.cycles; undos = filter (is_not_in n) s.undos; next = s.next + 1 }

sound-ended : (s : State) (n : ℕ) → IsSound s → IsSound (ended_to s n)
unfolding ended_to
sound-ended s n i = record {
  solo = Solo-filter (is_not_in n) s.undos i.solo;
  of_open = each-filter (λ (c : Change). HasOpen s.cycles c.cycle) (λ (c : Change). HasOpen (filter (is_other n) s.cycles) c.cycle) (is_not_in n) s.undos
      (λ c d h. has_open-other s.cycles n c.cycle d h) i.of_open;
  older = λ m w. let f : m < s.next = i.older m (one_of-filtered (is_other n) s.cycles m w) in omega arith;
  distinct = Distinct-filter (is_other n) s.cycles i.distinct;
  winds = λ place. at place (solo-at place s.undos i.solo) (not (is_number (solo-at place s.undos i.solo).0 n)) refl;
  within = each-filter (λ (c : Change). c.place < length s.slots) (λ (c : Change). c.place < length s.slots) (is_not_in n) s.undos (λ c _ w. w) i.within;
} where
  at : (place : ℕ) (o : (cycle : Option ℕ) × AreOf place cycle s.undos) (b : Bool) → not (is_number o.0 n) ≡ b → WindsAt place (slot_of s.slots place) (filter (is_not_in n) s.undos)
  at place o true e = WindsAt-filter place (is_not_in n) s.undos _ (in_at place n o.0 true s.undos e o.1) (i.winds place)
  at place o false e = WindsAt-none place (is_not_in n) s.undos _ (in_at place n o.0 false s.undos e o.1)

began_to : State → ℕ → State
began_to s n = record { slots = s.slots; cycles = s.cycles ++ n ∷ []; undos = s.undos; next = s.next + 1 }

pub fresh : (s : State) (n : ℕ) → IsSound s → s.next ≤ n → is_one_of s.cycles n ≡ false
fresh s n i e = at (is_one_of s.cycles n) refl where
  at : (b : Bool) → is_one_of s.cycles n ≡ b → is_one_of s.cycles n ≡ false
  at true f = let g : n < s.next = i.older n f in absurd (omega arith)
  at false f = f

has_open-push : (cycles : List ℕ) (n : ℕ) (cycle : Option ℕ) → HasOpen cycles cycle → HasOpen (cycles ++ n ∷ []) cycle
has_open-push cycles n None h = h
has_open-push cycles n (Some m) h = one_of-push cycles n m ∙ ap (λ (b : Bool). b || (n == m)) h

sound-began : (s : State) (n : ℕ) → IsSound s → n ≡ s.next → IsSound (began_to s n)
unfolding began_to
sound-began s n i e = record {
  solo = i.solo;
  of_open = each-weaker (λ (c : Change). HasOpen s.cycles c.cycle) (λ (c : Change). HasOpen (s.cycles ++ n ∷ []) c.cycle) s.undos (λ c h. has_open-push s.cycles n c.cycle h) i.of_open;
  older = λ m w. at m (is_one_of s.cycles m) refl (sym (one_of-push s.cycles n m) ∙ w);
  distinct = Distinct-push s.cycles n (fresh s n i (omega arith)) i.distinct;
  winds = i.winds;
  within = i.within;
} where
  at : (m : ℕ) (b : Bool) → is_one_of s.cycles m ≡ b → is_one_of s.cycles m || (n == m) ≡ true → m < s.next + 1
  at m true f w = let g : m < s.next = i.older m f in omega arith
  at m false f w = let g : n ≡ m = eqb-true n m (ap (λ (b : Bool). b || (n == m)) (sym f) ∙ w) in omega arith

freed_to : State → List Slot → State
freed_to s slots = record { slots = slots; cycles = s.cycles; undos = s.undos; next = s.next + 1 }

sound-free : (s : State) (slots : List Slot) → IsSound s → s.undos ≡ [] → IsSound (freed_to s slots)
unfolding freed_to
sound-free s slots i e = record {
  solo = i.solo;
  of_open = i.of_open;
  older = λ n w. let f : n < s.next = i.older n w in omega arith;
  distinct = i.distinct;
  winds = λ place. subst (λ (undos : List Change). WindsAt place (slot_of slots place) undos) (sym e) tt;
  within = subst (λ (undos : List Change). AreWithin slots undos) (sym e) tt;
}

pub sound-step : (s : State) (a : Act) → IsSound s → MayFollow s a → IsSound (step s a)
unfolding changed_to ended_to began_to freed_to
sound-step s (Changed c) i h = sound-changed s c c.cycle refl i h
sound-step s (Began n) i h = sound-began s n i h
sound-step s (Committed n) i h = sound-ended s n i
sound-step s (RolledBack n) i h = sound-ended s n i
sound-step s (Journaled images number) i h = sound-free s (replicate number Deleted) i h
sound-step s (Stood place image) i h = sound-free s (put_slot s.slots place (Live image)) i h.free
sound-step s Cleared i h = sound-free s [] i h
sound-step s Reorganized i h = sound-free s (filter is_live s.slots) i h
sound-step s Ended i h = sound-free s s.slots i h
sound-step s Nothing i h = record {
  solo = i.solo;
  of_open = i.of_open;
  older = λ n w. let f : n < s.next = i.older n w in omega arith;
  distinct = i.distinct;
  winds = i.winds;
  within = i.within;
}

pub sound-replay : (s : State) (journal : List Act) → IsSound s → CanReplay s journal → IsSound (replay s journal)
sound-replay s [] i h = i
sound-replay s (a ∷ journal) i h = sound-replay (step s a) journal (sound-step s a i h.0) h.1

pub sound-start : (next : ℕ) (slots : List Slot) → IsSound (state_at next slots)
sound-start next slots = record { solo = tt; of_open = tt; older = λ n w. absurd (cc); distinct = tt; winds = λ place. tt; within = tt }
