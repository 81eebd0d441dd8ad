-- The journal with restart's entries can be replayed, has no open commit cycle, and is settled as before.
use Rattle.std.proofs.Common.{◌≡◌, ◌⊎◌, ℕ, ◌+◌, ◌<◌, Bool, true, false, ◌&&◌, ◌||◌, ◌==◌, not, cond, List, [], ◌∷◌, ◌++◌, length, Option, Some, None, refl, sym, ap, ◌∙◌, subst, arith, inl, inr}
use Rattle.std.specs.Prelude.{⊤}
use Rattle.std.specs.List.{filter, AllByRecursion}
use Rattle.std.proofs.lemmas.Bool.{cases_eq, eq-eqb, ne_eqb, eqb-true}
use Rattle.std.proofs.lemmas.Bool.Decides.{nat_tests}
use Rattle.member_slots.specs.declared.slot.Slot.{Slot}
use Rattle.journal_model.specs.Acts.{Act, Changed, Began, Committed, RolledBack, Journaled, Stood, Cleared, Reorganized, Ended, Nothing, Change, is_number}
use Rattle.journal_model.specs.Places.{slot_of, put_slot, HasSameRecords}
use Rattle.journal_model.specs.Replay.{State, state_at, step, replay, all_moved, noted, back, before_of, is_in, is_not_in, is_other}
use Rattle.journal_model.specs.Replayable.{IsOpen, IsAlone, MayChange, MayFollow, CanReplay, is_one_of}
use Rattle.journal_model.specs.Settled.{settled}
use Rattle.journal_model.specs.Restart.{inverse, undo_acts, rollback_acts, all_rollback_acts, restart_acts, all_undone, somethings}
use Rattle.journal_model.proofs.PlaceLemmas.{slot_of-put_same, slot_of-put_other, length-put_slot}
use Rattle.journal_model.proofs.EachLemmas.{each-weaker, each-filter, filter-filter, each-of, Distinct}
use Rattle.journal_model.proofs.ReplayLemmas.{CanReplay-append, replay-append, slots-replay}
use Rattle.journal_model.proofs.SoundLemmas.{IsSound, Solo, AreOf, AreWithin, WindsAt, WindsAt-filter, WindsAt-none, solo-at, sound-start, sound-replay}
use Rattle.journal_model.proofs.UndoneLemmas.{undo_acts-at, all_undone-settled}

-- ---- one commit cycle

-- all changes of a change's place are of its commit cycle
abbrev OwnPlace : List Change → Change → Type 0
OwnPlace undos c = AreOf c.place c.cycle undos

both_own : (c : Change) (undos all : List Change) → IsAlone c undos → AllByRecursion (OwnPlace all) undos → AllByRecursion (OwnPlace (c ∷ all)) undos
both_own c [] all h o = tt
both_own c (d ∷ undos) all h o = (((λ e. sym (h.0 (sym e))), o.0), both_own c undos all h.1 o.1)

own_places : (undos : List Change) → Solo undos → AllByRecursion (OwnPlace undos) undos
own_places [] h = tt
own_places (c ∷ undos) h = (((λ _. refl), h.0), both_own c undos undos h.0 (own_places undos h.1))

-- what holds while the changes of a commit cycle are taken back
record Undoing (n : ℕ) (s : State) (undos : List Change) : Type 0 where
  own : AllByRecursion (λ (c : Change). c.cycle ≡ Some n) undos
  winds : (place : ℕ) → WindsAt place (slot_of s.slots place) undos
  within : AreWithin s.slots undos
  alone : AllByRecursion (OwnPlace s.undos) undos
  begun : is_one_of s.cycles n ≡ true

taken_back : State → Change → State
taken_back s c = step s (Changed (inverse c))

may_take_back : (n : ℕ) (s : State) (c : Change) (undos : List Change) → Undoing n s (c ∷ undos) → MayChange s (inverse c)
may_take_back n s c undos u = record {
  place = let w : c.place < length s.slots = u.within.0 in omega arith;
  before = (u.winds c.place).0 refl;
  cycle = subst (λ (o : Option ℕ). IsOpen s.cycles o) (sym u.own.0) u.begun;
  alone = u.alone.0;
}

noted_own : (n : ℕ) (c d : Change) (undos : List Change) → c.cycle ≡ Some n → noted c.cycle d undos ≡ d ∷ undos
noted_own n c d undos e = ap (λ (o : Option ℕ). noted o d undos) e

undos_taken : (n : ℕ) (s : State) (c : Change) → c.cycle ≡ Some n → (taken_back s c).undos ≡ inverse c ∷ s.undos
unfolding taken_back
undos_taken n s c e = noted_own n c (inverse c) s.undos e

undoing-step : (n : ℕ) (s : State) (c : Change) (undos : List Change) → Undoing n s (c ∷ undos) → Undoing n (taken_back s c) undos
unfolding taken_back
undoing-step n s c undos u = record {
  own = u.own.1;
  winds = λ place. subst (λ (v : Slot). WindsAt place v undos) (at place (cases_eq c.place place)) (u.winds place).1;
  within = each-weaker (λ (d : Change). d.place < length s.slots) (λ (d : Change). d.place < length (put_slot s.slots c.place (before_of c))) undos
      (λ d w. omega (arith, length-put_slot s.slots c.place (before_of c))) u.within.1;
  alone = subst (λ (all : List Change). AllByRecursion (OwnPlace all) undos) (sym (noted_own n c (inverse c) s.undos u.own.0)) (more undos u.own.1 u.alone.1);
  begun = u.begun;
} where
  at : (place : ℕ) → (c.place ≡ place) ⊎ (c.place ≡ place → ⊥) → cond (c.place == place) (before_of c) (slot_of s.slots place) ≡ slot_of (put_slot s.slots c.place (before_of c)) place
  at place (inl e) = ap (λ (b : Bool). cond b (before_of c) (slot_of s.slots place)) (eq-eqb c.place place e)
      ∙ sym (subst (λ (q : ℕ). slot_of (put_slot s.slots c.place (before_of c)) q ≡ before_of c) e (slot_of-put_same s.slots c.place (before_of c)))
  at place (inr differs) = ap (λ (b : Bool). cond b (before_of c) (slot_of s.slots place)) (ne_eqb c.place place differs) ∙ sym (slot_of-put_other s.slots c.place place (before_of c) differs)

  more : (us : List Change) → AllByRecursion (λ (d : Change). d.cycle ≡ Some n) us → AllByRecursion (OwnPlace s.undos) us → AllByRecursion (OwnPlace (inverse c ∷ s.undos)) us
  more [] o a = tt
  more (d ∷ us) o a = (((λ _. u.own.0 ∙ sym o.0), a.0), more us o.1 a.1)

can_undo : (n : ℕ) (undos : List Change) (s : State) → Undoing n s undos → CanReplay s (undo_acts undos)
unfolding taken_back
can_undo n [] s u = tt
can_undo n (c ∷ undos) s u = (may_take_back n s c undos u, can_undo n undos (taken_back s c) (undoing-step n s c undos u))

cycles-undone : (undos : List Change) (s : State) → (replay s (undo_acts undos)).cycles ≡ s.cycles
cycles-undone [] s = refl
cycles-undone (c ∷ undos) s = cycles-undone undos (step s (Changed (inverse c)))

-- the changes that take back are of the commit cycle too
others-undone : (n : ℕ) (undos : List Change) (s : State) → AllByRecursion (λ (c : Change). c.cycle ≡ Some n) undos
    → filter (is_not_in n) (replay s (undo_acts undos)).undos ≡ filter (is_not_in n) s.undos
unfolding taken_back
others-undone n [] s h = refl
others-undone n (c ∷ undos) s h =
    others-undone n undos (taken_back s c) h.1
    ∙ ap (filter (is_not_in n)) (undos_taken n s c h.0)
    ∙ ap (λ (b : Bool). cond (not b) (inverse c ∷ filter (is_not_in n) s.undos) (filter (is_not_in n) s.undos)) (ap (λ (o : Option ℕ). is_number o n) h.0 ∙ eq-eqb n n refl)

-- taking back and then undoing leads to where undoing leads
back-taken : (n place : ℕ) (undos : List Change) (s : State) → Undoing n s undos
    → back place (filter (is_in n) (replay s (undo_acts undos)).undos) (slot_of (replay s (undo_acts undos)).slots place) ≡ back place (filter (is_in n) s.undos) (slot_of s.slots place)
unfolding taken_back
back-taken n place [] s u = refl
back-taken n place (c ∷ undos) s u =
    back-taken n place undos (taken_back s c) (undoing-step n s c undos u)
    ∙ ap (λ (us : List Change). back place us now) (ap (filter (is_in n)) (undos_taken n s c u.own.0)
    ∙ ap (λ (b : Bool). cond b (inverse c ∷ filter (is_in n) s.undos) (filter (is_in n) s.undos)) (ap (λ (o : Option ℕ). is_number o n) u.own.0 ∙ eq-eqb n n refl))
    ∙ ap (back place (filter (is_in n) s.undos)) (at (cases_eq c.place place))
  where
    now : Slot
    now = slot_of (put_slot s.slots c.place (before_of c)) place

    at : (c.place ≡ place) ⊎ (c.place ≡ place → ⊥) → cond (c.place == place) c.after (slot_of (put_slot s.slots c.place (before_of c)) place) ≡ slot_of s.slots place
    at (inl e) = ap (λ (b : Bool). cond b c.after (slot_of (put_slot s.slots c.place (before_of c)) place)) (eq-eqb c.place place e) ∙ sym ((u.winds place).0 e)
    at (inr differs) = ap (λ (b : Bool). cond b c.after (slot_of (put_slot s.slots c.place (before_of c)) place)) (ne_eqb c.place place differs)
        ∙ slot_of-put_other s.slots c.place place (before_of c) differs

named : (cycle : Option ℕ) (n : ℕ) → is_number cycle n ≡ true → cycle ≡ Some n
named None n h = absurd (cc)
named (Some m) n h = ap Some (eqb-true m n h)

undoing-start : (n : ℕ) (s : State) → IsSound s → is_one_of s.cycles n ≡ true → Undoing n s (filter (is_in n) s.undos)
undoing-start n s i begun = record {
  own = each-filter (λ (c : Change). ⊤) (λ (c : Change). c.cycle ≡ Some n) (is_in n) s.undos (λ c e _. named c.cycle n e) (each-of (λ (c : Change). ⊤) s.undos (λ c. tt));
  winds = λ place. at place (solo-at place s.undos i.solo);
  within = each-filter (λ (c : Change). c.place < length s.slots) (λ (c : Change). c.place < length s.slots) (is_in n) s.undos (λ c _ w. w) i.within;
  alone = each-filter (OwnPlace s.undos) (OwnPlace s.undos) (is_in n) s.undos (λ c _ w. w) (own_places s.undos i.solo);
  begun = begun;
} where
  by : (place : ℕ) (cycle : Option ℕ) (b : Bool) → is_number cycle n ≡ b → AreOf place cycle s.undos → WindsAt place (slot_of s.slots place) (filter (is_in n) s.undos)
  by place cycle true e h = WindsAt-filter place (is_in n) s.undos _ (each-weaker (λ (c : Change). c.place ≡ place → c.cycle ≡ cycle) (λ (c : Change). c.place ≡ place
      → is_in n c ≡ true) s.undos (λ c w f. ap (λ (o : Option ℕ). is_number o n) (w f) ∙ e) h) (i.winds place)
  by place cycle false e h = WindsAt-none place (is_in n) s.undos _ (each-weaker (λ (c : Change). c.place ≡ place → c.cycle ≡ cycle) (λ (c : Change). c.place ≡ place
      → is_in n c ≡ false) s.undos (λ c w f. ap (λ (o : Option ℕ). is_number o n) (w f) ∙ e) h)

  at : (place : ℕ) → (cycle : Option ℕ) × AreOf place cycle s.undos → WindsAt place (slot_of s.slots place) (filter (is_in n) s.undos)
  at place o = by place o.0 (is_number o.0 n) refl o.1

module _ (n : ℕ) (s : State) (i : IsSound s) (begun : is_one_of s.cycles n ≡ true) where
  own : List Change
  own = filter (is_in n) s.undos

  taken : State
  taken = replay s (undo_acts own)

  u : Undoing n s own
  unfolding own
  u = undoing-start n s i begun

  restored : (place : ℕ) → back place (filter (is_in n) taken.undos) (slot_of taken.slots place) ≡ slot_of taken.slots place
  unfolding own taken
  restored place =
      back-taken n place own s u
      ∙ sym (ap (λ (slots : List Slot). slot_of slots place) (slots-replay s (undo_acts own)) ∙ undo_acts-at place own s.slots)

  can_roll_back : CanReplay s (rollback_acts n s.undos)
  unfolding own taken
  can_roll_back = CanReplay-append s (undo_acts own) (RolledBack n ∷ []) (can_undo n own s u)
      (record { begun = ap (λ (cycles : List ℕ). is_one_of cycles n) (cycles-undone own s) ∙ begun; restored = restored }, tt)

  cycles-rolled_back : (replay s (rollback_acts n s.undos)).cycles ≡ filter (is_other n) s.cycles
  unfolding own taken
  cycles-rolled_back = ap (λ (r : State). r.cycles) (replay-append s (undo_acts own) (RolledBack n ∷ [])) ∙ ap (filter (is_other n)) (cycles-undone own s)

  undos-rolled_back : (replay s (rollback_acts n s.undos)).undos ≡ filter (is_not_in n) s.undos
  unfolding own taken
  undos-rolled_back = ap (λ (r : State). r.undos) (replay-append s (undo_acts own) (RolledBack n ∷ [])) ∙ others-undone n own s u.own

-- ---- all commit cycles

apart : (m n : ℕ) (cycle : Option ℕ) → m == n ≡ false → (is_number cycle m && not (is_number cycle n)) ≡ is_number cycle m
apart m n None d = refl
apart m n (Some k) d = grind (arith, nat_tests)

rest-alike : (n : ℕ) (cycles : List ℕ) (undos : List Change) → is_one_of cycles n ≡ false → all_rollback_acts cycles undos ≡ all_rollback_acts cycles (filter (is_not_in n) undos)
rest-alike n [] undos h = refl
rest-alike n (m ∷ cycles) undos h =
    let tests = neither (m == n) (is_one_of cycles n) h in
    let same : filter (is_in m) (filter (is_not_in n) undos) ≡ filter (is_in m) undos = filter-filter (is_in m) (is_not_in n) (is_in m) undos (λ c. apart m n c.cycle tests.0) in
    ap (λ (us : List Change). (undo_acts us ++ RolledBack m ∷ []) ++ all_rollback_acts cycles undos) (sym same)
    ∙ ap (λ (rest : List Act). rollback_acts m (filter (is_not_in n) undos) ++ rest) (rest-alike n cycles undos tests.1)
  where
    neither : (a b : Bool) → a || b ≡ false → (a ≡ false) × (b ≡ false)
    neither a b h = grind (arith, nat_tests)

others_stay : (ns : List ℕ) (n : ℕ) → is_one_of ns n ≡ false → filter (is_other n) ns ≡ ns
others_stay [] n h = refl
others_stay (m ∷ ns) n h =
    let tests = neither (m == n) (is_one_of ns n) h in
    ap (λ (b : Bool). cond (not b) (m ∷ filter (is_other n) ns) (filter (is_other n) ns)) tests.0 ∙ ap (λ (rest : List ℕ). m ∷ rest) (others_stay ns n tests.1)
  where
    neither : (a b : Bool) → a || b ≡ false → (a ≡ false) × (b ≡ false)
    neither a b h = grind (arith, nat_tests)

own_goes : (n : ℕ) (ns cycles : List ℕ) → cycles ≡ n ∷ ns → Distinct cycles → (filter (is_other n) cycles ≡ ns) × (is_one_of ns n ≡ false)
own_goes n ns cycles e d =
    let f : Distinct (n ∷ ns) = subst Distinct e d in
    (ap (filter (is_other n)) e ∙ ap (λ (b : Bool). cond (not b) (n ∷ filter (is_other n) ns) (filter (is_other n) ns)) (eq-eqb n n refl) ∙ others_stay ns n f.0, f.0)

first_begun : (n : ℕ) (ns cycles : List ℕ) → cycles ≡ n ∷ ns → is_one_of cycles n ≡ true
first_begun n ns cycles e = ap (λ (all : List ℕ). is_one_of all n) e ∙ ap (λ (b : Bool). b || is_one_of ns n) (eq-eqb n n refl)

Restarts : State → List Act → Type 0
Restarts s acts = CanReplay s acts × ((replay s acts).cycles ≡ [])

restarts : (cycles : List ℕ) (s : State) → IsSound s → s.cycles ≡ cycles → Restarts s (all_rollback_acts cycles s.undos)
unfolding Restarts
restarts [] s i e = (tt, e)
restarts (n ∷ ns) s i e =
    let begun = first_begun n ns s.cycles e in
    let own = own_goes n ns s.cycles e i.distinct in
    let front = rollback_acts n s.undos in
    let can = can_roll_back n s i begun in
    let next = replay s front in
    let alike : all_rollback_acts ns next.undos ≡ all_rollback_acts ns s.undos = ap (all_rollback_acts ns) (undos-rolled_back n s i begun) ∙ sym (rest-alike n ns s.undos own.1) in
    let more : Restarts next (all_rollback_acts ns s.undos) = subst (λ (acts : List Act). Restarts next acts) alike
    (restarts ns next (sound-replay s front i can) (cycles-rolled_back n s i begun ∙ own.0)) in
    (CanReplay-append s front (all_rollback_acts ns s.undos) can more.0, ap (λ (r : State). r.cycles) (replay-append s front (all_rollback_acts ns s.undos)) ∙ more.1)

-- ---- a block that does so, among entries that do nothing to the member

with_next : ℕ → State → State
with_next next s = record { slots = s.slots; cycles = s.cycles; undos = s.undos; next = next }

abbrev BeginsNone : Act → Type 0
BeginsNone (Began n) = ⊥
BeginsNone (Changed c) = ⊤
BeginsNone (Committed n) = ⊤
BeginsNone (RolledBack n) = ⊤
BeginsNone (Journaled images number) = ⊤
BeginsNone (Stood place image) = ⊤
BeginsNone Cleared = ⊤
BeginsNone Reorganized = ⊤
BeginsNone Ended = ⊤
BeginsNone Nothing = ⊤

follow-next : (next : ℕ) (s : State) (a : Act) → BeginsNone a → MayFollow s a → MayFollow (with_next next s) a
unfolding with_next
follow-next next s (Changed c) b h = record { place = h.place; before = h.before; cycle = h.cycle; alone = h.alone }
follow-next next s (Began n) b h = absurd b
follow-next next s (Committed n) b h = h
follow-next next s (RolledBack n) b h = record { begun = h.begun; restored = h.restored }
follow-next next s (Journaled images number) b h = h
follow-next next s (Stood place image) b h = record { free = h.free; there = h.there }
follow-next next s Cleared b h = h
follow-next next s Reorganized b h = h
follow-next next s Ended b h = h
follow-next next s Nothing b h = tt

replay-next : (acts : List Act) (next : ℕ) (s : State) → AllByRecursion BeginsNone acts → CanReplay s acts → CanReplay (with_next next s) acts
unfolding with_next
replay-next [] next s b h = tt
replay-next (a ∷ acts) next s b h = (follow-next next s a b.0 h.0, replay-next acts (next + 1) (step s a) b.1 h.1)

pub replay-block : (block : List Act) (s : State) → AllByRecursion BeginsNone (somethings block) → CanReplay s (somethings block) → CanReplay s block
unfolding with_next
replay-block [] s b h = tt
replay-block (Changed c ∷ block) s b h = (h.0, replay-block block (step s (Changed c)) b.1 h.1)
replay-block (Began n ∷ block) s b h = absurd b.0
replay-block (Committed n ∷ block) s b h = (h.0, replay-block block (step s (Committed n)) b.1 h.1)
replay-block (RolledBack n ∷ block) s b h = (h.0, replay-block block (step s (RolledBack n)) b.1 h.1)
replay-block (Journaled images number ∷ block) s b h = (h.0, replay-block block (step s (Journaled images number)) b.1 h.1)
replay-block (Stood place image ∷ block) s b h = (h.0, replay-block block (step s (Stood place image)) b.1 h.1)
replay-block (Cleared ∷ block) s b h = (h.0, replay-block block (step s Cleared) b.1 h.1)
replay-block (Reorganized ∷ block) s b h = (h.0, replay-block block (step s Reorganized) b.1 h.1)
replay-block (Ended ∷ block) s b h = (h.0, replay-block block (step s Ended) b.1 h.1)
replay-block (Nothing ∷ block) s b h = (tt, replay-block block (step s Nothing) b (replay-next (somethings block) (s.next + 1) s b h))

after-block : (block : List Act) (s t : State) → with_next 0 s ≡ with_next 0 t → with_next 0 (replay s block) ≡ with_next 0 (replay t (somethings block))
unfolding with_next
after-block [] s t e = e
after-block (Changed c ∷ block) s t e = after-block block (step s (Changed c)) (step t (Changed c)) (ap (λ (r : State). with_next 0 (step r (Changed c))) e)
after-block (Began n ∷ block) s t e = after-block block (step s (Began n)) (step t (Began n)) (ap (λ (r : State). with_next 0 (step r (Began n))) e)
after-block (Committed n ∷ block) s t e = after-block block (step s (Committed n)) (step t (Committed n)) (ap (λ (r : State). with_next 0 (step r (Committed n))) e)
after-block (RolledBack n ∷ block) s t e = after-block block (step s (RolledBack n)) (step t (RolledBack n)) (ap (λ (r : State). with_next 0 (step r (RolledBack n))) e)
after-block (Journaled images number ∷ block) s t e = after-block block (step s (Journaled images number)) (step t (Journaled images number))
    (ap (λ (r : State). with_next 0 (step r (Journaled images number))) e)
after-block (Stood place image ∷ block) s t e = after-block block (step s (Stood place image)) (step t (Stood place image)) (ap (λ (r : State). with_next 0 (step r (Stood place image))) e)
after-block (Cleared ∷ block) s t e = after-block block (step s Cleared) (step t Cleared) (ap (λ (r : State). with_next 0 (step r Cleared)) e)
after-block (Reorganized ∷ block) s t e = after-block block (step s Reorganized) (step t Reorganized) (ap (λ (r : State). with_next 0 (step r Reorganized)) e)
after-block (Ended ∷ block) s t e = after-block block (step s Ended) (step t Ended) (ap (λ (r : State). with_next 0 (step r Ended)) e)
after-block (Nothing ∷ block) s t e = after-block block (step s Nothing) t e

begins_none-append : (xs ys : List Act) → AllByRecursion BeginsNone xs → AllByRecursion BeginsNone ys → AllByRecursion BeginsNone (xs ++ ys)
begins_none-append [] ys h g = g
begins_none-append (a ∷ xs) ys h g = (h.0, begins_none-append xs ys h.1 g)

begins_none-undo : (undos : List Change) → AllByRecursion BeginsNone (undo_acts undos)
begins_none-undo [] = tt
begins_none-undo (c ∷ undos) = (tt, begins_none-undo undos)

begins_none-all : (cycles : List ℕ) (undos : List Change) → AllByRecursion BeginsNone (all_rollback_acts cycles undos)
begins_none-all [] undos = tt
begins_none-all (n ∷ cycles) undos = begins_none-append (rollback_acts n undos) (all_rollback_acts cycles undos)
    (begins_none-append (undo_acts (filter (is_in n) undos)) (RolledBack n ∷ []) (begins_none-undo (filter (is_in n) undos)) (tt, tt)) (begins_none-all cycles undos)

-- ---- the journal with restart's entries

module _ (next : ℕ) (slots : List Slot) (journal block : List Act) (r : CanReplay (state_at next slots) journal) (does : somethings block ≡ restart_acts (replay (state_at next slots) journal)) where
  stopped : State
  stopped = replay (state_at next slots) journal

  sound : IsSound stopped
  unfolding stopped
  sound = sound-replay (state_at next slots) journal (sound-start next slots) r

  all : Restarts stopped (restart_acts stopped)
  unfolding stopped
  all = restarts stopped.cycles stopped sound refl

  after : with_next 0 (replay (state_at next slots) (journal ++ block)) ≡ with_next 0 (replay stopped (restart_acts stopped))
  unfolding stopped
  after = ap (with_next 0) (replay-append (state_at next slots) journal block) ∙ after-block block stopped stopped refl ∙ ap (λ (acts : List Act). with_next 0 (replay stopped acts)) does

  pub CanReplay-restarted : CanReplay (state_at next slots) (journal ++ block)
  unfolding stopped Restarts
  CanReplay-restarted = CanReplay-append (state_at next slots) journal block r
      (replay-block block stopped
      (subst (λ (acts : List Act). AllByRecursion BeginsNone acts) (sym does) (begins_none-all stopped.cycles stopped.undos))
      (subst (λ (acts : List Act). CanReplay stopped acts) (sym does) all.0))

  pub cycles-restarted : (replay (state_at next slots) (journal ++ block)).cycles ≡ []
  unfolding stopped Restarts with_next
  cycles-restarted = ap (λ (s : State). s.cycles) after ∙ all.1

  pub slots-restarted : (replay (state_at next slots) (journal ++ block)).slots ≡ all_undone (replay (state_at next slots) journal)
  unfolding stopped with_next
  slots-restarted = ap (λ (s : State). s.slots) after ∙ slots-replay stopped (restart_acts stopped)

  nothing_open : (s : State) → s.cycles ≡ [] → all_undone s ≡ s.slots
  nothing_open s e = ap (λ (cycles : List ℕ). all_moved s.slots (all_rollback_acts cycles s.undos)) e

  pub settled-restarted : HasSameRecords (settled slots (journal ++ block)) (settled slots journal)
  settled-restarted =
      let whole = all_undone-settled next slots (journal ++ block) CanReplay-restarted in
      let before = all_undone-settled next slots journal r in
      let same : all_undone (replay (state_at next slots) (journal ++ block)) ≡ all_undone (replay (state_at next slots) journal) = nothing_open
      (replay (state_at next slots) (journal ++ block)) cycles-restarted ∙ slots-restarted in
      record { records = λ place. sym (whole.records place) ∙ ap (λ (s : List Slot). slot_of s place) same ∙ before.records place }
