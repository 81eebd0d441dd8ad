-- A journal's settled records are those that replaying leaves once the open commit cycles are undone. The induction
-- goes forwards, one act at a time: what is settled so far is the replay with those commit cycles undone that will not
-- commit.
use Rattle.std.proofs.Common.{◌≡◌, ◌⊎◌, ℕ, suc, ◌<◌, ◌≤◌, Bool, true, false, ◌&&◌, ◌||◌, ◌==◌, not, cond, List, [], ◌∷◌, Option, Some, None, refl, sym, ap, ◌∙◌, subst, arith, inl, inr, replicate}
use Rattle.std.specs.List.{filter, AllByRecursion}
use Rattle.std.proofs.lemmas.Bool.{cases_eq, eq-eqb, ne_eqb, eqb-true, eqb-false}
use Rattle.std.proofs.lemmas.Bool.Decides.{nat_tests}
use Rattle.member_slots.specs.declared.slot.Slot.{Slot}
use Rattle.member_slots.specs.declared.slot.Slot.TheVariants.{Live, Deleted}
use Rattle.member_slots.specs.Member.{is_live}
use Rattle.journal_model.specs.Acts.{Act, Changed, Began, Committed, RolledBack, Journaled, Stood, Cleared, Reorganized, Ended, Nothing, Change, is_number}
use Rattle.journal_model.specs.Places.{slot_of, put_slot}
use Rattle.journal_model.specs.Replay.{State, state_at, step, replay, moved, all_moved, noted, back, before_of, is_in, is_not_in, is_other}
use Rattle.journal_model.specs.Replayable.{MayChange, MayFollow, CanReplay, is_one_of}
use Rattle.journal_model.specs.Settled.{has_commit, stays, is_kept, settled}
use Rattle.journal_model.proofs.PlaceLemmas.{slot_of-put_same, slot_of-put_other}
use Rattle.journal_model.proofs.EachLemmas.{each-weaker, each-filter, each-of, filter-filter, filter-all, one_of-filtered, one_of-others, one_of-push}
use Rattle.journal_model.proofs.SoundLemmas.{IsSound, HasOpen, AreOf, AgreeAt, solo-at, back-filters, back-other, back-free, told_by, none_of_open, sound-step, sound-start}

-- ---- a commit cycle that is closed commits no more

absent_one : (p : ℕ → Bool) (ns : List ℕ) (n : ℕ) → is_one_of ns n ≡ false → is_one_of (filter p ns) n ≡ false
absent_one p ns n h = at (is_one_of (filter p ns) n) refl where
  at : (b : Bool) → is_one_of (filter p ns) n ≡ b → is_one_of (filter p ns) n ≡ false
  at true e = let f = one_of-filtered p ns n e in absurd (cc)
  at false e = e

gone_one : (ns : List ℕ) (n : ℕ) → is_one_of (filter (is_other n) ns) n ≡ false
gone_one ns n = at (is_one_of (filter (is_other n) ns) n) refl where
  at : (b : Bool) → is_one_of (filter (is_other n) ns) n ≡ b → is_one_of (filter (is_other n) ns) n ≡ false
  at true e = let f : n == n ≡ false = one_of-others ns n n e in absurd (eqb-false n n f refl)
  at false e = e

closed_commits_no_more : (rest : List Act) (s : State) (n : ℕ) → CanReplay s rest → is_one_of s.cycles n ≡ false → n < s.next → has_commit rest n ≡ false
closed_commits_no_more [] s n h closed older = refl
closed_commits_no_more (Changed c ∷ rest) s n h closed older = closed_commits_no_more rest (step s (Changed c)) n h.1 closed (omega arith)
closed_commits_no_more (Began m ∷ rest) s n h closed older =
    let apart : m == n ≡ false = ne_eqb m n (λ e. absurd (omega (arith, h.0))) in
    closed_commits_no_more rest (step s (Began m)) n h.1 (one_of-push s.cycles m n ∙ rw (closed, apart) refl) (omega arith)
closed_commits_no_more (Committed m ∷ rest) s n h closed older =
    let apart : m == n ≡ false = ne_eqb m n (λ e. let f : is_one_of s.cycles n ≡ true = subst (λ (i : ℕ). is_one_of s.cycles i ≡ true) e h.0 in absurd (cc)) in
    ap (λ (b : Bool). b || has_commit rest n) apart ∙ closed_commits_no_more rest (step s (Committed m)) n h.1 (absent_one (is_other m) s.cycles n closed) (omega arith)
closed_commits_no_more (RolledBack m ∷ rest) s n h closed older = closed_commits_no_more rest (step s (RolledBack m)) n h.1 (absent_one (is_other m) s.cycles n closed) (omega arith)
closed_commits_no_more (Journaled images number ∷ rest) s n h closed older = closed_commits_no_more rest (step s (Journaled images number)) n h.1 closed (omega arith)
closed_commits_no_more (Stood place image ∷ rest) s n h closed older = closed_commits_no_more rest (step s (Stood place image)) n h.1 closed (omega arith)
closed_commits_no_more (Cleared ∷ rest) s n h closed older = closed_commits_no_more rest (step s Cleared) n h.1 closed (omega arith)
closed_commits_no_more (Reorganized ∷ rest) s n h closed older = closed_commits_no_more rest (step s Reorganized) n h.1 closed (omega arith)
closed_commits_no_more (Ended ∷ rest) s n h closed older = closed_commits_no_more rest (step s Ended) n h.1 closed (omega arith)
closed_commits_no_more (Nothing ∷ rest) s n h closed older = closed_commits_no_more rest (step s Nothing) n h.1 closed (omega arith)

-- ---- members with the same records

none_live : (slots : List Slot) → ((place : ℕ) → Deleted ≡ slot_of slots place) → filter is_live slots ≡ []
none_live [] h = refl
none_live (Live image ∷ slots) h = let e = h 0 in absurd (cc)
none_live (Deleted ∷ slots) h = none_live slots (λ place. h (suc place))

same_live : (a b : List Slot) → ((place : ℕ) → slot_of a place ≡ slot_of b place) → filter is_live a ≡ filter is_live b
same_live [] b h = sym (none_live b h)
same_live (x ∷ a) [] h = none_live (x ∷ a) (λ place. sym (h place))
same_live (x ∷ a) (y ∷ b) h =
    let e : x ≡ y = h 0 in
    ap (λ (z : Slot). filter is_live (z ∷ a)) e ∙ elim (is_live y) as (λ t. cond t (y ∷ filter is_live a) (filter is_live a) ≡ cond t (y ∷ filter is_live b) (filter is_live b)) [
      | true ↦ ap (λ zs. y ∷ zs) (same_live a b (λ place. h (suc place)))
      | false ↦ same_live a b (λ place. h (suc place))
    ]

pub same_put : (a b : List Slot) (place : ℕ) (new : Slot) → ((other : ℕ) → slot_of a other ≡ slot_of b other) → (other : ℕ)
    → slot_of (put_slot a place new) other ≡ slot_of (put_slot b place new) other
same_put a b place new h other = elim (cases_eq place other) [
  | inl e ↦ subst (λ (q : ℕ). slot_of (put_slot a place new) q ≡ slot_of (put_slot b place new) q) e (slot_of-put_same a place new ∙ sym (slot_of-put_same b place new))
  | inr differs ↦ slot_of-put_other a place other new differs ∙ h other ∙ sym (slot_of-put_other b place other new differs)
]

-- ---- changes that none of the place is among

filter-false : {X : Type 0} (xs : List X) → filter (λ _. false) xs ≡ []
filter-false [] = refl
filter-false (x ∷ xs) = filter-false xs

pub back-none : (place : ℕ) (p : Change → Bool) (undos : List Change) (slot : Slot) → AgreeAt place p (λ _. false) undos → back place (filter p undos) slot ≡ slot
back-none place p undos slot h = back-filters place p (λ _. false) undos slot h ∙ ap (λ (us : List Change). back place us slot) (filter-false undos)

both_put : (slots t : List Slot) (place : ℕ) (new : Slot) (lost : List Change) → ((other : ℕ) → slot_of t other ≡ back other lost (slot_of slots other))
    → ((slot : Slot) → back place lost slot ≡ slot) → (other : ℕ) → slot_of (put_slot t place new) other ≡ back other lost (slot_of (put_slot slots place new) other)
both_put slots t place new lost same free other = elim (cases_eq place other) [
  | inl e ↦ subst (λ (q : ℕ). slot_of (put_slot t place new) q ≡ back q lost (slot_of (put_slot slots place new) q)) e
      (slot_of-put_same t place new ∙ sym (slot_of-put_same slots place new) ∙ sym (free _))
  | inr differs ↦ slot_of-put_other t place other new differs ∙ same other ∙ ap (back other lost) (sym (slot_of-put_other slots place other new differs))
]

-- ---- what is settled so far

abbrev pub loses : (ℕ → Bool) → Change → Bool
loses commit c = not (stays commit c.cycle)

-- the changes that will be undone
abbrev pub lost : (ℕ → Bool) → List Change → List Change
lost commit undos = filter (loses commit) undos

record IsSettling (commit : ℕ → Bool) (s : State) (t : List Slot) (rest : List Act) : Type 0 where
  same : (place : ℕ) → slot_of t place ≡ back place (lost commit s.undos) (slot_of s.slots place)
  fate_open : (n : ℕ) → is_one_of s.cycles n ≡ true → commit n ≡ has_commit rest n
  fate_later : (n : ℕ) → s.next ≤ n → commit n ≡ has_commit rest n

module _ (commit : ℕ → Bool) where
  lost-noted : (c : Change) (undos : List Change) (b : Bool) → stays commit c.cycle ≡ b → lost commit (c ∷ undos) ≡ cond (not b) (c ∷ lost commit undos) (lost commit undos)
  lost-noted c undos b e = ap (λ (t : Bool). cond (not t) (c ∷ lost commit undos) (lost commit undos)) e

  same-changed : (s : State) (t : List Slot) (c : Change) (cycle : Option ℕ) (b : Bool) → c.cycle ≡ cycle → stays commit cycle ≡ b → IsSound s → MayChange s c
      → ((place : ℕ) → slot_of t place ≡ back place (lost commit s.undos) (slot_of s.slots place))
      → (place : ℕ) → slot_of (cond b (put_slot t c.place c.after) t) place ≡ back place (lost commit (noted cycle c s.undos)) (slot_of (put_slot s.slots c.place c.after) place)
  same-changed s t c None false e f i h same place = absurd (cc)
  same-changed s t c None true e f i h same place =
      both_put s.slots t c.place c.after (lost commit s.undos) same
      (λ slot. back-free c.place (lost commit s.undos) slot (each-filter (λ (d : Change). d.place ≡ c.place → ⊥) (λ (d : Change). d.place ≡ c.place
      → ⊥) (loses commit) s.undos (λ d _ w. w) (none_of_open s c e i h)))
      place
  same-changed s t c (Some n) true e f i h same place =
      let kept : stays commit c.cycle ≡ true = ap (stays commit) e ∙ f in
      let none : AgreeAt c.place (loses commit) (λ _. false) s.undos = each-weaker (λ (d : Change). d.place ≡ c.place → d.cycle ≡ c.cycle) (λ (d : Change). d.place ≡ c.place
      → loses commit d ≡ false) s.undos (λ d w g. ap (λ (o : Option ℕ). not (stays commit o)) (w g) ∙ ap not kept) h.alone in
      both_put s.slots t c.place c.after (lost commit s.undos) same (λ slot. back-none c.place (loses commit) s.undos slot none) place
      ∙ ap (λ (us : List Change). back place us (slot_of (put_slot s.slots c.place c.after) place)) (sym (lost-noted c s.undos true kept))
  same-changed s t c (Some n) false e f i h same place =
      let out : stays commit c.cycle ≡ false = ap (stays commit) e ∙ f in
      at (cases_eq c.place place) ∙ ap (λ (us : List Change). back place us (slot_of (put_slot s.slots c.place c.after) place)) (sym (lost-noted c s.undos false out))
    where
      at : (c.place ≡ place) ⊎ (c.place ≡ place → ⊥) → slot_of t place ≡ back place (c ∷ lost commit s.undos) (slot_of (put_slot s.slots c.place c.after) place)
      at (inl g) = same place
          ∙ ap (back place (lost commit s.undos)) (subst (λ (q : ℕ). slot_of s.slots q ≡ before_of c) g (sym (told_by s c n e h)))
          ∙ ap (λ (b : Bool). back place (lost commit s.undos) (cond b (before_of c) (slot_of (put_slot s.slots c.place c.after) place))) (sym (eq-eqb c.place place g))
      at (inr differs) = same place
          ∙ ap (back place (lost commit s.undos)) (sym (slot_of-put_other s.slots c.place place c.after differs))
          ∙ sym (back-other place c (lost commit s.undos) _ differs)

  -- a commit cycle that ends: none of its changes will be undone, or all are undone now
  lost_of : ℕ → Change → Bool
  lost_of n c = loses commit c && is_not_in n c

  lost-ended : (n : ℕ) (undos : List Change) → lost commit (filter (is_not_in n) undos) ≡ filter (lost_of n) undos
  unfolding lost_of
  lost-ended n undos = filter-filter (loses commit) (is_not_in n) (lost_of n) undos (λ c. refl)

  kept_cycle : (n : ℕ) (cycle : Option ℕ) → commit n ≡ true → (not (stays commit cycle) && not (is_number cycle n)) ≡ not (stays commit cycle)
  kept_cycle n None e = refl
  kept_cycle n (Some m) e = at (m == n) refl where
    at : (b : Bool) → m == n ≡ b → (not (commit m) && not (m == n)) ≡ not (commit m)
    at true f = let g : commit m ≡ true = ap commit (eqb-true m n f) ∙ e in rw g refl
    at false f = rw f (grind (arith, nat_tests))

  same-committed : (n place : ℕ) (undos : List Change) (slot : Slot) → commit n ≡ true → back place (lost commit undos) slot ≡ back place (lost commit (filter (is_not_in n) undos)) slot
  unfolding lost_of
  same-committed n place undos slot e =
      sym (back-filters place (lost_of n) (loses commit) undos slot (each-of (λ (c : Change). c.place ≡ place → lost_of n c ≡ loses commit c) undos (λ c _. kept_cycle n c.cycle e)))
      ∙ ap (λ (us : List Change). back place us slot) (sym (lost-ended n undos))

  lost_in : (n : ℕ) (cycle : Option ℕ) → commit n ≡ false → is_number cycle n ≡ true → not (stays commit cycle) ≡ true
  lost_in n None e f = absurd (cc)
  lost_in n (Some m) e f = let g : commit m ≡ false = ap commit (eqb-true m n f) ∙ e in rw g refl

  same-rolled_back : (n place : ℕ) (undos : List Change) (slot : Slot) → commit n ≡ false → (cycle : Option ℕ) × AreOf place cycle undos → back place (filter (is_in n) undos) slot ≡ slot
      → back place (lost commit undos) slot ≡ back place (lost commit (filter (is_not_in n) undos)) slot
  unfolding lost_of
  same-rolled_back n place undos slot e o restored = at (is_number o.0 n) refl where
    of : (P : Change → Type 0) → ((c : Change) → (c.place ≡ place → c.cycle ≡ o.0) → P c) → AllByRecursion P undos
    of P w = each-weaker (λ (c : Change). c.place ≡ place → c.cycle ≡ o.0) P undos w o.1

    at : (b : Bool) → is_number o.0 n ≡ b → back place (lost commit undos) slot ≡ back place (lost commit (filter (is_not_in n) undos)) slot
    at true f =
        back-filters place (loses commit) (is_in n) undos slot (of (λ (c : Change). c.place ≡ place → loses commit c ≡ is_in n c) (λ c w g.
        ap (λ (k : Option ℕ). not (stays commit k)) (w g) ∙ lost_in n o.0 e f ∙ sym f ∙ ap (λ (k : Option ℕ). is_number k n) (sym (w g))))
        ∙ restored
        ∙ sym (back-none place (lost_of n) undos slot (of (λ (c : Change). c.place ≡ place → lost_of n c ≡ false) (λ c w g.
        ap (λ (k : Option ℕ). not (stays commit k) && not (is_number k n)) (w g) ∙ rw f (grind (arith, nat_tests)))))
        ∙ ap (λ (us : List Change). back place us slot) (sym (lost-ended n undos))
    at false f =
        back-filters place (loses commit) (lost_of n) undos slot (of (λ (c : Change). c.place ≡ place → loses commit c ≡ lost_of n c) (λ c w g.
        sym (ap (λ (k : Option ℕ). not (stays commit c.cycle) && not (is_number k n)) (w g) ∙ rw f (grind (arith, nat_tests)))))
        ∙ ap (λ (us : List Change). back place us slot) (sym (lost-ended n undos))

  -- ---- a step keeps it

  kept_moved : List Slot → Act → List Slot
  kept_moved t a = cond (is_kept commit a) (moved t a) t

  all_moved-kept : (t : List Slot) (a : Act) (rest : List Act) → all_moved t (filter (is_kept commit) (a ∷ rest)) ≡ all_moved (kept_moved t a) (filter (is_kept commit) rest)
  unfolding kept_moved
  all_moved-kept t a rest = elim (is_kept commit a) as (λ b. all_moved t (cond b (a ∷ filter (is_kept commit) rest) (filter (is_kept commit) rest)) ≡ all_moved (cond b (moved t a) t)
      (filter (is_kept commit) rest)) [ true ↦ refl | false ↦ refl ]

  same_free : (s : State) (t : List Slot) → s.undos ≡ [] → ((place : ℕ) → slot_of t place ≡ back place (lost commit s.undos) (slot_of s.slots place)) → (place : ℕ)
      → slot_of t place ≡ slot_of s.slots place
  same_free s t e same place = same place ∙ ap (λ (us : List Change). back place (lost commit us) (slot_of s.slots place)) e

  free_same : (s : State) (t slots : List Slot) → s.undos ≡ [] → ((place : ℕ) → slot_of t place ≡ slot_of slots place) → (place : ℕ)
      → slot_of t place ≡ back place (lost commit s.undos) (slot_of slots place)
  free_same s t slots e same place = same place ∙ ap (λ (us : List Change). back place (lost commit us) (slot_of slots place)) (sym e)

  unless_same : (n m : ℕ) → m == n ≡ false → n == m ≡ false
  unless_same n m h = ne_eqb n m (λ e. eqb-false m n h (sym e))

  settling-step : (s : State) (t : List Slot) (a : Act) (rest : List Act) → IsSound s → MayFollow s a → CanReplay (step s a) rest → IsSettling commit s t (a ∷ rest)
      → IsSettling commit (step s a) (kept_moved t a) rest
  unfolding kept_moved
  settling-step s t (Changed c) rest i h r k = record {
    same = same-changed s t c c.cycle (stays commit c.cycle) refl refl i h k.same;
    fate_open = k.fate_open;
    fate_later = λ n w. k.fate_later n (omega arith);
  }
  settling-step s t (Began n) rest i h r k = record {
    same = k.same;
    fate_open = λ m w. at m (is_one_of s.cycles m) refl (sym (one_of-push s.cycles n m) ∙ w);
    fate_later = λ m w. k.fate_later m (omega arith);
  } where
    at : (m : ℕ) (b : Bool) → is_one_of s.cycles m ≡ b → is_one_of s.cycles m || (n == m) ≡ true → commit m ≡ has_commit rest m
    at m true e w = k.fate_open m e
    at m false e w = let f : n ≡ m = eqb-true n m (ap (λ (b : Bool). b || (n == m)) (sym e) ∙ w) in k.fate_later m (omega (arith, h))
  settling-step s t (Committed n) rest i h r k = record {
    same = λ place. k.same place ∙ same-committed n place s.undos (slot_of s.slots place) (k.fate_open n h ∙ ap (λ (b : Bool). b || has_commit rest n) (eq-eqb n n refl));
    fate_open = λ m w. k.fate_open m (one_of-filtered (is_other n) s.cycles m w) ∙ ap (λ (b : Bool). b || has_commit rest m) (unless_same n m (one_of-others s.cycles n m w));
    fate_later = λ m w. k.fate_later m (omega arith) ∙ ap (λ (b : Bool). b || has_commit rest m) (ne_eqb n m (λ e. let f : n < s.next = i.older n h in absurd (omega arith)));
  }
  settling-step s t (RolledBack n) rest i h r k =
      let older : n < s.next = i.older n h.begun in
      let gone : is_one_of (filter (is_other n) s.cycles) n ≡ false = gone_one s.cycles n in
      let no_more : has_commit rest n ≡ false = closed_commits_no_more rest (step s (RolledBack n)) n r gone (omega arith) in
      record {
        same = λ place. k.same place ∙ same-rolled_back n place s.undos (slot_of s.slots place) (k.fate_open n h.begun ∙ no_more) (solo-at place s.undos i.solo) (h.restored place);
        fate_open = λ m w. k.fate_open m (one_of-filtered (is_other n) s.cycles m w);
        fate_later = λ m w. k.fate_later m (omega arith);
      }
  settling-step s t (Journaled images number) rest i h r k = record {
    same = free_same s (replicate number Deleted) (replicate number Deleted) h (λ place. refl);
    fate_open = k.fate_open;
    fate_later = λ n w. k.fate_later n (omega arith);
  }
  settling-step s t (Stood place image) rest i h r k = record {
    same = free_same s (put_slot t place (Live image)) (put_slot s.slots place (Live image)) h.free (same_put t s.slots place (Live image) (same_free s t h.free k.same));
    fate_open = k.fate_open;
    fate_later = λ n w. k.fate_later n (omega arith);
  }
  settling-step s t Cleared rest i h r k = record {
    same = free_same s [] [] h (λ place. refl);
    fate_open = k.fate_open;
    fate_later = λ n w. k.fate_later n (omega arith);
  }
  settling-step s t Reorganized rest i h r k = record {
    same = free_same s (filter is_live t) (filter is_live s.slots) h (λ place. ap (λ (slots : List Slot). slot_of slots place) (same_live t s.slots (same_free s t h k.same)));
    fate_open = k.fate_open;
    fate_later = λ n w. k.fate_later n (omega arith);
  }
  settling-step s t Ended rest i h r k = record {
    same = k.same;
    fate_open = k.fate_open;
    fate_later = λ n w. k.fate_later n (omega arith);
  }
  settling-step s t Nothing rest i h r k = record {
    same = k.same;
    fate_open = k.fate_open;
    fate_later = λ n w. k.fate_later n (omega arith);
  }

  -- ---- the whole journal

  all_lost : (s : State) (undos : List Change) → ((n : ℕ) → is_one_of s.cycles n ≡ true → commit n ≡ false) → AllByRecursion (λ (c : Change). HasOpen s.cycles c.cycle) undos
      → AllByRecursion (λ (c : Change). loses commit c ≡ true) undos
  all_lost s undos w h = each-weaker (λ (c : Change). HasOpen s.cycles c.cycle) (λ (c : Change). loses commit c ≡ true) undos (λ c o. at c.cycle o) h where
    at : (cycle : Option ℕ) → HasOpen s.cycles cycle → not (stays commit cycle) ≡ true
    at None o = absurd o
    at (Some n) o = rw (w n o) refl

  settling-replay : (rest : List Act) (s : State) (t : List Slot) → IsSound s → CanReplay s rest → IsSettling commit s t rest → (place : ℕ)
      → slot_of (all_moved t (filter (is_kept commit) rest)) place ≡ back place (replay s rest).undos (slot_of (replay s rest).slots place)
  settling-replay [] s t i r k place = k.same place ∙ ap (λ (us : List Change). back place us (slot_of s.slots place)) (filter-all (loses commit) s.undos (all_lost s s.undos k.fate_open i.of_open))
  settling-replay (a ∷ rest) s t i r k place =
      ap (λ (slots : List Slot). slot_of slots place) (all_moved-kept t a rest)
      ∙ settling-replay rest (step s a) (kept_moved t a) (sound-step s a i r.0) r.1 (settling-step s t a rest i r.0 r.1 k) place

pub settled-replay : (next : ℕ) (slots : List Slot) (journal : List Act) → CanReplay (state_at next slots) journal → (place : ℕ)
    → slot_of (settled slots journal) place ≡ back place (replay (state_at next slots) journal).undos (slot_of (replay (state_at next slots) journal).slots place)
settled-replay next slots journal r = settling-replay (has_commit journal) journal (state_at next slots) slots (sound-start next slots) r
    (record { same = λ place. refl; fate_open = λ n w. refl; fate_later = λ n w. refl })
