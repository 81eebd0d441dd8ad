-- A removal leaves the records that it touched as at the sequence before it, and applying as at the last one.
use Rattle.std.proofs.Common.{◌≡◌, ◌≢◌, ℕ, ◌+◌, Bool, true, false, ◌||◌, ◌==◌, cond, List, [], ◌∷◌, ◌++◌, Option, Some, None, Ok, refl, sym, ap, ◌∙◌, subst, arith, inl, inr}
use Rattle.std.specs.List.{list_any}
use Rattle.std.proofs.lemmas.Bool.{cases_eq, eq-eqb, ne_eqb, eqb-true, eqb-false}
use Rattle.std.proofs.lemmas.Bool.Decides.{nat_tests}
use Rattle.member_slots.specs.declared.slot.Slot.{Slot}
use Rattle.journal_model.specs.Acts.{Act, Changed, Began, Committed, RolledBack, Journaled, Stood, Cleared, Reorganized, Ended, Nothing, Change, changes}
use Rattle.journal_model.specs.Places.{slot_of, put_slot}
use Rattle.journal_model.specs.Walks.{Numbered, numbered, redo, undo, apply, remove}
use Rattle.journal_model.specs.Ranges.{is_break}
use Rattle.journal_model.specs.AtSequence.{known_by, known_after, first_before, or_else, slot_at, touches, Agrees, IsChained}
use Rattle.journal_model.proofs.ClosedLemmas.{changes-append}
use Rattle.journal_model.proofs.PlaceLemmas.{slot_of-put_same, slot_of-put_other}
use Rattle.journal_model.proofs.WalkLemmas.{ok_from_then, undone, Redone, redone}

abbrev pub unnumbered : List Numbered → List Change
unnumbered [] = []
unnumbered (n ∷ rest) = n.change ∷ unnumbered rest

pub unnumbered-numbered : (first : ℕ) (range : List Act) → unnumbered (numbered first range) ≡ changes range
unnumbered-numbered first [] = refl
unnumbered-numbered first (Changed c ∷ rest) = ap (λ cs. c ∷ cs) (unnumbered-numbered (first + 1) rest)
unnumbered-numbered first (Began n ∷ rest) = unnumbered-numbered (first + 1) rest
unnumbered-numbered first (Committed n ∷ rest) = unnumbered-numbered (first + 1) rest
unnumbered-numbered first (RolledBack n ∷ rest) = unnumbered-numbered (first + 1) rest
unnumbered-numbered first (Journaled images n ∷ rest) = unnumbered-numbered (first + 1) rest
unnumbered-numbered first (Stood place image ∷ rest) = unnumbered-numbered (first + 1) rest
unnumbered-numbered first (Cleared ∷ rest) = unnumbered-numbered (first + 1) rest
unnumbered-numbered first (Reorganized ∷ rest) = unnumbered-numbered (first + 1) rest
unnumbered-numbered first (Ended ∷ rest) = unnumbered-numbered (first + 1) rest
unnumbered-numbered first (Nothing ∷ rest) = unnumbered-numbered (first + 1) rest

only : (a b : Bool) → a || b ≡ true → b ≡ false → a ≡ true
only a b h e = grind (arith, nat_tests)

-- ---- what a removal leaves at a place

module _ (place : ℕ) where
  -- the slot is the before side of the first change there, or what it was
  Left : List Change → Slot → Slot → Type 0
  Left cs slot given = (touches place cs ≡ true → first_before place cs ≡ Some given) × (touches place cs ≡ false → given ≡ slot)

  left_by : (c : Change) (cs : List Change) (slot middle given : Slot) → Left cs slot middle → (c.place ≡ place → c.before ≡ Some given) → (c.place ≢ place → given ≡ middle) → Left (c ∷ cs) slot given
  unfolding Left
  left_by c cs slot middle given l here else_ = elim (cases_eq c.place place) [
    | inl e ↦ rw (eq-eqb c.place place e) ((λ _. here e), (λ h. absurd (cc)))
    | inr differs ↦ rw (ne_eqb c.place place differs) ((λ h. l.0 h ∙ ap Some (sym (else_ differs))), (λ h. else_ differs ∙ l.1 h))
  ]

  left : (ns : List Numbered) (slots given : List Slot) → remove ns slots ≡ Ok given → Left (unnumbered ns) (slot_of slots place) (slot_of given place)
  unfolding Left
  left [] slots given h = ((λ e. absurd (cc)), (λ _. let e : slots ≡ given = cc in ap (λ (s : List Slot). slot_of s place) (sym e)))
  left (n ∷ ns) slots given h =
      let m = ok_from_then (remove ns slots) (undo n) given h in
      let u = undone n m.0 given m.2 in
      left_by n.change (unnumbered ns) (slot_of slots place) (slot_of m.0 place) (slot_of given place) (left ns slots m.0 m.1)
      (λ e. u.told ∙ ap Some (sym (ap (λ (s : List Slot). slot_of s place) u.now
      ∙ subst (λ (q : ℕ). slot_of (put_slot m.0 n.change.place u.side) q ≡ u.side) e (slot_of-put_same m.0 n.change.place u.side))))
      (λ differs. ap (λ (s : List Slot). slot_of s place) u.now ∙ slot_of-put_other m.0 n.change.place place u.side differs)

  removed_there : (first : ℕ) (range : List Act) (slots given : List Slot) → remove (numbered first range) slots ≡ Ok given → touches place (changes range) ≡ true
      → first_before place (changes range) ≡ Some (slot_of given place)
  unfolding Left
  removed_there first range slots given h t =
      (subst (λ (cs : List Change). Left cs (slot_of slots place) (slot_of given place)) (unnumbered-numbered first range) (left (numbered first range) slots given h)).0 t

  pub removed-others : (first : ℕ) (range : List Act) (slots given : List Slot) → remove (numbered first range) slots ≡ Ok given → touches place (changes range) ≡ false
      → slot_of given place ≡ slot_of slots place
  unfolding Left
  removed-others first range slots given h t =
      (subst (λ (cs : List Change). Left cs (slot_of slots place) (slot_of given place)) (unnumbered-numbered first range) (left (numbered first range) slots given h)).1 t

  first_before-append : (xs ys : List Change) → touches place xs ≡ true → first_before place (xs ++ ys) ≡ first_before place xs
  first_before-append [] ys h = absurd (cc)
  first_before-append (c ∷ xs) ys h = elim (c.place == place) as (λ b. b || touches place xs ≡ true → cond b c.before (first_before place (xs ++ ys)) ≡ cond b c.before (first_before place xs)) [
    | true ↦ λ _. refl
    | false ↦ λ t. first_before-append xs ys t
  ] h

  pub known_after-append : (known : Option Slot) (xs ys : List Act) → known_after place known (xs ++ ys) ≡ known_after place (known_after place known xs) ys
  known_after-append known [] ys = refl
  known_after-append known (a ∷ xs) ys = known_after-append (known_by place known a) xs ys

  pub IsChained-rest : (known : Option Slot) (xs ys : List Act) → IsChained place known (xs ++ ys) → IsChained place (known_after place known xs) ys
  IsChained-rest known [] ys h = h
  IsChained-rest known (a ∷ xs) ys h = IsChained-rest (known_by place known a) xs ys h.1

  agreed : (known : Option Slot) (side : Slot) → Agrees known (Some side) → or_else known (Some side) ≡ Some side
  agreed None side h = refl
  agreed (Some slot) side h = ap Some h

  -- what is known before a range without breaks is the before side of its first change
  known_there : (xs : List Act) (known : Option Slot) (side : Slot) (ys : List Act) → IsChained place known (xs ++ ys) → list_any is_break xs ≡ false
      → first_before place (changes xs) ≡ Some side → or_else known (Some side) ≡ Some side
  known_there [] known side ys h b f = absurd (cc)
  known_there (Changed c ∷ xs) known side ys h b f = at (c.place == place) refl f (known_there xs (known_by place known (Changed c)) side ys h.1 b) where
    at : (t : Bool) → c.place == place ≡ t → cond t c.before (first_before place (changes xs)) ≡ Some side
        → (first_before place (changes xs) ≡ Some side → or_else (cond (c.place == place) (Some c.after) known) (Some side) ≡ Some side) → or_else known (Some side) ≡ Some side
    at true e g more = agreed known side (subst (λ (o : Option Slot). Agrees known o) g (h.0 (eqb-true c.place place e)))
    at false e g more = subst (λ (t : Bool). or_else (cond t (Some c.after) known) (Some side) ≡ Some side) e (more g)
  known_there (Began n ∷ xs) known side ys h b f = known_there xs known side ys h.1 b f
  known_there (Committed n ∷ xs) known side ys h b f = known_there xs known side ys h.1 b f
  known_there (RolledBack n ∷ xs) known side ys h b f = known_there xs known side ys h.1 b f
  known_there (Journaled images n ∷ xs) known side ys h b f = absurd (cc)
  known_there (Stood other image ∷ xs) known side ys h b f = absurd (cc)
  known_there (Cleared ∷ xs) known side ys h b f = absurd (cc)
  known_there (Reorganized ∷ xs) known side ys h b f = absurd (cc)
  known_there (Ended ∷ xs) known side ys h b f = absurd (cc)
  known_there (Nothing ∷ xs) known side ys h b f = known_there xs known side ys h.1 b f

  pub removed-touched : (first : ℕ) (before range after : List Act) (slots given : List Slot) → IsChained place None (before ++ (range ++ after)) → list_any is_break range ≡ false
      → remove (numbered first range) slots ≡ Ok given → touches place (changes range) ≡ true → slot_at place before (range ++ after) ≡ Some (slot_of given place)
  removed-touched first before range after slots given chained whole h t =
      let there = removed_there first range slots given h t in
      let known = known_after place None before in
      let e : first_before place (changes (range ++ after)) ≡ Some (slot_of given place) = ap (first_before place) (changes-append range after)
      ∙ first_before-append (changes range) (changes after) t ∙ there in
      rw e (known_there range known (slot_of given place) after (IsChained-rest None before (range ++ after) chained) whole there)

  -- ---- what applying leaves at a place

  pub applied-others : (ns : List Numbered) (slots given : List Slot) → apply ns slots ≡ Ok given → touches place (unnumbered ns) ≡ false → slot_of given place ≡ slot_of slots place
  applied-others [] slots given h t = let e : slots ≡ given = cc in ap (λ (s : List Slot). slot_of s place) (sym e)
  applied-others (n ∷ ns) slots given h t =
      let m = ok_from_then (redo n slots) (apply ns) given h in
      let r = redone n slots m.0 m.1 in
      let tests = neither (n.change.place == place) (touches place (unnumbered ns)) t in
      applied-others ns m.0 given m.2 tests.1 ∙ ap (λ (s : List Slot). slot_of s place) r.now ∙ slot_of-put_other slots n.change.place place n.change.after (eqb-false n.change.place place tests.0)
    where
      neither : (a b : Bool) → a || b ≡ false → (a ≡ false) × (b ≡ false)
      neither a b h = grind (arith, nat_tests)

  known_after-untouched : (xs : List Act) (known : Option Slot) → list_any is_break xs ≡ false → touches place (changes xs) ≡ false → known_after place known xs ≡ known
  known_after-untouched [] known b t = refl
  known_after-untouched (Changed c ∷ xs) known b t = at (c.place == place) refl t (known_after-untouched xs (known_by place known (Changed c)) b) where
    at : (w : Bool) → c.place == place ≡ w → w || touches place (changes xs) ≡ false
        → (touches place (changes xs) ≡ false → known_after place (cond (c.place == place) (Some c.after) known) xs ≡ cond (c.place == place) (Some c.after) known)
        → known_after place (cond (c.place == place) (Some c.after) known) xs ≡ known
    at true e g more = absurd (cc)
    at false e g more = more g ∙ ap (λ (w : Bool). cond w (Some c.after) known) e
  known_after-untouched (Began n ∷ xs) known b t = known_after-untouched xs known b t
  known_after-untouched (Committed n ∷ xs) known b t = known_after-untouched xs known b t
  known_after-untouched (RolledBack n ∷ xs) known b t = known_after-untouched xs known b t
  known_after-untouched (Journaled images n ∷ xs) known b t = absurd (cc)
  known_after-untouched (Stood other image ∷ xs) known b t = absurd (cc)
  known_after-untouched (Cleared ∷ xs) known b t = absurd (cc)
  known_after-untouched (Reorganized ∷ xs) known b t = absurd (cc)
  known_after-untouched (Ended ∷ xs) known b t = absurd (cc)
  known_after-untouched (Nothing ∷ xs) known b t = known_after-untouched xs known b t

  -- applied changes after this one are of other places, or the last of them is at this one
  applied_last : (xs : List Act) (first : ℕ) (known : Option Slot) (slots given : List Slot) → apply (numbered first xs) slots ≡ Ok given → list_any is_break xs ≡ false
      → touches place (changes xs) ≡ true → known_after place known xs ≡ Some (slot_of given place)
  applied_last [] first known slots given h b t = absurd (cc)
  applied_last (Changed c ∷ xs) first known slots given h b t = at (touches place (changes xs)) refl (applied_last xs (first + 1) (known_by place known (Changed c)) m.0 given m.2 b) where
    m : (middle : List Slot) × (redo (record { sequence = first; change = c }) slots ≡ Ok middle) × (apply (numbered (first + 1) xs) middle ≡ Ok given)
    m = ok_from_then (redo (record { sequence = first; change = c }) slots) (apply (numbered (first + 1) xs)) given h

    r : Redone (record { sequence = first; change = c }) slots m.0
    r = redone (record { sequence = first; change = c }) slots m.0 m.1

    at : (w : Bool) → touches place (changes xs) ≡ w → (touches place (changes xs) ≡ true → known_after place (known_by place known (Changed c)) xs ≡ Some (slot_of given place))
        → known_after place (known_by place known (Changed c)) xs ≡ Some (slot_of given place)
    at true e more = more e
    at false e more =
        let here : c.place == place ≡ true = only (c.place == place) (touches place (changes xs)) t e in
        let others : touches place (unnumbered (numbered (first + 1) xs)) ≡ false = ap (touches place) (unnumbered-numbered (first + 1) xs) ∙ e in
        let shown : slot_of given place ≡ c.after =
        applied-others (numbered (first + 1) xs) m.0 given m.2 others
        ∙ ap (λ (s : List Slot). slot_of s place) r.now
        ∙ subst (λ (q : ℕ). slot_of (put_slot slots c.place c.after) q ≡ c.after) (eqb-true c.place place here) (slot_of-put_same slots c.place c.after) in
        known_after-untouched xs (known_by place known (Changed c)) b e ∙ ap (λ (w : Bool). cond w (Some c.after) known) here ∙ ap Some (sym shown)
  applied_last (Began n ∷ xs) first known slots given h b t = applied_last xs (first + 1) known slots given h b t
  applied_last (Committed n ∷ xs) first known slots given h b t = applied_last xs (first + 1) known slots given h b t
  applied_last (RolledBack n ∷ xs) first known slots given h b t = applied_last xs (first + 1) known slots given h b t
  applied_last (Journaled images n ∷ xs) first known slots given h b t = absurd (cc)
  applied_last (Stood other image ∷ xs) first known slots given h b t = absurd (cc)
  applied_last (Cleared ∷ xs) first known slots given h b t = absurd (cc)
  applied_last (Reorganized ∷ xs) first known slots given h b t = absurd (cc)
  applied_last (Ended ∷ xs) first known slots given h b t = absurd (cc)
  applied_last (Nothing ∷ xs) first known slots given h b t = applied_last xs (first + 1) known slots given h b t

  pub applied-touched : (first : ℕ) (before range after : List Act) (slots given : List Slot) → list_any is_break range ≡ false → apply (numbered first range) slots ≡ Ok given
      → touches place (changes range) ≡ true → slot_at place (before ++ range) after ≡ Some (slot_of given place)
  applied-touched first before range after slots given whole h t =
      ap (λ (known : Option Slot). or_else known (first_before place (changes after))) (known_after-append None before range
      ∙ applied_last range first (known_after place None before) slots given h whole t)

  pub applied-others_of : (first : ℕ) (range : List Act) (slots given : List Slot) → apply (numbered first range) slots ≡ Ok given → touches place (changes range) ≡ false
      → slot_of given place ≡ slot_of slots place
  applied-others_of first range slots given h t = applied-others (numbered first range) slots given h (ap (touches place) (unnumbered-numbered first range) ∙ t)
