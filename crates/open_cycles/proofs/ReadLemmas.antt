-- What the first change of a record, the count of a member's changes and the last change of a commit cycle tell of all changes.
use Rattle.std.proofs.Common.{◌≡◌, ℕ, suc, ◌+◌, ◌<◌, arith, Bool, true, false, ◌==◌, ◌&&◌, ◌||◌, not, cond, nat_eq, List, [], ◌∷◌, ◌++◌, length, Option, Some, None, refl, sym, ap, ◌∙◌, subst}
use Rattle.std.specs.Prelude.{unwrap_or}
use Rattle.std.specs.List.{list_all, filter}
use Rattle.std.specs.Option.{is_some}
use Rattle.std.proofs.lemmas.Bool.{and_parts, eqb-true, eq-eqb, ne_eqb}
use Rattle.std.proofs.lemmas.List.{append_assoc, length-append}
use Rattle.member_slots.specs.declared.slot.Slot.{Slot}
use Rattle.journal_model.specs.Acts.{is_same_number, is_number}
use Rattle.journal_model.specs.Replay.{is_not_in, before_of}
use Rattle.journal_model.specs.Rollback.{MemberChange}
use Rattle.journal_replay.specs.Tests.{is_apart, is_touched, is_of_record, first_before}
use Rattle.open_cycles.specs.Kept.{is_of, is_about, live, places_by, first_by, got, passes, passes_at, times, are_alone, last_of, without_last, earlier, first_change, AreFound}
use Rattle.open_cycles.proofs.KeptLemmas.{Kept, all-split}
use Rattle.open_cycles.proofs.LastLemmas.{get-seam}

-- ---- the first change of a record

first-oldest : (r : ℕ × ℕ) (xs : List MemberChange) (c : MemberChange) → first_change r (xs ++ c ∷ []) ≡ cond (is_about r c) (Some c) (first_change r xs)
first-oldest r [] c = refl
first-oldest r (d ∷ xs) c =
    ap (λ (o : Option MemberChange). earlier o (cond (is_about r d) (Some d) None)) (first-oldest r xs c) ∙ at (is_about r c) where
      at : (b : Bool) → earlier (cond b (Some c) (first_change r xs)) (cond (is_about r d) (Some d) None) ≡ cond b (Some c) (earlier (first_change r xs) (cond (is_about r d) (Some d) None))
      at true = refl
      at false = refl

abbrev pub found_at : Kept → Option ℕ → Option MemberChange
found_at kept None = None
found_at kept (Some place) = got kept place

first-read : (r : ℕ × ℕ) (front rest : Kept) → found_at (front ++ rest) (first_by (is_about r) (length front) rest) ≡ first_change r (live rest)
first-read r front [] = refl
first-read r front (x ∷ rest) =
    at x (subst (λ (k : Kept). found_at k (first_by (is_about r) (length front + 1) rest) ≡ first_change r (live rest)) (append_assoc front (x ∷ []) rest)
    (subst (λ (n : ℕ). found_at ((front ++ x ∷ []) ++ rest) (first_by (is_about r) n rest) ≡ first_change r (live rest)) (length-append front (x ∷ [])) (first-read r (front ++ x ∷ []) rest))) where
      at : (x : Option MemberChange) → found_at (front ++ x ∷ rest) (first_by (is_about r) (length front + 1) rest) ≡ first_change r (live rest)
          → found_at (front ++ x ∷ rest) (first_by (is_about r) (length front) (x ∷ rest)) ≡ first_change r (live (x ∷ rest))
      at None more = more
      at (Some c) more = by (is_about r c) more ∙ sym (first-oldest r (live rest) c) where
        by : (b : Bool) → found_at (front ++ Some c ∷ rest) (first_by (is_about r) (length front + 1) rest) ≡ first_change r (live rest)
            → found_at (front ++ Some c ∷ rest) (cond b (Some (length front)) (first_by (is_about r) (length front + 1) rest)) ≡ cond b (Some c) (first_change r (live rest))
        by true more = get-seam front rest (Some c)
        by false more = more

pub first-found : (r : ℕ × ℕ) (kept : Kept) → found_at kept (first_by (is_about r) 0 kept) ≡ first_change r (live kept)
first-found r kept = first-read r [] kept

first-in : (r : ℕ × ℕ) (p : MemberChange → Bool) (undos : List MemberChange) (d : MemberChange) → first_change r undos ≡ Some d → list_all p undos ≡ true → (is_about r d ≡ true) × (p d ≡ true)
first-in r p [] d h all = absurd cc
first-in r p (c ∷ undos) d h all =
    let parts = and_parts (p c) (list_all p undos) all in
    at (first_change r undos) h (is_about r c) refl (λ e. first-in r p undos d e parts.1) parts.0 where
      at : (o : Option MemberChange) → earlier o (cond (is_about r c) (Some c) None) ≡ Some d → (b : Bool) → is_about r c ≡ b → (o ≡ Some d → (is_about r d ≡ true) × (p d ≡ true)) → p c ≡ true → (is_about r d ≡ true) × (p d ≡ true)
      at (Some e) h b is more own = more h
      at None h b is more own = by b is (ap (λ (t : Bool). cond t (Some c) None) (sym is) ∙ h) where
        by : (b : Bool) → is_about r c ≡ b → cond b (Some c) None ≡ Some d → (is_about r d ≡ true) × (p d ≡ true)
        by true is e = let same : c ≡ d = some_same e in (ap (is_about r) (sym same) ∙ is, ap p (sym same) ∙ own) where
          some_same : Some c ≡ Some d → c ≡ d
          some_same e = cc
        by false is e = absurd cc

same_number : (p q : Option ℕ) → is_same_number p q ≡ true → p ≡ q
same_number None None h = refl
same_number None (Some n) h = absurd cc
same_number (Some m) None h = absurd cc
same_number (Some m) (Some n) h = ap Some (sym (eqb-true n m h))

-- two changes of one record that are apart are of one commit cycle
alone-same : (r : ℕ × ℕ) (c d : MemberChange) → is_about r c ≡ true → is_about r d ≡ true → is_apart c.member c.change.place c.change.cycle d ≡ true → d.change.cycle ≡ c.change.cycle
alone-same r c d one two apart =
    let here = and_parts (nat_eq c.member r.0) (nat_eq c.change.place r.1) one in
    let there = and_parts (nat_eq d.member r.0) (nat_eq d.change.place r.1) two in
    let member : nat_eq d.member c.member ≡ true = eq-eqb d.member c.member (eqb-true d.member r.0 there.0 ∙ sym (eqb-true c.member r.0 here.0)) in
    let place : nat_eq d.change.place c.change.place ≡ true = eq-eqb d.change.place c.change.place (eqb-true d.change.place r.1 there.1 ∙ sym (eqb-true c.change.place r.1 here.1)) in
    same_number d.change.cycle c.change.cycle (rw (member, place) at apart)

-- ---- whether others have changed a record

abbrev pub is_free : Option ℕ → Option MemberChange → Bool
is_free cycle None = true
is_free cycle (Some d) = is_same_number d.change.cycle cycle

apart_is : (r : ℕ × ℕ) (cycle : Option ℕ) (c : MemberChange) → is_apart r.0 r.1 cycle c ≡ not (is_about r c) || is_same_number c.change.cycle cycle
apart_is r cycle c = at (nat_eq c.member r.0) (nat_eq c.change.place r.1) where
  at : (a b : Bool) → not a || not b || is_same_number c.change.cycle cycle ≡ not (a && b) || is_same_number c.change.cycle cycle
  at true b = refl
  at false b = refl

and_true : (a : Bool) → a && true ≡ a
and_true true = refl
and_true false = refl

and_same : (a : Bool) → a && a ≡ a
and_same true = refl
and_same false = refl

pub apart-first : (r : ℕ × ℕ) (cycle : Option ℕ) (undos : List MemberChange) → are_alone undos ≡ true → list_all (is_apart r.0 r.1 cycle) undos ≡ is_free cycle (first_change r undos)
apart-first r cycle [] alone = refl
apart-first r cycle (c ∷ undos) alone =
    let parts = and_parts (list_all (is_apart c.member c.change.place c.change.cycle) undos) (are_alone undos) alone in
    ap (λ (b : Bool). b && list_all (is_apart r.0 r.1 cycle) undos) (apart_is r cycle c)
    ∙ ap (λ (b : Bool). (not (is_about r c) || is_same_number c.change.cycle cycle) && b) (apart-first r cycle undos parts.1)
    ∙ at (first_change r undos) refl (is_about r c) refl parts.0 where
      at : (o : Option MemberChange) → first_change r undos ≡ o → (b : Bool) → is_about r c ≡ b → list_all (is_apart c.member c.change.place c.change.cycle) undos ≡ true
          → (not b || is_same_number c.change.cycle cycle) && is_free cycle o ≡ is_free cycle (earlier o (cond b (Some c) None))
      at None e true is all = and_true (is_same_number c.change.cycle cycle)
      at None e false is all = refl
      at (Some d) e true is all =
          let its = first-in r (is_apart c.member c.change.place c.change.cycle) undos d e all in
          ap (λ (p : Option ℕ). is_same_number p cycle && is_same_number d.change.cycle cycle) (sym (alone-same r c d is its.0 its.1)) ∙ and_same (is_same_number d.change.cycle cycle)
      at (Some d) e false is all = refl

-- ---- the record before the first change of it

abbrev pub before_in : (cycle : ℕ) → Option MemberChange → Option Slot → Option Slot
before_in cycle None found = found
before_in cycle (Some d) found = cond (is_of cycle d) (Some (before_of d.change)) found

of_record : (r : ℕ × ℕ) (n : ℕ) (c : MemberChange) → is_of_record n r.0 r.1 c ≡ is_of n c && is_about r c
of_record r n c = at (is_of n c) where
  at : (a : Bool) → a && nat_eq c.member r.0 && nat_eq c.change.place r.1 ≡ a && (nat_eq c.member r.0 && nat_eq c.change.place r.1)
  at true = refl
  at false = refl

pub before-first : (r : ℕ × ℕ) (n : ℕ) (undos : List MemberChange) (found : Option Slot) → are_alone undos ≡ true → first_before n r.0 r.1 undos found ≡ before_in n (first_change r undos) found
before-first r n [] found alone = refl
before-first r n (c ∷ undos) found alone =
    let parts = and_parts (list_all (is_apart c.member c.change.place c.change.cycle) undos) (are_alone undos) alone in
    ap (λ (b : Bool). first_before n r.0 r.1 undos (cond b (Some (before_of c.change)) found)) (of_record r n c)
    ∙ before-first r n undos (cond (is_of n c && is_about r c) (Some (before_of c.change)) found) parts.1
    ∙ at (first_change r undos) refl (is_about r c) refl (is_of n c) refl parts.0 where
      at : (o : Option MemberChange) → first_change r undos ≡ o → (b : Bool) → is_about r c ≡ b → (t : Bool) → is_of n c ≡ t → list_all (is_apart c.member c.change.place c.change.cycle) undos ≡ true
          → before_in n o (cond (t && b) (Some (before_of c.change)) found) ≡ before_in n (earlier o (cond b (Some c) None)) found
      at None e true is true own all = sym (ap (λ (t : Bool). cond t (Some (before_of c.change)) found) own)
      at None e true is false own all = sym (ap (λ (t : Bool). cond t (Some (before_of c.change)) found) own)
      at None e false is true own all = refl
      at None e false is false own all = refl
      at (Some d) e b is false own all = refl
      at (Some d) e false is true own all = refl
      at (Some d) e true is true own all =
          let its = first-in r (is_apart c.member c.change.place c.change.cycle) undos d e all in
          let mine : is_of n d ≡ true = ap (λ (p : Option ℕ). is_number p n) (alone-same r c d is its.0 its.1) ∙ own in
          rw mine refl

-- ---- the members

pub times-touched : (member : ℕ) (undos : List MemberChange) → is_touched member undos ≡ not (times member undos == 0)
times-touched member [] = refl
times-touched member (c ∷ undos) = at (c.member == member) (times-touched member undos) where
  at : (b : Bool) → is_touched member undos ≡ not (times member undos == 0) → b || is_touched member undos ≡ not (cond b (times member undos + 1) (times member undos) == 0)
  at true more = sym (ap not (ne_eqb (times member undos + 1) 0 (λ e. absurd (omega (arith, e)))))
  at false more = more

-- ---- a commit cycle that ends

pub filter-without : (n : ℕ) (undos : List MemberChange) → filter (λ (c : MemberChange). is_not_in n c.change) (without_last n undos) ≡ filter (λ (c : MemberChange). is_not_in n c.change) undos
filter-without n [] = refl
filter-without n (c ∷ undos) = at (is_of n c) refl (filter-without n undos) where
  at : (b : Bool) → is_of n c ≡ b → filter (λ (c : MemberChange). is_not_in n c.change) (without_last n undos) ≡ filter (λ (c : MemberChange). is_not_in n c.change) undos
      → filter (λ (c : MemberChange). is_not_in n c.change) (cond b undos (c ∷ without_last n undos))
      ≡ cond (not (is_of n c)) (c ∷ filter (λ (c : MemberChange). is_not_in n c.change) undos) (filter (λ (c : MemberChange). is_not_in n c.change) undos)
  at true is more = sym (ap (λ (t : Bool). cond (not t) (c ∷ filter (λ (c : MemberChange). is_not_in n c.change) undos) (filter (λ (c : MemberChange). is_not_in n c.change) undos)) is)
  at false is more = ap (λ (xs : List MemberChange). cond (not (is_of n c)) (c ∷ xs) xs) more

pub filter-none : (n : ℕ) (undos : List MemberChange) → last_of n undos ≡ None → filter (λ (c : MemberChange). is_not_in n c.change) undos ≡ undos
filter-none n [] h = refl
filter-none n (c ∷ undos) h = at (is_of n c) h (filter-none n undos) where
  at : (b : Bool) → cond b (Some c) (last_of n undos) ≡ None → (last_of n undos ≡ None → filter (λ (c : MemberChange). is_not_in n c.change) undos ≡ undos)
      → cond (not b) (c ∷ filter (λ (c : MemberChange). is_not_in n c.change) undos) (filter (λ (c : MemberChange). is_not_in n c.change) undos) ≡ c ∷ undos
  at true h more = absurd cc
  at false h more = ap (λ (xs : List MemberChange). c ∷ xs) (more h)

pub fewer : (n : ℕ) (undos : List MemberChange) (d : MemberChange) → last_of n undos ≡ Some d → length (without_last n undos) < length undos
fewer n [] d h = absurd cc
fewer n (c ∷ undos) d h = at (is_of n c) h (fewer n undos d) where
  at : (b : Bool) → cond b (Some c) (last_of n undos) ≡ Some d → (last_of n undos ≡ Some d → length (without_last n undos) < length undos) → length (cond b undos (c ∷ without_last n undos)) < suc (length undos)
  at true h more = omega arith
  at false h more = let less = more h in omega (arith, less)

pub none_some : {c : MemberChange} → None ≡ Some c → ⊥
none_some h = absurd cc

without_none : (n : ℕ) (undos : List MemberChange) → last_of n undos ≡ None → without_last n undos ≡ undos
without_none n [] h = refl
without_none n (c ∷ undos) h = at (is_of n c) h (without_none n undos) where
  at : (b : Bool) → cond b (Some c) (last_of n undos) ≡ None → (last_of n undos ≡ None → without_last n undos ≡ undos) → cond b undos (c ∷ without_last n undos) ≡ c ∷ undos
  at true h more = absurd cc
  at false h more = ap (λ (xs : List MemberChange). c ∷ xs) (more h)

some_of : (o : Option MemberChange) → is_some o ≡ true → (c : MemberChange) × (o ≡ Some c)
some_of None h = absurd cc
some_of (Some c) h = (c, refl)

pub fewer-some : (n : ℕ) (undos : List MemberChange) → is_some (last_of n undos) ≡ true → length (without_last n undos) < length undos
fewer-some n undos h = let its = some_of (last_of n undos) h in fewer n undos its.0 its.1

none_of : (o : Option MemberChange) → is_some o ≡ false → o ≡ None
none_of None h = refl
none_of (Some c) h = absurd cc

pub filter-done : (n : ℕ) (undos : List MemberChange) → is_some (last_of n undos) ≡ false → filter (λ (c : MemberChange). is_not_in n c.change) undos ≡ undos
filter-done n undos h = filter-none n undos (none_of (last_of n undos) h)

pub without-done : (n : ℕ) (undos : List MemberChange) → is_some (last_of n undos) ≡ false → without_last n undos ≡ undos
without-done n undos h = without_none n undos (none_of (last_of n undos) h)

-- ---- the changes of a commit cycle at its places

and_swap : (a b : Bool) → a && b ≡ b && a
and_swap true true = refl
and_swap true false = refl
and_swap false true = refl
and_swap false false = refl

passed-read : (p t : MemberChange → Bool) (front rest : Kept) → list_all (passes_at t (front ++ rest)) (places_by p (length front) rest) ≡ list_all (λ (c : MemberChange). not (p c) || t c) (live rest)
passed-read p t front [] = refl
passed-read p t front (x ∷ rest) =
    at x (subst (λ (k : Kept). list_all (passes_at t k) (places_by p (length front + 1) rest) ≡ list_all (λ (c : MemberChange). not (p c) || t c) (live rest)) (append_assoc front (x ∷ []) rest)
    (subst (λ (n : ℕ). list_all (passes_at t ((front ++ x ∷ []) ++ rest)) (places_by p n rest) ≡ list_all (λ (c : MemberChange). not (p c) || t c) (live rest)) (length-append front (x ∷ [])) (passed-read p t (front ++ x ∷ []) rest))) where
      at : (x : Option MemberChange) → list_all (passes_at t (front ++ x ∷ rest)) (places_by p (length front + 1) rest) ≡ list_all (λ (c : MemberChange). not (p c) || t c) (live rest)
          → list_all (passes_at t (front ++ x ∷ rest)) (places_by p (length front) (x ∷ rest)) ≡ list_all (λ (c : MemberChange). not (p c) || t c) (live (x ∷ rest))
      at None more = more
      at (Some c) more = by (p c) ∙ sym (all-split (λ (c : MemberChange). not (p c) || t c) (live rest) (c ∷ [])) where
        by : (b : Bool) → list_all (passes_at t (front ++ Some c ∷ rest)) (cond b (length front ∷ places_by p (length front + 1) rest) (places_by p (length front + 1) rest))
            ≡ list_all (λ (c : MemberChange). not (p c) || t c) (live rest) && ((not b || t c) && true)
        by true =
            ap (λ (o : Option MemberChange). passes t o && list_all (passes_at t (front ++ Some c ∷ rest)) (places_by p (length front + 1) rest)) (get-seam front rest (Some c))
            ∙ ap (λ (b : Bool). t c && b) more ∙ and_swap (t c) (list_all (λ (c : MemberChange). not (p c) || t c) (live rest))
            ∙ ap (λ (b : Bool). list_all (λ (c : MemberChange). not (p c) || t c) (live rest) && b) (sym (and_true (t c)))
        by false = more ∙ sym (and_true (list_all (λ (c : MemberChange). not (p c) || t c) (live rest)))

pub all-passed : (p t : MemberChange → Bool) (kept : Kept) → list_all (passes_at t kept) (places_by p 0 kept) ≡ list_all (λ (c : MemberChange). not (p c) || t c) (live kept)
all-passed p t kept = passed-read p t [] kept

-- ---- the places of a commit cycle that has no changes

no-last : (n : ℕ) (xs : List MemberChange) (c : MemberChange) → last_of n (xs ++ c ∷ []) ≡ None → (last_of n xs ≡ None) × (is_of n c ≡ false)
no-last n [] c h = at (is_of n c) h where
  at : (b : Bool) → cond b (Some c) None ≡ None → (last_of n [] ≡ None) × (b ≡ false)
  at true h = absurd cc
  at false h = (refl, refl)
no-last n (d ∷ xs) c h = at (is_of n d) h (no-last n xs c) where
  at : (b : Bool) → cond b (Some d) (last_of n (xs ++ c ∷ [])) ≡ None → (last_of n (xs ++ c ∷ []) ≡ None → (last_of n xs ≡ None) × (is_of n c ≡ false)) → (cond b (Some d) (last_of n xs) ≡ None) × (is_of n c ≡ false)
  at true h more = absurd cc
  at false h more = more h

no-places : (n place : ℕ) (kept : Kept) → last_of n (live kept) ≡ None → places_by (is_of n) place kept ≡ []
no-places n place [] h = refl
no-places n place (None ∷ kept) h = no-places n (place + 1) kept h
no-places n place (Some c ∷ kept) h =
    let parts = no-last n (live kept) c h in
    ap (λ (b : Bool). cond b (place ∷ places_by (is_of n) (place + 1) kept) (places_by (is_of n) (place + 1) kept)) parts.1 ∙ no-places n (place + 1) kept parts.0

pub found-forgotten : (kept : Kept) (placed placed' : ℕ → Option (List ℕ)) (first : ℕ × ℕ → Option ℕ) (counted : ℕ → Option ℕ) (n : ℕ) → is_some (last_of n (live kept)) ≡ false
    → ((m : ℕ) → placed' m ≡ cond (nat_eq n m) None (placed m)) → AreFound kept placed first counted → AreFound kept placed' first counted
found-forgotten kept placed placed' first counted n none places found = ((λ m. ap (λ (o : Option (List ℕ)). unwrap_or o []) (places m) ∙ at m (nat_eq n m) refl (found.0 m)), found.1, found.2, found.3) where
  here : [] ≡ places_by (is_of n) 0 kept
  here = sym (no-places n 0 kept (none_of (last_of n (live kept)) none))

  at : (m : ℕ) (b : Bool) → nat_eq n m ≡ b → unwrap_or (placed m) [] ≡ places_by (is_of m) 0 kept → unwrap_or (cond b None (placed m)) [] ≡ places_by (is_of m) 0 kept
  at m true h old = subst (λ (k : ℕ). [] ≡ places_by (is_of k) 0 kept) (eqb-true n m h) here
  at m false h old = old
