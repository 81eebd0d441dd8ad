-- A change more is kept behind the others, and the last one of a commit cycle leaves its place empty.
use Rattle.std.proofs.Common.{◌≡◌, ℕ, suc, ◌+◌, ◌≤◌, arith, Bool, true, false, ◌==◌, ◌&&◌, cond, nat_eq, List, [], ◌∷◌, ◌++◌, length, Option, Some, None, refl, sym, ap, ◌∙◌}
use Rattle.std.specs.Prelude.{unwrap_or}
use Rattle.std.specs.List.{list_all}
use Rattle.std.proofs.lemmas.Bool.{and_parts, eqb-true}
use Rattle.std.proofs.lemmas.List.{append-nil, append_assoc}
use Rattle.journal_model.specs.Acts.{is_number}
use Rattle.journal_model.specs.Rollback.{MemberChange}
use Rattle.journal_replay.specs.Tests.{is_apart}
use Rattle.open_cycles.specs.Kept.{same_record, is_of, is_about, live, is_kept, places_by, first_by, first_after, times, are_alone, AreFound}

abbrev pub Kept : Type 0
Kept = List (Option MemberChange)

-- ---- lists of places in two parts

abbrev one : Option MemberChange → List MemberChange
one None = []
one (Some c) = c ∷ []

pub live-split : (front back : Kept) (x : Option MemberChange) → live (front ++ x ∷ back) ≡ live back ++ (one x ++ live front)
live-split [] back None = sym (append-nil (live back))
live-split [] back (Some c) = refl
live-split (None ∷ front) back x = live-split front back x
live-split (Some d ∷ front) back x =
    ap (λ (xs : List MemberChange). xs ++ d ∷ []) (live-split front back x)
    ∙ append_assoc (live back) (one x ++ live front) (d ∷ [])
    ∙ ap (λ (xs : List MemberChange). live back ++ xs) (append_assoc (one x) (live front) (d ∷ []))

pub places-split : (p : MemberChange → Bool) (place : ℕ) (front rest : Kept) → places_by p place (front ++ rest) ≡ places_by p place front ++ places_by p (place + length front) rest
places-split p place [] rest = let same : place ≡ place + 0 = omega arith in ap (λ (n : ℕ). places_by p n rest) same
places-split p place (x ∷ front) rest =
    let same : place + 1 + length front ≡ place + suc (length front) = omega arith in
    at (is_kept p x) (places-split p (place + 1) front rest ∙ ap (λ (n : ℕ). places_by p (place + 1) front ++ places_by p n rest) same) where
      at : (b : Bool) → places_by p (place + 1) (front ++ rest) ≡ places_by p (place + 1) front ++ places_by p (place + suc (length front)) rest
          → cond b (place ∷ places_by p (place + 1) (front ++ rest)) (places_by p (place + 1) (front ++ rest))
          ≡ cond b (place ∷ places_by p (place + 1) front) (places_by p (place + 1) front) ++ places_by p (place + suc (length front)) rest
      at true more = ap (λ (ns : List ℕ). place ∷ ns) more
      at false more = more

pub first-split : (p : MemberChange → Bool) (place : ℕ) (front rest : Kept) → first_by p place (front ++ rest) ≡ first_after (first_by p place front) (first_by p (place + length front) rest)
first-split p place [] rest = let same : place ≡ place + 0 = omega arith in ap (λ (n : ℕ). first_by p n rest) same
first-split p place (x ∷ front) rest =
    let same : place + 1 + length front ≡ place + suc (length front) = omega arith in
    at (is_kept p x) (first-split p (place + 1) front rest ∙ ap (λ (n : ℕ). first_after (first_by p (place + 1) front) (first_by p n rest)) same) where
      at : (b : Bool) → first_by p (place + 1) (front ++ rest) ≡ first_after (first_by p (place + 1) front) (first_by p (place + suc (length front)) rest)
          → cond b (Some place) (first_by p (place + 1) (front ++ rest)) ≡ first_after (cond b (Some place) (first_by p (place + 1) front)) (first_by p (place + suc (length front)) rest)
      at true more = refl
      at false more = more

pub times-split : (member : ℕ) (a b : List MemberChange) → times member (a ++ b) ≡ times member a + times member b
times-split member [] b = let same : times member b ≡ 0 + times member b = omega arith in same
times-split member (c ∷ a) b = at (c.member == member) (times-split member a b) where
  at : (t : Bool) → times member (a ++ b) ≡ times member a + times member b → cond t (times member (a ++ b) + 1) (times member (a ++ b)) ≡ cond t (times member a + 1) (times member a) + times member b
  at true more = omega (arith, more)
  at false more = more

pub all-split : (p : MemberChange → Bool) (a b : List MemberChange) → list_all p (a ++ b) ≡ list_all p a && list_all p b
all-split p [] b = refl
all-split p (c ∷ a) b = at (p c) (all-split p a b) where
  at : (t : Bool) → list_all p (a ++ b) ≡ list_all p a && list_all p b → t && list_all p (a ++ b) ≡ (t && list_all p a) && list_all p b
  at true more = more
  at false more = refl

pub both : (a b : Bool) → a ≡ true → b ≡ true → a && b ≡ true
both true true ha hb = refl
both true false ha hb = absurd cc
both false b ha hb = absurd cc

-- without one of them they are alone as well
pub alone-less : (a b : List MemberChange) (c : MemberChange) → are_alone (a ++ c ∷ b) ≡ true → are_alone (a ++ b) ≡ true
alone-less [] b c h = (and_parts (list_all (is_apart c.member c.change.place c.change.cycle) b) (are_alone b) h).1
alone-less (d ∷ a) b c h =
    let p = is_apart d.member d.change.place d.change.cycle in
    let parts = and_parts (list_all p (a ++ c ∷ b)) (are_alone (a ++ c ∷ b)) h in
    let split = and_parts (list_all p a) (list_all p (c ∷ b)) (sym (all-split p a (c ∷ b)) ∙ parts.0) in
    let rest = and_parts (p c) (list_all p b) split.1 in
    both (list_all p (a ++ b)) (are_alone (a ++ b)) (all-split p a b ∙ both (list_all p a) (list_all p b) split.0 rest.1) (alone-less a b c parts.1)

-- ---- a change more

pub length-live : (kept : Kept) → length (live kept) ≤ length kept
length-live [] = omega arith
length-live (None ∷ kept) = let less = length-live kept in omega (arith, less)
length-live (Some c ∷ kept) =
    let less = length-live kept in
    let more : length (live kept ++ c ∷ []) ≡ length (live kept) + 1 = length-push (live kept) c in
    omega (arith, less, more) where
      length-push : (xs : List MemberChange) (c : MemberChange) → length (xs ++ c ∷ []) ≡ length xs + 1
      length-push [] c = refl
      length-push (x ∷ xs) c = let more = length-push xs c in omega (arith, more)

pub times-few : (member : ℕ) (undos : List MemberChange) → times member undos ≤ length undos
times-few member [] = omega arith
times-few member (c ∷ undos) = at (c.member == member) (times-few member undos) where
  at : (b : Bool) → times member undos ≤ length undos → cond b (times member undos + 1) (times member undos) ≤ suc (length undos)
  at true less = omega (arith, less)
  at false less = omega (arith, less)

-- a count of a member's changes fits
pub times-fit : (member : ℕ) (kept : Kept) → times member (live kept) ≤ length kept
times-fit member kept = let a = times-few member (live kept) in let b = length-live kept in omega (arith, a, b)

pub live-push : (kept : Kept) (c : MemberChange) → live (kept ++ Some c ∷ []) ≡ c ∷ live kept
live-push kept c = live-split kept [] (Some c)

pub one_cycle : (n m : ℕ) (o : Option ℕ) → is_number o n ≡ true → is_number o m ≡ nat_eq n m
one_cycle n m None h = absurd cc
one_cycle n m (Some k) h = ap (λ (x : ℕ). x == m) (eqb-true k n h)

placed-push : (n cycle : ℕ) (kept : Kept) (c : MemberChange) (old : List ℕ) → c.change.cycle ≡ Some cycle → old ≡ places_by (is_of n) 0 kept
    → cond (nat_eq cycle n) (old ++ length kept ∷ []) old ≡ places_by (is_of n) 0 (kept ++ Some c ∷ [])
placed-push n cycle kept c old own is =
    at (nat_eq cycle n)
    ∙ sym (
    places-split (is_of n) 0 kept (Some c ∷ [])
    ∙ ap (λ (o : Option ℕ). places_by (is_of n) 0 kept ++ cond (is_number o n) ((0 + length kept) ∷ []) []) own
    ) where
      at : (b : Bool) → cond b (old ++ length kept ∷ []) old ≡ places_by (is_of n) 0 kept ++ cond b ((0 + length kept) ∷ []) []
      at true = let same : length kept ≡ 0 + length kept = omega arith in ap (λ (ns : List ℕ). ns ++ length kept ∷ []) is ∙ ap (λ (k : ℕ). places_by (is_of n) 0 kept ++ k ∷ []) same
      at false = is ∙ sym (append-nil (places_by (is_of n) 0 kept))

first-push : (r : ℕ × ℕ) (kept : Kept) (c : MemberChange) (old : Option ℕ) → old ≡ first_by (is_about r) 0 kept
    → first_after old (cond (is_about r c) (Some (length kept)) None) ≡ first_by (is_about r) 0 (kept ++ Some c ∷ [])
first-push r kept c old is =
    let same : length kept ≡ 0 + length kept = omega arith in
    ap (λ (o : Option ℕ). first_after o (cond (is_about r c) (Some (length kept)) None)) is
    ∙ ap (λ (k : ℕ). first_after (first_by (is_about r) 0 kept) (cond (is_about r c) (Some k) None)) same
    ∙ sym (first-split (is_about r) 0 kept (Some c ∷ []))

pub found-push : (kept : Kept) (placed placed' : ℕ → Option (List ℕ)) (first first' : ℕ × ℕ → Option ℕ) (counted counted' : ℕ → Option ℕ) (c : MemberChange) (cycle : ℕ)
    → AreFound kept placed first counted → c.change.cycle ≡ Some cycle → list_all (is_apart c.member c.change.place c.change.cycle) (live kept) ≡ true
    → ((n : ℕ) → unwrap_or (placed' n) [] ≡ cond (nat_eq cycle n) (unwrap_or (placed n) [] ++ length kept ∷ []) (unwrap_or (placed n) []))
    → ((r : ℕ × ℕ) → first' r ≡ first_after (first r) (cond (same_record (c.member, c.change.place) r) (Some (length kept)) None))
    → ((member : ℕ) → unwrap_or (counted' member) 0 ≡ cond (nat_eq c.member member) (unwrap_or (counted member) 0 + 1) (unwrap_or (counted member) 0))
    → AreFound (kept ++ Some c ∷ []) placed' first' counted'
found-push kept placed placed' first first' counted counted' c cycle found own apart places firsts counts = (
  (λ n. places n ∙ placed-push n cycle kept c (unwrap_or (placed n) []) own (found.0 n)),
  (λ r. firsts r ∙ first-push r kept c (first r) (found.1 r)),
  (λ member. counts member ∙ ap (λ (k : ℕ). cond (nat_eq c.member member) (k + 1) k) (found.2 member) ∙ ap (times member) (sym (live-push kept c))),
  (ap are_alone (live-push kept c) ∙ both (list_all (is_apart c.member c.change.place c.change.cycle) (live kept)) (are_alone (live kept)) apart found.3),
)

-- tables that find the same
pub found-same : (kept : Kept) (placed : ℕ → Option (List ℕ)) (first first' : ℕ × ℕ → Option ℕ) (counted counted' : ℕ → Option ℕ) → ((r : ℕ × ℕ) → first' r ≡ first r) → ((member : ℕ) → counted' member ≡ counted member)
    → AreFound kept placed first counted → AreFound kept placed first' counted'
found-same kept placed first first' counted counted' firsts counts found = (found.0, (λ r. firsts r ∙ found.1 r), (λ member. ap (λ (o : Option ℕ). unwrap_or o 0) (counts member) ∙ found.2 member), found.3)
