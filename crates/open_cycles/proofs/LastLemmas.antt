-- The last change of a commit cycle is taken out, and its place is left empty.
use Rattle.std.proofs.Common.{◌≡◌, ℕ, suc, ◌+◌, ◌-◌, ◌<◌, arith, Bool, true, false, ◌==◌, ◌&&◌, ◌||◌, not, cond, nat_eq, List, [], ◌∷◌, ◌++◌, length, set, get_or, Option, Some, None, refl, sym, ap, ◌∙◌, subst}
use Rattle.std.specs.Prelude.{unwrap_or}
use Rattle.std.specs.List.{list_all}
use Rattle.std.proofs.lemmas.Bool.{and_parts, eqb-true, eq-eqb, ne_eqb}
use Rattle.std.proofs.lemmas.List.{append-nil, length-append}
use Rattle.std.proofs.Math.Seq.{set-append_seam}
use Rattle.journal_model.specs.Acts.{is_same_number, is_number}
use Rattle.journal_model.specs.Rollback.{MemberChange}
use Rattle.journal_replay.specs.Tests.{is_apart}
use Rattle.open_cycles.specs.Kept.{same_record, is_of, is_about, live, is_kept, places_by, first_by, first_after, is_at, times, are_alone, last_of, without_last, AreFound}
use Rattle.open_cycles.proofs.KeptLemmas.{Kept, live-split, places-split, first-split, times-split, all-split, both, alone-less, one_cycle}

-- ---- where it is

pub record IsLast (n i : ℕ) (kept : Kept) (ps : List ℕ) (place : ℕ) : Type 0 where
  pub front : Kept
  pub back : Kept
  pub change : MemberChange
  pub whole : kept ≡ front ++ Some change ∷ back
  pub there : place ≡ i + length front
  pub own : is_of n change ≡ true
  pub before : places_by (is_of n) i front ≡ ps
  pub behind : places_by (is_of n) (i + length front + 1) back ≡ []

heads : {A : Type 0} {x y : A} {xs ys : List A} → x ∷ xs ≡ y ∷ ys → x ≡ y
heads h = cc

tails : {A : Type 0} {x y : A} {xs ys : List A} → x ∷ xs ≡ y ∷ ys → xs ≡ ys
tails h = cc

later : (n i : ℕ) (x : Option MemberChange) (kept : Kept) (ps qs : List ℕ) (place : ℕ) → IsLast n (i + 1) kept ps place → ((ns : List ℕ) → ns ≡ ps → cond (is_kept (is_of n) x) (i ∷ ns) ns ≡ qs) → IsLast n i (x ∷ kept) qs place
later n i x kept ps qs place l step = record {
  front = x ∷ l.front;
  back = l.back;
  change = l.change;
  whole = ap (λ (rest : Kept). x ∷ rest) l.whole;
  there = let there = l.there in omega (arith, there);
  own = l.own;
  before = step (places_by (is_of n) (i + 1) l.front) l.before;
  behind = let same : i + suc (length l.front) + 1 ≡ i + 1 + length l.front + 1 = omega arith in ap (λ (k : ℕ). places_by (is_of n) k l.back) same ∙ l.behind;
}

no_last : (ps : List ℕ) (place : ℕ) → [] ≡ ps ++ place ∷ [] → ⊥
no_last [] place h = cc
no_last (q ∷ ps) place h = cc

pub split-last : (n i : ℕ) (kept : Kept) (ps : List ℕ) (place : ℕ) → places_by (is_of n) i kept ≡ ps ++ place ∷ [] → IsLast n i kept ps place
split-last n i [] ps place h = absurd (no_last ps place h)
split-last n i (None ∷ kept) ps place h = later n i None kept ps ps place (split-last n (i + 1) kept ps place h) (λ ns same. same)
split-last n i (Some d ∷ kept) ps place h = at (is_of n d) refl ps h (λ qs more. split-last n (i + 1) kept qs place more) where
  at : (b : Bool) → is_of n d ≡ b → (ps : List ℕ) → cond b (i ∷ places_by (is_of n) (i + 1) kept) (places_by (is_of n) (i + 1) kept) ≡ ps ++ place ∷ []
      → ((qs : List ℕ) → places_by (is_of n) (i + 1) kept ≡ qs ++ place ∷ [] → IsLast n (i + 1) kept qs place) → IsLast n i (Some d ∷ kept) ps place
  at true is [] h more = record {
    front = [];
    back = kept;
    change = d;
    whole = refl;
    there = let same = heads h in let none : i ≡ i + 0 = omega arith in sym same ∙ none;
    own = is;
    before = refl;
    behind = let same : i + 0 + 1 ≡ i + 1 = omega arith in ap (λ (k : ℕ). places_by (is_of n) k kept) same ∙ tails h;
  }
  at true is (q ∷ qs) h more = later n i (Some d) kept qs (q ∷ qs) place (more qs (tails h)) (λ ns same. ap (λ (b : Bool). cond b (i ∷ ns) ns) is ∙ ap (λ (k : ℕ). k ∷ ns) (heads h) ∙ ap (λ (ms : List ℕ). q ∷ ms) same)
  at false is ps h more = later n i (Some d) kept ps ps place (more ps h) (λ ns same. ap (λ (b : Bool). cond b (i ∷ ns) ns) is ∙ same)

-- behind it there is none of its commit cycle
pub none-live : (n i : ℕ) (kept : Kept) → places_by (is_of n) i kept ≡ [] → list_all (λ (d : MemberChange). not (is_of n d)) (live kept) ≡ true
none-live n i [] h = refl
none-live n i (None ∷ kept) h = none-live n (i + 1) kept h
none-live n i (Some d ∷ kept) h = at (is_of n d) refl h (none-live n (i + 1) kept) where
  at : (b : Bool) → is_of n d ≡ b → cond b (i ∷ places_by (is_of n) (i + 1) kept) (places_by (is_of n) (i + 1) kept) ≡ []
      → (places_by (is_of n) (i + 1) kept ≡ [] → list_all (λ (d : MemberChange). not (is_of n d)) (live kept) ≡ true) → list_all (λ (d : MemberChange). not (is_of n d)) (live kept ++ d ∷ []) ≡ true
  at true is h more = absurd cc
  at false is h more =
      all-split (λ (d : MemberChange). not (is_of n d)) (live kept) (d ∷ [])
      ∙ both (list_all (λ (d : MemberChange). not (is_of n d)) (live kept)) (not (is_of n d) && true) (more h) (ap (λ (b : Bool). not b && true) is)

-- ---- what becomes of the changes

without-none : (n : ℕ) (a b : List MemberChange) (c : MemberChange) → list_all (λ (d : MemberChange). not (is_of n d)) a ≡ true → is_of n c ≡ true → without_last n (a ++ c ∷ b) ≡ a ++ b
without-none n [] b c none own = ap (λ (t : Bool). cond t b (c ∷ without_last n b)) own
without-none n (d ∷ a) b c none own =
    let parts = and_parts (not (is_of n d)) (list_all (λ (d : MemberChange). not (is_of n d)) a) none in
    at (is_of n d) parts.0 (without-none n a b c parts.1 own) where
      at : (t : Bool) → not t ≡ true → without_last n (a ++ c ∷ b) ≡ a ++ b → cond t (a ++ c ∷ b) (d ∷ without_last n (a ++ c ∷ b)) ≡ d ∷ (a ++ b)
      at true h more = absurd cc
      at false h more = ap (λ (xs : List MemberChange). d ∷ xs) more

last-none : (n : ℕ) (a b : List MemberChange) (c : MemberChange) → list_all (λ (d : MemberChange). not (is_of n d)) a ≡ true → is_of n c ≡ true → last_of n (a ++ c ∷ b) ≡ Some c
last-none n [] b c none own = ap (λ (t : Bool). cond t (Some c) (last_of n b)) own
last-none n (d ∷ a) b c none own =
    let parts = and_parts (not (is_of n d)) (list_all (λ (d : MemberChange). not (is_of n d)) a) none in
    at (is_of n d) parts.0 (last-none n a b c parts.1 own) where
      at : (t : Bool) → not t ≡ true → last_of n (a ++ c ∷ b) ≡ Some c → cond t (Some d) (last_of n (a ++ c ∷ b)) ≡ Some c
      at true h more = absurd cc
      at false h more = more

-- where there is none of the commit cycle
pub last-absent : (n : ℕ) (xs : List MemberChange) → list_all (λ (d : MemberChange). not (is_of n d)) xs ≡ true → last_of n xs ≡ None
last-absent n [] h = refl
last-absent n (d ∷ xs) h =
    let parts = and_parts (not (is_of n d)) (list_all (λ (d : MemberChange). not (is_of n d)) xs) h in
    at (is_of n d) parts.0 (last-absent n xs parts.1) where
      at : (t : Bool) → not t ≡ true → last_of n xs ≡ None → cond t (Some d) (last_of n xs) ≡ None
      at true h more = absurd cc
      at false h more = more

pub without-absent : (n : ℕ) (xs : List MemberChange) → list_all (λ (d : MemberChange). not (is_of n d)) xs ≡ true → without_last n xs ≡ xs
without-absent n [] h = refl
without-absent n (d ∷ xs) h =
    let parts = and_parts (not (is_of n d)) (list_all (λ (d : MemberChange). not (is_of n d)) xs) h in
    at (is_of n d) parts.0 (without-absent n xs parts.1) where
      at : (t : Bool) → not t ≡ true → without_last n xs ≡ xs → cond t xs (d ∷ without_last n xs) ≡ d ∷ xs
      at true h more = absurd cc
      at false h more = ap (λ (ys : List MemberChange). d ∷ ys) more

-- ---- its record

abbrev record_of : MemberChange → ℕ × ℕ
record_of c = (c.member, c.change.place)

-- those of its record that came later would be of its commit cycle
apart_other : (n : ℕ) (d c : MemberChange) → is_apart d.member d.change.place d.change.cycle c ≡ true → is_of n c ≡ true → not (is_of n d) ≡ true → is_about (record_of c) d ≡ false
apart_other n d c apart own other =
    at (d.member == c.member) refl (d.change.place == c.change.place) refl c.change.cycle d.change.cycle apart own other where
      at : (s : Bool) → (d.member == c.member) ≡ s → (t : Bool) → (d.change.place == c.change.place) ≡ t → (p q : Option ℕ)
          → not (c.member == d.member) || not (c.change.place == d.change.place) || is_same_number p q ≡ true → is_number p n ≡ true → not (is_number q n) ≡ true → s && t ≡ false
      at false hs t ht p q apart own other = refl
      at true hs false ht p q apart own other = refl
      at true hs true ht p q apart own other = absurd (clash p q (rw (eq-eqb c.member d.member (sym (eqb-true d.member c.member hs)), eq-eqb c.change.place d.change.place (sym (eqb-true d.change.place c.change.place ht))) at apart) own other) where
        clash : (p q : Option ℕ) → is_same_number p q ≡ true → is_number p n ≡ true → not (is_number q n) ≡ true → ⊥
        clash None q a own other = absurd cc
        clash (Some k) None a own other = absurd cc
        clash (Some k) (Some m) a own other =
            let same : is_number (Some m) n ≡ true = ap (λ (x : ℕ). x == n) (eqb-true m k a) ∙ own in
            absurd (let no : not true ≡ true = ap not (sym same) ∙ other in cc)

none-about : (n : ℕ) (a b : List MemberChange) (c : MemberChange) → are_alone (a ++ c ∷ b) ≡ true → is_of n c ≡ true → list_all (λ (d : MemberChange). not (is_of n d)) a ≡ true
    → list_all (λ (d : MemberChange). not (is_about (record_of c) d)) a ≡ true
none-about n [] b c alone own none = refl
none-about n (d ∷ a) b c alone own none =
    let p = is_apart d.member d.change.place d.change.cycle in
    let parts = and_parts (list_all p (a ++ c ∷ b)) (are_alone (a ++ c ∷ b)) alone in
    let split = and_parts (list_all p a) (p c && list_all p b) (sym (all-split p a (c ∷ b)) ∙ parts.0) in
    let here = and_parts (p c) (list_all p b) split.1 in
    let others = and_parts (not (is_of n d)) (list_all (λ (d : MemberChange). not (is_of n d)) a) none in
    both (not (is_about (record_of c) d)) (list_all (λ (d : MemberChange). not (is_about (record_of c) d)) a) (ap not (apart_other n d c here.0 own others.0)) (none-about n a b c parts.1 own others.1)

first-none : (p : MemberChange → Bool) (i : ℕ) (kept : Kept) → list_all (λ (d : MemberChange). not (p d)) (live kept) ≡ true → first_by p i kept ≡ None
first-none p i [] h = refl
first-none p i (None ∷ kept) h = first-none p (i + 1) kept h
first-none p i (Some d ∷ kept) h =
    let parts = and_parts (list_all (λ (d : MemberChange). not (p d)) (live kept)) (not (p d) && true) (sym (all-split (λ (d : MemberChange). not (p d)) (live kept) (d ∷ [])) ∙ h) in
    at (p d) (and_parts (not (p d)) true parts.1).0 (first-none p (i + 1) kept parts.0) where
      at : (t : Bool) → not t ≡ true → first_by p (i + 1) kept ≡ None → cond t (Some i) (first_by p (i + 1) kept) ≡ None
      at true h more = absurd cc
      at false h more = more

first-below : (p : MemberChange → Bool) (i : ℕ) (kept : Kept) (q : ℕ) → first_by p i kept ≡ Some q → q < i + length kept
first-below p i [] q h = absurd cc
first-below p i (x ∷ kept) q h = at (is_kept p x) h (first-below p (i + 1) kept q) where
  at : (b : Bool) → cond b (Some i) (first_by p (i + 1) kept) ≡ Some q → (first_by p (i + 1) kept ≡ Some q → q < i + 1 + length kept) → q < i + suc (length kept)
  at true h more = let same : i ≡ q = some_equal h in omega (arith, same) where
    some_equal : Some i ≡ Some q → i ≡ q
    some_equal e = cc
  at false h more = let less = more h in omega (arith, less)

-- ---- what finds the others

placed-part : (front back : Kept) (c : MemberChange) (n m : ℕ) (ps old : List ℕ) → is_of n c ≡ true → places_by (is_of n) 0 front ≡ ps → places_by (is_of n) (0 + length front + 1) back ≡ []
    → old ≡ places_by (is_of m) 0 (front ++ Some c ∷ back) → cond (nat_eq n m) ps old ≡ places_by (is_of m) 0 (front ++ None ∷ back)
placed-part front back c n m ps old own before behind is = at (nat_eq n m) refl where
  here : ps ≡ places_by (is_of n) 0 (front ++ None ∷ back)
  here = sym before ∙ sym (append-nil (places_by (is_of n) 0 front)) ∙ ap (λ (ns : List ℕ). places_by (is_of n) 0 front ++ ns) (sym behind) ∙ sym (places-split (is_of n) 0 front (None ∷ back))

  at : (b : Bool) → nat_eq n m ≡ b → cond b ps old ≡ places_by (is_of m) 0 (front ++ None ∷ back)
  at true h = subst (λ (k : ℕ). ps ≡ places_by (is_of k) 0 (front ++ None ∷ back)) (eqb-true n m h) here
  at false h =
      is ∙ places-split (is_of m) 0 front (Some c ∷ back)
      ∙ ap (λ (b : Bool). places_by (is_of m) 0 front ++ cond b ((0 + length front) ∷ places_by (is_of m) (0 + length front + 1) back) (places_by (is_of m) (0 + length front + 1) back)) (one_cycle n m c.change.cycle own ∙ h)
      ∙ sym (places-split (is_of m) 0 front (None ∷ back))

first-here : (place len : ℕ) (front old behind : Option ℕ) → place ≡ len → ((q : ℕ) → front ≡ Some q → q < len) → old ≡ first_after front (Some len) → behind ≡ None → cond (is_at place old) None old ≡ first_after front behind
first-here place len None old behind there below is none =
    ap (λ (o : Option ℕ). cond (is_at place o) None o) is ∙ ap (λ (b : Bool). cond b None (Some len)) (eq-eqb len place (sym there)) ∙ sym none
first-here place len (Some q) old behind there below is none =
    ap (λ (o : Option ℕ). cond (is_at place o) None o) is
    ∙ ap (λ (b : Bool). cond b None (Some q)) (ne_eqb q place (λ same. let less = below q refl in absurd (omega (arith, less, same, there))))

is_own : (c : MemberChange) → is_about (record_of c) c ≡ true
is_own c = both (nat_eq c.member c.member) (nat_eq c.change.place c.change.place) (eq-eqb c.member c.member refl) (eq-eqb c.change.place c.change.place refl)

first-part : (front back : Kept) (c : MemberChange) (n place : ℕ) (first : ℕ × ℕ → Option ℕ) → place ≡ 0 + length front → is_of n c ≡ true → places_by (is_of n) (0 + length front + 1) back ≡ []
    → are_alone (live (front ++ Some c ∷ back)) ≡ true → ((r : ℕ × ℕ) → first r ≡ first_by (is_about r) 0 (front ++ Some c ∷ back))
    → (r : ℕ × ℕ) → cond (same_record (record_of c) r && is_at place (first (record_of c))) None (first r) ≡ first_by (is_about r) 0 (front ++ None ∷ back)
first-part front back c n place first there own behind alone is r = at (same_record (record_of c) r) refl where
  split : (r : ℕ × ℕ) → first r ≡ first_after (first_by (is_about r) 0 front) (cond (is_about r c) (Some (0 + length front)) (first_by (is_about r) (0 + length front + 1) back))
  split r = is r ∙ first-split (is_about r) 0 front (Some c ∷ back)

  none : first_by (is_about (record_of c)) (0 + length front + 1) back ≡ None
  none = first-none (is_about (record_of c)) (0 + length front + 1) back
      (none-about n (live back) (live front) c (sym (ap are_alone (live-split front back (Some c))) ∙ alone) own (none-live n (0 + length front + 1) back behind))

  here : cond (is_at place (first (record_of c))) None (first (record_of c)) ≡ first_by (is_about (record_of c)) 0 (front ++ None ∷ back)
  here =
      first-here place (0 + length front) (first_by (is_about (record_of c)) 0 front) (first (record_of c)) (first_by (is_about (record_of c)) (0 + length front + 1) back) there
      (λ q e. first-below (is_about (record_of c)) 0 front q e)
      (split (record_of c) ∙ ap (λ (b : Bool). first_after (first_by (is_about (record_of c)) 0 front) (cond b (Some (0 + length front)) (first_by (is_about (record_of c)) (0 + length front + 1) back))) (is_own c))
      none
      ∙ sym (first-split (is_about (record_of c)) 0 front (None ∷ back))

  at : (b : Bool) → same_record (record_of c) r ≡ b → cond (b && is_at place (first (record_of c))) None (first r) ≡ first_by (is_about r) 0 (front ++ None ∷ back)
  at true h =
      let parts = and_parts (nat_eq c.member r.0) (nat_eq c.change.place r.1) h in
      let one = eqb-true c.member r.0 parts.0 in
      let two = eqb-true c.change.place r.1 parts.1 in
      let same : record_of c ≡ r = (λ j. (one j, two j)) in
      subst (λ (q : ℕ × ℕ). cond (is_at place (first (record_of c))) None (first q) ≡ first_by (is_about q) 0 (front ++ None ∷ back)) same here
  at false h =
      split r ∙ ap (λ (b : Bool). first_after (first_by (is_about r) 0 front) (cond b (Some (0 + length front)) (first_by (is_about r) (0 + length front + 1) back))) h
      ∙ sym (first-split (is_about r) 0 front (None ∷ back))

count-part : (front back : Kept) (c : MemberChange) (m old : ℕ) → old ≡ times m (live (front ++ Some c ∷ back)) → cond (nat_eq c.member m) (old - 1) old ≡ times m (live (front ++ None ∷ back))
count-part front back c m old is =
    at (nat_eq c.member m) (is ∙ ap (times m) (live-split front back (Some c)) ∙ times-split m (live back) (c ∷ live front)) ∙ sym (ap (times m) (live-split front back None) ∙ times-split m (live back) (live front)) where
      at : (b : Bool) → old ≡ times m (live back) + cond b (times m (live front) + 1) (times m (live front)) → cond b (old - 1) old ≡ times m (live back) + times m (live front)
      at true h = omega (arith, h)
      at false h = h

found-without : (front back : Kept) (c : MemberChange) (n place : ℕ) (ps : List ℕ) (placed placed' : ℕ → Option (List ℕ)) (first first' : ℕ × ℕ → Option ℕ) (counted counted' : ℕ → Option ℕ)
    → AreFound (front ++ Some c ∷ back) placed first counted → place ≡ 0 + length front → is_of n c ≡ true → places_by (is_of n) 0 front ≡ ps → places_by (is_of n) (0 + length front + 1) back ≡ []
    → ((m : ℕ) → unwrap_or (placed' m) [] ≡ cond (nat_eq n m) ps (unwrap_or (placed m) []))
    → ((r : ℕ × ℕ) → first' r ≡ cond (same_record (record_of c) r && is_at place (first (record_of c))) None (first r))
    → ((m : ℕ) → unwrap_or (counted' m) 0 ≡ cond (nat_eq c.member m) (unwrap_or (counted m) 0 - 1) (unwrap_or (counted m) 0))
    → AreFound (front ++ None ∷ back) placed' first' counted'
found-without front back c n place ps placed placed' first first' counted counted' found there own before behind places firsts counts = (
  (λ m. places m ∙ placed-part front back c n m ps (unwrap_or (placed m) []) own before behind (found.0 m)),
  (λ r. firsts r ∙ first-part front back c n place first there own behind found.3 found.1 r),
  (λ m. counts m ∙ count-part front back c m (unwrap_or (counted m) 0) (found.2 m)),
  (ap are_alone (live-split front back None) ∙ alone-less (live back) (live front) c (sym (ap are_alone (live-split front back (Some c))) ∙ found.3)),
)

-- ---- all of it

pub get-seam : (front back : Kept) (x : Option MemberChange) → get_or (front ++ x ∷ back) (length front) None ≡ x
get-seam [] back x = refl
get-seam (y ∷ front) back x = get-seam front back x

some_change : {c d : MemberChange} → Some c ≡ Some d → c ≡ d
some_change e = cc

module _ (kept : Kept) (n place : ℕ) (ps : List ℕ) (l : IsLast n 0 kept ps place) where
  there : place ≡ length l.front
  there = let at = l.there in omega (arith, at)

  pub last-here : get_or kept place None ≡ Some l.change
  last-here = ap (λ (k : Kept). get_or k place None) l.whole ∙ ap (λ (q : ℕ). get_or (l.front ++ Some l.change ∷ l.back) q None) there ∙ get-seam l.front l.back (Some l.change)

  emptied : set kept place None ≡ l.front ++ None ∷ l.back
  emptied = ap (λ (k : Kept). set k place None) l.whole ∙ ap (λ (q : ℕ). set (l.front ++ Some l.change ∷ l.back) q None) there ∙ set-append_seam l.front (Some l.change) l.back None

  none : list_all (λ (d : MemberChange). not (is_of n d)) (live l.back) ≡ true
  none = none-live n (0 + length l.front + 1) l.back l.behind

  pub live-emptied : live (set kept place None) ≡ without_last n (live kept)
  live-emptied =
      ap live emptied ∙ live-split l.front l.back None
      ∙ sym (without-none n (live l.back) (live l.front) l.change none l.own)
      ∙ ap (without_last n) (sym (ap live l.whole ∙ live-split l.front l.back (Some l.change)))

  pub last-live : last_of n (live kept) ≡ Some l.change
  last-live = ap (last_of n) (ap live l.whole ∙ live-split l.front l.back (Some l.change)) ∙ last-none n (live l.back) (live l.front) l.change none l.own

  pub last-within : place < length kept
  last-within = let long : length kept ≡ length l.front + suc (length l.back) = ap length l.whole ∙ length-append l.front (Some l.change ∷ l.back) in let at = there in omega (arith, long, at)

  pub found-last : (placed placed' : ℕ → Option (List ℕ)) (first first' : ℕ × ℕ → Option ℕ) (counted counted' : ℕ → Option ℕ) (c : MemberChange)
      → AreFound kept placed first counted → get_or kept place None ≡ Some c
      → ((m : ℕ) → unwrap_or (placed' m) [] ≡ cond (nat_eq n m) ps (unwrap_or (placed m) []))
      → ((r : ℕ × ℕ) → first' r ≡ cond (same_record (c.member, c.change.place) r && is_at place (first (c.member, c.change.place))) None (first r))
      → ((m : ℕ) → unwrap_or (counted' m) 0 ≡ cond (nat_eq c.member m) (unwrap_or (counted m) 0 - 1) (unwrap_or (counted m) 0))
      → AreFound (set kept place None) placed' first' counted'
  found-last placed placed' first first' counted counted' c found got places firsts counts =
      let same : c ≡ l.change = some_change (sym got ∙ last-here) in
      subst (λ (k : Kept). AreFound k placed' first' counted') (sym emptied)
      (found-without l.front l.back l.change n place ps placed placed' first first' counted counted' (subst (λ (k : Kept). AreFound k placed first counted) l.whole found) l.there l.own l.before l.behind places
      (subst (λ (x : MemberChange). (r : ℕ × ℕ) → first' r ≡ cond (same_record (x.member, x.change.place) r && is_at place (first (x.member, x.change.place))) None (first r)) same firsts)
      (subst (λ (x : MemberChange). (m : ℕ) → unwrap_or (counted' m) 0 ≡ cond (nat_eq x.member m) (unwrap_or (counted m) 0 - 1) (unwrap_or (counted m) 0)) same counts))

-- ---- an empty place behind all others goes

first-end : (o : Option ℕ) → first_after o None ≡ o
first-end None = refl
first-end (Some place) = refl

pub live-trimmed : (kept : Kept) → live (kept ++ None ∷ []) ≡ live kept
live-trimmed kept = live-split kept [] None

pub found-trimmed : (kept : Kept) (placed : ℕ → Option (List ℕ)) (first : ℕ × ℕ → Option ℕ) (counted : ℕ → Option ℕ) → AreFound (kept ++ None ∷ []) placed first counted → AreFound kept placed first counted
found-trimmed kept placed first counted found = (
  (λ n. found.0 n ∙ places-split (is_of n) 0 kept (None ∷ []) ∙ append-nil (places_by (is_of n) 0 kept)),
  (λ r. found.1 r ∙ first-split (is_about r) 0 kept (None ∷ []) ∙ first-end (first_by (is_about r) 0 kept)),
  (λ m. found.2 m ∙ ap (times m) (live-trimmed kept)),
  (sym (ap are_alone (live-trimmed kept)) ∙ found.3),
)

pub trimmed-found : (b : Bool) (old new : Kept) (placed : ℕ → Option (List ℕ)) (first : ℕ × ℕ → Option ℕ) (counted : ℕ → Option ℕ) → (b ≡ true → old ≡ new ++ None ∷ []) → (b ≡ false → new ≡ old)
    → AreFound old placed first counted → AreFound new placed first counted
trimmed-found true old new placed first counted taken same found = found-trimmed new placed first counted (subst (λ (k : Kept). AreFound k placed first counted) (taken refl) found)
trimmed-found false old new placed first counted taken same found = subst (λ (k : Kept). AreFound k placed first counted) (sym (same refl)) found

pub trimmed-live : (b : Bool) (old new : Kept) → (b ≡ true → old ≡ new ++ None ∷ []) → (b ≡ false → new ≡ old) → live new ≡ live old
trimmed-live true old new taken same = sym (ap live (taken refl) ∙ live-trimmed new)
trimmed-live false old new taken same = ap live (same refl)
