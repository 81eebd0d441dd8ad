-- The walk over the entries of one key.
use Rattle.std.proofs.Common.{◌≡◌, ℕ, Bool, true, false, not, ◌&&◌, ◌==◌, cond, Option, Some, None, List, [], ◌∷◌, refl, sym, ◌∙◌, ap, subst, arith}
use Rattle.std.specs.Prelude.{filter, find, min}
use Rattle.std.specs.List.{AllByRecursion}
use Rattle.std.specs.List.Sorted.{IsStrictlySortedBy}
use Rattle.std.specs.declared.cmp.Ordering.{Ordering}
use Rattle.std.specs.declared.cmp.Ordering.TheVariants.{Less, Equal, Greater}
use Rattle.std.specs.Ordering.{nat_cmp, ordering_then, ordering_reverse, is_lt, is_gt, is_le, is_eq}
use Rattle.std.proofs.lemmas.Bool.{cond-true, cond-false}
use Rattle.std.proofs.lemmas.Cmp.{tied_itself, nat_list_cmp_total}
use Rattle.key_order.below.key_pages.specs.declared.entries.Entry.{Entry}
use Rattle.key_order.below.key_pages.specs.declared.positions.Position.{Position}
use Rattle.key_order.below.key_pages.specs.declared.positions.Position.TheVariants.{Start, End, Before, On, Past}
use Rattle.key_order.specs.Order.{key_cmp, tie_cmp, entry_cmp, IsInOrder}
use Rattle.key_order.specs.Position.{is_less, side_of, is_past, IsOn}
use Rattle.key_order.proofs.KeyPagesOrderLemmas.{entry_total}
use Rattle.key_order.proofs.SideLemmas.{passed_before}
use Rattle.std.proofs.lemmas.List.Kept.{IsStrictlySortedBy-filter}
use Rattle.key_order.proofs.PathLemmas.{weaker}
use Rattle.access_path.specs.Clash.{lesser, other_number, least_other, with_key}

-- on an entry, sides are those of the entry
pub side-on : (falling : Bool) (on : Position) (e x : Entry) → IsOn on e → side_of falling on x ≡ entry_cmp falling x e
side-on falling Start e x is = absurd is
side-on falling End e x is = absurd is
side-on falling (On key format rrn) e x is =
    ap (λ k. entry_cmp falling x (record { key = k; format = format; rrn = rrn })) is.0
    ∙ ap (λ f. entry_cmp falling x (record { key = e.key; format = f; rrn = rrn })) is.1
    ∙ ap (λ r. entry_cmp falling x (record { key = e.key; format = e.format; rrn = r })) is.2
side-on falling (Before part) e x is = absurd is
side-on falling (Past part) e x is = absurd is

-- what lies past a position lies there with all behind it
past-from : (s t : Ordering) → (is_le t ≡ true → is_le s ≡ true) → is_gt s ≡ true → is_gt t ≡ true
past-from s Greater up past = refl
past-from Less t up past = cc
past-from Equal t up past = cc
past-from Greater Less up past = absurd (let e : false ≡ true = up refl in cc)
past-from Greater Equal up past = absurd (let e : false ≡ true = up refl in cc)

past-later : (falling : Bool) (from : Position) (x y : Entry) → entry_cmp falling x y ≡ Less → is_past falling from x ≡ true → is_past falling from y ≡ true
past-later falling from x y less past = past-from (side_of falling from x) (side_of falling from y) (passed_before true falling from x y less) past

find-holds : (P : Entry → Type 0) (test : Entry → Bool) (xs : List Entry) (e : Entry) → AllByRecursion P xs → find test xs ≡ Some e → P e
find-holds P test [] e all h = absurd (let k : ◌≡◌ {A = Option Entry} None (Some e) = h in cc)
find-holds P test (x ∷ xs) e all h = by (test x) refl (find-holds P test xs e all.1)
  where
    by : (b : Bool) → test x ≡ b → (find test xs ≡ Some e → P e) → P e
    by true is rest = subst P (let k : ◌≡◌ {A = Option Entry} (Some x) (Some e) = sym (cond-true (test x) (Some x) (find test xs) is) ∙ h in cc) all.0
    by false is rest = rest (sym (cond-false (test x) (Some x) (find test xs) is) ∙ h)

filter-each : (test : Entry → Bool) (xs : List Entry) → AllByRecursion (λ x. test x ≡ true) xs → filter test xs ≡ xs
filter-each test [] all = refl
filter-each test (x ∷ xs) all = cond-true (test x) (x ∷ filter test xs) (filter test xs) all.0 ∙ ap (λ (t : List Entry). x ∷ t) (filter-each test xs all.1)

-- the next entry, and those past it
pub past-step : (falling : Bool) (from on : Position) (e : Entry) (xs : List Entry) → IsInOrder falling xs → ((x : Entry) → side_of falling on x ≡ entry_cmp falling x e)
    → find (is_past falling from) xs ≡ Some e → filter (is_past falling from) xs ≡ e ∷ filter (is_past falling on) xs
unfolding IsStrictlySortedBy
past-step falling from on e [] sorted side h = absurd (let k : ◌≡◌ {A = Option Entry} None (Some e) = h in cc)
past-step falling from on e (x ∷ xs) sorted side h = by (is_past falling from x) refl (past-step falling from on e xs sorted.1 side)
  where
    here : is_past falling from x ≡ true → x ≡ e
    here is = let k : ◌≡◌ {A = Option Entry} (Some x) (Some e) = sym (cond-true (is_past falling from x) (Some x) (find (is_past falling from) xs) is) ∙ h in cc

    by : (b : Bool) → is_past falling from x ≡ b → (find (is_past falling from) xs ≡ Some e → filter (is_past falling from) xs ≡ e ∷ filter (is_past falling on) xs)
        → filter (is_past falling from) (x ∷ xs) ≡ e ∷ filter (is_past falling on) (x ∷ xs)
    by true is rest =
        let same : x ≡ e = here is in
        let off : is_past falling on x ≡ false = ap is_gt (side x ∙ ap (entry_cmp falling x) (sym same) ∙ tied_itself (entry_total falling) x) in
        let later : AllByRecursion (λ y. is_past falling on y ≡ true) xs =
        weaker (λ y. entry_cmp falling x y ≡ Less) (λ y. is_past falling on y ≡ true)
        (λ y less. ap is_gt (side y ∙ ap (entry_cmp falling y) (sym same) ∙ (entry_total falling).antisymm y x ∙ ap ordering_reverse less)) xs sorted.0 in
        let behind : AllByRecursion (λ y. is_past falling from y ≡ true) xs =
        weaker (λ y. entry_cmp falling x y ≡ Less) (λ y. is_past falling from y ≡ true) (λ y less. past-later falling from x y less is) xs sorted.0 in
        filter-each (is_past falling from) (x ∷ xs) (is, behind)
        ∙ ap (λ (t : Entry). t ∷ xs) same
        ∙ ap (λ (t : List Entry). e ∷ t) (sym (cond-false (is_past falling on x) (x ∷ filter (is_past falling on) xs) (filter (is_past falling on) xs) off ∙ filter-each (is_past falling on) xs later))
    by false is rest =
        let tail : find (is_past falling from) xs ≡ Some e = sym (cond-false (is_past falling from x) (Some x) (find (is_past falling from) xs) is) ∙ h in
        let less : entry_cmp falling x e ≡ Less = find-holds (λ y. entry_cmp falling x y ≡ Less) (is_past falling from) xs e sorted.0 tail in
        let off : is_past falling on x ≡ false = ap is_gt (side x ∙ less) in
        cond-false (is_past falling from x) (x ∷ filter (is_past falling from) xs) (filter (is_past falling from) xs) is
        ∙ rest tail
        ∙ ap (λ (t : List Entry). e ∷ t) (sym (cond-false (is_past falling on x) (x ∷ filter (is_past falling on) xs) (filter (is_past falling on) xs) off))

pub past-none : (test : Entry → Bool) (xs : List Entry) → find test xs ≡ None → filter test xs ≡ []
past-none test [] h = refl
past-none test (x ∷ xs) h = by (test x) refl (past-none test xs)
  where
    by : (b : Bool) → test x ≡ b → (find test xs ≡ None → filter test xs ≡ []) → filter test (x ∷ xs) ≡ []
    by true is rest = absurd (let k : ◌≡◌ {A = Option Entry} (Some x) None = sym (cond-true (test x) (Some x) (find test xs) is) ∙ h in cc)
    by false is rest = cond-false (test x) (x ∷ filter test xs) (filter test xs) is ∙ rest (sym (cond-false (test x) (Some x) (find test xs) is) ∙ h)

-- ---- the numbers of the key's records

-- an entry of another key counts for nothing
other-none : (key : List ℕ) (rrn : ℕ) (e : Entry) → is_eq (key_cmp e.key key) ≡ false → other_number key rrn e ≡ None
other-none key rrn e off = ap (λ (b : Bool). cond (b && not (e.rrn == rrn)) (Some e.rrn) None) off

less-none : (o : Ordering) → is_lt o ≡ true → is_eq o ≡ false
less-none Less h = refl
less-none Equal h = cc
less-none Greater h = refl

past-before : (b : Bool) → is_gt (cond b Less Greater) ≡ not b
past-before true = refl
past-before false = refl

pub clash-begins : (falling : Bool) (from : Position) (key : List ℕ) (rrn : ℕ) (xs : List Entry) → ((x : Entry) → side_of falling from x ≡ cond (is_less x.key key) Less Greater)
    → least_other key rrn (filter (is_past falling from) xs) ≡ least_other key rrn xs
clash-begins falling from key rrn [] side = refl
clash-begins falling from key rrn (x ∷ xs) side = by (is_less x.key key) refl (clash-begins falling from key rrn xs side)
  where
    past : is_past falling from x ≡ not (is_less x.key key)
    past = ap is_gt (side x) ∙ past-before (is_less x.key key)

    by : (b : Bool) → is_less x.key key ≡ b → least_other key rrn (filter (is_past falling from) xs) ≡ least_other key rrn xs
        → least_other key rrn (filter (is_past falling from) (x ∷ xs)) ≡ least_other key rrn (x ∷ xs)
    by false is rest =
        ap (least_other key rrn) (cond-true (is_past falling from x) (x ∷ filter (is_past falling from) xs) (filter (is_past falling from) xs) (past ∙ ap not is))
        ∙ ap (lesser (other_number key rrn x)) rest
    by true is rest =
        ap (least_other key rrn) (cond-false (is_past falling from x) (x ∷ filter (is_past falling from) xs) (filter (is_past falling from) xs) (past ∙ ap not is))
        ∙ rest
        ∙ ap (λ (o : Option ℕ). lesser o (least_other key rrn xs)) (sym (other-none key rrn x (less-none (key_cmp x.key key) is)))

pub clash-above : (falling : Bool) (from : Position) (key : List ℕ) (xs : List Entry) → ((x : Entry) → side_of falling from x ≡ cond (is_less x.key key) Less Greater)
    → AllByRecursion (λ (e : Entry). is_less e.key key ≡ false) (filter (is_past falling from) xs)
clash-above falling from key [] side = tt
clash-above falling from key (x ∷ xs) side = by (is_less x.key key) refl (clash-above falling from key xs side)
  where
    past : is_past falling from x ≡ not (is_less x.key key)
    past = ap is_gt (side x) ∙ past-before (is_less x.key key)

    by : (b : Bool) → is_less x.key key ≡ b → AllByRecursion (λ (e : Entry). is_less e.key key ≡ false) (filter (is_past falling from) xs)
        → AllByRecursion (λ (e : Entry). is_less e.key key ≡ false) (filter (is_past falling from) (x ∷ xs))
    by false is rest =
        subst (AllByRecursion (λ (e : Entry). is_less e.key key ≡ false))
        (sym (cond-true (is_past falling from x) (x ∷ filter (is_past falling from) xs) (filter (is_past falling from) xs) (past ∙ ap not is))) (is, rest)
    by true is rest =
        subst (AllByRecursion (λ (e : Entry). is_less e.key key ≡ false))
        (sym (cond-false (is_past falling from x) (x ∷ filter (is_past falling from) xs) (filter (is_past falling from) xs) (past ∙ ap not is))) rest

-- ---- where the key ends

head-of : (test : Entry → Bool) (xs : List Entry) (e : Entry) → find test xs ≡ Some e → (t : List Entry) × (filter test xs ≡ e ∷ t)
head-of test [] e h = absurd (let k : ◌≡◌ {A = Option Entry} None (Some e) = h in cc)
head-of test (x ∷ xs) e h = by (test x) refl (head-of test xs e)
  where
    by : (b : Bool) → test x ≡ b → (find test xs ≡ Some e → (t : List Entry) × (filter test xs ≡ e ∷ t)) → (t : List Entry) × (filter test (x ∷ xs) ≡ e ∷ t)
    by true is rest =
        let same : x ≡ e = (let k : ◌≡◌ {A = Option Entry} (Some x) (Some e) = sym (cond-true (test x) (Some x) (find test xs) is) ∙ h in cc) in
        (filter test xs, cond-true (test x) (x ∷ filter test xs) (filter test xs) is ∙ ap (λ (y : Entry). y ∷ filter test xs) same)
    by false is rest =
        let tail = rest (sym (cond-false (test x) (Some x) (find test xs) is) ∙ h) in
        (tail.0, cond-false (test x) (x ∷ filter test xs) (filter test xs) is ∙ tail.1)

greater-later : (falling : Bool) (e y : Entry) (key : List ℕ) → entry_cmp falling e y ≡ Less → key_cmp e.key key ≡ Greater → key_cmp y.key key ≡ Greater
greater-later falling e y key less above = by (key_cmp e.key y.key) refl less
  where
    below : key_cmp key e.key ≡ Less
    below = nat_list_cmp_total.antisymm key e.key ∙ ap ordering_reverse above

    by : (o : Ordering) → key_cmp e.key y.key ≡ o → ordering_then o (ordering_then (nat_cmp e.format y.format) (tie_cmp falling e.rrn y.rrn)) ≡ Less → key_cmp y.key key ≡ Greater
    by Less is h = nat_list_cmp_total.antisymm y.key key ∙ ap ordering_reverse (nat_list_cmp_total.trans key e.key y.key below is)
    by Equal is h = sym (nat_list_cmp_total.congr e.key y.key key is) ∙ above
    by Greater is h = absurd (let k : Greater ≡ Less = h in cc)

greater-than : (o : Ordering) → is_lt o ≡ false → is_eq o ≡ false → o ≡ Greater
greater-than Less h k = cc
greater-than Equal h k = cc
greater-than Greater h k = refl

all-none : (key : List ℕ) (rrn : ℕ) (xs : List Entry) → AllByRecursion (λ (e : Entry). key_cmp e.key key ≡ Greater) xs → least_other key rrn xs ≡ None
all-none key rrn [] all = refl
all-none key rrn (x ∷ xs) all =
    ap (λ (o : Option ℕ). lesser o (least_other key rrn xs)) (other-none key rrn x (ap is_eq all.0)) ∙ all-none key rrn xs all.1

pub clash-ends : (falling : Bool) (from : Position) (key : List ℕ) (rrn : ℕ) (xs : List Entry) → IsInOrder falling xs
    → AllByRecursion (λ (e : Entry). is_less e.key key ≡ false) (filter (is_past falling from) xs) → with_key key (find (is_past falling from) xs) ≡ None
    → least_other key rrn (filter (is_past falling from) xs) ≡ None
unfolding IsStrictlySortedBy
clash-ends falling from key rrn xs sorted above h = by (find (is_past falling from) xs) refl h
  where
    at : (e : Entry) (t : List Entry) → is_eq (key_cmp e.key key) ≡ false → AllByRecursion (λ (x : Entry). is_less x.key key ≡ false) (e ∷ t) → IsInOrder falling (e ∷ t)
        → least_other key rrn (e ∷ t) ≡ None
    at e t off low order =
        let greater : key_cmp e.key key ≡ Greater = greater-than (key_cmp e.key key) low.0 off in
        all-none key rrn (e ∷ t) (greater, weaker (λ y. entry_cmp falling e y ≡ Less) (λ y. key_cmp y.key key ≡ Greater) (λ y less. greater-later falling e y key less greater) t order.0)

    unequal : (e : Entry) (b : Bool) → is_eq (key_cmp e.key key) ≡ b → cond b (Some e) None ≡ None → b ≡ false
    unequal e true is k = absurd (let m : ◌≡◌ {A = Option Entry} (Some e) None = k in cc)
    unequal e false is k = refl

    by : (o : Option Entry) → find (is_past falling from) xs ≡ o → with_key key o ≡ None → least_other key rrn (filter (is_past falling from) xs) ≡ None
    by None is k = ap (least_other key rrn) (past-none (is_past falling from) xs is)
    by (Some e) is k =
        let whole = head-of (is_past falling from) xs e is in
        let off : is_eq (key_cmp e.key key) ≡ false = unequal e (is_eq (key_cmp e.key key)) refl k in
        ap (least_other key rrn) whole.1
        ∙ at e whole.0 off (subst (AllByRecursion (λ (x : Entry). is_less x.key key ≡ false)) whole.1 above)
        (subst (IsInOrder falling) whole.1 (IsStrictlySortedBy-filter (entry_cmp falling) (is_past falling from) xs sorted))

-- ---- one entry of the key

pub with-key : (key : List ℕ) (o : Option Entry) (e : Entry) → with_key key o ≡ Some e → (o ≡ Some e) × (is_eq (key_cmp e.key key) ≡ true)
with-key key None e h = absurd (let k : ◌≡◌ {A = Option Entry} None (Some e) = h in cc)
with-key key (Some x) e h = by (is_eq (key_cmp x.key key)) refl h
  where
    by : (b : Bool) → is_eq (key_cmp x.key key) ≡ b → cond b (Some x) None ≡ Some e → (◌≡◌ {A = Option Entry} (Some x) (Some e)) × (is_eq (key_cmp e.key key) ≡ true)
    by true is k = (k, (let same : x ≡ e = cc in ap (λ (y : Entry). is_eq (key_cmp y.key key)) (sym same) ∙ is))
    by false is k = absurd (let m : ◌≡◌ {A = Option Entry} None (Some e) = k in cc)

lesser-assoc : (a b c : Option ℕ) → lesser (lesser a b) c ≡ lesser a (lesser b c)
lesser-assoc None b c = refl
lesser-assoc (Some n) None c = refl
lesser-assoc (Some n) (Some m) None = refl
lesser-assoc (Some n) (Some m) (Some k) = ap (λ (i : ℕ). Some i) (let e : min (min n m) k ≡ min n (min m k) = omega arith in e)

counted : (key : List ℕ) (rrn : ℕ) (e : Entry) → is_eq (key_cmp e.key key) ≡ true → cond (e.rrn == rrn) None (Some e.rrn) ≡ other_number key rrn e
counted key rrn e on = by (e.rrn == rrn) ∙ sym (ap (λ (b : Bool). cond (b && not (e.rrn == rrn)) (Some e.rrn) None) on)
  where
    by : (b : Bool) → cond b None (Some e.rrn) ≡ cond (not b) (Some e.rrn) None
    by true = refl
    by false = refl

-- the walk after one entry more
pub clash-next : (falling : Bool) (from on : Position) (key : List ℕ) (rrn : ℕ) (e : Entry) (xs : List Entry) (least next : Option ℕ) → IsInOrder falling xs
    → ((x : Entry) → side_of falling on x ≡ entry_cmp falling x e)
    → with_key key (find (is_past falling from) xs) ≡ Some e
    → next ≡ lesser least (cond (e.rrn == rrn) None (Some e.rrn))
    → lesser next (least_other key rrn (filter (is_past falling on) xs)) ≡ lesser least (least_other key rrn (filter (is_past falling from) xs))
clash-next falling from on key rrn e xs least next sorted side h is =
    let keyed = with-key key (find (is_past falling from) xs) e h in
    ap (λ (o : Option ℕ). lesser o (least_other key rrn (filter (is_past falling on) xs))) (is ∙ ap (lesser least) (counted key rrn e keyed.1))
    ∙ lesser-assoc least (other_number key rrn e) (least_other key rrn (filter (is_past falling on) xs))
    ∙ ap (λ (t : List Entry). lesser least (least_other key rrn t)) (sym (past-step falling from on e xs sorted side keyed.0))

pub clash-steps : (falling : Bool) (from on : Position) (key : List ℕ) (e : Entry) (xs : List Entry) → IsInOrder falling xs → ((x : Entry) → side_of falling on x ≡ entry_cmp falling x e)
    → with_key key (find (is_past falling from) xs) ≡ Some e → filter (is_past falling from) xs ≡ e ∷ filter (is_past falling on) xs
clash-steps falling from on key e xs sorted side h = past-step falling from on e xs sorted side (with-key key (find (is_past falling from) xs) e h).0

pub lesser-none : (o : Option ℕ) → lesser o None ≡ o
lesser-none None = refl
lesser-none (Some n) = refl
