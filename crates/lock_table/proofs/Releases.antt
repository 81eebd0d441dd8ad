-- What one lock more or less does to a table, and to what is left to release.
use Rattle.std.proofs.Common.{◌≡◌, ℕ, ◌<◌, ◌≤◌, Bool, true, false, not, ◌&&◌, ◌||◌, ◌==◌, cond, List, [], ◌∷◌, length, get_or, refl, sym, ap, ◌∙◌, arith, subst}
use Rattle.std.specs.Prelude.{IsTrue}
use Rattle.std.specs.List.{filter, All, Contains}
use Rattle.std.specs.List.Sorted.{IsStrictlySortedBy}
use Rattle.std.specs.Ordering.{is_eq}
use Rattle.std.specs.declared.cmp.Ordering.TheVariants.{Less, Equal, Greater}
use Rattle.std.proofs.lemmas.Bool.Decides.{nat_tests}
use Rattle.std.proofs.lemmas.Cmp.{tied_itself}
use Rattle.std.proofs.lemmas.List.Elements.{All-filter, All-weaker, All-contains}
use Rattle.std.proofs.lemmas.List.Kept.{IsStrictlySortedBy-filter}
use Rattle.lock_table.specs.declared.lock.Holder.{Holder}
use Rattle.lock_table.specs.declared.lock.RecordId.{RecordId}
use Rattle.lock_table.specs.declared.lock.Lock.{Lock}
use Rattle.lock_table.specs.Lock.{blocks, Clashes, is_of_open_on, is_on, is_update, bound, lock_cmp}
use Rattle.lock_table.specs.Table.{Locks, holding, IsTable, AreCompatible, IsOneOf, in_order, with_lock, without_lock, freed, kept, kept_to_boundary}
use Rattle.lock_table.proofs.InOrder.{with_item-filter, with_item-twice, with_item-swap, filter-with_item, fold-with_item, IsStrictlySortedBy-with_item, in_order-sorted}
use Rattle.lock_table.proofs.Kept.{filter-wider, filter-swap, filter-contrary, filter-has, length-filter-≤, length-filter-<, map-untouched, All-with_item}
use Rattle.lock_table.proofs.Locks.{lock_cmp-total, lock_cmp-same}

itself : (lock : Lock) → not (is_eq (lock_cmp lock lock)) ≡ false
itself lock = ap (λ r. not (is_eq r)) (tied_itself lock_cmp-total lock)

-- a lock that was held is gone
pub length-without_lock : (lock : Lock) (held : List Lock) → Contains held lock → length (without_lock lock held) < length held
length-without_lock lock held c = length-filter-< (λ l. not (is_eq (lock_cmp l lock))) lock held c.0 c.1 c.2 (itself lock)

other_lock : (gone : Lock → Bool) (lock : Lock) → gone lock ≡ true → (l : Lock) → not (gone l) ≡ true → not (is_eq (lock_cmp l lock)) ≡ true
other_lock gone lock h l k =
    elim (lock_cmp l lock) as (λ r. lock_cmp l lock ≡ r → not (is_eq r) ≡ true) [
      | Less ↦ λ e. refl
      | Equal ↦ λ e. absurd (let f : gone l ≡ true = ap gone (lock_cmp-same l lock e) ∙ h in let n : not (gone l) ≡ false = ap not f in cc)
      | Greater ↦ λ e. refl
    ] refl

-- one of the locks that go has gone
pub freed-without_lock : (gone : Lock → Bool) (lock : Lock) (held : List Lock) → gone lock ≡ true → freed gone (without_lock lock held) ≡ freed gone held
freed-without_lock gone lock held h = filter-wider (λ l. not (gone l)) (λ l. not (is_eq (lock_cmp l lock))) (other_lock gone lock h) held

-- none is left to go
pub freed-none : (gone : Lock → Bool) (held : List Lock) → filter gone held ≡ [] → freed gone held ≡ held
freed-none gone held h = filter-contrary gone held h

and_false : (b : Bool) → (b && false) ≡ false
and_false true = refl
and_false false = refl

-- ---- one of the open's locks is kept to the boundary
module _ (holder : Holder) (at : RecordId) where
  bound_is_out : (lock : Lock) → is_of_open_on holder at (bound lock) ≡ false
  bound_is_out lock = and_false (is_on at (bound lock))

  bound_stays : (lock : Lock) → kept holder at (bound lock) ≡ bound lock
  bound_stays lock = ap (λ b. cond b (bound (bound lock)) (bound lock)) (bound_is_out lock)

  kept-cons : (lock : Lock) (held : List Lock) → kept_to_boundary holder at (lock ∷ held) ≡ with_lock (kept holder at lock) (kept_to_boundary holder at held)
  kept-cons lock held = refl

  kept-with_lock : (lock : Lock) (held : List Lock) → kept_to_boundary holder at (with_lock lock held) ≡ with_lock (kept holder at lock) (kept_to_boundary holder at held)
  kept-with_lock lock held =
      fold-with_item lock_cmp-total lock_cmp-same (kept_to_boundary holder at) (λ l. with_lock (kept holder at l)) kept-cons
      (λ l. with_item-twice lock_cmp-total (kept holder at l))
      (λ a b. with_item-swap lock_cmp-total lock_cmp-same (kept holder at a) (kept holder at b))
      lock held

  pub kept-step : (lock : Lock) (held : List Lock) → IsStrictlySortedBy lock_cmp held → Contains held lock → is_of_open_on holder at lock ≡ true → kept_to_boundary holder at (with_lock (bound lock) (without_lock lock held)) ≡ kept_to_boundary holder at held
  kept-step lock held s c h =
      let e : kept holder at lock ≡ bound lock = ap (λ b. cond b (bound lock) lock) h in
      kept-with_lock (bound lock) (without_lock lock held)
      ∙ ap (λ l. with_lock l (kept_to_boundary holder at (without_lock lock held))) (bound_stays lock)
      ∙ ap (λ l. with_lock l (kept_to_boundary holder at (without_lock lock held))) (sym e)
      ∙ sym (kept-with_lock lock (without_lock lock held))
      ∙ ap (kept_to_boundary holder at) (with_item-filter lock_cmp-total lock held c.0 s c.1 c.2)

  pub kept-none : (held : List Lock) → IsStrictlySortedBy lock_cmp held → filter (is_of_open_on holder at) held ≡ [] → kept_to_boundary holder at held ≡ held
  kept-none held s h = ap (in_order lock_cmp) (map-untouched (is_of_open_on holder at) bound held h) ∙ in_order-sorted lock_cmp-total held s

  pub kept-falls : (lock : Lock) (held : List Lock) → IsStrictlySortedBy lock_cmp held → Contains held lock → is_of_open_on holder at lock ≡ true → length (filter (is_of_open_on holder at) (with_lock (bound lock) (without_lock lock held))) < length (filter (is_of_open_on holder at) held)
  kept-falls lock held s c h =
      let t : Lock → Bool = is_of_open_on holder at in
      let q : Lock → Bool = λ l. not (is_eq (lock_cmp l lock)) in
      let one : filter (is_of_open_on holder at) (with_lock (bound lock) (without_lock lock held)) ≡ filter (is_of_open_on holder at) (without_lock lock held) = filter-with_item lock_cmp-total lock_cmp-same (is_of_open_on holder at) (bound lock) (without_lock lock held) (IsStrictlySortedBy-filter lock_cmp (λ l. not (is_eq (lock_cmp l lock))) held s) ∙ ap (λ b. cond b (with_lock (bound lock) (filter (is_of_open_on holder at) (without_lock lock held))) (filter (is_of_open_on holder at) (without_lock lock held))) (bound_is_out lock) in
      let two : filter (is_of_open_on holder at) (without_lock lock held) ≡ without_lock lock (filter (is_of_open_on holder at) held) = filter-swap (is_of_open_on holder at) (λ l. not (is_eq (lock_cmp l lock))) held in
      rw (one, two) (length-without_lock lock (filter (is_of_open_on holder at) held) (filter-has (is_of_open_on holder at) lock held c h))

-- ---- locks that do not clash
blocks_back : (a b : Lock) → blocks b.job b.at b.kind a ≡ blocks a.job a.at a.kind b
blocks_back a b = flipped a.at.member b.at.member a.at.rrn b.at.rrn a.job b.job (is_update a.kind) (is_update b.kind)
  where
    flipped : (m n r s j k : ℕ) (p q : Bool) → (((m == n) && (r == s)) && (not (j == k) && (p || q))) ≡ (((n == m) && (s == r)) && (not (k == j) && (q || p)))
    flipped m n r s j k p q = grind (arith, nat_tests)

not_own : (a : Lock) → blocks a.job a.at a.kind a ≡ false
not_own a = own a.job (is_on a.at a) (is_update a.kind || is_update a.kind)
  where
    own : (j : ℕ) (p q : Bool) → (p && (not (j == j) && q)) ≡ false
    own j p q = grind (arith, nat_tests)

pub Clashes-back : (a b : Lock) → (Clashes a b → ⊥) → Clashes b a → ⊥
Clashes-back a b h k = h (subst (λ t. IsTrue t) (blocks_back a b) k)

pub Clashes-not_own : (a : Lock) → Clashes a a → ⊥
Clashes-not_own a h = let e : blocks a.job a.at a.kind a ≡ false = not_own a in cc

pub AreCompatible-filter : (p : Lock → Bool) (held : List Lock) → AreCompatible held → AreCompatible (filter p held)
AreCompatible-filter p held h = All-filter p (λ a. All (λ b. Clashes a b → ⊥) (filter p held)) held (All-weaker (λ a. All (λ b. Clashes a b → ⊥) held) (λ a. All (λ b. Clashes a b → ⊥) (filter p held)) (λ a. All-filter p (λ b. Clashes a b → ⊥) held) held h)

pub AreCompatible-with_lock : (lock : Lock) (held : List Lock) → AreCompatible held → All (λ other. Clashes lock other → ⊥) held → AreCompatible (with_lock lock held)
AreCompatible-with_lock lock held h alone =
    All-with_item lock_cmp (λ a. All (λ b. Clashes a b → ⊥) (with_lock lock held)) lock held
    (All-with_item lock_cmp (λ b. Clashes lock b → ⊥) lock held (Clashes-not_own lock) alone)
    (λ k d l. All-with_item lock_cmp (λ b. Clashes (get_or held k d) b → ⊥) lock held (Clashes-back lock (get_or held k d) (alone k d l)) (h k d l))

-- ---- tables
pub IsTable-filter : (p : Lock → Bool) (held : List Lock) (room : ℕ) → IsTable (record { held = held; room = room }) → IsTable (record { held = filter p held; room = room })
IsTable-filter p held room t =
    let fewer : length (filter p held) ≤ length held = length-filter-≤ p held in
    record {
      ordered = IsStrictlySortedBy-filter lock_cmp p held t.ordered;
      compatible = AreCompatible-filter p held t.compatible;
      fits = omega (arith, t.fits);
      within = t.within;
    }

pub IsTable-with_lock : (lock : Lock) (held : List Lock) (room : ℕ) → IsTable (record { held = held; room = room }) → length (with_lock lock held) ≤ room → All (λ other. Clashes lock other → ⊥) held → IsTable (record { held = with_lock lock held; room = room })
IsTable-with_lock lock held room t fits alone = record {
  ordered = IsStrictlySortedBy-with_item lock_cmp-total lock held t.ordered;
  compatible = AreCompatible-with_lock lock held t.compatible alone;
  fits = fits;
  within = t.within;
}

-- ---- what is left when a lock has gone
module _ (lock : Lock) (held : List Lock) (room : ℕ) (t : IsTable (record { held = held; room = room })) (c : Contains held lock) where
  pub alone-without_lock : All (λ other. Clashes lock other → ⊥) (without_lock lock held)
  alone-without_lock = All-filter (λ l. not (is_eq (lock_cmp l lock))) (λ other. Clashes lock other → ⊥) held (All-contains (λ a. All (λ b. Clashes a b → ⊥) held) held lock t.compatible c)

-- a table by its locks and its room
abbrev locks_of : List Lock → ℕ → Locks
locks_of held room = record { held = held; room = room }

locks_of_same : (xs ys : List Lock) (m n : ℕ) → xs ≡ ys → m ≡ n → locks_of xs m ≡ locks_of ys n
locks_of_same xs ys m n e f = cc

pub holding-is : (t u : Locks) (held : List Lock) → t.held ≡ held → t.room ≡ u.room → t ≡ holding held u
holding-is t u held e f = locks_of_same t.held held t.room u.room e f

-- ---- a step and the end of a release
pub record IsLeft (gone : Lock → Bool) (t start : Locks) : Type 0 where
  pub same : freed gone t.held ≡ freed gone start.held
  pub room : t.room ≡ start.room

pub IsLeft-step : (gone : Lock → Bool) (t start now : Locks) (lock : Lock) → IsLeft gone t start → IsOneOf gone lock t.held → now ≡ holding (without_lock lock t.held) t → IsLeft gone now start
IsLeft-step gone t start now lock left one is = record {
  same = ap (λ (u : Locks). freed gone u.held) is ∙ freed-without_lock gone lock t.held one.passes ∙ left.same;
  room = ap (λ (u : Locks). u.room) is ∙ left.room;
}

pub IsLeft-end : (gone : Lock → Bool) (t start : Locks) → IsLeft gone t start → filter gone t.held ≡ [] → t ≡ holding (freed gone start.held) start
IsLeft-end gone t start left none = holding-is t start (freed gone start.held) (sym (freed-none gone t.held none) ∙ left.same) left.room

-- ---- a step and the end of keeping locks to the boundary
module _ (holder : Holder) (at : RecordId) where
  pub record IsKept (t start : Locks) : Type 0 where
    pub same : kept_to_boundary holder at t.held ≡ kept_to_boundary holder at start.held
    pub room : t.room ≡ start.room

  module _ (t start now : Locks) (lock : Lock) (table : IsTable t) (one : IsOneOf (is_of_open_on holder at) lock t.held) (is : now ≡ holding (with_lock (bound lock) (without_lock lock t.held)) t) where
    pub IsKept-step : IsKept t start → IsKept now start
    IsKept-step kept_so = record {
      same = ap (λ (u : Locks). kept_to_boundary holder at u.held) is ∙ kept-step holder at lock t.held table.ordered one.there one.passes ∙ kept_so.same;
      room = ap (λ (u : Locks). u.room) is ∙ kept_so.room;
    }

    pub kept_falls : length (filter (is_of_open_on holder at) now.held) < length (filter (is_of_open_on holder at) t.held)
    kept_falls = rw is (kept-falls holder at lock t.held table.ordered one.there one.passes)

  pub IsKept-end : (t start : Locks) → IsTable t → IsKept t start → filter (is_of_open_on holder at) t.held ≡ [] → t ≡ holding (kept_to_boundary holder at start.held) start
  IsKept-end t start table kept_so none = holding-is t start (kept_to_boundary holder at start.held) (sym (kept-none holder at t.held table.ordered none) ∙ kept_so.same) kept_so.room
