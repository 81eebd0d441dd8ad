-- A tree whose locks are in order, around its node: what is true of its two sides, and what a search makes of them.
use Rattle.std.proofs.Common.{◌≡◌, ℕ, ◌+◌, ◌≤◌, ◌<◌, nat_le, Bool, true, false, not, ◌==◌, cond, Box, Option, None, Some, List, [], ◌∷◌, ◌++◌, length, refl, sym, ap, ◌∙◌, arith, subst, length-append}
use Rattle.std.specs.Prelude.{if◌then◌else◌}
use Rattle.std.specs.List.{filter, find, AllByRecursion}
use Rattle.std.specs.List.Sorted.{IsStrictlySortedBy}
use Rattle.std.specs.Option.{option_or}
use Rattle.std.specs.Ordering.{is_eq, is_lt, is_le, nat_cmp, ordering_then}
use Rattle.std.specs.declared.alloc.Global.{Global}
use Rattle.std.specs.declared.cmp.Ordering.{Ordering}
use Rattle.std.specs.declared.cmp.Ordering.TheVariants.{Less, Equal, Greater}
use Rattle.std.proofs.lemmas.Bool.Decides.{nat_tests}
use Rattle.std.proofs.lemmas.List.Elements.{filter-append}
use Rattle.std.proofs.lemmas.List.Folds.{find-append}
use Rattle.lock_table.specs.declared.lock.Lock.{Lock}
use Rattle.lock_table.specs.declared.part.Part.{Part}
use Rattle.lock_table.specs.declared.tree.Node.{Node}
use Rattle.lock_table.specs.declared.tree.Top.{Top}
use Rattle.lock_table.specs.declared.tree.Top.TheVariants.{Empty, At}
use Rattle.lock_table.specs.Lock.{lock_cmp}
use Rattle.lock_table.specs.Table.{with_lock, without_lock}
use Rattle.lock_table.specs.Index.{is_part, part_cmp}
use Rattle.lock_table.specs.Tree.{locks_at}
use Rattle.lock_table.proofs.Kept.{length-filter-≤}
use Rattle.lock_table.proofs.Locks.{IsBelow, lock_cmp-total, part_cmp-falls}
use Rattle.lock_table.proofs.Sides.{AreSides, sides, each_map, filter-here, filter-left, filter-right, with_item-left, with_item-right, with_item-here, without-left, without-right, without-here}

-- the locks of a node, whose sides are in order
pub record IsNode (locks left : List Lock) (lock : Lock) (right : List Lock) : Type 0 where
  pub is : locks ≡ left ++ lock ∷ right
  pub sides : AreSides lock_cmp left lock right

pub node-sides : (locks left : List Lock) (lock : Lock) (right : List Lock) → locks ≡ left ++ lock ∷ right → IsStrictlySortedBy lock_cmp locks → IsNode locks left lock right
node-sides locks left lock right is s = record { is = is; sides = sides lock_cmp left lock right (subst (IsStrictlySortedBy lock_cmp) is s) }

pub at_node : (top : Top) (locks : List Lock) (node : Box Node Global) → locks_at top ≡ locks → top ≡ At node → IsStrictlySortedBy lock_cmp locks → IsNode locks node.value.left node.value.lock node.value.right
at_node top locks node view is s = node-sides locks node.value.left node.value.lock node.value.right (sym view ∙ ap locks_at is) s

pub no_node : (top : Top) (locks : List Lock) → locks_at top ≡ locks → top ≡ Empty → locks ≡ []
no_node top locks view is = sym view ∙ ap locks_at is

pub length-sides : {locks left right : List Lock} {x : Lock} → IsNode locks left x right → length locks ≡ length left + length right + 1
length-sides {locks} {left} {right} {x} n = omega (arith, ap length n.is, length-append left (x ∷ right))

-- ---- one lock
module _ {locks left right : List Lock} {x : Lock} (n : IsNode locks left x right) (lock : Lock) where
  pub with-left : lock_cmp lock x ≡ Less → with_lock lock locks ≡ with_lock lock left ++ x ∷ right
  with-left h = ap (with_lock lock) n.is ∙ with_item-left lock_cmp-total lock left x right h

  pub with-right : lock_cmp lock x ≡ Greater → with_lock lock locks ≡ left ++ x ∷ with_lock lock right
  with-right h = ap (with_lock lock) n.is ∙ with_item-right lock_cmp-total lock left x right n.sides.below h

  pub with-here : lock_cmp lock x ≡ Equal → with_lock lock locks ≡ locks
  with-here h = ap (with_lock lock) n.is ∙ with_item-here lock_cmp-total lock left x right n.sides.below h ∙ sym n.is

  pub gone-left : lock_cmp lock x ≡ Less → without_lock lock locks ≡ without_lock lock left ++ x ∷ right
  gone-left h = ap (without_lock lock) n.is ∙ without-left lock_cmp-total lock left x right n.sides.above h

  pub gone-right : lock_cmp lock x ≡ Greater → without_lock lock locks ≡ left ++ x ∷ without_lock lock right
  gone-right h = ap (without_lock lock) n.is ∙ without-right lock_cmp-total lock left x right n.sides.below h

  pub gone-here : lock_cmp lock x ≡ Equal → without_lock lock locks ≡ left ++ right
  gone-here h = ap (without_lock lock) n.is ∙ without-here lock_cmp-total lock left x right n.sides.below n.sides.above h

  pub length-node : length locks ≡ length left + length right + 1
  length-node = omega (arith, ap length n.is, length-append left (x ∷ right))

  -- how many locks there are with this one, and without it
  pub more-left : lock_cmp lock x ≡ Less → (k : ℕ) → length (with_lock lock left) ≡ length left + k → length (with_lock lock locks) ≡ length locks + k
  more-left h k e = omega (arith, e, length-node, ap length (with-left h), length-append (with_lock lock left) (x ∷ right))

  pub more-right : lock_cmp lock x ≡ Greater → (k : ℕ) → length (with_lock lock right) ≡ length right + k → length (with_lock lock locks) ≡ length locks + k
  more-right h k e = omega (arith, e, length-node, ap length (with-right h), length-append left (x ∷ with_lock lock right))

  pub more-here : lock_cmp lock x ≡ Equal → length (with_lock lock locks) ≡ length locks + 0
  more-here h = omega (arith, ap length (with-here h))

  pub fewer-left : lock_cmp lock x ≡ Less → (k : ℕ) → length (without_lock lock left) + k ≡ length left → length (without_lock lock locks) + k ≡ length locks
  fewer-left h k e = omega (arith, e, length-node, ap length (gone-left h), length-append (without_lock lock left) (x ∷ right))

  pub fewer-right : lock_cmp lock x ≡ Greater → (k : ℕ) → length (without_lock lock right) + k ≡ length right → length (without_lock lock locks) + k ≡ length locks
  fewer-right h k e = omega (arith, e, length-node, ap length (gone-right h), length-append left (x ∷ without_lock lock right))

  pub fewer-here : lock_cmp lock x ≡ Equal → length (without_lock lock locks) + 1 ≡ length locks
  fewer-here h = omega (arith, length-node, ap length (gone-here h), length-append left right)

  -- where the lock is new, it is new on its side
  pub new-left : lock_cmp lock x ≡ Less → length (with_lock lock locks) ≡ length locks + 1 → length (with_lock lock left) ≡ length left + 1
  new-left h k =
      let e : length (with_lock lock locks) ≡ length (with_lock lock left) + length right + 1 = omega (arith, ap length (with-left h), length-append (with_lock lock left) (x ∷ right)) in
      omega (arith, length-node)

  pub not-here : lock_cmp lock x ≡ Equal → length (with_lock lock locks) ≡ length locks + 1 → ⊥
  not-here h k = absurd (omega (arith, ap length (with-here h)))

  pub new-right : lock_cmp lock x ≡ Greater → length (with_lock lock locks) ≡ length locks + 1 → length (with_lock lock right) ≡ length right + 1
  new-right h k =
      let e : length (with_lock lock locks) ≡ length left + length (with_lock lock right) + 1 = omega (arith, ap length (with-right h), length-append left (x ∷ with_lock lock right)) in
      omega (arith, length-node)

-- ---- the same where the sides, the lock between them and what became of one side are known by equations
module _ {locks left right : List Lock} {x : Lock} (n : IsNode locks left x right) (lock y : Lock) (y_is : y ≡ x) where
  same_side : (r : Ordering) → lock_cmp lock y ≡ r → lock_cmp lock x ≡ r
  same_side r h = ap (lock_cmp lock) (sym y_is) ∙ h

  pub with-left-is : (now old behind : List Lock) → lock_cmp lock y ≡ Less → now ≡ with_lock lock old → old ≡ left → behind ≡ right → now ++ y ∷ behind ≡ with_lock lock locks
  with-left-is now old behind h e f g = rw (e, f, g, y_is) (sym (with-left n lock (same_side Less h)))

  pub with-right-is : (ahead now old : List Lock) → lock_cmp lock y ≡ Greater → now ≡ with_lock lock old → old ≡ right → ahead ≡ left → ahead ++ y ∷ now ≡ with_lock lock locks
  with-right-is ahead now old h e f g = rw (e, f, g, y_is) (sym (with-right n lock (same_side Greater h)))

  pub gone-left-is : (now old behind : List Lock) → lock_cmp lock y ≡ Less → now ≡ without_lock lock old → old ≡ left → behind ≡ right → now ++ y ∷ behind ≡ without_lock lock locks
  gone-left-is now old behind h e f g = rw (e, f, g, y_is) (sym (gone-left n lock (same_side Less h)))

  pub gone-right-is : (ahead now old : List Lock) → lock_cmp lock y ≡ Greater → now ≡ without_lock lock old → old ≡ right → ahead ≡ left → ahead ++ y ∷ now ≡ without_lock lock locks
  gone-right-is ahead now old h e f g = rw (e, f, g, y_is) (sym (gone-right n lock (same_side Greater h)))

  pub gone-here-is : (ahead behind : List Lock) → lock_cmp lock y ≡ Equal → ahead ≡ left → behind ≡ right → ahead ++ behind ≡ without_lock lock locks
  gone-here-is ahead behind h f g = rw (f, g) (sym (gone-here n lock (same_side Equal h)))

-- a lock that isn't below, and isn't there, is above
pub above-from_new : {locks left right : List Lock} {x : Lock} (n : IsNode locks left x right) (lock : Lock) → is_lt (lock_cmp lock x) ≡ false → length (with_lock lock locks) ≡ length locks + 1 → lock_cmp lock x ≡ Greater
above-from_new {locks} {left} {right} {x} n lock h k =
    elim (lock_cmp lock x) as (λ r. lock_cmp lock x ≡ r → is_lt r ≡ false → r ≡ Greater) [
      | Less ↦ λ e f. absurd (cc)
      | Equal ↦ λ e f. absurd (not-here n lock e k)
      | Greater ↦ λ e f. refl
    ] refl h

pub less-from_lt : (o : Ordering) → is_lt o ≡ true → o ≡ Less
less-from_lt Less h = refl
less-from_lt Equal h = absurd (cc)
less-from_lt Greater h = absurd (cc)

-- ---- a part
pub is_lt-below : IsBelow is_lt
is_lt-below = record { less = refl; greater = refl }

pub is_le-below : IsBelow is_le
is_le-below = record { less = refl; greater = refl }

lt_not_eq : (o : Ordering) → is_lt o ≡ true → is_eq o ≡ false
lt_not_eq Less h = refl
lt_not_eq Equal h = absurd (cc)
lt_not_eq Greater h = refl

not_le_eq : (o : Ordering) → is_le o ≡ false → is_eq o ≡ false
not_le_eq Less h = absurd (cc)
not_le_eq Equal h = absurd (cc)
not_le_eq Greater h = refl

module _ (part : Part) where
  rises : (t : Ordering → Bool) → IsBelow t → (x y : Lock) → lock_cmp x y ≡ Less → t (part_cmp part x) ≡ false → t (part_cmp part y) ≡ false
  rises t b x y l h =
      elim (t (part_cmp part y)) as (λ p. t (part_cmp part y) ≡ p → p ≡ false) [
        | true ↦ λ e. absurd (let f : t (part_cmp part x) ≡ true = part_cmp-falls t b part x y l e in cc)
        | false ↦ λ e. refl
      ] refl

  module _ {locks left right : List Lock} {x : Lock} (n : IsNode locks left x right) where
    pub run-left : part_cmp part x ≡ Greater → filter (is_part part) locks ≡ filter (is_part part) left
    run-left h =
        ap (filter (is_part part)) n.is
        ∙ filter-left (is_part part) left x right (ap is_eq h)
        (each_map (λ y. lock_cmp x y ≡ Less) (λ y. is_part part y ≡ false) (λ y e. not_le_eq (part_cmp part y) (rises is_le is_le-below x y e (ap is_le h))) right n.sides.above)

    pub run-right : part_cmp part x ≡ Less → filter (is_part part) locks ≡ filter (is_part part) right
    run-right h =
        ap (filter (is_part part)) n.is
        ∙ filter-right (is_part part) left x right
        (each_map (λ y. lock_cmp y x ≡ Less) (λ y. is_part part y ≡ false) (λ y e. lt_not_eq (part_cmp part y) (part_cmp-falls is_lt is_lt-below part y x e (ap is_lt h))) left n.sides.below)
        (ap is_eq h)

    pub run-here : part_cmp part x ≡ Equal → filter (is_part part) locks ≡ filter (is_part part) left ++ x ∷ filter (is_part part) right
    run-here h = ap (filter (is_part part)) n.is ∙ filter-here (is_part part) left x right (ap is_eq h)

    -- what is told from the locks of the part
    pub told-right : {Y : Type 0} (F : List Lock → Y) (y : Y) → part_cmp part x ≡ Less → y ≡ F (filter (is_part part) right) → y ≡ F (filter (is_part part) locks)
    told-right F y h e = e ∙ ap F (sym (run-right h))

    pub told-left : {Y : Type 0} (F : List Lock → Y) (y : Y) → part_cmp part x ≡ Greater → y ≡ F (filter (is_part part) left) → y ≡ F (filter (is_part part) locks)
    told-left F y h e = e ∙ ap F (sym (run-left h))

    pub told-here : {Y : Type 0} (F : List Lock → Y) (y : Y) → part_cmp part x ≡ Equal → F (filter (is_part part) left ++ x ∷ filter (is_part part) right) ≡ y → y ≡ F (filter (is_part part) locks)
    told-here F y h e = sym (ap F (run-here h) ∙ e)

-- ---- the first that passes a test
module _ (t : Lock → Bool) (before : List Lock) (x : Lock) (after : List Lock) where
  first-either : find t (before ++ x ∷ after) ≡ option_or (find t before) (cond (t x) (Some x) (find t after))
  first-either = find-append t before (x ∷ after)

  pub first-before : (lock : Lock) → find t before ≡ Some lock → find t (before ++ x ∷ after) ≡ Some lock
  first-before lock h = first-either ∙ ap (λ r. option_or r (cond (t x) (Some x) (find t after))) h

  pub first-here : (here : Option Lock) (lock : Lock) → find t before ≡ None → here ≡ (if t x then Some x else None) → here ≡ Some lock → find t (before ++ x ∷ after) ≡ Some lock
  first-here here lock h own is =
      first-either ∙ ap (λ r. option_or r (cond (t x) (Some x) (find t after))) h
      ∙ elim (t x) as (λ b. (if b then Some x else None) ≡ Some lock → cond b (Some x) (find t after) ≡ Some lock) [ true ↦ λ e. e | false ↦ λ e. absurd (cc) ] (sym own ∙ is)

  pub first-after : (here : Option Lock) → find t before ≡ None → here ≡ (if t x then Some x else None) → here ≡ None → find t (before ++ x ∷ after) ≡ find t after
  first-after here h own is =
      first-either ∙ ap (λ r. option_or r (cond (t x) (Some x) (find t after))) h
      ∙ elim (t x) as (λ b. (if b then Some x else None) ≡ None → cond b (Some x) (find t after) ≡ find t after) [ true ↦ λ e. absurd (cc) | false ↦ λ e. refl ] (sym own ∙ is)

  pub first-own : find t before ≡ None → t x ≡ true → find t (before ++ x ∷ after) ≡ Some x
  first-own h own = first-either ∙ ap (λ r. option_or r (cond (t x) (Some x) (find t after))) h ∙ ap (λ b. cond b (Some x) (find t after)) own

-- ---- the jobs from one on
from_job : (x y j : ℕ) (o : Ordering) → ordering_then (nat_cmp x y) o ≡ Less → nat_le j y ≡ false → nat_le j x ≡ false
from_job x y j o l h = grind (arith, nat_tests)

find-none_passes : (t : Lock → Bool) (xs : List Lock) → AllByRecursion (λ y. t y ≡ false) xs → find t xs ≡ None
find-none_passes t [] h = refl
find-none_passes t (x ∷ xs) h = rw h.0 (find-none_passes t xs h.1)

below_job : (j x : ℕ) → x < j → nat_le j x ≡ false
below_job j x h = grind (arith, nat_tests)

from_it : (j x : ℕ) → j ≤ x → nat_le j x ≡ true
from_it j x h = grind (arith, nat_tests)

module _ {locks left right : List Lock} {x : Lock} (n : IsNode locks left x right) (job : ℕ) where
  pub from-right : (found : Option Lock) → x.job < job → found ≡ find (λ l. nat_le job l.job) right → found ≡ find (λ l. nat_le job l.job) locks
  from-right found h e =
      let none : find (λ l. nat_le job l.job) left ≡ None =
      find-none_passes (λ l. nat_le job l.job) left (each_map (λ y. lock_cmp y x ≡ Less) (λ y. nat_le job y.job ≡ false) (λ y k. from_job y.job x.job job _ k (below_job job x.job h)) left n.sides.below)
      in
      e
      ∙ sym
      (ap (find (λ l. nat_le job l.job)) n.is ∙ first-either (λ l. nat_le job l.job) left x right
      ∙ ap (λ r. option_or r (cond (nat_le job x.job) (Some x) (find (λ l. nat_le job l.job) right))) none
      ∙ ap (λ b. cond b (Some x) (find (λ l. nat_le job l.job) right)) (below_job job x.job h))

  pub from-left : (lock : Lock) → find (λ l. nat_le job l.job) left ≡ Some lock → Some lock ≡ find (λ l. nat_le job l.job) locks
  from-left lock e = sym (ap (find (λ l. nat_le job l.job)) n.is ∙ first-before (λ l. nat_le job l.job) left x right lock e)

  pub from-here : job ≤ x.job → find (λ l. nat_le job l.job) left ≡ None → Some x ≡ find (λ l. nat_le job l.job) locks
  from-here h e = sym (ap (find (λ l. nat_le job l.job)) n.is ∙ first-own (λ l. nat_le job l.job) left x right e (from_it job x.job h))

-- ---- how many are through an open
module _ (part : Part) (opened : ℕ) where
  pub length-through-≤ : (xs : List Lock) → length (filter (λ l. l.opened == opened) (filter (is_part part) xs)) ≤ length xs
  length-through-≤ xs =
      let a : length (filter (λ l. l.opened == opened) (filter (is_part part) xs)) ≤ length (filter (is_part part) xs) = length-filter-≤ (λ l. l.opened == opened) (filter (is_part part) xs) in
      let b : length (filter (is_part part) xs) ≤ length xs = length-filter-≤ (is_part part) xs in
      omega arith

  other_open : (x o : ℕ) → (x ≡ o → ⊥) → (x == o) ≡ false
  other_open x o h = grind (arith, nat_tests)

  pub through-out : (before : List Lock) (x : Lock) (after : List Lock) → (x.opened ≡ opened → ⊥) → length (filter (λ l. l.opened == opened) (before ++ x ∷ after)) ≡ length (filter (λ l. l.opened == opened) before) + length (filter (λ l. l.opened == opened) after)
  through-out before x after h =
      let rest : filter (λ l. l.opened == opened) (x ∷ after) ≡ filter (λ l. l.opened == opened) after = rw (other_open x.opened opened h) refl in
      omega (arith, ap length (filter-append (λ l. l.opened == opened) before (x ∷ after)), ap length rest, length-append (filter (λ l. l.opened == opened) before) (filter (λ l. l.opened == opened) (x ∷ after)))
