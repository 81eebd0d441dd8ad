-- How many locks are held once one more is, and others are not.
use Rattle.std.proofs.Common.{◌≡◌, ℕ, ◌+◌, ◌-◌, ◌<◌, ◌≤◌, Bool, true, false, not, ◌==◌, cond, List, [], ◌∷◌, length, refl, sym, ap, ◌∙◌, suc, arith}
use Rattle.std.specs.List.{filter, AllByRecursion, Contains}
use Rattle.std.specs.List.Sorted.{IsStrictlySortedBy}
use Rattle.std.specs.Ordering.{is_eq, match_ordering, nat_cmp}
use Rattle.std.specs.declared.cmp.Ordering.{Ordering}
use Rattle.std.specs.declared.cmp.Ordering.TheVariants.{Less, Equal, Greater}
use Rattle.std.proofs.lemmas.Bool.Decides.{nat_tests}
use Rattle.std.proofs.lemmas.Cmp.{tied_itself}
use Rattle.std.proofs.lemmas.List.{get_or_default}
use Rattle.std.proofs.lemmas.List.Kept.{IsStrictlySortedBy-filter}
use Rattle.lock_table.specs.declared.lock.LockKind.{LockKind}
use Rattle.lock_table.specs.declared.lock.Reach.{Reach}
use Rattle.lock_table.specs.declared.lock.Reach.TheVariants.{Open, Boundary}
use Rattle.lock_table.specs.declared.lock.Holder.{Holder}
use Rattle.lock_table.specs.declared.lock.RecordId.{RecordId}
use Rattle.lock_table.specs.declared.lock.Lock.{Lock}
use Rattle.lock_table.specs.Lock.{is_of_open, is_open, lock_by, lock_cmp}
use Rattle.lock_table.specs.Table.{Locks, IsTable, HasRoom, spare, with_item, with_lock, with_lock_by, without_lock, freed, after_read}
use Rattle.lock_table.proofs.InOrder.{filter-with_item, with_item-there}
use Rattle.lock_table.proofs.Kept.{filter-has, filter-swap, length-filter-≤, length-with_item}
use Rattle.lock_table.proofs.Locks.{lock_cmp-same, lock_cmp-total}
use Rattle.lock_table.proofs.Releases.{freed-without_lock, length-without_lock}

pub length-filter-not : {X : Type 0} (p : X → Bool) (xs : List X) → length (filter p xs) + length (filter (λ x. not (p x)) xs) ≡ length xs
length-filter-not p [] = refl
length-filter-not p (x ∷ xs) =
    let h : length (filter p xs) + length (filter (λ x. not (p x)) xs) ≡ length xs = length-filter-not p xs in
    elim (p x) as (λ b. length (cond b (x ∷ filter p xs) (filter p xs)) + length (cond (not b) (x ∷ filter (λ x. not (p x)) xs) (filter (λ x. not (p x)) xs)) ≡ length (x ∷ xs)) [ true ↦ omega arith | false ↦ omega arith ]

-- an item that ties with none
length-with_item-new : {X : Type 0} (R : X → X → Ordering) (x : X) (xs : List X) → AllByRecursion (λ y. is_eq (R x y) ≡ false) xs → length (with_item R x xs) ≡ suc (length xs)
length-with_item-new R x [] h = refl
length-with_item-new R x (y ∷ ys) h =
    let more : length (with_item R x ys) ≡ suc (length ys) = length-with_item-new R x ys h.1 in
    elim (R x y) as (λ r. is_eq r ≡ false → length (match_ordering r (x ∷ y ∷ ys) (y ∷ ys) (y ∷ with_item R x ys)) ≡ suc (length (y ∷ ys))) [ Less ↦ λ e. refl | Equal ↦ λ e. absurd (cc) | Greater ↦ λ e. ap suc more ] h.0

-- a lock that is freed is not among those that are left
other_one : (p : Lock → Bool) (lock l : Lock) → p lock ≡ true → p l ≡ false → is_eq (lock_cmp lock l) ≡ false
other_one p lock l h e =
    elim (lock_cmp lock l) as (λ r. lock_cmp lock l ≡ r → is_eq r ≡ false) [
      | Less ↦ λ g. refl
      | Equal ↦ λ g. absurd (let same : p lock ≡ p l = ap p (lock_cmp-same lock l g) in cc)
      | Greater ↦ λ g. refl
    ] refl

gone_from : (p : Lock → Bool) (lock : Lock) → p lock ≡ true → (xs : List Lock) → AllByRecursion (λ y. is_eq (lock_cmp lock y) ≡ false) (freed p xs)
gone_from p lock h [] = tt
gone_from p lock h (x ∷ xs) =
    elim (p x) as (λ b. p x ≡ b → AllByRecursion (λ y. is_eq (lock_cmp lock y) ≡ false) (cond (not b) (x ∷ freed p xs) (freed p xs))) [
      | true ↦ λ e. gone_from p lock h xs
      | false ↦ λ e. (other_one p lock x h e, gone_from p lock h xs)
    ] refl

own : (n : ℕ) → (n == n) ≡ true
own n = grind (arith, nat_tests)

module _ (holder : Holder) (at : RecordId) (kind : LockKind) (held : List Lock) where
  own_open : is_of_open holder (lock_by holder at kind Open) ≡ true
  own_open = rw (own holder.job, own holder.opened) refl

  module _ (older : ℕ) (o : older ≡ length (filter (is_of_open holder) held)) where
    pub older-≤ : older ≤ length held
    older-≤ = let h : length (filter (is_of_open holder) held) ≤ length held = length-filter-≤ (is_of_open holder) held in omega arith

    pub count-open : (length held - older) + 1 ≡ length (after_read holder at kind Open held)
    count-open =
        let parts : length (filter (is_of_open holder) held) + length (freed (is_of_open holder) held) ≡ length held = length-filter-not (is_of_open holder) held in
        let new : length (with_lock (lock_by holder at kind Open) (freed (is_of_open holder) held)) ≡ suc (length (freed (is_of_open holder) held)) = length-with_item-new lock_cmp (lock_by holder at kind Open) (freed (is_of_open holder) held) (gone_from (is_of_open holder) (lock_by holder at kind Open) own_open held) in
        omega arith

    without_own : without_lock (lock_by holder at kind Open) (freed (is_of_open holder) held) ≡ freed (is_of_open holder) held
    without_own =
        filter-swap (λ l. not (is_eq (lock_cmp l (lock_by holder at kind Open)))) (λ l. not (is_of_open holder l)) held
        ∙ freed-without_lock (is_of_open holder) (lock_by holder at kind Open) held own_open

    pub count-boundary : IsStrictlySortedBy lock_cmp held → (more : ℕ) → length (with_lock (lock_by holder at kind Boundary) held) ≡ length held + more → (length held - older) + more ≡ length (after_read holder at kind Boundary held)
    count-boundary s more m =
        let b : Lock = lock_by holder at kind Boundary in
        let same : filter (is_of_open holder) (with_lock (lock_by holder at kind Boundary) held) ≡ filter (is_of_open holder) held = filter-with_item lock_cmp-total lock_cmp-same (is_of_open holder) (lock_by holder at kind Boundary) held s in
        let left : freed (is_of_open holder) (with_lock (lock_by holder at kind Boundary) held) ≡ with_lock (lock_by holder at kind Boundary) (freed (is_of_open holder) held) = filter-with_item lock_cmp-total lock_cmp-same (λ l. not (is_of_open holder l)) (lock_by holder at kind Boundary) held s in
        let parts : length (filter (is_of_open holder) (with_lock (lock_by holder at kind Boundary) held)) + length (freed (is_of_open holder) (with_lock (lock_by holder at kind Boundary) held)) ≡ length (with_lock (lock_by holder at kind Boundary) held) = length-filter-not (is_of_open holder) (with_lock (lock_by holder at kind Boundary) held) in
        let e1 : length (filter (is_of_open holder) (with_lock (lock_by holder at kind Boundary) held)) ≡ older = ap length same ∙ sym o in
        let e2 : length (freed (is_of_open holder) (with_lock (lock_by holder at kind Boundary) held)) ≡ length (with_lock (lock_by holder at kind Boundary) (freed (is_of_open holder) held)) = ap length left in
        let le : older ≤ length held = older-≤ in
        let n : (length held - older) + more ≡ length (with_lock (lock_by holder at kind Boundary) (freed (is_of_open holder) held)) = omega arith in
        n ∙ ap (λ xs. length (with_lock (lock_by holder at kind Boundary) xs)) (sym without_own)

    pub count-after : IsStrictlySortedBy lock_cmp held → (reach : Reach) (left more : ℕ) → left ≡ length held - older → (is_open reach ≡ true → more ≡ 1) → (is_open reach ≡ false → length (with_lock (lock_by holder at kind reach) held) ≡ length held + more) → left + more ≡ length (after_read holder at kind reach held)
    count-after s Open left more e f g = let one : more ≡ 1 = f refl in rw (e, one) count-open
    count-after s Boundary left more e f g = rw e (count-boundary s more (g refl))

-- ---- there is room for a lock where one more has room, or where it is held
module _ (holder : Holder) (at : RecordId) (kind : LockKind) where
  abbrev now_open : Lock
  now_open = lock_by holder at kind Open

  abbrev now_kept : Lock
  now_kept = lock_by holder at kind Boundary

  at_most_more : (reach : Reach) (held : List Lock) → length (with_lock_by holder at kind reach held) ≤ length held + 1
  at_most_more Open held = length-with_item lock_cmp now_open held
  at_most_more Boundary held =
      let a : length (with_lock now_kept (without_lock now_open held)) ≤ length (without_lock now_open held) + 1 = length-with_item lock_cmp now_kept (without_lock now_open held) in
      let b : length (without_lock now_open held) ≤ length held = length-filter-≤ (λ l. not (is_eq (lock_cmp l now_open))) held in
      omega arith

  pub HasRoom-spare : (reach : Reach) (t : Locks) → 1 ≤ spare t → HasRoom holder at kind reach t
  HasRoom-spare reach t h = omega (arith, at_most_more reach t.held)

  stays : (lock : Lock) (xs : List Lock) → IsStrictlySortedBy lock_cmp xs → Contains xs lock → with_lock lock xs ≡ xs
  stays lock xs s there = with_item-there lock_cmp-total lock xs there.0 s there.1 (λ d. ap (λ y. lock_cmp y lock) (get_or_default xs there.0 d lock there.1 ∙ there.2) ∙ tied_itself lock_cmp-total lock)

  pub HasRoom-held : (t : Locks) → IsTable t → Contains t.held now_open → HasRoom holder at kind Open t
  HasRoom-held t table there = rw (stays now_open t.held table.ordered there) table.fits

  pub HasRoom-turned : (t : Locks) → IsTable t → Contains t.held now_open → HasRoom holder at kind Boundary t
  HasRoom-turned t table there =
      let a : length (with_lock now_kept (without_lock now_open t.held)) ≤ length (without_lock now_open t.held) + 1 = length-with_item lock_cmp now_kept (without_lock now_open t.held) in
      let b : length (without_lock now_open t.held) < length t.held = length-without_lock now_open t.held there in
      omega (arith, table.fits)

  kept_there : (held : List Lock) → Contains held now_kept → Contains (without_lock now_open held) now_kept
  kept_there held there = filter-has (λ l. not (is_eq (lock_cmp l now_open))) now_kept held there (ap (λ r. not (is_eq r)) later)
    where
      own_cmp : (n : ℕ) → nat_cmp n n ≡ Equal
      own_cmp n = grind (arith, nat_tests)

      later : lock_cmp now_kept now_open ≡ Greater
      later = rw (own_cmp holder.job) refl

  pub HasRoom-there : (reach : Reach) (t : Locks) → IsTable t → Contains t.held (lock_by holder at kind reach) → HasRoom holder at kind reach t
  HasRoom-there Open t table there = HasRoom-held t table there
  HasRoom-there Boundary t table there =
      let a : length (without_lock now_open t.held) ≤ length t.held = length-filter-≤ (λ l. not (is_eq (lock_cmp l now_open))) t.held in
      rw (stays now_kept (without_lock now_open t.held) (IsStrictlySortedBy-filter lock_cmp (λ l. not (is_eq (lock_cmp l now_open))) t.held table.ordered) (kept_there t.held there))
      (omega (arith, table.fits))

-- ---- a lock to the boundary takes the place of the same lock to the next read
module _ (holder : Holder) (at : RecordId) (kind : LockKind) (held : List Lock) (s : IsStrictlySortedBy lock_cmp held) where
  abbrev turned : Lock
  turned = lock_by holder at kind Open

  abbrev to_boundary : Lock
  to_boundary = lock_by holder at kind Boundary

  apart : lock_cmp (lock_by holder at kind Boundary) (lock_by holder at kind Open) ≡ Greater
  apart = rw (own_cmp holder.job) refl
    where
      own_cmp : (n : ℕ) → nat_cmp n n ≡ Equal
      own_cmp n = grind (arith, nat_tests)

  without-with : without_lock (lock_by holder at kind Open) (with_lock (lock_by holder at kind Boundary) held) ≡ with_lock (lock_by holder at kind Boundary) (without_lock (lock_by holder at kind Open) held)
  without-with =
      filter-with_item lock_cmp-total lock_cmp-same (λ l. not (is_eq (lock_cmp l turned))) to_boundary held s
      ∙ ap (λ r. cond (not (is_eq r)) (with_lock to_boundary (without_lock turned held)) (without_lock turned held)) apart

  same-turned : filter (λ l. is_eq (lock_cmp l turned)) (with_lock to_boundary held) ≡ filter (λ l. is_eq (lock_cmp l turned)) held
  same-turned =
      filter-with_item lock_cmp-total lock_cmp-same (λ l. is_eq (lock_cmp l turned)) to_boundary held s
      ∙ ap (λ r. cond (is_eq r) (with_lock to_boundary (filter (λ l. is_eq (lock_cmp l turned)) held)) (filter (λ l. is_eq (lock_cmp l turned)) held)) apart

  pub count-turned : (gone more : ℕ) → length (without_lock (lock_by holder at kind Open) held) + gone ≡ length held → length (with_lock (lock_by holder at kind Boundary) held) ≡ length held + more → (length held - gone) + more ≡ length (with_lock_by holder at kind Boundary held)
  count-turned gone more g m =
      let parts : length (filter (λ l. is_eq (lock_cmp l turned)) held) + length (without_lock turned held) ≡ length held = length-filter-not (λ l. is_eq (lock_cmp l turned)) held in
      let now_parts : length (filter (λ l. is_eq (lock_cmp l turned)) (with_lock to_boundary held)) + length (without_lock turned (with_lock to_boundary held)) ≡ length (with_lock to_boundary held) = length-filter-not (λ l. is_eq (lock_cmp l turned)) (with_lock to_boundary held) in
      let one : length (filter (λ l. is_eq (lock_cmp l turned)) (with_lock to_boundary held)) ≡ length (filter (λ l. is_eq (lock_cmp l turned)) held) = ap length same-turned in
      let two : length (without_lock turned (with_lock to_boundary held)) ≡ length (with_lock to_boundary (without_lock turned held)) = ap length without-with in
      omega arith
