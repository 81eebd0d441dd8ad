-- A change leaves no more locks than a WRITE at the same level, which frees none.
use Rattle.std.proofs.Common.{ℕ, suc, ◌+◌, ◌≤◌, Bool, true, false, not, cond, Option, None, Some, List, [], ◌∷◌, length, filter, arith}
use Rattle.std.specs.Ordering.{match_ordering, is_eq}
use Rattle.std.specs.declared.cmp.Ordering.{Ordering}
use Rattle.std.specs.declared.cmp.Ordering.TheVariants.{Less, Equal, Greater}
use Rattle.commit_level.specs.declared.Level.{Level}
use Rattle.commit_level.specs.declared.Level.TheVariants as levels
use Rattle.lock_table.specs.declared.lock.Lock.{Lock}
use Rattle.lock_table.specs.declared.lock.Holder.{Holder}
use Rattle.lock_table.specs.declared.lock.RecordId.{RecordId}
use Rattle.lock_table.specs.declared.lock.Reach.TheVariants.{Open, Boundary}
use Rattle.lock_table.specs.declared.levels.Call.{Call}
use Rattle.lock_table.specs.declared.levels.Call.TheVariants.{InputRead, UpdateRead, Update, Delete, Write, WriteAt, Unlock, Position, Close, Commit, Rollback, EndCommitment, EndJob}
use Rattle.lock_table.specs.Levels.{locks_after}
use Rattle.lock_table.specs.Lock.{is_of_open, is_of_record, lock_by, lock_cmp, update_kind}
use Rattle.lock_table.specs.Table.{with_item}
use Rattle.lawful_states.proofs.LockLemmas.{length-filter}
use Rattle.record_changes.specs.Locks.{IsOfCurrent}

module _ {X : Type 0} (R : X → X → Ordering) (x : X) where
  with_item-most : (xs : List X) → length (with_item R x xs) ≤ length xs + 1
  with_item-most [] = omega arith
  with_item-most (y ∷ ys) =
      let rest = with_item-most ys in
      elim (R x y) as (λ r. length (match_ordering r (x ∷ y ∷ ys) (y ∷ ys) (y ∷ with_item R x ys)) ≤ suc (length ys) + 1) [
        | Less ↦ omega arith
        | Equal ↦ omega arith
        | Greater ↦ omega (arith, rest)
      ]

  -- one item more in front of both lists, or of neither
  both : (keep : Bool) (y : X) (fewer more : List X) → length fewer ≤ length more → length (with_item R x fewer) ≤ length (with_item R x more)
      → length (with_item R x (cond keep (y ∷ fewer) fewer)) ≤ length (with_item R x (cond keep (y ∷ more) more))
  both false y fewer more less put = put
  both true y fewer more less put =
      elim (R x y) as (λ r. length (match_ordering r (x ∷ y ∷ fewer) (y ∷ fewer) (y ∷ with_item R x fewer)) ≤ length (match_ordering r (x ∷ y ∷ more) (y ∷ more) (y ∷ with_item R x more))) [
        | Less ↦ omega (arith, less)
        | Equal ↦ omega (arith, less)
        | Greater ↦ omega (arith, put)
      ]

  -- one item more in front of the second list
  one : (keep : Bool) (y : X) (fewer more : List X) → length (with_item R x fewer) ≤ length (with_item R x more)
      → length fewer ≤ length more
      → length (with_item R x fewer) ≤ length (with_item R x (cond keep (y ∷ more) more))
  one false y fewer more put less = put
  one true y fewer more put less =
      let most = with_item-most fewer in
      elim (R x y) as (λ r. length (with_item R x fewer) ≤ length (match_ordering r (x ∷ y ∷ more) (y ∷ more) (y ∷ with_item R x more))) [
        | Less ↦ omega (arith, most, less)
        | Equal ↦ omega (arith, most, less)
        | Greater ↦ omega (arith, put)
      ]

  module _ (kept left : X → Bool) where
    cell : (keep : Bool) (y : X) (fewer more : List X) → length fewer ≤ length more → length (cond keep (y ∷ fewer) fewer) ≤ length (cond keep (y ∷ more) more)
    cell false y fewer more less = less
    cell true y fewer more less = omega (arith, less)

    cell-more : (keep : Bool) (y : X) (fewer more : List X) → length fewer ≤ length more → length fewer ≤ length (cond keep (y ∷ more) more)
    cell-more false y fewer more less = less
    cell-more true y fewer more less = omega (arith, less)

    length-left : (xs : List X) → length (filter kept (filter left xs)) ≤ length (filter kept xs)
    length-left [] = omega arith
    length-left (y ∷ ys) =
        elim (left y) as (λ b. length (filter kept (cond b (y ∷ filter left ys) (filter left ys))) ≤ length (cond (kept y) (y ∷ filter kept ys) (filter kept ys))) [
          | true ↦ cell (kept y) y (filter kept (filter left ys)) (filter kept ys) (length-left ys)
          | false ↦ cell-more (kept y) y (filter kept (filter left ys)) (filter kept ys) (length-left ys)
        ]

    -- where fewer items are left, no more are there with the one that is put in its place
    with_item-left : (xs : List X) → length (with_item R x (filter kept (filter left xs))) ≤ length (with_item R x (filter kept xs))
    with_item-left [] = omega arith
    with_item-left (y ∷ ys) =
        elim (left y) as (λ b. length (with_item R x (filter kept (cond b (y ∷ filter left ys) (filter left ys)))) ≤ length (with_item R x (cond (kept y) (y ∷ filter kept ys) (filter kept ys)))) [
          | true ↦ both (kept y) y (filter kept (filter left ys)) (filter kept ys) (length-left ys) (with_item-left ys)
          | false ↦ one (kept y) y (filter kept (filter left ys)) (filter kept ys) (with_item-left ys) (length-left ys)
        ]

module _ (holder : Holder) (at : RecordId) (is_committed : ℕ → Bool) (held : List Lock) where
  put-left : length (with_item lock_cmp (lock_by holder at update_kind Boundary) (filter (λ lock. not (is_eq (lock_cmp lock (lock_by holder at update_kind Open)))) (filter (λ lock. not (is_of_record holder.job at lock)) held)))
      ≤ length (with_item lock_cmp (lock_by holder at update_kind Boundary) (filter (λ lock. not (is_eq (lock_cmp lock (lock_by holder at update_kind Open)))) held))
  put-left = with_item-left lock_cmp (lock_by holder at update_kind Boundary) (λ lock. not (is_eq (lock_cmp lock (lock_by holder at update_kind Open)))) (λ lock. not (is_of_record holder.job at lock)) held

  pub changed-fewer : (call : Call) (level : Option Level) → IsOfCurrent call
      → length (locks_after call level holder at is_committed held) ≤ length (locks_after Write level holder at is_committed held)
  changed-fewer Update None is = length-filter (λ lock. not (is_of_open holder lock)) held
  changed-fewer Update (Some levels.Chg) is = omega arith
  changed-fewer Update (Some levels.Cs) is = omega arith
  changed-fewer Update (Some levels.All) is = omega arith
  changed-fewer Delete None is = length-filter (λ lock. not (is_of_record holder.job at lock)) held
  changed-fewer Delete (Some levels.Chg) is = put-left
  changed-fewer Delete (Some levels.Cs) is = put-left
  changed-fewer Delete (Some levels.All) is = put-left
  changed-fewer InputRead level is = absurd is
  changed-fewer UpdateRead level is = absurd is
  changed-fewer Write level is = absurd is
  changed-fewer WriteAt level is = absurd is
  changed-fewer Unlock level is = absurd is
  changed-fewer Position level is = absurd is
  changed-fewer Close level is = absurd is
  changed-fewer Commit level is = absurd is
  changed-fewer Rollback level is = absurd is
  changed-fewer EndCommitment level is = absurd is
  changed-fewer EndJob level is = absurd is
