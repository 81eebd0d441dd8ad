-- The list of a table stays a table's, with one lock more and with fewer.
use Rattle.std.proofs.Common.{◌≡◌, ℕ, ◌+◌, ◌<◌, ◌≤◌, Bool, not, List, [], length, sym, ap, ◌∙◌, subst, arith}
use Rattle.std.specs.List.{filter, All, Contains}
use Rattle.std.specs.List.Sorted.{IsStrictlySortedBy}
use Rattle.std.specs.Ordering.{is_eq}
use Rattle.std.proofs.lemmas.List.Elements.{All-nil}
use Rattle.std.proofs.lemmas.List.Kept.{IsStrictlySortedBy-filter}
use Rattle.lock_table.specs.declared.lock.Lock.{Lock}
use Rattle.lock_table.specs.Lock.{Clashes, bound, lock_cmp}
use Rattle.lock_table.specs.Table.{IsTable, Locks, holding, with_lock, without_lock}
use Rattle.lock_table.specs.Index.{AreMarks, IsMarked, IsStored, marks_of, record_first}
use Rattle.lock_table.proofs.ByRecord.{length-marks, marks-with, marks-without}
use Rattle.lock_table.proofs.InOrder.{IsStrictlySortedBy-with_item}
use Rattle.lock_table.proofs.Kept.{length-with_item}
use Rattle.lock_table.proofs.Locks.{lock_cmp-total}
use Rattle.lock_table.proofs.Releases.{alone-without_lock, length-without_lock, IsTable-filter, IsTable-with_lock}

module _ (locks now : List Lock) (room nodes free now_free capacity now_capacity : ℕ) (c : now_capacity ≡ capacity) (k : length now + now_free ≡ length locks + free) (h : IsStored locks room nodes free capacity) where
  pub IsStored-filter : (p : Lock → Bool) → now ≡ filter p locks → IsStored now room nodes now_free now_capacity
  IsStored-filter p is = record {
    table = subst (λ xs. IsTable (record { held = xs; room = room })) (sym is) (IsTable-filter p locks room h.table);
    counted = omega (arith, h.counted, k);
    enough = h.enough;
    within = h.within;
    stored = omega (arith, h.stored, c);
  }

  pub IsStored-with_lock : (lock : Lock) → length (with_lock lock locks) ≤ room → All (λ other. Clashes lock other → ⊥) locks → now ≡ with_lock lock locks → IsStored now room nodes now_free now_capacity
  IsStored-with_lock lock fits alone is = record {
    table = subst (λ xs. IsTable (record { held = xs; room = room })) (sym is) (IsTable-with_lock lock locks room h.table fits alone);
    counted = omega (arith, h.counted, k);
    enough = h.enough;
    within = h.within;
    stored = omega (arith, h.stored, c);
  }

pub IsStored-empty : (locks : List Lock) (free capacity : ℕ) → locks ≡ [] → free ≡ 0 → IsStored locks 0 0 free capacity
unfolding IsStrictlySortedBy
IsStored-empty locks free capacity none no_free =
    subst (λ xs. IsStored xs 0 0 free capacity) (sym none)
    (record {
      table = record { ordered = tt; compatible = All-nil _; fits = omega arith; within = omega arith };
      counted = omega (arith, no_free);
      enough = omega arith;
      within = omega arith;
      stored = omega arith;
    })

-- a free node for each lock that there is room for
pub put-room : (locks : List Lock) (room nodes free capacity : ℕ) → IsStored locks room nodes free capacity → (lock : Lock) → length (with_lock lock locks) ≤ room → length (with_lock lock locks) ≤ length locks + free
put-room locks room nodes free capacity h lock fits = omega (arith, h.enough, h.counted)

-- ---- a lock that is held is taken out, and put in again with the other reach
module _ (held : List Lock) (room : ℕ) (table : IsTable (record { held = held; room = room })) (lock : Lock) (there : Contains held lock) where
  pub kept-fits : length (with_lock (bound lock) (without_lock lock held)) ≤ room
  kept-fits =
      let fewer : length (without_lock lock held) < length held = length-without_lock lock held there in
      let longer : length (with_lock (bound lock) (without_lock lock held)) ≤ length (without_lock lock held) + 1 = length-with_item lock_cmp (bound lock) (without_lock lock held) in
      omega (arith, table.fits)

  pub kept-alone : All (λ other. Clashes (bound lock) other → ⊥) (without_lock lock held)
  kept-alone = alone-without_lock lock held room table there

-- ---- the same with the locks by record
module _ (locks now : List Lock) (room nodes free now_free capacity now_capacity : ℕ) (marks now_marks : Locks) (c : now_capacity ≡ capacity) (k : length now + now_free ≡ length locks + free) (h : IsMarked locks room nodes free capacity marks) (lock : Lock) where
  pub IsMarked-without_lock : now ≡ without_lock lock locks → now_marks ≡ holding (without_lock (record_first lock) marks.held) marks → IsMarked now room nodes now_free now_capacity now_marks
  IsMarked-without_lock is gone = record {
    stored = IsStored-filter locks now room nodes free now_free capacity now_capacity c k h.stored (λ l. not (is_eq (lock_cmp l lock))) is;
    same = ap (λ (t : Locks). t.held) gone ∙ ap (without_lock (record_first lock)) h.same ∙ sym (marks-without lock locks) ∙ ap marks_of (sym is);
    ready = rw gone h.ready;
  }

  pub IsMarked-with_lock : length (with_lock lock locks) ≤ room → All (λ other. Clashes lock other → ⊥) locks → now ≡ with_lock lock locks → now_marks ≡ holding (with_lock (record_first lock) marks.held) marks → IsMarked now room nodes now_free now_capacity now_marks
  IsMarked-with_lock fits alone is put = record {
    stored = IsStored-with_lock locks now room nodes free now_free capacity now_capacity c k h.stored lock fits alone is;
    same = ap (λ (t : Locks). t.held) put ∙ ap (with_lock (record_first lock)) h.same ∙ sym (marks-with lock locks) ∙ ap marks_of (sym is);
    ready = rw put h.ready;
  }

-- there is room for the mark of a lock that there is room for
pub mark-room : (locks : List Lock) (room nodes free capacity : ℕ) (marks : Locks) → IsMarked locks room nodes free capacity marks → (lock : Lock) → length (with_lock lock locks) ≤ room → length (with_lock (record_first lock) marks.held) ≤ marks.room
mark-room locks room nodes free capacity marks h lock fits =
    let same : with_lock (record_first lock) marks.held ≡ marks_of (with_lock lock locks) = ap (with_lock (record_first lock)) h.same ∙ sym (marks-with lock locks) in
    let fewer : length (marks_of (with_lock lock locks)) ≤ length (with_lock lock locks) = length-marks (with_lock lock locks) in
    omega (arith, ap length same, h.ready)

pub IsMarked-empty : (locks : List Lock) (free capacity : ℕ) (marks : Locks) → locks ≡ [] → free ≡ 0 → marks ≡ record { held = []; room = 0 } → IsMarked locks 0 0 free capacity marks
IsMarked-empty locks free capacity marks none no_free is = record {
  stored = IsStored-empty locks free capacity none no_free;
  same = ap (λ (t : Locks). t.held) is ∙ ap marks_of (sym none);
  ready = omega arith;
}

-- ---- the marks themselves
module _ (locks now : List Lock) (nodes free now_free capacity now_capacity : ℕ) (c : now_capacity ≡ capacity) (k : length now + now_free ≡ length locks + free) (h : AreMarks locks nodes free capacity) (mark : Lock) where
  pub AreMarks-with_lock : now ≡ with_lock mark locks → AreMarks now nodes now_free now_capacity
  AreMarks-with_lock is = record {
    ordered = subst (IsStrictlySortedBy lock_cmp) (sym is) (IsStrictlySortedBy-with_item lock_cmp-total mark locks h.ordered);
    counted = omega (arith, h.counted, k);
    within = h.within;
    stored = omega (arith, h.stored, c);
  }

  pub AreMarks-without_lock : now ≡ without_lock mark locks → AreMarks now nodes now_free now_capacity
  AreMarks-without_lock is = record {
    ordered = subst (IsStrictlySortedBy lock_cmp) (sym is) (IsStrictlySortedBy-filter lock_cmp (λ l. not (is_eq (lock_cmp l mark))) locks h.ordered);
    counted = omega (arith, h.counted, k);
    within = h.within;
    stored = omega (arith, h.stored, c);
  }

pub AreMarks-empty : (locks : List Lock) (free capacity : ℕ) → locks ≡ [] → free ≡ 0 → AreMarks locks 0 free capacity
unfolding IsStrictlySortedBy
AreMarks-empty locks free capacity none no_free =
    subst (λ xs. AreMarks xs 0 free capacity) (sym none)
    (record { ordered = tt; counted = omega (arith, no_free); within = omega arith; stored = omega arith })

-- a free node for each mark that there is room for
pub put-mark_room : (locks : List Lock) (nodes free capacity : ℕ) → AreMarks locks nodes free capacity → (mark : Lock) → length (with_lock mark locks) ≤ nodes → length (with_lock mark locks) ≤ length locks + free
put-mark_room locks nodes free capacity h mark fits = omega (arith, h.counted)
