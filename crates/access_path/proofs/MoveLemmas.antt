-- A path follows the moves of its entries.
use Rattle.std.proofs.Common.{◌≡◌, ℕ, suc, ◌+◌, ◌<◌, ◌≤◌, Bool, true, false, Option, Some, None, List, [], ◌∷◌, ◌++◌, length, refl, sym, ◌∙◌, ap, subst, arith, append_assoc}
use Rattle.std.specs.Prelude.{◌≢◌, Contains, IfSome}
use Rattle.std.specs.List.{AllByRecursion}
use Rattle.std.specs.declared.cmp.Ordering.TheVariants.{Equal}
use Rattle.std.specs.Ordering.{is_ne}
use Rattle.std.proofs.lemmas.Cmp.{tied_itself}
use Rattle.std.proofs.lemmas.List.Elements.{All-from_recursion, All-contains, filter_passes}
use Rattle.key_order.below.key_pages.specs.declared.entries.Entry.{Entry}
use Rattle.key_order.specs.Order.{entry_cmp, IsInOrder}
use Rattle.key_order.specs.EntryList.{with_entry, without_entry}
use Rattle.key_order.proofs.KeyPagesOrderLemmas.{entry_total, entry_exact, IsInOrder-without_entry}
use Rattle.member_slots.specs.declared.slot.Slot.{Slot}
use Rattle.member_slots.specs.declared.slot.Slot.TheVariants.{Deleted}
use Rattle.key_order.specs.Sorting.{put_in_order, in_order}
use Rattle.key_order.proofs.SortLemmas.{in_order-middle}
use Rattle.key_order.proofs.PathLemmas.{weaker, all-append}
use Rattle.access_path.specs.KeptEntries.{KeyOf, slot_key, entry_with, entries_at, entries_in, entries_from, kept}
use Rattle.access_path.specs.Moves.{Move, opposite, without_key, with_key, taken, moved, FitsIn}
use Rattle.access_path.proofs.OrderedLemmas.{all-in_order, taken-put, parted-put, put-taken, contains-put}
use Rattle.access_path.proofs.EntryLemmas.{Apart, apart-differ, in-low, in-high, from-format, from-high, kept-strict, in-append, from-append}

none-equal : (falling : Bool) (entry : Entry) (entries : List Entry) → AllByRecursion (λ x. entry_cmp falling x entry ≢ Equal) entries → ¬ Contains entries entry
none-equal falling entry entries differ there =
    All-contains (λ x. entry_cmp falling x entry ≢ Equal) entries entry (All-from_recursion (λ x. entry_cmp falling x entry ≢ Equal) entries differ) there
    (tied_itself (entry_total falling) entry)

others-differ : (falling : Bool) (entry : Entry) (entries : List Entry) → (¬ Contains entries entry) → AllByRecursion (λ x. entry_cmp falling x entry ≢ Equal) entries
others-differ falling entry [] absent = tt
others-differ falling entry (x ∷ entries) absent =
    ((λ same. absent (0, omega arith, entry_exact falling x entry same)), others-differ falling entry entries (λ there. absent (suc there.0, (let lt = there.1 in omega arith), there.2)))

gone : (falling : Bool) (entry : Entry) (entries : List Entry) → ¬ Contains (without_entry falling entry entries) entry
gone falling entry entries there =
    let passes : is_ne (entry_cmp falling entry entry) ≡ true =
    All-contains (λ x. is_ne (entry_cmp falling x entry) ≡ true) (without_entry falling entry entries) entry (filter_passes (λ x. is_ne (entry_cmp falling x entry)) entries) there in
    let itself : is_ne (entry_cmp falling entry entry) ≡ false = ap is_ne (tied_itself (entry_total falling) entry) in
    absurd (let e : true ≡ false = sym passes ∙ itself in cc)

module _ (keys : KeyOf) (falling : Bool) (before after : List (List Slot)) (front back : List Slot) where
  -- the entries before the slot's, and those behind it
  pre : List Entry
  pre = entries_from keys 0 before ++ entries_in keys (length before) 1 front

  post : List Entry
  post = entries_in keys (length before) (1 + length front + 1) back ++ entries_from keys (length before + 1) after

  base : List Entry
  base = in_order (entry_cmp falling) (pre ++ post)

  laid : (slot : Slot) → entries_from keys 0 (before ++ (front ++ slot ∷ back) ∷ after) ≡ pre ++ (entries_at (length before) (1 + length front) (slot_key (keys (length before)) slot) ++ post)
  unfolding pre post
  laid slot =
      let own = entries_at (length before) (1 + length front) (slot_key (keys (length before)) slot) in
      let rest = entries_in keys (length before) (1 + length front + 1) back in
      let others = entries_from keys (length before + 1) after in
      let first = entries_from keys 0 before in
      let mine = entries_in keys (length before) 1 front in
      from-append keys 0 before ((front ++ slot ∷ back) ∷ after)
      ∙ ap (λ (n : ℕ). first ++ entries_from keys n ((front ++ slot ∷ back) ∷ after)) (let e : 0 + length before ≡ length before = omega arith in e)
      ∙ ap (λ (t : List Entry). first ++ (t ++ others)) (in-append keys (length before) 1 front (slot ∷ back))
      ∙ ap (λ (t : List Entry). first ++ t) (append_assoc mine (own ++ rest) others ∙ ap (λ (t : List Entry). mine ++ t) (append_assoc own rest others))
      ∙ sym (append_assoc first mine (own ++ (rest ++ others)))

  -- all others are apart from the slot's entry
  apart-pre : (key : List ℕ) → AllByRecursion (λ x. Apart x (entry_with (length before) (1 + length front) key)) pre
  unfolding pre
  apart-pre key =
      let entry = entry_with (length before) (1 + length front) key in
      all-append (λ x. Apart x entry) (entries_from keys 0 before) (entries_in keys (length before) 1 front)
      (weaker (λ (e : Entry). e.format < 0 + length before) (λ x. Apart x entry) (λ x h same _. omega (arith, h, same)) (entries_from keys 0 before) (from-high keys 0 before))
      (weaker (λ (e : Entry). e.rrn < 1 + length front) (λ x. Apart x entry) (λ x h _ same. omega (arith, h, same)) (entries_in keys (length before) 1 front) (in-high keys (length before) 1 front))

  apart-post : (key : List ℕ) → AllByRecursion (λ x. Apart x (entry_with (length before) (1 + length front) key)) post
  unfolding post
  apart-post key =
      let entry = entry_with (length before) (1 + length front) key in
      all-append (λ x. Apart x entry) (entries_in keys (length before) (1 + length front + 1) back) (entries_from keys (length before + 1) after)
      (weaker (λ (e : Entry). 1 + length front + 1 ≤ e.rrn) (λ x. Apart x entry) (λ x h _ same. omega (arith, h, same))
      (entries_in keys (length before) (1 + length front + 1) back) (in-low keys (length before) (1 + length front + 1) back))
      (weaker (λ (e : Entry). length before + 1 ≤ e.format) (λ x. Apart x entry) (λ x h same _. omega (arith, h, same))
      (entries_from keys (length before + 1) after) (from-format keys (length before + 1) after))

  differ : (key : List ℕ) (xs : List Entry) → AllByRecursion (λ x. Apart x (entry_with (length before) (1 + length front) key)) xs
      → AllByRecursion (λ x. entry_cmp falling x (entry_with (length before) (1 + length front) key) ≢ Equal) xs
  differ key xs all =
      weaker (λ x. Apart x (entry_with (length before) (1 + length front) key)) (λ x. entry_cmp falling x (entry_with (length before) (1 + length front) key) ≢ Equal)
      (λ x. apart-differ falling x (entry_with (length before) (1 + length front) key)) xs all

  base-differs : (key : List ℕ) → AllByRecursion (λ x. entry_cmp falling x (entry_with (length before) (1 + length front) key) ≢ Equal) base
  unfolding base
  base-differs key =
      let entry = entry_with (length before) (1 + length front) key in
      all-in_order (entry_cmp falling) (λ x. entry_cmp falling x entry ≢ Equal) (pre ++ post)
      (differ key (pre ++ post) (all-append (λ x. Apart x entry) pre post (apart-pre key) (apart-post key)))

  -- the path with the slot deleted
  base-kept : kept keys falling (before ++ (front ++ Deleted ∷ back) ∷ after) ≡ base
  unfolding base
  base-kept = ap (in_order (entry_cmp falling)) (laid Deleted)

  base-strict : IsInOrder falling base
  base-strict = subst (IsInOrder falling) base-kept (kept-strict keys falling (before ++ (front ++ Deleted ∷ back) ∷ after))

  place : Option (List ℕ) → List Entry
  place None = base
  place (Some key) = put_in_order (entry_cmp falling) (entry_with (length before) (1 + length front) key) base

  -- the path with what stands in the slot
  at-place : (key : Option (List ℕ)) → in_order (entry_cmp falling) (pre ++ (entries_at (length before) (1 + length front) key ++ post)) ≡ place key
  unfolding base place
  at-place None = refl
  at-place (Some key) =
      let entry = entry_with (length before) (1 + length front) key in
      in_order-middle (entry_cmp falling) (entry_total falling) pre entry post
      (All-from_recursion (λ x. entry_cmp falling x entry ≢ Equal) pre (differ key pre (apart-pre key)))

  kept-place : (slot : Slot) → kept keys falling (before ++ (front ++ slot ∷ back) ∷ after) ≡ place (slot_key (keys (length before)) slot)
  kept-place slot = ap (in_order (entry_cmp falling)) (laid slot) ∙ at-place (slot_key (keys (length before)) slot)

  -- an entry is put there, and taken
  put-there : (key : Option (List ℕ)) → with_key falling (length before) (1 + length front) key base ≡ place key
  unfolding place
  put-there None = refl
  put-there (Some key) = parted-put (entry_cmp falling) (entry_total falling) (entry_with (length before) (1 + length front) key) base base-strict (base-differs key)

  taken-there : (key : Option (List ℕ)) → without_key falling (length before) (1 + length front) key (place key) ≡ base
  unfolding place
  taken-there None = refl
  taken-there (Some key) =
      taken-put (entry_cmp falling) (entry_with (length before) (1 + length front) key) base
      (tied_itself (entry_total falling) (entry_with (length before) (1 + length front) key)) (base-differs key)

  abbrev pub move : (old new : Slot) → Move
  move old new = record {
    format = length before;
    rrn = 1 + length front;
    old = slot_key (keys (length before)) old;
    new = slot_key (keys (length before)) new;
  }

  pub path-moved : (old new : Slot) → moved falling (move old new) (kept keys falling (before ++ (front ++ old ∷ back) ∷ after)) ≡ kept keys falling (before ++ (front ++ new ∷ back) ∷ after)
  path-moved old new =
      ap (moved falling (move old new)) (kept-place old)
      ∙ ap (with_key falling (length before) (1 + length front) (slot_key (keys (length before)) new)) (taken-there (slot_key (keys (length before)) old))
      ∙ put-there (slot_key (keys (length before)) new)
      ∙ sym (kept-place new)

  -- the old entry is there, and the new one isn't beside it
  there-place : (key : Option (List ℕ)) → IfSome key (λ k. Contains (place key) (entry_with (length before) (1 + length front) k))
  unfolding place
  there-place None = tt
  there-place (Some key) = contains-put (entry_cmp falling) (entry_with (length before) (1 + length front) key) base

  absent-base : (key : Option (List ℕ)) → IfSome key (λ k. ¬ Contains base (entry_with (length before) (1 + length front) k))
  absent-base None = tt
  absent-base (Some key) = none-equal falling (entry_with (length before) (1 + length front) key) base (base-differs key)

  pub path-fits : (old new : Slot) → FitsIn falling (move old new) (kept keys falling (before ++ (front ++ old ∷ back) ∷ after))
  path-fits old new =
      let was = slot_key (keys (length before)) old in
      let is = slot_key (keys (length before)) new in
      record {
        there = subst (λ (w : List Entry). IfSome was (λ k. Contains w (entry_with (length before) (1 + length front) k))) (sym (kept-place old)) (there-place was);
        absent = subst (λ (w : List Entry). IfSome is (λ k. ¬ Contains w (entry_with (length before) (1 + length front) k)))
            (sym (ap (without_key falling (length before) (1 + length front) was) (kept-place old) ∙ taken-there was)) (absent-base is);
      }

-- ---- a move and its opposite

with-put : (falling : Bool) (entry : Entry) (entries : List Entry) → IsInOrder falling entries → (¬ Contains entries entry)
    → with_entry falling entry entries ≡ put_in_order (entry_cmp falling) entry entries
with-put falling entry entries sorted absent =
    parted-put (entry_cmp falling) (entry_total falling) entry entries sorted (others-differ falling entry entries absent)

pub without-with : (falling : Bool) (format rrn : ℕ) (key : Option (List ℕ)) (entries : List Entry) → IsInOrder falling entries → IfSome key (λ k. ¬ Contains entries (entry_with format rrn k))
    → without_key falling format rrn key (with_key falling format rrn key entries) ≡ entries
without-with falling format rrn None entries sorted absent = refl
without-with falling format rrn (Some key) entries sorted absent =
    let entry = entry_with format rrn key in
    ap (without_entry falling entry) (with-put falling entry entries sorted absent)
    ∙ taken-put (entry_cmp falling) entry entries (tied_itself (entry_total falling) entry) (others-differ falling entry entries absent)

pub with-without : (falling : Bool) (format rrn : ℕ) (key : Option (List ℕ)) (entries : List Entry) → IsInOrder falling entries → IfSome key (λ k. Contains entries (entry_with format rrn k))
    → with_key falling format rrn key (without_key falling format rrn key entries) ≡ entries
with-without falling format rrn None entries sorted there = refl
with-without falling format rrn (Some key) entries sorted there =
    let entry = entry_with format rrn key in
    with-put falling entry (without_entry falling entry entries) (IsInOrder-without_entry falling entry entries sorted) (gone falling entry entries)
    ∙ put-taken (entry_cmp falling) (entry_total falling) (entry_exact falling) entry entries sorted there

sorted-without : (falling : Bool) (format rrn : ℕ) (key : Option (List ℕ)) (entries : List Entry) → IsInOrder falling entries → IsInOrder falling (without_key falling format rrn key entries)
sorted-without falling format rrn None entries sorted = sorted
sorted-without falling format rrn (Some key) entries sorted = IsInOrder-without_entry falling (entry_with format rrn key) entries sorted

there-with : (falling : Bool) (format rrn : ℕ) (key : Option (List ℕ)) (entries : List Entry) → IsInOrder falling entries → IfSome key (λ k. ¬ Contains entries (entry_with format rrn k))
    → IfSome key (λ k. Contains (with_key falling format rrn key entries) (entry_with format rrn k))
there-with falling format rrn None entries sorted absent = tt
there-with falling format rrn (Some key) entries sorted absent =
    let entry = entry_with format rrn key in
    subst (λ (w : List Entry). Contains w entry) (sym (with-put falling entry entries sorted absent)) (contains-put (entry_cmp falling) entry entries)

absent-without : (falling : Bool) (format rrn : ℕ) (key : Option (List ℕ)) (entries : List Entry) → IfSome key (λ k. ¬ Contains (without_key falling format rrn key entries) (entry_with format rrn k))
absent-without falling format rrn None entries = tt
absent-without falling format rrn (Some key) entries = gone falling (entry_with format rrn key) entries

pub move-undone : (falling : Bool) (m : Move) (entries : List Entry) → IsInOrder falling entries → FitsIn falling m entries → moved falling (opposite m) (moved falling m entries) ≡ entries
move-undone falling m entries sorted fits =
    ap (with_key falling m.format m.rrn m.old) (without-with falling m.format m.rrn m.new (taken falling m entries) (sorted-without falling m.format m.rrn m.old entries sorted) fits.absent)
    ∙ with-without falling m.format m.rrn m.old entries sorted fits.there

pub opposite-fits : (falling : Bool) (m : Move) (entries : List Entry) → IsInOrder falling entries → FitsIn falling m entries → FitsIn falling (opposite m) (moved falling m entries)
opposite-fits falling m entries sorted fits =
    let left = sorted-without falling m.format m.rrn m.old entries sorted in
    record {
      there = there-with falling m.format m.rrn m.new (taken falling m entries) left fits.absent;
      absent = subst (λ (w : List Entry). IfSome m.old (λ k. ¬ Contains w (entry_with m.format m.rrn k)))
          (sym (without-with falling m.format m.rrn m.new (taken falling m entries) left fits.absent)) (absent-without falling m.format m.rrn m.old entries);
    }
