-- The first key that begins with some bytes is the first that isn't less, where that begins with them.
use Rattle.std.proofs.Common.{◌≡◌, ℕ, Bool, true, false, Some, None, List, [], ◌∷◌, Bor, refl, ap, sym, ◌∙◌}
use Rattle.std.specs.List.{AllByRecursion}
use Rattle.std.specs.List.Sorted.{IsStrictlySortedBy}
use Rattle.std.specs.declared.cmp.Ordering.{Ordering}
use Rattle.std.specs.declared.cmp.Ordering.TheVariants.{Less, Equal, Greater}
use Rattle.std.specs.Ordering.{ordering_then, is_lt, is_gt, is_eq}
use Rattle.std.proofs.lemmas.Bool.{cond-true, cond-false}
use Rattle.key_pages.specs.declared.entries.Entry.{Entry}
use Rattle.key_pages.specs.declared.positions.Position.TheVariants as pages
use Rattle.key_pages.specs.Order.{entry_cmp, IsInOrder}
use Rattle.key_pages.specs.Position.{next_entry, is_past}
use Rattle.key_pages.proofs.SideLemmas.{passed_before}
use Rattle.file_cursor.specs.CursorPosition.{Before, ByKey}
use Rattle.file_cursor.specs.Finding.{compare_part, is_after, next_from, begins_with, where_equal, chain_key}
use Rattle.file_cursor.proofs.SideLemmas.{side-before, side-past}
use Rattle.file_cursor.proofs.ListLemmas.{find-same}

module _ (falling : Bool) (key : Bor (List ℕ)) where
  -- behind a greater key no key begins with the bytes
  later : (a b : Entry) → entry_cmp falling a b ≡ Less → compare_part key.now a.key ≡ Greater → begins_with key.now b ≡ false
  later a b less greater = by (compare_part key.now b.key) refl
    where
      above : (o : Ordering) → compare_part key.now b.key ≡ o → is_lt (ordering_then o Less) ≡ true → ⊥
      above o is passed =
          let low : is_lt (ordering_then (compare_part key.now a.key) Less) ≡ true =
          ap is_lt (sym (side-past key.now a.key))
          ∙ passed_before false falling (pages.Past key) a b less (ap is_lt (side-past key.now b.key ∙ ap (λ w. ordering_then w Less) is) ∙ passed) in
          let none : false ≡ true = ap (λ w. is_lt (ordering_then w Less)) (sym greater) ∙ low in
          cc

      by : (o : Ordering) → compare_part key.now b.key ≡ o → begins_with key.now b ≡ false
      by Less is = absurd (above Less is refl)
      by Equal is = absurd (above Equal is refl)
      by Greater is = ap is_eq is

  none-later : (a : Entry) (entries : List Entry) → AllByRecursion (λ b. entry_cmp falling a b ≡ Less) entries → compare_part key.now a.key ≡ Greater → chain_key key.now entries ≡ None
  none-later a [] less greater = refl
  none-later a (b ∷ entries) less greater =
      cond-false (begins_with key.now b) (Some b) (chain_key key.now entries) (later a b less.0 greater)
      ∙ none-later a entries less.1 greater

  chain-next : (entries : List Entry) → IsInOrder falling entries → where_equal key.now (next_from falling entries (Before (ByKey key.now))) ≡ chain_key key.now entries
  unfolding IsStrictlySortedBy
  chain-next [] sorted = refl
  chain-next (a ∷ entries) sorted = by (compare_part key.now a.key) refl (chain-next entries sorted.1) (none-later a entries sorted.0)
    where
      by : (o : Ordering) → compare_part key.now a.key ≡ o → where_equal key.now (next_from falling entries (Before (ByKey key.now))) ≡ chain_key key.now entries
          → (compare_part key.now a.key ≡ Greater → chain_key key.now entries ≡ None)
          → where_equal key.now (next_from falling (a ∷ entries) (Before (ByKey key.now))) ≡ chain_key key.now (a ∷ entries)
      by Less is rest none =
          ap (where_equal key.now)
          (cond-false (is_after falling (Before (ByKey key.now)) a) (Some a) (next_from falling entries (Before (ByKey key.now)))
          (ap (λ o. is_gt (ordering_then o Greater)) is))
          ∙ rest
          ∙ sym (cond-false (begins_with key.now a) (Some a) (chain_key key.now entries) (ap is_eq is))
      by Equal is rest none =
          ap (where_equal key.now)
          (cond-true (is_after falling (Before (ByKey key.now)) a) (Some a) (next_from falling entries (Before (ByKey key.now)))
          (ap (λ o. is_gt (ordering_then o Greater)) is))
          ∙ cond-true (begins_with key.now a) (Some a) None (ap is_eq is)
          ∙ sym (cond-true (begins_with key.now a) (Some a) (chain_key key.now entries) (ap is_eq is))
      by Greater is rest none =
          ap (where_equal key.now)
          (cond-true (is_after falling (Before (ByKey key.now)) a) (Some a) (next_from falling entries (Before (ByKey key.now)))
          (ap (λ o. is_gt (ordering_then o Greater)) is))
          ∙ cond-false (begins_with key.now a) (Some a) None (ap is_eq is)
          ∙ sym (cond-false (begins_with key.now a) (Some a) (chain_key key.now entries) (ap is_eq is) ∙ none is)

  pub chain-same : (entries : List Entry) → IsInOrder falling entries → where_equal key.now (next_entry falling (pages.Before key) entries) ≡ chain_key key.now entries
  chain-same entries sorted =
      ap (where_equal key.now) (find-same (is_past falling (pages.Before key)) (is_after falling (Before (ByKey key.now))) (λ entry. ap is_gt (side-before key.now entry.key)) entries)
      ∙ chain-next entries sorted
