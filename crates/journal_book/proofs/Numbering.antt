-- Sequences that rise by one: parts of such lists, and lists that are put together.
use Rattle.std.proofs.Common.{◌≡◌, ℕ, ◌+◌, ◌≤◌, List, [], ◌∷◌, ◌++◌, length, drop, suc, zero, subst, arith}
use Rattle.entry_codec.specs.declared.entries.Entry.{Entry}
use Rattle.journal_model.specs.Journal.{AreNumbered}

pub number_at : (n : ℕ) (xs : List Entry) (e : Entry) (ys : List Entry) → AreNumbered n (xs ++ e ∷ ys) → e.sequence ≡ n + length xs
number_at n [] e ys are = omega (arith, are.0)
number_at n (x ∷ xs) e ys are = omega (arith, number_at (n + 1) xs e ys are.1)

pub numbered-append : (n m : ℕ) (xs ys : List Entry) → m ≡ n + length xs → AreNumbered n xs → AreNumbered m ys → AreNumbered n (xs ++ ys)
numbered-append n m [] ys is are more = subst (λ (k : ℕ). AreNumbered k ys) (omega (arith, is)) more
numbered-append n m (x ∷ xs) ys is are more = (are.0, numbered-append (n + 1) m xs ys (omega (arith, is)) are.1 more)

pub numbered_front : (n : ℕ) (xs ys : List Entry) → AreNumbered n (xs ++ ys) → AreNumbered n xs
numbered_front n [] ys are = tt
numbered_front n (x ∷ xs) ys are = (are.0, numbered_front (n + 1) xs ys are.1)

pub numbered_back : (n m : ℕ) (xs ys : List Entry) → m ≡ n + length xs → AreNumbered n (xs ++ ys) → AreNumbered m ys
numbered_back n m [] ys is are = subst (λ (k : ℕ). AreNumbered k ys) (omega (arith, is)) are
numbered_back n m (x ∷ xs) ys is are = numbered_back (n + 1) m xs ys (omega (arith, is)) are.1

pub numbered-drop : (count n : ℕ) (xs : List Entry) → count ≤ length xs → AreNumbered n xs → AreNumbered (n + count) (drop count xs)
numbered-drop zero n xs within are = subst (λ (k : ℕ). AreNumbered k xs) (omega arith) are
numbered-drop (suc count) n [] within are = absurd (omega (arith, within))
numbered-drop (suc count) n (x ∷ xs) within are = subst (λ (k : ℕ). AreNumbered k (drop count xs)) (omega arith) (numbered-drop count (n + 1) xs (omega (arith, within)) are.1)
