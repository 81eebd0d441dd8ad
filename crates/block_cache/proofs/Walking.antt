-- How a read through a cache goes on: block by block, and at its end.
use Rattle.std.proofs.Common.{◌≡◌, ◌↔◌, ◌⊎◌, inl, inr, ℕ, ◌+◌, ◌-◌, ◌≤◌, ◌<◌, Bool, true, false, IsTrue, List, [], ◌++◌, refl, sym, ◌∙◌, ap, subst, arith, append_assoc}
use Rattle.std.proofs.lemmas.Bool.{false≢true}
use Rattle.std.proofs.lemmas.Bool.Decides.{leb_tells}
use Rattle.std.proofs.lemmas.List.{append-nil}
use Rattle.entry_codec.specs.declared.entries.Entry.{Entry}
use Rattle.journal_book.specs.Book.{BookState}
use Rattle.journal_book.specs.Reads.{between}
use Rattle.block_cache.specs.Cached.{AreStretches, HasSequence, IsKept, IsLongBlock}
use Rattle.block_cache.specs.Walks.{IsFound, IsOf, IsTaken, IsTakenUpTo, StandsOrIsLong, StayOf}
use Rattle.block_cache.proofs.Stretches.{between_none, between_on}

pub not_long : (b : Bool) (most n : ℕ) → b ≡ false → (IsTrue b ↔ (most < n)) → n ≤ most
not_long b most n is told = elim (leb_tells n most) [
  | inl short ↦ short.1
  | inr long ↦ absurd (false≢true (sym is ∙ told.1 long.1))
]

-- a test whether a read goes on that fails
pub stops : (b : Bool) (reached hi end : ℕ) → b ≡ false → (IsTrue b ↔ ((reached < hi) × (reached + 1 < end))) → reached < hi → end ≤ reached + 1
stops b reached hi end is told below = elim (leb_tells end (reached + 1)) [
  | inl past ↦ past.1
  | inr before ↦ absurd (false≢true (sym is ∙ told.1 (below, before.1)))
]

-- a read that hasn't come to its end has come to the entries that wait
pub at_end : (reached hi end : ℕ) → (reached < hi → end ≤ reached + 1) → hi < end → hi ≤ reached
at_end reached hi end ends below = elim (leb_tells hi reached) [
  | inl past ↦ past.1
  | inr before ↦ absurd (omega (arith, ends before.1, before.1, below))
]

-- the next sequence is one of a block that stands in the cache
pub next_there : (old new : List (List Entry)) (book : BookState) (n : ℕ) → n < book.first + book.forced → IsKept old book n → (HasSequence old n → HasSequence new n) → HasSequence new n
next_there old new book n forced (inl past) on = absurd (omega (arith, forced, past))
next_there old new book n forced (inr has) on = on has

module _ (tells : Type 0) (Held Later : List Entry → Type 0) (first : ℕ) (later : (all : List Entry) → Held all → Later all) where
  stands_before : (blocks : List (List Entry)) (n : ℕ) → StandsOrIsLong tells Later first blocks n → StandsOrIsLong tells Held first blocks n
  stands_before blocks n (inl has) = inl has
  stands_before blocks n (inr it) = inr (record { block = it.block; has = it.has; long = it.long; there = λ told all held. it.there told all (later all held) })

  -- a block more
  pub taken_on : (old mid new : List (List Entry)) (lo hi r s : ℕ) (found more after : List Entry) → first ≤ lo → StayOf tells Held first old mid
      → IsTakenUpTo tells Held first old mid lo hi found more r → IsTaken tells Later first mid new (r + 1) hi more after s → IsTakenUpTo tells Held first old new lo hi found after s
  taken_on old mid new lo hi r s found more after from stay before next = record {
    from = omega (arith, before.from, next.from);
    upto = next.upto;
    stands = inr (stands_before new s next.stands);
    taken = λ told all held are.
        next.taken told all (later all held) (stay told all held are) ∙ ap (λ (l : List Entry). l ++ between first (r + 1) s all) (before.taken told all held are)
        ∙ append_assoc found (between first lo r all) (between first (r + 1) s all) ∙ ap (λ (l : List Entry). found ++ l) (between_on first lo r s all from before.from (omega (arith, next.from)));
  }

module _ (tells : Type 0) (Held : List Entry → Type 0) (first : ℕ) where
  -- before the first one
  pub taken_none : (old : List (List Entry)) (lo hi : ℕ) (found : List Entry) → 1 ≤ lo → lo ≤ hi → IsTakenUpTo tells Held first old old lo hi found found (lo - 1)
  taken_none old lo hi found least some = record {
    from = omega (arith, least);
    upto = omega (arith, some);
    stands = inl (omega (arith, least));
    taken = λ told all held are. sym (ap (λ (l : List Entry). found ++ l) (between_none first lo (lo - 1) all (omega (arith, least))) ∙ append-nil found);
  }

  -- a block that stood in the cache
  pub taken_found : (old new : List (List Entry)) (lo hi reached : ℕ) (found after : List Entry) → IsFound old new lo hi found after reached
      → IsTaken tells Held first old new lo hi found after reached
  taken_found old new lo hi reached found after is = record { from = is.from; upto = is.upto; stands = inl is.has; taken = λ told all held are. is.copied first all are }

  -- a block that was read, where none stood in the cache
  pub taken_read : (old mid new : List (List Entry)) (lo hi reached : ℕ) (found more after : List Entry) → ((all : List Entry) → AreStretches first all old → AreStretches first all mid) → more ≡ found
      → IsTaken tells Held first mid new lo hi more after reached → IsTaken tells Held first old new lo hi found after reached
  taken_read old mid new lo hi reached found more after stay same is = record {
    from = is.from;
    upto = is.upto;
    stands = is.stands;
    taken = λ told all held are. is.taken told all held (stay all are) ∙ ap (λ (l : List Entry). l ++ between first lo reached all) same;
  }

  -- the last sequence is kept, or its block is too long
  pub kept_last : (old new : List (List Entry)) (book : BookState) (lo hi reached : ℕ) (found after : List Entry) → lo ≤ hi → IsTakenUpTo tells Held first old new lo hi found after reached
      → (reached < hi → book.first + book.forced ≤ reached + 1) → IsKept new book hi ⊎ IsLongBlock hi (IsOf tells Held first)
  kept_last old new book lo hi reached found after some is ends = elim (leb_tells hi reached) [
    | inl past ↦ at_last (omega (arith, past.1, is.upto)) is.stands
    | inr before ↦ inl (inl (omega (arith, ends before.1, before.1)))
  ]
    where
      at_last : reached ≡ hi → (reached + 1 ≡ lo) ⊎ StandsOrIsLong tells Held first new reached → IsKept new book hi ⊎ IsLongBlock hi (IsOf tells Held first)
      at_last same (inl none) = absurd (omega (arith, same, none, some))
      at_last same (inr (inl has)) = inl (inr (subst (λ (n : ℕ). HasSequence new n) same has))
      at_last same (inr (inr long)) = inr (subst (λ (n : ℕ). IsLongBlock n (IsOf tells Held first)) same long)

-- the forced entries and those that wait are those of the range
pub read_all : (first lo hi reached : ℕ) (all none found whole : List Entry) → first ≤ lo → lo ≤ reached + 1 → reached ≤ hi → none ≡ [] → found ≡ none ++ between first lo reached all
    → whole ≡ found ++ between first (reached + 1) hi all → whole ≡ between first lo hi all
read_all first lo hi reached all none found whole from mid upto empty forced waits =
    waits ∙ ap (λ (l : List Entry). l ++ between first (reached + 1) hi all) (forced ∙ ap (λ (l : List Entry). l ++ between first lo reached all) empty)
    ∙ between_on first lo reached hi all from mid upto
