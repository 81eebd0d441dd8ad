-- Which sequences a block has whose entries are numbered.
use Rattle.std.proofs.Common.{◌≡◌, ◌↔◌, inl, inr, ℕ, ◌+◌, ◌≤◌, ◌<◌, ◌||◌, Bool, true, false, IsTrue, List, [], ◌∷◌, length, refl, sym, ◌∙◌, ap, arith}
use Rattle.std.proofs.lemmas.Bool.{cases_eq, eq-eqb, false≢true, ne_eqb}
use Rattle.entry_codec.specs.declared.entries.Entry.{Entry}
use Rattle.journal_model.specs.Journal.{AreNumbered}
use Rattle.block_cache.specs.Cached.{has_entry}

has_same : (n : ℕ) (e : Entry) (xs : List Entry) → e.sequence ≡ n → has_entry n (e ∷ xs) ≡ true
has_same n e xs is = ap (λ (b : Bool). b || has_entry n xs) (eq-eqb e.sequence n is)

has_other : (n : ℕ) (e : Entry) (xs : List Entry) → (e.sequence ≡ n → ⊥) → has_entry n (e ∷ xs) ≡ has_entry n xs
has_other n e xs other = ap (λ (b : Bool). b || has_entry n xs) (ne_eqb e.sequence n other)

pub has_there : (n f : ℕ) (xs : List Entry) → AreNumbered f xs → f ≤ n → n < f + length xs → has_entry n xs ≡ true
has_there n f [] are from below = absurd (omega (arith, from, below))
has_there n f (e ∷ xs) are from below = elim (cases_eq f n) [
  | inl same ↦ has_same n e xs (are.0 ∙ same)
  | inr other ↦ has_other n e xs (λ is. other (sym are.0 ∙ is)) ∙ has_there n (f + 1) xs are.1 (omega (arith, from, other)) (omega (arith, below))
]

pub has_within : (n f : ℕ) (xs : List Entry) → AreNumbered f xs → IsTrue (has_entry n xs) → (f ≤ n) × (n < f + length xs)
has_within n f [] are has = absurd (false≢true has)
has_within n f (e ∷ xs) are has = elim (cases_eq f n) [
  | inl same ↦ (omega (arith, same), omega (arith, same))
  | inr other ↦
      let later = has_within n (f + 1) xs are.1 (sym (has_other n e xs (λ is. other (sym are.0 ∙ is))) ∙ has) in
      (omega (arith, later.0), omega (arith, later.1))
]

-- a test that tells whether a sequence is within the bounds tells whether the block has it
pub has_is : (b : Bool) (n f : ℕ) (xs : List Entry) → AreNumbered f xs → (IsTrue b ↔ ((f ≤ n) × (n < f + length xs))) → b ≡ has_entry n xs
has_is true n f xs are told = let within = told.0 refl in sym (has_there n f xs are within.0 within.1)
has_is false n f xs are told = none (has_entry n xs) refl
  where
    none : (c : Bool) → has_entry n xs ≡ c → false ≡ has_entry n xs
    none true is = absurd (false≢true (told.1 (has_within n f xs are is)))
    none false is = sym is
