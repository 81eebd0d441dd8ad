-- What tests of numbers and of more than one thing tell.
use Rattle.std.proofs.Common.{◌≡◌, ◌≢◌, ℕ, ◌==◌, ◌&&◌, ◌||◌, not, Bool, true, false, refl, arith}
use Rattle.std.proofs.lemmas.Bool.Decides.{nat_tests}

pub not_true : (b : Bool) → not b ≡ true → b ≡ false
not_true true h = absurd cc
not_true false h = refl

pub or_true : (a b : Bool) → b ≡ true → (a || b) ≡ true
or_true true b h = refl
or_true false b h = h

pub and_false : (a : Bool) → (a && false) ≡ false
and_false true = refl
and_false false = refl

pub and-parts : (a b : Bool) → (a && b) ≡ true → (a ≡ true) × (b ≡ true)
and-parts true b h = (refl, h)
and-parts false b h = absurd cc

pub and-all : (a b c : Bool) → a ≡ true → b ≡ true → c ≡ true → (a && (b && c)) ≡ true
and-all true true true p q r = refl
and-all true true false p q r = absurd cc
and-all true false c p q r = absurd cc
and-all false b c p q r = absurd cc

pub number-is : (a b : ℕ) → (a == b) ≡ true → a ≡ b
number-is a b e = grind (arith, nat_tests, e)

pub differ-false : (a b : ℕ) → a ≢ b → (a == b) ≡ false
differ-false a b differ = grind (arith, nat_tests, differ)

pub number-same : (a b : ℕ) → a ≡ b → (a == b) ≡ true
number-same a b e = grind (arith, nat_tests, e)
