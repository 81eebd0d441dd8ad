-- What is there.
use Rattle.std.proofs.Common.{◌≡◌, true, is_some, Option, Some, None, refl}

pub some-of : {A : Type 0} (o : Option A) → is_some o ≡ true → (a : A) × (o ≡ Some a)
some-of None there = absurd cc
some-of (Some a) there = (a, refl)
