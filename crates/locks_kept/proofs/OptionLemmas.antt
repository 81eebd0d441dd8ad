-- What holds of what may be there.
use Rattle.std.proofs.Common.{◌≡◌, false, Option, Some, None, IsSome, IfSome, is_some, refl, subst}

pub nothing-there : {A : Type 0} (thing : Option A) → is_some thing ≡ false → thing ≡ None
nothing-there None none = refl
nothing-there (Some x) none = absurd cc

pub some-each : {A : Type 0} (P : A → Type 0) (o : Option A) → ((a : A) → P a) → IfSome o P
some-each P None each = tt
some-each P (Some a) each = each a

pub some-both : {A : Type 0} (P Q R : A → Type 0) (o : Option A) → ((a : A) → P a → Q a → R a) → IfSome o P → IfSome o Q → IfSome o R
some-both P Q R None joins one other = tt
some-both P Q R (Some a) joins one other = joins a one other

pub some-holds : {A : Type 0} (P : A → Type 0) (thing : Option A) (x : A) → thing ≡ Some x → IfSome thing P → P x
some-holds P None x is holds = absurd cc
some-holds P (Some y) x is holds = let same : y ≡ x = cc in subst P same holds

pub is-there : {A : Type 0} (o : Option A) → IsSome o → is_some o ≡ false → ⊥
is-there None some none = absurd cc
is-there (Some x) some none = absurd cc
