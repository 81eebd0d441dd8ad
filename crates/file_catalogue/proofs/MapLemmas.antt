-- What a map has that a new name was inserted into.
use Rattle.std.proofs.Common.{◌≡◌, false, Option, Some, None, Result, Ok, Err, OnOk, IsSome, MutBor, refl}
use Rattle.std.specs.Option.{is_some, option_copied_mut}

-- what holds where a call succeeds holds where it has succeeded
pub on_ok : {A E P : Type 0} (r : Result A E) (x : A) → r ≡ Ok x → OnOk r P → P
on_ok (Ok y) x is holds = holds
on_ok (Err e) x is holds = absurd cc

-- what isn't there is nothing
pub is_nothing : {A : Type 0} (o : Option A) → is_some o ≡ false → o ≡ None
is_nothing None absent = refl
is_nothing (Some x) absent = absurd cc

-- what lends something is there
pub lends_some : {A : Type 0} (o : Option (MutBor A)) (x : A) → option_copied_mut o ≡ Some x → IsSome o
lends_some None x is = absurd cc
lends_some (Some r) x is = refl
