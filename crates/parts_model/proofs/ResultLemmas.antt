-- What holds of a result that is known.
use Rattle.std.proofs.Common.{◌≡◌, false, Option, Some, None, Result, Ok, Err, IfOk, OnOk, refl}
use Rattle.std.specs.Option.{is_some}

-- what holds where a call succeeds holds where it has succeeded
pub on_ok : {A E P : Type 0} (r : Result A E) (x : A) → r ≡ Ok x → OnOk r P → P
on_ok (Ok y) x is holds = holds
on_ok (Err e) x is holds = absurd cc

-- what isn't there is nothing
pub is_nothing : {A : Type 0} (o : Option A) → is_some o ≡ false → o ≡ None
is_nothing None absent = refl
is_nothing (Some x) absent = absurd cc

-- what follows from what holds of an answer holds of it too
pub if_ok-each : {A E : Type 0} (P Q : A → Type 0) (r : Result A E) → ((x : A) → P x → Q x) → IfOk r P → IfOk r Q
if_ok-each P Q (Ok x) each is = each x is
if_ok-each P Q (Err e) each is = tt

pub on_ok-each : {A E P Q : Type 0} (r : Result A E) → (P → Q) → OnOk r P → OnOk r Q
on_ok-each (Ok x) each is = each is
on_ok-each (Err e) each is = tt
