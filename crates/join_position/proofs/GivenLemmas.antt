-- The bytes of values that a request gives.
use Rattle.std.proofs.Common.{◌≡◌, true, None, Result, Ok, Err, OnOk, is_ok, refl}
use Rattle.std.specs.Result.{result_err}

pub on_ok : {A E P : Type 0} (r : Result A E) (x : A) → r ≡ Ok x → OnOk r P → P
on_ok (Ok y) x is holds = holds
on_ok (Err e) x is holds = absurd cc

pub is-ok : {A E : Type 0} (r : Result A E) → result_err r ≡ None → is_ok r ≡ true
is-ok (Ok x) none = refl
is-ok (Err e) none = absurd cc
