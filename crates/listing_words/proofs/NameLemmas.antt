-- A name's text and the name that is read from it.
use Rattle.std.proofs.Common.{◌≡◌, ℕ, Bool, true, false, cond, List, Option, Some, None, IsTrue, refl, ap}
use Rattle.std.specs.Prelude.{IsSome, IfSome, ◌↔◌}

pub name-is : (r : Option (List ℕ)) (text : List ℕ) (valid : Bool) → (IsSome r ↔ IsTrue valid) → IfSome r (λ n. n ≡ text) → r ≡ cond valid (Some text) None
name-is None text true valid value = absurd (let some : false ≡ true = valid.1 refl in cc)
name-is None text false valid value = refl
name-is (Some n) text true valid value = ap (λ x. Some x) value
name-is (Some n) text false valid value = absurd (let some : false ≡ true = valid.0 refl in cc)
