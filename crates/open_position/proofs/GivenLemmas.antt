-- The bytes of values that a request gives.
use Rattle.std.proofs.Common.{◌≡◌, true, None, Result, Ok, Err, OnOk, is_ok, ℕ, List, refl, ◌∙◌, ap}
use Rattle.std.specs.Prelude.{All}
use Rattle.std.specs.Result.{result_err}
use Rattle.field_types.specs.declared.values.Value.{Value}
use Rattle.key_spec.specs.declared.KeyPart.{KeyPart}
use Rattle.file_model.specs.KeyOrder.{given_key}
use Rattle.access_path.specs.KeyBytes.{encoded_values}
use Rattle.access_path.specs.KeyFields.{ArePositions}
use Rattle.access_path.specs.GivenValues.{IsOfBytes, key_fault}
use Rattle.key_values.specs.KeyValues.{values_in}
use Rattle.open_position.specs.OpenStand.{AreGivenBytes}

pub on_ok : {A E P : Type 0} (r : Result A E) (x : A) → r ≡ Ok x → OnOk r P → P
on_ok (Ok y) x is holds = holds
on_ok (Err e) x is holds = absurd cc

pub is-ok : {A E : Type 0} (r : Result A E) → result_err r ≡ None → is_ok r ≡ true
is-ok (Ok x) none = refl
is-ok (Err e) none = absurd cc

module _ (parts : List KeyPart) (values : List Value) (bytes : List ℕ) (good : key_fault parts values ≡ None) (texts : All IsOfBytes values) (is : bytes ≡ encoded_values parts values) where
  pub given-bytes : AreGivenBytes parts bytes
  given-bytes = record { given = (values, good, texts, is) }

  pub given-values : ((parts : List KeyPart) (values : List Value) → ArePositions parts → key_fault parts values ≡ None → All IsOfBytes values → values_in parts (encoded_values parts values) ≡ given_key parts values)
      → ArePositions parts → values_in parts bytes ≡ given_key parts values
  given-values law allowed = ap (values_in parts) is ∙ law parts values allowed good texts
