-- What is kept in bytes is read back as the values for which it stands.
use Rattle.std.proofs.Common.{◌≡◌, ℕ, ◌<◌, None, List, [], ◌∷◌, refl, sym, ◌∙◌, ap}
use Rattle.std.specs.Prelude.{All}
use Rattle.std.proofs.lemmas.List.Elements.{recursion_from_All}
use Rattle.field_types.specs.declared.values.Value.{Value}
use Rattle.key_spec.specs.declared.KeyPart.{KeyPart}
use Rattle.key_spec.specs.declared.KeyPart.TheVariants.{Field, Absent}
use Rattle.file_model.specs.KeyOrder.{key_of, key_value, given_key}
use Rattle.access_path.specs.KeyBytes.{key_bytes, encoded, encoded_values}
use Rattle.access_path.specs.KeyFields.{AreBytes}
use Rattle.access_path.specs.GivenValues.{IsOfBytes, key_fault}
use Rattle.access_path.proofs.KeyLemmas.{image-fits, given-fits, none-at-fault}
use Rattle.open_position.specs.KeyValues.{values_in}
use Rattle.open_position.proofs.AmongLemmas.{among-itself}
use Rattle.open_position.proofs.ReadLemmas.{values-read, all-of-bytes}
use Rattle.join_rows.specs.PositionBytes.{AreGiven}
use Rattle.join_rows.specs.Places.{sequence_bytes}
use Rattle.open_position.specs.OpenStand.{AreGivenBytes}
use Rattle.join_position.specs.Kept.{first_value, sequence_in}

pub image-back : (parts : List KeyPart) (image : List ℕ) → AreBytes image → values_in parts (encoded parts image) ≡ key_of parts image
image-back parts image bytes = values-read parts parts (key_of parts image) (among-itself parts) (image-fits parts image (recursion_from_All (λ b. b < 256) image bytes))

pub given-back : (parts : List KeyPart) (values : List Value) → key_fault parts values ≡ None → All IsOfBytes values → values_in parts (encoded_values parts values) ≡ given_key parts values
given-back parts values good bytes =
    values-read parts parts (given_key parts values) (among-itself parts)
    (given-fits 1 parts values (none-at-fault parts values good) (all-of-bytes values (recursion_from_All IsOfBytes values bytes)))

pub sequence-back : (part : KeyPart) (image : List ℕ) → AreBytes image → sequence_in part (sequence_bytes part (key_value part image)) ≡ key_value part image
sequence-back Absent image bytes = refl
sequence-back (Field t offset descend absval) image bytes = ap first_value (image-back (Field t offset descend absval ∷ []) image bytes)

-- the bytes of given values are those of the values that are read back
pub given-known : (parts : List KeyPart) (key : List ℕ) → AreGivenBytes parts key → (key ≡ key_bytes parts (values_in parts key)) × AreGiven parts (values_in parts key)
given-known parts key given =
    let values : values_in parts key ≡ given_key parts given.given.0 =
    ap (values_in parts) given.given.3 ∙ given-back parts given.given.0 given.given.1 given.given.2 in
    (given.given.3 ∙ ap (key_bytes parts) (sym values), record { given = (given.given.0, given.given.1, given.given.2, values) })
