-- The bytes of the value under JDUPSEQ.
use Rattle.std.proofs.Common.{◌≡◌, ℕ, Bool, List, [], ◌∷◌, sym, ap, subst}
use Rattle.std.proofs.lemmas.List.Elements.{All-from_recursion}
use Rattle.field_types.specs.declared.kinds.FieldType.{FieldType}
use Rattle.key_spec.specs.declared.KeyPart.{KeyPart}
use Rattle.key_spec.specs.declared.KeyPart.TheVariants.{Field}
use Rattle.file_model.specs.KeyOrder.{key_value}
use Rattle.access_path.specs.KeyBytes.{encoded}
use Rattle.access_path.specs.KeyFields.{HasPosition, HasKey}
use Rattle.join_rows.specs.Places.{sequence_bytes}

pub one-has : (p : KeyPart) (image : List ℕ) → HasPosition p image → (parts : List KeyPart) → parts ≡ p ∷ [] → HasKey parts image
one-has p image has parts is = subst (λ (ps : List KeyPart). HasKey ps image) (sym is) (All-from_recursion (λ q. HasPosition q image) (p ∷ []) (has, tt))

pub field-encoded : (p : KeyPart) (t : FieldType) (offset : ℕ) (descend absval : Bool) → p ≡ Field t offset descend absval → (image : List ℕ) (parts : List KeyPart) → parts ≡ p ∷ []
    → encoded parts image ≡ sequence_bytes p (key_value p image)
field-encoded p t offset descend absval is image parts one =
    subst (λ (q : KeyPart). parts ≡ q ∷ [] → encoded parts image ≡ sequence_bytes q (key_value q image)) (sym is) (λ same. ap (λ (ps : List KeyPart). encoded ps image) same) one
