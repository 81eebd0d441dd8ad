use Rattle.std.proofs.Common.{◌≡◌, ◌∙◌, ◌∷◌, ap, sym, subst, false, rules, List, ℕ}
use Rattle.key_spec.specs.declared.KeyPart.{KeyPart}
use Rattle.field_laws.specs.FieldTypes.{is_numeric}
use Rattle.file_model.specs.KeyOrder.{key_value}
use Rattle.key_order.specs.KeyBytes.{digits_of, position_bytes, turned}
use Rattle.key_order.specs.KeyFields.{HasField, HasPosition}
use Rattle.key_order.proofs.ValueLemmas.{put-behind, text-position}
use Rattle.key_order.proofs.positions.put_position.Goals as goal

pub returns-else-is_numeric-clause-items : goal.returns-else-is_numeric-clause-items
returns-else-is_numeric-clause-items c =
    let has : HasField c.in-Field.ty c.in-Field.offset c.args.image.now = subst (λ (p : KeyPart). HasPosition p c.args.image.now) c.in-Field.is c.requires.there in
    let text : is_numeric c.in-Field.ty.kind ≡ false = search rules in
    put-behind c.args.into.now.items c.push_reserved-in-Field.new.self.items c.put_text.new.into.items (turned c.in-Field.descend c.bytes_of-field.result.now)
    (position_bytes (digits_of c.args.part.now) (key_value c.args.part.now c.args.image.now)) c.put_text.ensures.items c.push_reserved-in-Field.ensures.items
    (ap (λ (p : KeyPart). position_bytes (digits_of p) (key_value p c.args.image.now)) c.in-Field.is
    ∙ text-position c.in-Field.ty c.in-Field.offset c.in-Field.descend c.in-Field.absval c.args.image.now text has.there
    ∙ ap (λ (w : List ℕ). 1 ∷ turned c.in-Field.descend w) (sym c.bytes_of-field.ensures))
