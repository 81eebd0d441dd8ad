use Rattle.std.proofs.Common.{◌≡◌, ◌∙◌, ◌∷◌, None, ap, sym, subst, rules, arith, ◌+◌, List, ℕ}
use Rattle.key_spec.specs.declared.KeyPart.{KeyPart}
use Rattle.key_spec.specs.declared.KeyPart.TheVariants.{Field}
use Rattle.field_types.specs.declared.values.Value.{Value}
use Rattle.field_types.specs.declared.values.Value.TheVariants.{Chars, Number}
use Rattle.field_laws.specs.FieldTypes.{IsFieldType, width, packed_width}
use Rattle.field_laws.specs.FieldBytes.{fault_of, filled}
use Rattle.file_model.specs.KeyOrder.{given_value}
use Rattle.key_order.specs.KeyBytes.{digits_of, position_bytes, turned}
use Rattle.key_order.specs.KeyFields.{IsPosition, position_width, value_width}
use Rattle.key_order.proofs.FitLemmas.{short-text}
use Rattle.key_order.proofs.ValueLemmas.{few-digits, given-numeric, width-numeric, width-text, put-behind, text-given}
use Rattle.key_order.proofs.positions.put_given.Goals as goal

pub number_given-requires-clause-numeric : goal.number_given-requires-clause-numeric
number_given-requires-clause-numeric c =
    let fits : fault_of c.in-Field.ty (Number c.in-Number.field-0) ≡ None = search rules in
    given-numeric c.in-Field.ty c.in-Number.field-0 fits

pub put_number-requires-clause-digits : goal.put_number-requires-clause-digits
put_number-requires-clause-digits c =
    let fits : fault_of c.in-Field.ty (Number c.in-Number.field-0) ≡ None = search rules in
    let allowed : IsFieldType c.in-Field.ty = subst IsPosition c.in-Field.is c.requires.allowed in
    few-digits c.in-Field.ty allowed (given-numeric c.in-Field.ty c.in-Number.field-0 fits)

pub put_number-requires-clause-room : goal.put_number-requires-clause-room
put_number-requires-clause-room c =
    let fits : fault_of c.in-Field.ty (Number c.in-Number.field-0) ≡ None = search rules in
    let wide : value_width c.in-Field.ty ≡ packed_width c.in-Field.ty.length = width-numeric c.in-Field.ty (given-numeric c.in-Field.ty c.in-Number.field-0 fits) in
    let whole : position_width c.args.part.now ≡ 1 + value_width c.in-Field.ty = ap position_width c.in-Field.is in
    omega arith

pub returns-in-Number-clause-len : goal.returns-in-Number-clause-len
returns-in-Number-clause-len c =
    let fits : fault_of c.in-Field.ty (Number c.in-Number.field-0) ≡ None = search rules in
    let wide : value_width c.in-Field.ty ≡ packed_width c.in-Field.ty.length = width-numeric c.in-Field.ty (given-numeric c.in-Field.ty c.in-Number.field-0 fits) in
    let whole : position_width c.args.part.now ≡ 1 + value_width c.in-Field.ty = ap position_width c.in-Field.is in
    omega arith

pub put_filled-requires-clause-short : goal.put_filled-requires-clause-short
put_filled-requires-clause-short c =
    let fits : fault_of c.in-Field.ty (Chars c.in-Chars.text) ≡ None = search rules in
    rw c.as_bytes.ensures (short-text c.in-Field.ty c.in-Chars.text fits).1

pub put_filled-requires-clause-room : goal.put_filled-requires-clause-room
put_filled-requires-clause-room c =
    let fits : fault_of c.in-Field.ty (Chars c.in-Chars.text) ≡ None = search rules in
    let wide : value_width c.in-Field.ty ≡ width c.in-Field.ty = width-text c.in-Field.ty (short-text c.in-Field.ty c.in-Chars.text fits).0 in
    let whole : position_width c.args.part.now ≡ 1 + value_width c.in-Field.ty = ap position_width c.in-Field.is in
    omega arith

pub returns-in-Chars-clause-items : goal.returns-in-Chars-clause-items
returns-in-Chars-clause-items c =
    put-behind c.args.into.now.items c.push_reserved-in-Field.new.self.items c.put_filled.new.into.items (turned c.in-Field.descend (filled (width c.in-Field.ty) c.as_bytes.result.now))
    (position_bytes (digits_of c.args.part.now) (given_value c.args.part.now c.args.value.now)) c.put_filled.ensures.items c.push_reserved-in-Field.ensures.items
    (ap (λ (p : KeyPart). position_bytes (digits_of p) (given_value p c.args.value.now)) c.in-Field.is
    ∙ ap (λ (v : Value). position_bytes c.in-Field.ty.length (given_value (Field c.in-Field.ty c.in-Field.offset c.in-Field.descend c.in-Field.absval) v)) c.in-Chars.is
    ∙ text-given c.in-Field.ty c.in-Field.offset c.in-Field.descend c.in-Field.absval c.in-Chars.text
    ∙ ap (λ (w : List ℕ). 1 ∷ turned c.in-Field.descend (filled (width c.in-Field.ty) w)) (sym c.as_bytes.ensures))

pub returns-in-Chars-clause-len : goal.returns-in-Chars-clause-len
returns-in-Chars-clause-len c =
    let fits : fault_of c.in-Field.ty (Chars c.in-Chars.text) ≡ None = search rules in
    let wide : value_width c.in-Field.ty ≡ width c.in-Field.ty = width-text c.in-Field.ty (short-text c.in-Field.ty c.in-Chars.text fits).0 in
    let whole : position_width c.args.part.now ≡ 1 + value_width c.in-Field.ty = ap position_width c.in-Field.is in
    omega arith
