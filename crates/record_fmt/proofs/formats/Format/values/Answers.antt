use Rattle.std.proofs.Common.{◌≡◌, ◌∙◌, ℕ, List, Some, true, is_some, length, sym, ap, subst}
use Rattle.field_values.specs.FieldBytes.{held}
use Rattle.record_fmt.specs.declared.formats.Field.{Field}
use Rattle.record_fmt.specs.Layout.{record_length}
use Rattle.record_fmt.specs.Records.{record_held}
use Rattle.record_fmt.proofs.LayoutLemmas.{IsFieldOf-same, field-allowed, field-room, field-part}
use Rattle.record_fmt.proofs.HeldLemmas.{first_held-value, first_held-all, held-field}
use Rattle.record_fmt.proofs.formats.Format.values.Goals as goal

pub bytes_of-requires : goal.bytes_of-requires
bytes_of-requires c =
    field-room (IsFieldOf-same _ c.as_slice-fields.result.now c.loop-field.field-index c.field-item.result c.args.image.now c.as_slice-fields.ensures.fields c.as_slice-fields.ensures.laid_out c.requires.room c.loop-field-test.true c.field-item.is)

pub value-requires-clause-allowed : goal.value-requires-clause-allowed
value-requires-clause-allowed c =
    field-allowed (IsFieldOf-same _ c.as_slice-fields.result.now c.loop-field.field-index c.field-item.result c.args.image.now c.as_slice-fields.ensures.fields c.as_slice-fields.ensures.laid_out c.requires.room c.loop-field-test.true c.field-item.is)

pub value-requires-clause-room : goal.value-requires-clause-room
value-requires-clause-room c =
    ap length c.bytes_of.ensures
    ∙ field-part (IsFieldOf-same _ c.as_slice-fields.result.now c.loop-field.field-index c.field-item.result c.args.image.now c.as_slice-fields.ensures.fields c.as_slice-fields.ensures.laid_out c.requires.room c.loop-field-test.true c.field-item.is)

pub value-requires-clause-there : goal.value-requires-clause-there
value-requires-clause-there c =
    let here = IsFieldOf-same _ c.as_slice-fields.result.now c.loop-field.field-index c.field-item.result c.args.image.now c.as_slice-fields.ensures.fields c.as_slice-fields.ensures.laid_out c.requires.room c.loop-field-test.true c.field-item.is in
    ap (λ (bytes : List ℕ). is_some (held c.field-item.result.ty bytes)) c.bytes_of.ensures
    ∙ held-field here (subst (λ (fs : List Field). is_some (record_held fs c.args.image.now) ≡ true) (sym c.as_slice-fields.ensures.fields) c.requires.there)

pub loop-field-preserved : goal.loop-field-preserved
loop-field-preserved c =
    let here = IsFieldOf-same _ c.as_slice-fields.result.now c.loop-field.field-index c.field-item.result c.args.image.now c.as_slice-fields.ensures.fields c.as_slice-fields.ensures.laid_out c.requires.room c.loop-field-test.true c.field-item.is in
    rw c.in_ok-push.ensures.items
    (first_held-value here c.loop-field.invariant (subst (λ (bytes : List ℕ). held c.field-item.result.ty bytes ≡ Some c.in_ok-value.field-0) c.bytes_of.ensures c.in_ok-value.ensures.value))

pub returns : goal.returns
returns c =
    let long : length c.args.image.now ≡ record_length c.as_slice-fields.result.now = c.requires.room ∙ ap record_length (sym c.as_slice-fields.ensures.fields) in
    sym (ap (λ (fs : List Field). record_held fs c.args.image.now) c.as_slice-fields.ensures.fields)
    ∙ sym (first_held-all c.as_slice-fields.result.now c.loop-field.field-index c.args.image.now c.loop-field-test.false long)
    ∙ c.loop-field.invariant
