use Rattle.std.proofs.Common.{◌≡◌, ◌+◌, ◌∙◌, ℕ, List, true, is_some, length, arith, sym, ap, subst}
use Rattle.field_values.specs.FieldBytes.{held, IsBadAt}
use Rattle.record_fmt.specs.declared.formats.Field.{Field}
use Rattle.record_fmt.specs.Layout.{record_length}
use Rattle.record_fmt.specs.Records.{record_held, IsRecordBadAt}
use Rattle.record_fmt.proofs.LayoutLemmas.{IsFieldOf-same, field-allowed, field-room, field-part}
use Rattle.record_fmt.proofs.HeldLemmas.{first_held-good, first_held-all, IsRecordBadAt-field}
use Rattle.record_fmt.proofs.formats.Format.first_bad.Goals as goal

pub bytes_of-requires : goal.bytes_of-requires
bytes_of-requires c =
    field-room (IsFieldOf-same _ c.as_slice-fields.result.now c.loop-field.field-index c.field-item.result c.args.image.now c.as_slice-fields.ensures.fields c.as_slice-fields.ensures.laid_out c.requires c.loop-field-test.true c.field-item.is)

pub first_bad-requires-clause-allowed : goal.first_bad-requires-clause-allowed
first_bad-requires-clause-allowed c =
    field-allowed (IsFieldOf-same _ c.as_slice-fields.result.now c.loop-field.field-index c.field-item.result c.args.image.now c.as_slice-fields.ensures.fields c.as_slice-fields.ensures.laid_out c.requires c.loop-field-test.true c.field-item.is)

pub first_bad-requires-clause-room : goal.first_bad-requires-clause-room
first_bad-requires-clause-room c =
    ap length c.bytes_of.ensures
    ∙ field-part (IsFieldOf-same _ c.as_slice-fields.result.now c.loop-field.field-index c.field-item.result c.args.image.now c.as_slice-fields.ensures.fields c.as_slice-fields.ensures.laid_out c.requires c.loop-field-test.true c.field-item.is)

pub overflow_add-result : goal.overflow_add-result
overflow_add-result c =
    let here = IsFieldOf-same _ c.as_slice-fields.result.now c.loop-field.field-index c.field-item.result c.args.image.now c.as_slice-fields.ensures.fields c.as_slice-fields.ensures.laid_out c.requires c.loop-field-test.true c.field-item.is in
    let room = field-room here in
    let long = ap length c.bytes_of.ensures ∙ field-part here in
    omega (arith, room, long, c.in-Some.ensures.within)

pub returns-in-Some : goal.returns-in-Some
returns-in-Some c =
    let here = IsFieldOf-same _ c.as_slice-fields.result.now c.loop-field.field-index c.field-item.result c.args.image.now c.as_slice-fields.ensures.fields c.as_slice-fields.ensures.laid_out c.requires c.loop-field-test.true c.field-item.is in
    subst (λ (fs : List Field). IsRecordBadAt fs c.args.image.now (c.field-item.result.offset + c.in-Some.at)) c.as_slice-fields.ensures.fields
    (IsRecordBadAt-field here c.loop-field.invariant c.in-Some.at (subst (λ (bytes : List ℕ). IsBadAt c.field-item.result.ty bytes c.in-Some.at) c.bytes_of.ensures c.in-Some.ensures))

pub loop-field-preserved : goal.loop-field-preserved
loop-field-preserved c =
    let here = IsFieldOf-same _ c.as_slice-fields.result.now c.loop-field.field-index c.field-item.result c.args.image.now c.as_slice-fields.ensures.fields c.as_slice-fields.ensures.laid_out c.requires c.loop-field-test.true c.field-item.is in
    first_held-good here c.loop-field.invariant (subst (λ (bytes : List ℕ). is_some (held c.field-item.result.ty bytes) ≡ true) c.bytes_of.ensures c.in_default.ensures)

pub returns : goal.returns
returns c =
    let long : length c.args.image.now ≡ record_length c.as_slice-fields.result.now = c.requires ∙ ap record_length (sym c.as_slice-fields.ensures.fields) in
    subst (λ (fs : List Field). is_some (record_held fs c.args.image.now) ≡ true) c.as_slice-fields.ensures.fields
    (ap is_some (sym (first_held-all c.as_slice-fields.result.now c.loop-field.field-index c.args.image.now c.loop-field-test.false long)) ∙ c.loop-field.invariant)
