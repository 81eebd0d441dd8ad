use Rattle.std.proofs.Common.{◌≡◌, ◌+◌, ◌≤◌, List, sym, ap, subst, arith}
use Rattle.record_fmt.specs.FieldTypes.{IsFieldType, width}
use Rattle.record_fmt.specs.declared.formats.Field.{Field}
use Rattle.record_fmt.specs.Layout.{record_length}
use Rattle.record_fmt.proofs.LayoutLemmas.{allowed-at, record_length-more, record_length-take}
use Rattle.dds_physical.specs.Described.{IsDescribed}
use Rattle.dds_physical.proofs.DescribedLemmas.{take-next}
use Rattle.dds_physical.proofs.described.DescribedFields.to_fields.Goals as goal

pub push-requires-clause-allowed : goal.push-requires-clause-allowed
push-requires-clause-allowed c =
    let laid : IsDescribed c.as_slice-described.result.now = subst (λ (fs : List Field). IsDescribed fs) (sym c.as_slice-described.ensures.fields) c.as_slice-described.ensures.described in
    subst (λ (f : Field). IsFieldType f.ty) (sym c.in_ok-copy.ensures) (allowed-at 0 c.as_slice-described.result.now c.loop-field.field-index c.field-item.result laid.lies c.loop-field-test.true c.field-item.is)

pub push-requires-clause-narrow : goal.push-requires-clause-narrow
push-requires-clause-narrow c =
    let more = record_length-more c.as_slice-described.result.now c.loop-field.field-index c.field-item.result c.loop-field-test.true c.field-item.is in
    let within = record_length-take c.as_slice-described.result.now (c.loop-field.field-index + 1) in
    let most : record_length c.args.self.now ≤ 32766 = c.requires in
    let same = ap record_length c.as_slice-described.ensures.fields in
    let wide : width c.in_ok-copy.copy.ty ≡ width c.field-item.result.ty = ap (λ (f : Field). width f.ty) c.in_ok-copy.ensures in
    let before = ap record_length c.loop-field.invariant in
    omega (arith, more, within, most, same, wide, before)

pub loop-field-preserved : goal.loop-field-preserved
loop-field-preserved c =
    let laid : IsDescribed c.as_slice-described.result.now = subst (λ (fs : List Field). IsDescribed fs) (sym c.as_slice-described.ensures.fields) c.as_slice-described.ensures.described in
    take-next c.as_slice-described.result.now c.loop-field.fields c.push.new.self c.loop-field.field-index c.field-item.result c.in_ok-copy.copy laid.lies c.loop-field-test.true c.field-item.is c.loop-field.invariant c.in_ok-copy.ensures c.in_ok-push.ensures.pushed
