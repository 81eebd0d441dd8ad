use Rattle.std.proofs.Common.{◌≡◌, ◌∙◌, ◌≤◌, ◌<◌, ◌+◌, List, length, take, ap, sym, subst, arith}
use Rattle.record_fmt.specs.declared.formats.Field.{Field}
use Rattle.record_fmt.specs.Layout.{record_length}
use Rattle.dds_logical.specs.declared.named_fields.NamedField.{NamedField}
use Rattle.dds_logical.specs.Fields.{laid_out}
use Rattle.dds_logical.specs.JudgedKeys.{bytes_of}
use Rattle.dds_logical.proofs.LayoutLemmas.{length-laid_out, laid_out-next, narrow_next}
use Rattle.dds_logical.proofs.layout.laid_out.Goals as goal

pub push-requires-clause-few : goal.push-requires-clause-few
push-requires-clause-few c =
    let same = length-laid_out 0 c.loop-field.field-index c.as_slice-described.result.now in
    let before = ap (λ (fs : List Field). length fs) c.loop-field.invariant in
    let all = ap (λ (fs : List NamedField). length fs) c.as_slice-described.ensures.fields in
    let few : length c.args.named.now ≤ 1000 = c.requires.few in
    omega (arith, same, before, all, few, c.loop-field-test.true)

pub push-requires-clause-narrow : goal.push-requires-clause-narrow
push-requires-clause-narrow c =
    let narrow : bytes_of c.as_slice-described.result.now ≤ 32766 = subst (λ (fs : List NamedField). bytes_of fs ≤ 32766) (sym c.as_slice-described.ensures.fields) c.requires.narrow in
    let next = narrow_next c.as_slice-described.result.now c.loop-field.field-index c.field-item.result c.loop-field-test.true c.field-item.is in
    let before = ap record_length c.loop-field.invariant in
    omega (arith, next, before, narrow)

pub loop-field-preserved : goal.loop-field-preserved
loop-field-preserved c =
    laid_out-next c.as_slice-described.result.now c.loop-field.fields c.push.new.self c.loop-field.field-index c.field-item.result _ _ c.loop-field-test.true c.field-item.is
    c.loop-field.invariant c.in_ok-default.ensures c.in_ok-text.ensures c.in_ok-push.ensures.pushed
