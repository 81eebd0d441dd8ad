use Rattle.std.proofs.Common.{◌≡◌, ◌∙◌, ℕ, Bool, List, Option, Result, Ok, Err, is_some, length, sym, ap, subst}
use Rattle.std.specs.Option.{option_copied}
use Rattle.field_types.specs.declared.faults.RecordFault.{RecordFault}
use Rattle.field_types.specs.declared.faults.RecordFault.TheVariants.{Count}
use Rattle.record_fmt.specs.declared.formats.Field.{Field}
use Rattle.record_fmt.specs.Layout.{record_length}
use Rattle.record_fmt.specs.Records.{record_given, fields_given, Packs}
use Rattle.record_fmt.specs.Choice.{given_of, kept}
use Rattle.record_fmt.proofs.WrittenLemmas.{record_given-count, record_given-fields, kept-start, some-copied, written-back, StartsAs-length, no-count}
use Rattle.record_fmt.proofs.formats.Format.pack_values.Goals as goal

pub returns-then-len-fields-clause-packed : goal.returns-then-len-fields-clause-packed
returns-then-len-fields-clause-packed c =
    sym (ap (λ (gs : List Field). record_given gs (given_of c.args.values) (option_copied c.args.old)) c.as_slice-fields.ensures.fields)
    ∙ record_given-count c.as_slice-fields.result.now (given_of c.args.values) (option_copied c.args.old) (λ e. c.if-len-fields.true (c.len.ensures ∙ e))

pub returns-in_default-clause-packed : goal.returns-in_default-clause-packed
returns-in_default-clause-packed c =
    let fs = c.as_slice-fields.result.now in
    let vs = given_of c.args.values in
    let old = option_copied c.args.old in
    let same : length vs ≡ length fs = sym c.len.ensures ∙ c.if-len-fields.false in
    let whole : record_given c.args.self.now.fields vs old ≡ fields_given 1 fs vs old = sym (ap (λ (gs : List Field). record_given gs vs old) c.as_slice-fields.ensures.fields) ∙ record_given-fields fs vs old same in
    subst (λ (r : Result (List ℕ) RecordFault). Packs r (Err c.without_image.result)) (sym whole) c.without_image.ensures.packed

pub returns-in-Ok-fill-clause-packed : goal.returns-in-Ok-fill-clause-packed
returns-in-Ok-fill-clause-packed c =
    let fs = c.as_slice-fields.result.now in
    let vs = given_of c.args.values in
    let old = option_copied c.args.old in
    let same : length vs ≡ length fs = sym c.len.ensures ∙ c.if-len-fields.false in
    let whole : record_given c.args.self.now.fields vs old ≡ fields_given 1 fs vs old = sym (ap (λ (gs : List Field). record_given gs vs old) c.as_slice-fields.ensures.fields) ∙ record_given-fields fs vs old same in
    let start : kept c.is_some.result c.as_mut_slice.result.now ≡ old =
    ap (λ (b : Bool). kept b c.as_mut_slice.result.now) (c.is_some.ensures ∙ sym (some-copied c.args.old)) ∙ ap (kept (is_some old)) c.as_mut_slice.ensures.value ∙ kept-start old c.length.result c.in-Ok.image.items c.in-Ok.ensures in
    whole
    ∙ ap (λ (o : Option (List ℕ)). fields_given 1 fs vs o) (sym start)
    ∙ c.in-Ok-fill.ensures
    ∙ ap Ok (sym (written-back c.in-Ok.image.len c.fill.new.image c.in-Ok.image.items (c.fill.auto.image ∙ c.as_mut_slice.ensures.len) (sym (ap length c.as_mut_slice.ensures.value) ∙ c.as_mut_slice.ensures.len)))

pub returns-in-Err-clause-packed : goal.returns-in-Err-clause-packed
returns-in-Err-clause-packed c =
    let fs = c.as_slice-fields.result.now in
    let vs = given_of c.args.values in
    let old = option_copied c.args.old in
    let same : length vs ≡ length fs = sym c.len.ensures ∙ c.if-len-fields.false in
    let whole : record_given c.args.self.now.fields vs old ≡ fields_given 1 fs vs old = sym (ap (λ (gs : List Field). record_given gs vs old) c.as_slice-fields.ensures.fields) ∙ record_given-fields fs vs old same in
    let start : kept c.is_some.result c.as_mut_slice.result.now ≡ old =
    ap (λ (b : Bool). kept b c.as_mut_slice.result.now) (c.is_some.ensures ∙ sym (some-copied c.args.old)) ∙ ap (kept (is_some old)) c.as_mut_slice.ensures.value ∙ kept-start old c.length.result c.in-Ok.image.items c.in-Ok.ensures in
    whole
    ∙ ap (λ (o : Option (List ℕ)). fields_given 1 fs vs o) (sym start)
    ∙ c.in-Err.ensures

pub returns-in-Err-clause-count : goal.returns-in-Err-clause-count
returns-in-Err-clause-count c =
    let same : length (given_of c.args.values) ≡ length c.args.self.now.fields = sym c.len.ensures ∙ c.if-len-fields.false ∙ ap length c.as_slice-fields.ensures.fields in (
      (λ e _. (let count : c.in-Err.fault ≡ Count = cc in
          no-count 1 c.as_slice-fields.result.now (given_of c.args.values) (kept c.is_some.result c.as_mut_slice.result.now) (c.in-Err.ensures ∙ ap Err count))),
      (λ differ. absurd (differ same)),
    )

pub returns-in-Ok-fill-clause-length : goal.returns-in-Ok-fill-clause-length
returns-in-Ok-fill-clause-length c =
    let len : length c.in-Ok.image.items ≡ c.in-Ok.image.len = sym (ap length c.as_mut_slice.ensures.value) ∙ c.as_mut_slice.ensures.len in
    ap length (written-back c.in-Ok.image.len c.fill.new.image c.in-Ok.image.items (c.fill.auto.image ∙ c.as_mut_slice.ensures.len) len)
    ∙ c.fill.auto.image ∙ ap length c.as_mut_slice.ensures.value
    ∙ StartsAs-length c.args.old c.length.result (record_length c.args.self.now.fields) c.in-Ok.image.items c.in-Ok.ensures c.length.ensures c.requires
