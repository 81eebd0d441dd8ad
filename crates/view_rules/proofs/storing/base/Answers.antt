use Rattle.std.proofs.Common.{◌≡◌, ◌∙◌, ap, sym, Ok, List, ℕ, length}
use Rattle.std.specs.Option.{option_copied}
use Rattle.std.specs.Result.{is_ok}
use Rattle.file_model.below.record_fmt.specs.declared.formats.Field.{Field}
use Rattle.file_model.proofs.WrittenLemmas.{written-back}
use Rattle.file_model.specs.Views.{old_or_default}
use Rattle.view_rules.specs.Stored.{with_values}
use Rattle.view_rules.proofs.StoreLemmas.{base-refused, base-accepted}
use Rattle.view_rules.proofs.storing.base.Goals as goal

pub returns-in-Some-clause-packed : goal.returns-in-Some-clause-packed
returns-in-Some-clause-packed c =
    base-refused c.args.format.now.fields c.args.fields.now c.args.given.now (option_copied c.args.old) c.in-Some.fault c.if-given-fields.false
    (sym c.first_refused.ensures ∙ c.in-Some.is)

pub returns-in_default-start-clause-packed : goal.returns-in_default-start-clause-packed
returns-in_default-start-clause-packed c =
    ap is_ok (base-accepted c.args.format.now.fields c.args.fields.now c.args.given.now (option_copied c.args.old) c.if-given-fields.false
    (sym c.first_refused.ensures ∙ c.in_default.is))

pub returns-clause-packed : goal.returns-clause-packed
returns-clause-packed c =
    let fields = c.args.fields.now in
    let given = c.args.given.now in
    let starts : c.as_mut_slice.result.now ≡ old_or_default c.args.format.now.fields (option_copied c.args.old) =
    c.as_mut_slice.ensures.value ∙ c.in-Ok.ensures.image ∙ ap (λ (fs : List Field). old_or_default fs (option_copied c.args.old)) c.as_slice.ensures.fields in
    base-accepted c.args.format.now.fields fields given (option_copied c.args.old) c.if-given-fields.false (sym c.first_refused.ensures ∙ c.in_default.is)
    ∙ ap (λ (w : List ℕ). Ok (with_values fields given w)) (sym starts)
    ∙ ap Ok (sym c.put_given.ensures)
    ∙ ap Ok (sym (written-back c.in-Ok.image.len c.put_given.new.image c.in-Ok.image.items (c.put_given.auto.image ∙ c.as_mut_slice.ensures.len)
    (sym (ap length c.as_mut_slice.ensures.value) ∙ c.as_mut_slice.ensures.len)))
