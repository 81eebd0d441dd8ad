use Rattle.std.proofs.Common.{◌∙◌, List, sym, ap}
use Rattle.std.specs.Option.{option_copied}
use Rattle.std.specs.Result.{result_err}
use Rattle.record_fmt.specs.declared.formats.Field.{Field}
use Rattle.record_fmt.specs.Records.{record_given}
use Rattle.record_fmt.proofs.WrittenLemmas.{record_given-count, record_given-fields}
use Rattle.record_fmt.proofs.formats.Format.first_refused.Goals as goal

pub returns-then-given-fields : goal.returns-then-given-fields
returns-then-given-fields c =
    sym (ap result_err (record_given-count c.as_slice-fields.result.now c.args.given.now (option_copied c.args.old) c.if-given-fields.true))
    ∙ ap (λ (fs : List Field). result_err (record_given fs c.args.given.now (option_copied c.args.old))) c.as_slice-fields.ensures.fields

pub returns : goal.returns
returns c =
    c.first_refused.ensures
    ∙ sym (ap result_err (record_given-fields c.as_slice-fields.result.now c.args.given.now (option_copied c.args.old) c.if-given-fields.false))
    ∙ ap (λ (fs : List Field). result_err (record_given fs c.args.given.now (option_copied c.args.old))) c.as_slice-fields.ensures.fields
