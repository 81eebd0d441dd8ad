use Rattle.std.proofs.Common.{◌∙◌, Option, ap}
use Rattle.field_types.specs.declared.values.Value.{Value}
use Rattle.field_values.specs.FieldTypes.{width}
use Rattle.record_fmt.specs.Choice.{put_over}
use Rattle.record_fmt.proofs.WrittenLemmas.{parts-again}
use Rattle.record_fmt.proofs.packing.put_given.Goals as goal

pub returns-in-None-clause-put : goal.returns-in-None-clause-put
returns-in-None-clause-put c =
    parts-again c.args.field.now.offset (width c.args.field.now.ty) c.args.image.now
    ∙ ap (λ (v : Option Value). put_over c.args.field.now v c.args.image.now) c.in-None.ensures
