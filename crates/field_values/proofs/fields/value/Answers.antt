use Rattle.std.proofs.Common.{◌≡◌, ◌∙◌, sym, false}
use Rattle.field_values.specs.FieldTypes.{is_numeric}
use Rattle.field_values.proofs.FieldLemmas.{stands-text}
use Rattle.field_values.proofs.fields.value.Goals as goal

pub returns-in_ok-from_slice-clause-value : goal.returns-in_ok-from_slice-clause-value
returns-in_ok-from_slice-clause-value c =
    let text : is_numeric c.args.t.now.kind ≡ false = sym c.is_numeric.ensures ∙ c.if-is_numeric.false in
    rw c.in_ok-from_slice.ensures (stands-text c.args.t.now c.args.image.now text c.requires.there)
