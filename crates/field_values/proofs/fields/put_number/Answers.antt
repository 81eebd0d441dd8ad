use Rattle.std.proofs.Common.{◌≡◌, ◌≤◌, FitsSigned, rules, length}
use Rattle.std.specs.Int.{w128}
use Rattle.std.proofs.lemmas.Int.{to_z-of_z}
use Rattle.field_values.specs.FieldTypes.{binary_width}
use Rattle.field_values.proofs.FieldLemmas.{binary-fits}
use Rattle.field_values.proofs.fields.put_number.Goals as goal

pub write-requires-in-Binary-clause-fits : goal.write-requires-in-Binary-clause-fits
write-requires-in-Binary-clause-fits c =
    let fits : FitsSigned w128 c.in_ok-units.units = search rules in
    let few : c.args.t.now.length ≤ 18 = search rules in
    let wide : length c.args.into.now ≡ binary_width c.args.t.now.length = search rules in
    rw (to_z-of_z w128 c.in_ok-units.units, wide) (binary-fits c.args.t.now.length c.in_ok-units.units few c.in_ok-units.ensures.small)
