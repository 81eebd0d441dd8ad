use Rattle.std.proofs.Common.{◌∙◌, ap}
use Rattle.open_position.specs.KeyValues.{values_in}
use Rattle.join_position.proofs.BackLemmas.{given-back}
use Rattle.join_position.proofs.GivenLemmas.{is-ok, on_ok}
use Rattle.join_position.proofs.given.write_given.Goals as goal

pub unwrap-requires : goal.unwrap-requires
unwrap-requires c = is-ok c.encode_values_into.result (c.encode_values_into.ensures.refused ∙ c.requires.good)

pub returns-clause-bytes : goal.returns-clause-bytes
returns-clause-bytes c =
    let key = on_ok c.encode_values_into.result c.unwrap.result c.unwrap.ensures c.encode_values_into.ensures.key in
    record { given = (c.args.values.now, c.requires.good, c.are_of_bytes.ensures, key) }

pub returns-clause-values : goal.returns-clause-values
returns-clause-values c =
    let key = on_ok c.encode_values_into.result c.unwrap.result c.unwrap.ensures c.encode_values_into.ensures.key in
    ap (values_in c.args.parts.now) key ∙ given-back c.args.parts.now c.args.values.now c.requires.good c.are_of_bytes.ensures
