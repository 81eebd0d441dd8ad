use Rattle.std.proofs.Common.{◌∙◌}
use Rattle.open_position.proofs.GivenLemmas.{is-ok, on_ok, given-bytes, given-values}
use Rattle.open_position.proofs.given.write_given.Goals as goal

pub unwrap-requires : goal.unwrap-requires
unwrap-requires c = is-ok c.encode_values_into.result (c.encode_values_into.ensures.refused ∙ c.requires.good)

pub returns-clause-bytes : goal.returns-clause-bytes
returns-clause-bytes c =
    let key = on_ok c.encode_values_into.result c.unwrap.result c.unwrap.ensures c.encode_values_into.ensures.key in
    given-bytes c.args.parts.now c.args.values.now _ c.requires.good c.are_of_bytes.ensures key

pub returns-clause-values : goal.returns-clause-values
returns-clause-values c =
    let key = on_ok c.encode_values_into.result c.unwrap.result c.unwrap.ensures c.encode_values_into.ensures.key in
    given-values c.args.parts.now c.args.values.now _ c.requires.good c.are_of_bytes.ensures key c.given_keys_are_read_back.ensures.values c.requires.allowed
