use Rattle.std.proofs.lemmas.List.Elements.{recursion_from_All}
use Rattle.key_order.specs.KeyOrder.{given_key}
use Rattle.key_order.specs.GivenValues.{IsOfBytes}
use Rattle.key_order.proofs.KeyLemmas.{given-fits, none-at-fault}
use Rattle.key_order.proofs.WidthLemmas.{length-encoded_values}
use Rattle.key_values.proofs.AmongLemmas.{among-itself}
use Rattle.key_values.proofs.ReadLemmas.{values-read, all-of-bytes}
use Rattle.key_values.proofs.laws.given_keys_are_read_back.Goals as goal

pub returns-clause-values : goal.returns-clause-values
returns-clause-values c parts values positions none given =
    values-read parts parts (given_key parts values) (among-itself parts)
    (given-fits 1 parts values (none-at-fault parts values none) (all-of-bytes values (recursion_from_All IsOfBytes values given)))

pub returns-clause-short : goal.returns-clause-short
returns-clause-short c parts values positions none = length-encoded_values parts values none
