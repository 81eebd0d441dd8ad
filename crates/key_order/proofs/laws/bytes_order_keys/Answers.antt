use Rattle.std.proofs.Common.{◌<◌}
use Rattle.std.proofs.lemmas.List.Elements.{recursion_from_All}
use Rattle.file_model.specs.KeyOrder.{key_of}
use Rattle.key_order.proofs.KeyLemmas.{keys-cmp, image-fits, Matches-itself}
use Rattle.key_order.proofs.laws.bytes_order_keys.Goals as goal

pub returns-clause-one_format : goal.returns-clause-one_format
returns-clause-one_format c parts a b low high =
    keys-cmp parts parts (key_of parts a) (key_of parts b) (Matches-itself parts)
    (image-fits parts a (recursion_from_All (λ n. n < 256) a low)) (image-fits parts b (recursion_from_All (λ n. n < 256) b high))

pub returns-clause-two_formats : goal.returns-clause-two_formats
returns-clause-two_formats c parts others a b match low high =
    keys-cmp parts others (key_of parts a) (key_of others b) match
    (image-fits parts a (recursion_from_All (λ n. n < 256) a low)) (image-fits others b (recursion_from_All (λ n. n < 256) b high))
