use Rattle.std.proofs.Common.{◌<◌}
use Rattle.std.proofs.lemmas.List.Elements.{recursion_from_All}
use Rattle.key_order.specs.KeyOrder.{key_of}
use Rattle.key_order.proofs.KeyLemmas.{image-fits}
use Rattle.key_order.proofs.WidthLemmas.{length-encoded}
use Rattle.key_values.proofs.AmongLemmas.{among-width}
use Rattle.key_values.proofs.ReadLemmas.{values-read}
use Rattle.key_values.proofs.laws.keys_are_read_back.Goals as goal

pub returns-clause-values : goal.returns-clause-values
returns-clause-values c own file image among bytes has = values-read own file (key_of own image) among (image-fits own image (recursion_from_All (λ b. b < 256) image bytes))

pub returns-clause-short : goal.returns-clause-short
returns-clause-short c own file image among bytes has = rw (length-encoded own image has) (among-width own file among)
