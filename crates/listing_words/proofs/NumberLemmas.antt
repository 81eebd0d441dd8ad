-- How many characters of a kind stand at the front of a text.
use Rattle.std.proofs.lemmas.List.Sums.{prefix_len-le-length}
use Rattle.std.proofs.lemmas.List.Folds.{length-prefix_len}

pub ruleset counted = (length-prefix_len, prefix_len-le-length)
