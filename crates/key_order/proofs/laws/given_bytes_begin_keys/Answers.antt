use Rattle.std.proofs.Common.{◌∙◌, ap, sym}
use Rattle.std.specs.Ordering.{is_lt, is_eq}
use Rattle.key_pages.proofs.SideLemmas.{is_less-cut}
use Rattle.key_order.specs.KeyBytes.{encoded, encoded_values}
use Rattle.key_order.proofs.ListOrder.{begins-cut}
use Rattle.key_order.proofs.KeyLemmas.{given-cut}
use Rattle.key_order.proofs.laws.given_bytes_begin_keys.Goals as goal

pub returns-clause-order : goal.returns-clause-order
returns-clause-order c = given-cut

pub returns-clause-less : goal.returns-clause-less
returns-clause-less c parts others image values match bytes none given =
    sym (is_less-cut (encoded parts image) (encoded_values others values)) ∙ ap is_lt (given-cut parts others image values match bytes none given)

pub returns-clause-begins : goal.returns-clause-begins
returns-clause-begins c parts others image values match bytes none given =
    begins-cut (encoded parts image) (encoded_values others values) ∙ ap is_eq (given-cut parts others image values match bytes none given)
