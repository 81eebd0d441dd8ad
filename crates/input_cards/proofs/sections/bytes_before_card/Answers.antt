use Rattle.std.proofs.Common.{arith, rules}
use Rattle.input_cards.proofs.SectionLemmas.{bytes-few}
use Rattle.input_cards.proofs.sections.bytes_before_card.Goals as goal

pub loop-line-init : goal.loop-line-init
loop-line-init c = record {
  before = search rules;
  within = omega (arith, bytes-few c.args.text.now);
}
