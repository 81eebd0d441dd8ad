-- The cut key tells what the whole one does.
use Rattle.std.proofs.Common.{arith, ◌≡◌, ◌∙◌, ap, length, take}
use Rattle.std.specs.Ordering.{is_lt, is_le}
use Rattle.std.proofs.lemmas.Grind.{common_steps}
use Rattle.key_pages.specs.Order.{key_cmp}
use Rattle.key_pages.proofs.SideLemmas.{is_less-cut, is_upto-cut}
use Rattle.key_pages.proofs.positions.compare_part.Goals as goal

cut : (c : goal.After-cmp) → c.cmp.result ≡ key_cmp (take (length c.args.part.now) c.args.key.now) c.args.part.now
cut c = grind (arith, common_steps)

pub returns-clause-less : goal.returns-clause-less
returns-clause-less c = ap is_lt (cut c) ∙ is_less-cut c.args.key.now c.args.part.now

pub returns-clause-upto : goal.returns-clause-upto
returns-clause-upto c = ap is_le (cut c) ∙ is_upto-cut c.args.key.now c.args.part.now
