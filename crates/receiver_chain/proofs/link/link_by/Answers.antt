use Rattle.std.proofs.Common.{sym, ◌∙◌}
use Rattle.receiver_chain.proofs.LinkLemmas.{longer, other_kind, one_number}
use Rattle.receiver_chain.proofs.link.link_by.Goals as goal

pub returns-then-count-block : goal.returns-then-count-block
returns-then-count-block c = longer c.args.next c.args.count c.args.block.now c.args.entry.now c.requires.front c.if-count-block.true

pub returns-in_default : goal.returns-in_default
returns-in_default c = other_kind c.args.next c.args.count c.args.block.now c.args.entry.now c.requires.front (λ is. c.in_default.not-NextReceiver _ is)

pub returns-then-number-next : goal.returns-then-number-next
returns-then-number-next c = other_kind c.args.next c.args.count c.args.block.now c.args.entry.now c.requires.front (λ is. c.if-number-next.true (one_number _ _ (sym c.in-NextReceiver.is ∙ is)))
