use Rattle.std.proofs.Common.{sym, ◌∙◌}
use Rattle.std.proofs.lemmas.Bool.{false≢true}
use Rattle.journal_book.proofs.Bodies.{no_next_sequence, no_next_tied}
use Rattle.journal_book.proofs.grammar.if_next.Goals as goal

pub returns-then-ties_receivers-clause-next : goal.returns-then-ties_receivers-clause-next
returns-then-ties_receivers-clause-next c = no_next_tied c.args.last c.args.bytes.now c.args.entry.now c.args.count c.requires.front (sym c.ties_receivers.ensures ∙ c.if-ties_receivers.true)

pub returns-else-follows-clause-next : goal.returns-else-follows-clause-next
returns-else-follows-clause-next c = no_next_sequence c.args.last c.args.bytes.now c.args.entry.now c.args.count c.requires.front (λ is. false≢true (sym c.if-follows.false ∙ c.follows.ensures.1 is))
