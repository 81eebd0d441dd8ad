use Rattle.std.proofs.Common.{◌∙◌, sym}
use Rattle.std.proofs.lemmas.Bool.{false≢true}
use Rattle.journal_opening.proofs.Takings.{one_foreign}
use Rattle.journal_opening.proofs.replaying.take_deposited.Goals as goal

pub returns-else-may_be_deposited-clause-taken : goal.returns-else-may_be_deposited-clause-taken
returns-else-may_be_deposited-clause-taken g c = λ is before left. absurd (false≢true is)

pub returns-else-may_be_deposited-clause-refused : goal.returns-else-may_be_deposited-clause-refused
returns-else-may_be_deposited-clause-refused g c = λ is before left.
    one_foreign (g.D.Describe.rules c.args.by.now) before c.args.replay.now c.args.entry.now left (sym c.may_be_deposited.ensures ∙ c.if-may_be_deposited.false)
