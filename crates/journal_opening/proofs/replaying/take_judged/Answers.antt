use Rattle.std.proofs.Common.{◌∙◌, sym}
use Rattle.std.proofs.lemmas.Bool.{false≢true}
use Rattle.journal_opening.proofs.Takings.{one_passes, one_refused, one_taken}
use Rattle.journal_opening.proofs.replaying.take_judged.Goals as goal

pub returns-in_ok-fits-clause-taken : goal.returns-in_ok-fits-clause-taken
returns-in_ok-fits-clause-taken g c = λ fits before left.
    one_taken (g.D.Describe.rules c.args.by.now) before c.args.replay.now c.args.entry.now left c.requires.keeps c.requires.deposited (sym c.in_ok-follows.ensures.answer ∙ c.if-follows.true) _
    (c.in_ok-follows.ensures.moved c.if-follows.true) (sym c.in_ok-fits.ensures ∙ fits)

pub returns-in_ok-fits-clause-refused : goal.returns-in_ok-fits-clause-refused
returns-in_ok-fits-clause-refused g c = λ passes before left.
    one_passes (g.D.Describe.rules c.args.by.now) before c.args.replay.now c.args.entry.now left (sym c.in_ok-follows.ensures.answer ∙ c.if-follows.true) _
    (c.in_ok-follows.ensures.moved c.if-follows.true) (sym c.in_ok-fits.ensures ∙ passes)

pub returns-else-follows-clause-taken : goal.returns-else-follows-clause-taken
returns-else-follows-clause-taken g c = λ is before left. absurd (false≢true is)

pub returns-else-follows-clause-refused : goal.returns-else-follows-clause-refused
returns-else-follows-clause-refused g c = λ is before left.
    one_refused (g.D.Describe.rules c.args.by.now) before c.args.replay.now c.args.entry.now left (sym c.in_ok-follows.ensures.answer ∙ c.if-follows.false)
