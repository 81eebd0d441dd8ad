use Rattle.std.proofs.Common.{◌∙◌, sym}
use Rattle.std.proofs.lemmas.Bool.{false≢true}
use Rattle.journal_opening.proofs.Begins.{too_many}
use Rattle.journal_opening.proofs.replaying.take_one.Goals as goal

pub returns-then-begins_too_many-clause-taken : goal.returns-then-begins_too_many-clause-taken
returns-then-begins_too_many-clause-taken g c = λ is before left. absurd (false≢true is)

pub returns-then-begins_too_many-clause-refused : goal.returns-then-begins_too_many-clause-refused
returns-then-begins_too_many-clause-refused g c = λ is before left.
    too_many (g.D.Describe.rules c.args.by.now) before c.args.entry.now (sym c.begins_too_many.ensures ∙ c.if-begins_too_many.true)
